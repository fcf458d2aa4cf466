use Rattle.std.proofs.Common.{subst}
use Rattle.std.specs.Cmp.Lexicographic.{nat_list_cmp_total, slice_cmp}
use Rattle.std.specs.Ordering.{nat_cmp}
use Rattle.indexset_core.specs.Nodes.{concat}
use Rattle.indexset_core.specs.Order.{IsAscending}
use Rattle.indexset_core.specs.Pairs.{by_key}
use Rattle.indexset_core.proofs.CallerLemmas.{parted_by_key}
use Rattle.indexset_ffi.specs.TextLogs.{ToldTree}
use Rattle.indexset_ffi.proofs.text_log.TextLog.cursor_from.Goals as goal

pub find-requires-clause-parted : goal.find-requires-clause-parted
find-requires-clause-parted c =
    let ascending = subst (λ (s : ToldTree). IsAscending (by_key (slice_cmp nat_cmp)) (concat s.tree.nodes)) c.self.view_is c.node_count.ensures.lawful.nodes.ascending in
    rw c.nodes.ensures (parted_by_key (slice_cmp nat_cmp) nat_list_cmp_total (concat c.args.self.now.tree.nodes) ascending c.new.result.0.now)
