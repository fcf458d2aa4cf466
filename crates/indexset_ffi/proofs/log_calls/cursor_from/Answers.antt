use Rattle.std.specs.Ordering.{nat_cmp}
use Rattle.std.proofs.lemmas.Cmp.{nat_cmp_total}
use Rattle.indexset_core.specs.Nodes.{concat}
use Rattle.indexset_core.proofs.CallerLemmas.{parted_by_key}
use Rattle.indexset_ffi.proofs.log_calls.cursor_from.Goals as goal

pub find-requires-clause-parted : goal.find-requires-clause-parted
find-requires-clause-parted c = rw c.nodes.ensures (parted_by_key nat_cmp nat_cmp_total (concat c.args.log.now.nodes) c.node_count.ensures.lawful.nodes.ascending c.new.result.0)
