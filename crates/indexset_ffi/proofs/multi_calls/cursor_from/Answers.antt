use Rattle.std.specs.Ordering.{nat_cmp}
use Rattle.std.proofs.lemmas.Cmp.{nat_cmp_total}
use Rattle.indexset_multi.proofs.CallerLemmas.{lawful_keys}
use Rattle.indexset_ffi.proofs.multi_calls.cursor_from.Goals as goal

pub find-requires-clause-parted : goal.find-requires-clause-parted
find-requires-clause-parted c = rw c.nodes.ensures (lawful_keys nat_cmp nat_cmp_total c.args.multi.now.size c.args.multi.now.nodes c.node_count.ensures.lawful c.new.result.0)
