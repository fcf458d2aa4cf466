use Rattle.std.specs.Cmp.Lexicographic.{nat_list_cmp_total, slice_cmp}
use Rattle.std.specs.Ordering.{nat_cmp}
use Rattle.indexset_core.specs.Nodes.{concat}
use Rattle.indexset_core.proofs.CallerLemmas.{parted_by_key}
use Rattle.test_units.proofs.by_text.value_of.Goals as goal

-- the names ascend, so a search by a name is lawful
pub get_by-requires : goal.get_by-requires
get_by-requires c = parted_by_key (slice_cmp nat_cmp) nat_list_cmp_total (concat c.args.replica.now.nodes) c.nodes-nodes.ensures.lawful.ascending c.new-probe.result.0.0
