use Rattle.std.specs.Ordering.{nat_cmp}
use Rattle.std.proofs.lemmas.Cmp.{nat_cmp_total}
use Rattle.indexset_spine.specs.NodeList.{items}
use Rattle.indexset_core.proofs.CallerLemmas.{parted_by_item}
use Rattle.test_units.proofs.spine.questions.Goals as goal

-- the probe compares with the value, and the items ascend
pub locate_by-spot-requires : goal.locate_by-spot-requires
locate_by-spot-requires c = rw (c.new-probe.ensures, c.new.ensures) (parted_by_item nat_cmp nat_cmp_total (items c.args.spine.now) c.requires c.args.value)
