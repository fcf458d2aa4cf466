use Rattle.std.proofs.lemmas.Cmp.{nat_cmp_total}
use Rattle.std.specs.Ordering.{nat_cmp}
use Rattle.indexset_core.proofs.CallerLemmas.{parted_by_item}
use Rattle.test_units.proofs.probe.counts_its_questions.Goals as goal

pub first_not_less-not_less-requires : goal.first_not_less-not_less-requires
first_not_less-not_less-requires g c = parted_by_item nat_cmp nat_cmp_total c.in_ok-node.node.items c.in_ok-node.ensures c.new-probe.result.0.0

pub first_greater-greater-requires : goal.first_greater-greater-requires
first_greater-greater-requires g c = parted_by_item nat_cmp nat_cmp_total c.in_ok-node.node.items c.in_ok-node.ensures c.first_not_less-not_less.new.probe.0.0
