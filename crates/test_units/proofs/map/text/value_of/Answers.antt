use Rattle.test_units.proofs.map.text.value_of.Goals as goal

pub get_by-requires : goal.get_by-requires
get_by-requires c = c.len-len.ensures.in_order c.new-probe.result.0.0
