use Rattle.test_units.proofs.map.text.has_pair.Goals as goal

pub get_key_value_by-requires : goal.get_key_value_by-requires
get_key_value_by-requires c = c.len-len.ensures.in_order c.new-2.result.0
