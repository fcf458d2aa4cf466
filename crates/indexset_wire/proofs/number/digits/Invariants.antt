use Rattle.std.proofs.Common.{◌-◌, ◌<◌, ◌^◌, ◌≡◌, take}
use Rattle.std.specs.Str.Parse.{AllDigits, digits_value}
use Rattle.indexset_wire.proofs.number.digits.Given as goal

abbrev pub invariant-loop-at : goal.invariant-loop-at
invariant-loop-at l = AllDigits 10 (take l.at l.text) × (l.value ≡ digits_value 10 (take l.at l.text)) × (l.value < 2 ^ 64)

abbrev pub decreases-loop-at : goal.decreases-loop-at
decreases-loop-at l = l.at-end - l.at
