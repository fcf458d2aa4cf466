-- The words before this one were counted.
use Rattle.std.proofs.Common.{◌≡◌, take}
use Rattle.std.specs.List.{fold}
use Rattle.test_units.specs.Callers.{counted}
use Rattle.test_units.proofs.callers.count_words.Given as goal

abbrev pub invariant-loop-i : goal.invariant-loop-i
invariant-loop-i l = l.counts.pairs ≡ fold counted l.initial.counts.pairs (take l.i l.words)
