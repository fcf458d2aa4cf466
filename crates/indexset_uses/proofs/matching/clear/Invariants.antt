-- Each removed price reduces the number of prices by one, and is added to the sum.
use Rattle.std.proofs.Common.{◌≡◌, ◌+◌, ◌-◌, ◌^◌, ◌≤◌, length, min, sum}
use Rattle.indexset.specs.Words.{items}
use Rattle.indexset_uses.proofs.matching.clear.Given as goal

abbrev pub invariant-loop-price : goal.invariant-loop-price
invariant-loop-price l = record {
  taken : min (l.sum + sum (items l.asks)) (2 ^ 64 - 1) ≡ min (sum (items l.initial.asks)) (2 ^ 64 - 1);
  fits : l.sum ≤ 2 ^ 64 - 1;
}

abbrev pub decreases-loop-price : goal.decreases-loop-price
decreases-loop-price l = length (items l.asks)
