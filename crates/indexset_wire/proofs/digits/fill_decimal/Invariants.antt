use Rattle.std.proofs.Common.{◌≡◌, ◌+◌, ◌^◌, ◌≤◌, ◌<◌, ◌++◌, length, drop}
use Rattle.std.specs.Fmt.{decimal}
use Rattle.indexset_wire.proofs.digits.fill_decimal.Given as goal

-- the digits of the quotient and those written so far are the digits of the number
abbrev pub invariant-loop-rest : goal.invariant-loop-rest
invariant-loop-rest l = record {
  last : l.start ≤ 19;
  room : l.rest < 10 ^ (l.start + 1);
  long : length l.buffer ≡ 20;
  digits : decimal l.rest ++ drop (l.start + 1) l.buffer ≡ decimal l.fn.number;
}

abbrev pub decreases-loop-rest : goal.decreases-loop-rest
decreases-loop-rest l = l.rest
