use Rattle.std.proofs.Common.{◌≡◌, ◌-◌, arith}
use Rattle.std.proofs.lemmas.Nat.{one_shl}
use Rattle.indexset_core.specs.Digits.{digits}
use Rattle.indexset_index.proofs.FindLemmas.{pow-half}
use Rattle.indexset_index.proofs.fenwick.sums.highest_one.Goals as goal

pub returns-in_default : goal.returns-in_default
returns-in_default c =
    let d = c.digits_of.result in
    let same : d ≡ digits c.args.n = omega arith in
    rw (← same) (omega (arith, one_shl (d - 1) 64 (omega arith), pow-half d (omega arith)))
