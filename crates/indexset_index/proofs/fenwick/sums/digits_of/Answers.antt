use Rattle.std.proofs.Common.{◌≡◌, ◌-◌, arith}
use Rattle.std.specs.Int.{leading_zeros, w64}
use Rattle.std.proofs.lemmas.Nat.{leading_length}
use Rattle.indexset_index.proofs.FindLemmas.{digits-is}
use Rattle.indexset_index.proofs.fenwick.sums.digits_of.Goals as goal

pub returns-clause-value : goal.returns-clause-value
returns-clause-value c =
    let w = leading_length 64 c.args.n c.ranges.n.fits in
    let e : 64 - leading_zeros w64 c.args.n ≡ w.0 = omega (arith, w.1) in
    rw (digits-is c.args.n w.0 w.2 w.3) e

pub returns-clause-most : goal.returns-clause-most
returns-clause-most c =
    let w = leading_length 64 c.args.n c.ranges.n.fits in
    let e : 64 - leading_zeros w64 c.args.n ≡ w.0 = omega (arith, w.1) in
    rw e w.2
