use Rattle.std.proofs.Common.{◌≡◌, ℕ, zero, suc, ◌<◌, ◌≤◌, ◌==◌, Bool, true, false, length, nat_lt, refl, sym, ◌∙◌, arith}
use Rattle.std.below.core.specs.declared.int.usize.TheConstants.{MAX}
use Rattle.std.proofs.lemmas.Bool.Decides.{nat_tests}
use Rattle.indexset_replica.proofs.iter.count_left.Goals as goal

none_left : (n : ℕ) → (0 < n → ⊥) → n ≡ 0
none_left zero h = refl
none_left (suc n) h = absurd (h (omega arith))

is_none : (b : Bool) (n : ℕ) → b ≡ (n == 0) → b ≡ true → n ≡ 0
is_none b n e f = let is : (n == 0) ≡ true = sym e ∙ f in grind (arith, nat_tests)

pub returns-then-is_empty : goal.returns-then-is_empty
returns-then-is_empty g c =
    let at = c.loop-rest in
    let empty = is_none c.is_empty.result (length c.next_chunk-run.result.now) c.is_empty.ensures c.if-is_empty.true in
    let over = none_left (length at.rest) (λ some. omega (arith, c.next_chunk-run.ensures.some some, empty)) in
    let fits : length c.args.walk ≤ MAX = omega (arith, at.invariant.all, at.invariant.fits, over) in
    let small : nat_lt MAX (length c.args.walk) ≡ false = grind (arith, nat_tests) in
    let same : at.count ≡ length c.args.walk = omega (arith, at.invariant.all, over) in
    rw (small, same) refl
