-- Parts of a list, by position.
use Rattle.std.proofs.Common.{◌≡◌, ℕ, zero, suc, ◌-◌, min, List, [], length, take, drop, refl, ap, sym, inl, inr, ◌∙◌, arith, length-drop}
use Rattle.std.specs.List.{between}
use Rattle.std.proofs.Math.ListN.{drop_of_length-le}
use Rattle.std.proofs.lemmas.Bool.{cases_lt}
use Rattle.std.proofs.lemmas.List.{take_all}

module _ {T : Type 0} (l : List T) where
  none : (n : ℕ) → take 0 l ≡ take n []
  none zero = refl
  none (suc n) = refl

  -- positions past the end of the list add nothing
  pub clipped : (s e i j : ℕ) → j ≡ min e (length l) → i ≡ min (min s (length l)) j → between i j l ≡ between s e l
  clipped s e i j to from = elim (cases_lt s (length l)) [
    | inl inside ↦ elim (cases_lt e (length l)) [
      | inl short ↦ elim (cases_lt s e) [
        | inl lt ↦ let a : i ≡ s = omega arith in let b : j ≡ e = omega arith in rw (a, b) refl
        | inr ge ↦ let a : j - i ≡ 0 = omega arith in let b : e - s ≡ 0 = omega arith in rw (a, b) refl
      ]
      | inr long ↦ let a : i ≡ s = omega arith in
          rw a (take_all (j - s) (drop s l) (omega (arith, length-drop s l)) ∙ sym (take_all (e - s) (drop s l) (omega (arith, length-drop s l))))
    ]
    | inr past ↦ let a : j - i ≡ 0 = omega arith in rw a (none (e - s) ∙ ap (take (e - s)) (sym (drop_of_length-le l {i = s} past)))
  ]
