-- Pages, and keys and values of pairs.
use Rattle.std.proofs.Common.{◌≡◌, ℕ, ◌+◌, ◌-◌, ◌≤◌, ◌^◌, min, List, length, drop, refl, sym, ◌∙◌, inl, inr, arith, length-drop}
use Rattle.std.proofs.lemmas.Bool.{cases_lt}
use Rattle.std.proofs.lemmas.List.{take_all}
use Rattle.std.specs.List.{between}
use Rattle.indexset_core.specs.declared.pair.Pair.{Pair}
use Rattle.indexset_follow.specs.Reads.{page}

module _ {T : Type 0} where
  -- a page ends after its count of pairs, or at the end of the list
  pub page_is : (ps : List (Pair T T)) (i n end : ℕ) → length ps ≤ 2 ^ 64 - 1 → end ≡ min (min (i + n) (2 ^ 64 - 1)) (length ps) → between i end ps ≡ page ps i n
  page_is ps i n end small is = elim (cases_lt (i + n) (length ps)) [
    | inl short ↦ let b : end - i ≡ n = omega (arith, is, small, short) in rw b refl
    | inr long ↦ take_all (end - i) (drop i ps) (omega (arith, is, small, long, length-drop i ps)) ∙ sym (take_all n (drop i ps) (omega (arith, long, length-drop i ps)))
  ]
