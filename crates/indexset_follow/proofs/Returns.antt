-- A line without the byte 13 before its line end.
use Rattle.std.proofs.Common.{◌≡◌, ◌==◌, ◌-◌, ℕ, true, false, nat_lt, List, [], ◌∷◌, ◌++◌, length, take, refl, ap, ◌∙◌, arith}
use Rattle.std.proofs.Math.Seq.{get_or-append_seam, take-append_seam}
use Rattle.std.proofs.lemmas.Bool.{lt-ltb}
use Rattle.std.proofs.lemmas.List.{length-append}
use Rattle.std.specs.Io.BufRead.{ends_with_byte}
use Rattle.std.specs.List.{slice_index}
use Rattle.indexset_follow.specs.Store.{without_return}

module _ (line : List ℕ) (x : ℕ) where
  before_last : length (line ++ x ∷ []) - 1 ≡ length line
  before_last = omega (arith, length-append line (x ∷ []))

  last_is : slice_index (line ++ x ∷ []) (length (line ++ x ∷ []) - 1) ≡ x
  last_is = ap (slice_index (line ++ x ∷ [])) before_last ∙ get_or-append_seam line x [] 0

  is_some : nat_lt 0 (length (line ++ x ∷ [])) ≡ true
  is_some = lt-ltb 0 (length (line ++ x ∷ [])) (omega (arith, length-append line (x ∷ [])))

  pub by_last : ends_with_byte 13 (line ++ x ∷ []) ≡ (x == 13)
  by_last = rw (is_some, last_is) refl

-- one byte 13 is removed
pub return_goes : (line : List ℕ) → without_return (line ++ 13 ∷ []) ≡ line
return_goes line = rw (by_last line 13) (ap (λ n. take n (line ++ 13 ∷ [])) (before_last line 13) ∙ take-append_seam line (13 ∷ []))

-- any other line is unchanged
pub other_stays : (line : List ℕ) → ends_with_byte 13 line ≡ false → without_return line ≡ line
other_stays line other = rw other refl
