-- An ascending list while its items are inserted one by one.
use Rattle.std.proofs.Common.{◌≡◌, ◌<◌, List, [], ◌∷◌, ◌++◌, length, get_or, sym, ap, ◌∙◌, arith, length-append}
use Rattle.std.proofs.lemmas.List.{get_or_append_left}
use Rattle.std.proofs.lemmas.List.Edits.{insert_end}
use Rattle.std.proofs.Math.Seq.{get_or-append_seam}
use Rattle.std.specs.declared.cmp.Ordering.{Ordering}
use Rattle.std.specs.declared.cmp.Ordering.TheVariants.{Less}
use Rattle.indexset_core.specs.Order.{IsAscending, IsGapFor, keep}
use Rattle.indexset_core.proofs.CallerLemmas.{gap_keep}

-- the item after the first ones is inserted after them
module _ {T : Type 0} (cmp : T → T → Ordering) (l : List T) (x : T) (rest : List T) (up : IsAscending cmp (l ++ x ∷ rest)) where
  pub gap_behind : IsGapFor cmp l x (length l)
  gap_behind = record {
    inside = omega arith;
    below_before = λ k d low high.
        let inside : length l < length (l ++ x ∷ rest) = rw (length-append l (x ∷ rest)) (omega arith) in
        let less : cmp (get_or (l ++ x ∷ rest) k d) (get_or (l ++ x ∷ rest) (length l) d) ≡ Less = up k (length l) d high inside in
        sym (ap (λ a. cmp a x) (get_or_append_left l (x ∷ rest) d k high)) ∙ sym (ap (cmp (get_or (l ++ x ∷ rest) k d)) (get_or-append_seam l x rest d)) ∙ less;
    above_after = λ k d low high. absurd (omega (arith, low, high));
  }

  pub keep_behind : keep cmp l x ≡ l ++ x ∷ []
  keep_behind = gap_keep cmp l x (length l) gap_behind ∙ insert_end l x
