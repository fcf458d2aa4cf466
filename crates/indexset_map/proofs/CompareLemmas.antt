-- Lists compared past their first elements, which are equal, and the input of a hasher.
use Rattle.std.proofs.Common.{◌≡◌, List, [], ◌∷◌, ◌++◌, Option, Some, Ordering, refl, ap, sym, ◌∙◌}
use Rattle.std.specs.List.{flat_map, fold}
use Rattle.std.specs.declared.cmp.Ordering.TheVariants.{Equal}
use Rattle.std.specs.Cmp.Lexicographic.{slice_cmp, slice_partial_cmp}
use Rattle.std.proofs.lemmas.List.{append-nil}
use Rattle.std.proofs.lemmas.List.Concat.{flat_map-append}
use Rattle.std.proofs.lemmas.List.Sums.{fold-append}

module _ {T : Type 0} (l r ls rs : List T) (p q : T) (left : l ≡ p ∷ ls) (right : r ≡ q ∷ rs) where
  pub past_equal : (R : T → T → Ordering) → R p q ≡ Equal → slice_cmp R ls rs ≡ slice_cmp R l r
  past_equal R e = rw (left, right, e) refl

  pub past_partial_equal : (R : T → T → Option Ordering) → R p q ≡ Some Equal → slice_partial_cmp R ls rs ≡ slice_partial_cmp R l r
  past_partial_equal R e = rw (left, right, e) refl

-- the input of one more item, in two parts
pub fed_next : {S A X : Type 0} (write : S → A → S) (f : X → List A) (s : S) (xs : List X) (x : X) (a b : List A)
    → f x ≡ a ++ b
    → fold write (fold write (fold write s (flat_map f xs)) a) b ≡ fold write s (flat_map f (xs ++ x ∷ []))
fed_next write f s xs x a b is =
    sym
    (ap (fold write s) (flat_map-append f xs (x ∷ []) ∙ ap (λ l. flat_map f xs ++ l) (append-nil (f x) ∙ is))
    ∙ (fold-append write s (flat_map f xs) (a ++ b) ∙ fold-append write (fold write s (flat_map f xs)) a b))
