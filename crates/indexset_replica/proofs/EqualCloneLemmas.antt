-- Lists of equal items are equal by the order of lists.
use Rattle.std.proofs.Common.{◌≡◌, ℕ, List, [], ◌∷◌, Ordering, refl, subst}
use Rattle.std.specs.Cmp.Lexicographic.{nat_list_cmp_total, slice_cmp}
use Rattle.std.specs.List.{AllZip}
use Rattle.std.specs.Ordering.{nat_cmp}
use Rattle.std.specs.declared.cmp.Ordering.TheVariants.{Equal}
use Rattle.std.proofs.lemmas.Cmp.{tied_itself}
use Rattle.indexset_replica.specs.Copies.{AreClonesEqual}

-- the same bytes
pub same_texts : (x y : List ℕ) → x ≡ y → slice_cmp nat_cmp x y ≡ Equal
same_texts x y same = subst (λ z. slice_cmp nat_cmp x z ≡ Equal) same (tied_itself nat_list_cmp_total x)

-- clones of the items
pub lists_equal : {T : Type 0} (cmp : T → T → Ordering) (C : T → T → Type 0) → AreClonesEqual cmp C → (xs ys : List T) → AllZip C xs ys → slice_cmp cmp xs ys ≡ Equal
lists_equal cmp C equal [] [] h = refl
lists_equal cmp C equal [] (y ∷ ys) h = absurd h
lists_equal cmp C equal (x ∷ xs) [] h = absurd h
lists_equal cmp C equal (x ∷ xs) (y ∷ ys) h = rw (equal x y h.0) (lists_equal cmp C equal xs ys h.1)
