-- Positions among copies of items.
use Rattle.std.proofs.Common.{◌≡◌, ℕ, ◌||◌, cond, List, [], ◌∷◌, ◌++◌, Ordering, refl, ap, sym, arith}
use Rattle.std.specs.Cmp.{IsTotalOrder}
use Rattle.std.specs.List.{AllZip}
use Rattle.std.specs.Ordering.{is_eq, is_lt}
use Rattle.std.specs.declared.cmp.Ordering.TheVariants.{Equal}
use Rattle.std.proofs.lemmas.List.Sums.{sum_by-cons}
use Rattle.indexset_core.specs.Nodes.{concat}
use Rattle.indexset_replica.specs.Copies.{AreCopies}
use Rattle.indexset_core.specs.Order.{has_equal, index_of, rank}
use Rattle.indexset_replica.proofs.CopyLemmas.{copies_equal}

module _ {A B : Type 0} (R : A → B → Type 0) where
  zip_append : (xs : List A) (ys : List B) (us : List A) (vs : List B) → AllZip R xs ys → AllZip R us vs → AllZip R (xs ++ us) (ys ++ vs)
  zip_append [] [] us vs c d = d
  zip_append [] (y ∷ ys) us vs c d = absurd c
  zip_append (x ∷ xs) [] us vs c d = absurd c
  zip_append (x ∷ xs) (y ∷ ys) us vs c d = (c.0, zip_append xs ys us vs c.1 d)

  zip_joined : (ns : List (List A)) (ms : List (List B)) → AllZip (AllZip R) ns ms → AllZip R (concat ns) (concat ms)
  zip_joined [] [] c = tt
  zip_joined [] (m ∷ ms) c = absurd c
  zip_joined (n ∷ ns) [] c = absurd c
  zip_joined (n ∷ ns) (m ∷ ms) c = zip_append n m (concat ns) (concat ms) c.0 (zip_joined ns ms c.1)

module _ {T Q : Type 0} (cmp : T → T → Ordering) (o : IsTotalOrder cmp) (order : T → Q → Ordering) (alike : (q : Q) (x y : T) → cmp x y ≡ Equal → order x q ≡ order y q) (k : Q) where
  rank_zip : (xs ys : List T) → AllZip (λ x y. cmp x y ≡ Equal) xs ys → rank order ys k ≡ rank order xs k
  rank_zip [] [] c = refl
  rank_zip [] (y ∷ ys) c = absurd c
  rank_zip (x ∷ xs) [] c = absurd c
  rank_zip (x ∷ xs) (y ∷ ys) c =
      omega (
        arith,
        sum_by-cons (λ x. cond (is_lt (order x k)) 1 0) x xs,
        sum_by-cons (λ x. cond (is_lt (order x k)) 1 0) y ys,
        ap {B = ℕ} (λ a. cond (is_lt a) 1 0) (alike k x y c.0),
        rank_zip xs ys c.1,
      )

  has_zip : (xs ys : List T) → AllZip (λ x y. cmp x y ≡ Equal) xs ys → has_equal order ys k ≡ has_equal order xs k
  has_zip [] [] c = refl
  has_zip [] (y ∷ ys) c = absurd c
  has_zip (x ∷ xs) [] c = absurd c
  has_zip (x ∷ xs) (y ∷ ys) c =
      let same : order y k ≡ order x k = sym (alike k x y c.0) in
      λ i. is_eq (same i) || has_zip xs ys c.1 i

  module _ (C : T → T → Type 0) (ns ms : List (List T)) (copies : AreCopies cmp C ns ms) where
    pub rank_copied : rank order (concat ms) k ≡ rank order (concat ns) k
    rank_copied = rank_zip (concat ns) (concat ms) (zip_joined (λ x y. cmp x y ≡ Equal) ns ms (copies_equal cmp C o ns ms copies))

    pub has_copied : has_equal order (concat ms) k ≡ has_equal order (concat ns) k
    has_copied = has_zip (concat ns) (concat ms) (zip_joined (λ x y. cmp x y ≡ Equal) ns ms (copies_equal cmp C o ns ms copies))

    pub index_copied : index_of order (concat ms) k ≡ index_of order (concat ns) k
    index_copied = rw (has_copied, rank_copied) refl
