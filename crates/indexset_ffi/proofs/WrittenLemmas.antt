-- The slice of a caller after a loop, and the remaining items of an iterator.
use Rattle.std.proofs.Common.{◌≡◌, ℕ, zero, suc, ◌+◌, ◌<◌, ◌≤◌, List, [], ◌∷◌, length, map, drop, replicate}
use Rattle.std.proofs.Common.{slice_set, slice_get, slice_index_or, get_or, take, ◌++◌, ◌-◌, length-append}
use Rattle.std.proofs.Common.{append-nil, Some, None, refl, sym, ap, ◌∙◌, arith, subst, add-one}
use Rattle.std.proofs.lemmas.Bool.{cases_lt}
use Rattle.std.proofs.lemmas.List.{drop-drop, drop-map, drop_all, get_or_default, length-drop, length-map, length-take-le, map-append, take-append-drop, take-append-le, take_all}
use Rattle.std.proofs.lemmas.Slice.{drop-put_mid, take-put_mid}
use Rattle.std.proofs.Math.Seq.{drop-append_seam}
use borrow.Rule.Slice.PartMut.{put_mid}
use Rattle.std.proofs.Math.Logic.{inl, inr}
use Rattle.indexset_ffi.specs.Elements.{written}

more : {X : Type 0} (answers before : List X) (n : ℕ) (x : X) → slice_get answers n ≡ Some x → n < length before → slice_set (written n answers before) n x ≡ written (suc n) answers before
more [] before n x h k = grind arith
more (y ∷ ys) [] n x h k = let no : ⊥ = omega (arith, k) in absurd no
more (y ∷ ys) (b ∷ bs) zero x h k = grind arith
more (y ∷ ys) (b ∷ bs) (suc n) x h k = ap (λ l. y ∷ l) (more ys bs n x h (omega (arith, k)))

-- another answer is written
pub written_more : {X : Type 0} (answers before : List X) (n : ℕ) (x : X) → slice_get answers n ≡ Some x → n < length before → slice_set (written n answers before) n x ≡ written (n + 1) answers before
written_more answers before n x h k = more answers before n x h k ∙ ap (λ m. written m answers before) (sym (add-one n))

-- an iterator that has a next item: the list is the items so far, this item and the rest
pub record IsNext {X : Type 0} (l : List X) (n : ℕ) (x : X) (rest : List X) : Type 0 where
  pub there : slice_get l n ≡ Some x
  pub inside : n < length l
  pub left : rest ≡ drop (n + 1) l

pub next_is : {X : Type 0} (l : List X) (n : ℕ) (x : X) (rest : List X) → drop n l ≡ x ∷ rest → IsNext l n x rest
next_is [] zero x rest h = grind arith
next_is [] (suc n) x rest h = grind arith
next_is (y ∷ ys) zero x rest h = record { there = grind arith; inside = omega arith; left = grind arith }
next_is (y ∷ ys) (suc n) x rest h =
    let r = next_is ys n x rest h in
    record { there = r.there; inside = omega (arith, r.inside); left = r.left ∙ ap (λ m. drop m ys) (add-one n) ∙ sym (ap (λ m. drop m (y ∷ ys)) (add-one (suc n))) }

-- an iterator that has no next item
pub none_left : {X : Type 0} (l : List X) (n : ℕ) → drop n l ≡ [] → length l ≤ n
none_left [] n h = omega arith
none_left (y ∷ ys) zero h = grind arith
none_left (y ∷ ys) (suc n) h = let r = none_left ys n h in omega (arith, r)

-- the answer for each item
pub answer_at : {X Y : Type 0} (f : X → Y) (l : List X) (i : ℕ) (d : X) → i < length l → slice_get (map f l) i ≡ Some (f (get_or l i d))
answer_at f [] i d h = let no : ⊥ = omega (arith, h) in absurd no
answer_at f (y ∷ ys) zero d h = refl
answer_at f (y ∷ ys) (suc i) d h = answer_at f ys i d (omega (arith, h))

-- the same answer at each place
pub same_at : {X : Type 0} (n : ℕ) (x : X) (i : ℕ) → i < n → slice_get (replicate n x) i ≡ Some x
same_at zero x i h = let no : ⊥ = omega (arith, h) in absurd no
same_at (suc n) x zero h = refl
same_at (suc n) x (suc i) h = same_at n x i (omega (arith, h))

-- a position without an item is at least the length of the list
pub none_past : (l : List ℕ) (i : ℕ) → slice_get l i ≡ None → length l ≤ i
none_past [] i h = omega arith
none_past (y ∷ ys) zero h = grind arith
none_past (y ∷ ys) (suc i) h = let r = none_past ys i h in omega (arith, r)

-- another position that has an element
pub within_more : (xs : List ℕ) (m n : ℕ) → ((k d : ℕ) → 0 ≤ k → k < n → slice_index_or xs k d < m) → n < length xs
    → slice_index_or xs n 0 < m → (k d : ℕ) → 0 ≤ k → k < n + 1 → slice_index_or xs k d < m
within_more xs m n before inside now k d low high = elim (cases_lt k n) [
  | inl under ↦ before k d low under
  | inr over ↦ subst (λ (i : ℕ). slice_index_or xs i d < m) (omega (arith, over, high)) (subst (λ (v : ℕ). v < m) (get_or_default xs n 0 d inside) now)
]

-- the same for an answer that was read
pub answer_read : {X Y : Type 0} (f : X → Y) (l : List X) (i : ℕ) (d : X) (y : Y) → i < length l → y ≡ f (get_or l i d) → slice_get (map f l) i ≡ Some y
answer_read f l i d y lt is = answer_at f l i d lt ∙ ap Some (sym is)

-- the slice after its part from a place on is replaced
put_back : {X : Type 0} (n : ℕ) (l ys : List X) → n ≤ length l → length ys ≡ length l - n → put_mid n (length l - n) l ys ≡ take n l ++ ys
put_back n l ys le long =
    let end = n + length ys in let p = put_mid n (length l - n) l ys in
    let front : take end p ≡ take n l ++ ys = take-put_mid n (length l - n) l ys end refl le in
    let none : drop end p ≡ [] = drop-put_mid n (length l - n) l ys end (omega (arith, long)) le long ∙ drop_all end l (omega (arith, long, le)) in
    sym (take-append-drop end p) ∙ (ap (λ t. t ++ drop end p) front ∙ (ap (λ t. (take n l ++ ys) ++ t) none ∙ append-nil (take n l ++ ys)))

-- the part before it is replaced
back_is : {X : Type 0} (n : ℕ) (l : List X) → take (length l - n) (drop n l) ≡ drop n l
back_is n l = take_all (length l - n) (drop n l) (omega (arith, length-drop n l))

pub length-back : {X : Type 0} (n : ℕ) (l : List X) → length (take (length l - n) (drop n l)) ≡ length l - n
length-back n l = ap (λ t. length t) (back_is n l) ∙ length-drop n l

more_of : {X : Type 0} (answers before run rest : List X) (n m : ℕ) → drop n answers ≡ run ++ rest
    → n ≤ length answers → n ≤ length before → m ≤ length run
    → take n (written n answers before) ++ written m run (drop n (written n answers before))
    ≡ written (n + m) answers before
more_of answers before run rest zero m h inside room few = let e : 0 + m ≡ m = omega arith in rw e (ap (λ l. l ++ drop m before) (sym (ap (take m) h ∙ take-append-le m run rest few)))
more_of [] before run rest (suc n) m h inside room few = let no : ⊥ = omega (arith, inside) in absurd no
more_of (y ∷ ys) [] run rest (suc n) m h inside room few = let no : ⊥ = omega (arith, room) in absurd no
more_of (y ∷ ys) (b ∷ bs) run rest (suc n) m h inside room few =
    let e : suc n + m ≡ suc (n + m) = omega arith in rw e (ap (λ l. y ∷ l) (more_of ys bs run rest n m h (omega (arith, inside)) (omega (arith, room)) few))

pub length-written : {X : Type 0} (n : ℕ) (answers before : List X) → n ≤ length answers → n ≤ length before → length (written n answers before) ≡ length before
length-written n answers before inside room = omega (arith, length-append (take n answers) (drop n before), length-take-le n answers inside, length-drop n before)

-- an iterator whose next chunk is a run of items, of which m were written after n others
pub record IsRun {X : Type 0} (l : List X) (n : ℕ) (run rest : List X) : Type 0 where
  pub there : drop n l ≡ run ++ rest
  pub inside : n + length run ≤ length l
  pub left : (m : ℕ) → m ≡ length run → rest ≡ drop (n + m) l

pub run_is : {X : Type 0} (l : List X) (n : ℕ) (run rest : List X) → n ≤ length l → drop n l ≡ run ++ rest → IsRun l n run rest
run_is l n run rest inside h =
    let long : length (drop n l) ≡ length run + length rest = ap (λ m. length m) h ∙ length-append run rest in
    record {
      there = h;
      inside = omega (arith, long, length-drop n l);
      left = λ m e. sym (drop-append_seam run rest) ∙ (ap (drop (length run)) (sym h) ∙ (drop-drop (length run) n l ∙ ap (λ k. drop (n + k) l) (sym e)));
    }

pub written_run : {X Y : Type 0} (f : X → Y) (l : List X) (out before after : List Y) (n m : ℕ) (run rest : List X)
    → out ≡ written n (map f l) before → length out ≡ length before → IsRun l n run rest → n ≤ length before
    → m ≤ length run → n + m ≤ length out → after ≡ written m (map f run) (take (length out - n) (drop n out))
    → put_mid n (length out - n) out after ≡ written (n + m) (map f l) before
written_run f l out before after n m run rest is long there room few fits told =
    let inside = there.inside in let made : after ≡ written m (map f run) (drop n out) = told ∙ ap (written m (map f run)) (back_is n out) in
    let mapped : drop n (map f l) ≡ map f run ++ map f rest = drop-map f n l ∙ (ap (map f) there.there ∙ map-append f run rest) in
    let wide : length after ≡ length out - n =
    ap (λ t. length t) made
    ∙ (length-written m (map f run) (drop n out) (omega (arith, few, length-map run f))
    (omega (arith, fits, length-drop n out))
    ∙ length-drop n out) in
    put_back n out after (omega (arith, room, long)) wide ∙ (ap (λ t. take n out ++ t) made ∙ (ap (λ t. take n t ++ written m (map f run) (drop n t)) is
    ∙ more_of (map f l) before (map f run) (map f rest) n m mapped (omega (arith, inside, length-map l f)) room (omega (arith, few, length-map run f))))

-- the same for the items themselves
pub written_items : {X : Type 0} (l out before after : List X) (n m : ℕ) (run rest : List X)
    → out ≡ written n l before → length out ≡ length before → IsRun l n run rest → n ≤ length before → m ≤ length run
    → n + m ≤ length out → after ≡ written m run (take (length out - n) (drop n out))
    → put_mid n (length out - n) out after ≡ written (n + m) l before
written_items l out before after n m run rest is long there room few fits told =
    let inside = there.inside in let made : after ≡ written m run (drop n out) = told ∙ ap (written m run) (back_is n out) in
    let wide : length after ≡ length out - n = ap (λ t. length t) made ∙ (length-written m run (drop n out) few (omega (arith, fits, length-drop n out)) ∙ length-drop n out) in
    put_back n out after (omega (arith, room, long)) wide ∙ (ap (λ t. take n out ++ t) made ∙ (ap (λ t. take n t ++ written m run (drop n t)) is
    ∙ more_of l before run rest n m there.there (omega (arith, inside)) room few))
