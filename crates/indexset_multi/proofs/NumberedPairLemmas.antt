-- Ascending lists of numbered pairs: searches by key, and by key and number.
use Rattle.std.proofs.Common.{◌≡◌, ℕ, suc, ◌<◌, ◌&&◌, Bool, true, false, cond, List, [], ◌∷◌, filter, Ordering, Some, None, slice_get, refl, ap, sym, ◌∙◌, arith}
use Rattle.std.specs.Cmp.{IsTotalOrder}
use Rattle.std.specs.List.{find, list_any}
use Rattle.std.specs.Option.{option_map}
use Rattle.std.specs.Ordering.{is_eq, is_ge, is_le, nat_cmp, ordering_then}
use Rattle.std.specs.declared.cmp.Ordering.TheVariants.{Less, Equal, Greater}
use Rattle.std.specs.declared.ops.Bound.TheVariants.{Included}
use Rattle.std.proofs.lemmas.Bool.Decides.{nat_tests}
use Rattle.std.proofs.lemmas.Cmp.{alike_right, nat_cmp_total, on_total, then_total, tied_itself}
use Rattle.std.proofs.lemmas.List.Elements.{All-head, All-tail}
use Rattle.std.proofs.lemmas.List.Folds.{list_any_at}
use Rattle.std.proofs.lemmas.Option.{get_or_from_slice_get, none-some, same_Some, slice_get_within}
use Rattle.indexset_core.specs.declared.multipair.MultiPair.{MultiPair}
use Rattle.indexset_core.specs.MultiPairs.{by_number}
use Rattle.indexset_core.specs.Order.{IsAscending, equal_element, has_equal, rank}
use Rattle.indexset_core.proofs.CallerLemmas.{equal_from, rank-slice_get, slice_get-rank_equal}
use Rattle.indexset_multi.specs.Keys.{AreNumberedBelow, equal_pair, kept_number, pairs_between, pairs_of}

-- an item that two tests find, one after the other
record Member {X : Type 0} (p q : X → Bool) (l : List X) (x : X) : Type 0 where
  pub index : ℕ
  pub here : slice_get l index ≡ Some x
  pub first : p x ≡ true

module _ {X : Type 0} (p q : X → Bool) where
  member_next : (y x : X) (l : List X) → Member p q l x → Member p q (y ∷ l) x
  member_next y x l m = record { index = suc m.index; here = m.here; first = m.first }

  found_member : (l : List X) (x : X) → find q (filter p l) ≡ Some x → Member p q l x
  found_member [] x h = absurd (none-some x h)
  found_member (y ∷ l) x h =
      elim (p y) as (λ b. p y ≡ b → find q (cond b (y ∷ filter p l) (filter p l)) ≡ Some x → Member p q (y ∷ l) x) [
        | true ↦ λ e h. elim (q y) as (λ c. cond c (Some y) (find q (filter p l)) ≡ Some x → Member p q (y ∷ l) x) [
          | true ↦ λ h. record { index = 0; here = h; first = ap p (sym (same_Some y x h)) ∙ e }
          | false ↦ λ h. member_next y x l (found_member l x h)
        ] h
        | false ↦ λ e h. member_next y x l (found_member l x h)
      ] refl h

any_here : {X : Type 0} (p : X → Bool) (l : List X) (i : ℕ) (x : X) → slice_get l i ≡ Some x → p x ≡ true → list_any p l ≡ true
any_here p l i x here holds = list_any_at p l i x (slice_get_within l i x here) (ap p (get_or_from_slice_get l i x x here) ∙ holds)

pub below_less : (m n : ℕ) → m < n → nat_cmp m n ≡ Less
below_less m n lt = grind (arith, nat_tests)

module _ {K : Type 0} (cmp : K → K → Ordering) (o : IsTotalOrder cmp) where
  abbrev by_place : K × ℕ → K × ℕ → Ordering
  by_place a b = ordering_then (cmp a.0 b.0) (nat_cmp a.1 b.1)

  places_total : IsTotalOrder by_place
  places_total = then_total (on_total (λ (a : K × ℕ). a.0) o) (on_total (λ (a : K × ℕ). a.1) nat_cmp_total)

  pub one_ordered : (k : K) → is_le (cmp k k) ≡ true
  one_ordered k = rw (tied_itself o k) refl

module _ {K V Q : Type 0} (cmp : K → Q → Ordering) where
  -- the pairs between a key and itself are the pairs of the key
  pub between_one : (l : List (MultiPair K V)) (k : Q) → pairs_between cmp l (Included k) (Included k) ≡ pairs_of cmp l k
  between_one l k = let same : (a : Ordering) → is_ge a && is_le a ≡ is_eq a = elim [ Less ↦ refl | Equal ↦ refl | Greater ↦ refl ] in λ j. filter (λ p. same (cmp p.key k) j) l

module _ {K V : Type 0} (cmp : K → K → Ordering) where
  -- how a pair compares with a key and a number
  abbrev pub answer_to : K → ℕ → MultiPair K V → Ordering
  answer_to k n p = ordering_then (cmp p.key k) (nat_cmp p.discriminator n)

  -- no pair has a number that is above all
  pub none_numbered : (l : List (MultiPair K V)) (k : K) (n : ℕ) → AreNumberedBelow n l → find (λ p. is_eq (answer_to k n p)) l ≡ None
  none_numbered [] k n below = refl
  none_numbered (p ∷ l) k n below =
      let less : nat_cmp p.discriminator n ≡ Less = below_less p.discriminator n (All-head (λ p. p.discriminator < n) p l below) in
      let other : (a : Ordering) → is_eq (ordering_then a Less) ≡ false = elim [ Less ↦ refl | Equal ↦ refl | Greater ↦ refl ] in
      rw less (rw (other (cmp p.key k)) (none_numbered l k n (All-tail (λ p. p.discriminator < n) p l below)))

  module _ (eq : V → V → Bool) (l : List (MultiPair K V)) (k : K) (w : V) where
    -- if no number is kept, no pair of the key has an equal value
    pub none_kept : ((n : ℕ) → kept_number cmp eq l k w ≡ Some n → ⊥) → equal_pair cmp eq l k w ≡ None
    none_kept h = elim (equal_pair cmp eq l k w) as (λ r. ((n : ℕ) → option_map (λ p. p.discriminator) r ≡ Some n → ⊥) → r ≡ None) [
      | None ↦ λ g. refl
      | Some x ↦ λ g. absurd (g x.discriminator refl)
    ] h

module _ {K V : Type 0} (cmp : K → K → Ordering) (o : IsTotalOrder cmp) where
  abbrev place_of : MultiPair K V → K × ℕ
  place_of p = (p.key, p.discriminator)

  pub numbers_total : IsTotalOrder (by_number {V = V} cmp)
  numbers_total = on_total place_of (places_total cmp o)

  module _ (l : List (MultiPair K V)) (up : IsAscending (by_number cmp) l) where
    -- a pair of the list is found by its key, or one equal to it, and its number
    found_by_number : (k : K) (i : ℕ) (x : MultiPair K V) → slice_get l i ≡ Some x → cmp x.key k ≡ Equal → find (λ p. is_eq (answer_to cmp k x.discriminator p)) l ≡ Some x
    found_by_number k i x here same =
        let there : has_equal (by_number cmp) l x ≡ true = any_here (λ p. is_eq (by_number cmp p x)) l i x here (ap is_eq (tied_itself numbers_total x)) in
        let at : rank (by_number cmp) l x ≡ i = rank-slice_get (by_number cmp) numbers_total l up i x here in
        let it : equal_element (by_number cmp) l x ≡ Some x = sym (slice_get-rank_equal (by_number cmp) numbers_total l up x there) ∙ (ap (λ j. slice_get l j) at ∙ here) in
        ap (λ (f : MultiPair K V → Ordering). find (λ p. is_eq (f p)) l) (λ j p. ordering_then (sym (alike_right o x.key k p.key same) j) (nat_cmp p.discriminator x.discriminator)) ∙ it

  module _ (eq : V → V → Bool) (l : List (MultiPair K V)) (up : IsAscending (by_number cmp) l) (k : K) (w : V) where
    -- a kept number finds the pair of the key with an equal value
    pub kept_found : (n : ℕ) → kept_number cmp eq l k w ≡ Some n → find (λ p. is_eq (answer_to cmp k n p)) l ≡ equal_pair cmp eq l k w
    kept_found n h =
        elim (equal_pair cmp eq l k w) as (λ r. equal_pair cmp eq l k w ≡ r → option_map (λ p. p.discriminator) r ≡ Some n → find (λ p. is_eq (answer_to cmp k n p)) l ≡ r) [
          | None ↦ λ e g. absurd (none-some n g)
          | Some x ↦ λ e g.
              let m = found_member (λ p. is_eq (cmp p.key k)) (λ p. eq p.value w) l x e in
              let number : x.discriminator ≡ n = same_Some x.discriminator n g in
              ap (λ i. find (λ p. is_eq (answer_to cmp k i p)) l) (sym number) ∙ found_by_number l up k m.index x m.here (equal_from (cmp x.key k) m.first)
        ] refl h
