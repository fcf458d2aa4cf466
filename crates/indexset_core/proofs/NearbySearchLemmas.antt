-- The invariants of a search that keeps the place of the item last found Equal, or the place past
-- it: if there is one, it is where the search ends.
use Rattle.std.proofs.Common.{◌≡◌, ℕ, zero, suc, ◌+◌, ◌-◌, ◌/◌, ◌%◌, ◌<◌, ◌≤◌, true, false, cond, List, [], ◌∷◌, length}
use Rattle.std.proofs.Common.{get_or, slice_get, Some, nat_lt, Ordering, refl, ap, sym, subst, inl, inr, ◌∙◌, arith}
use Rattle.std.specs.declared.cmp.Ordering.TheVariants.{Less, Equal, Greater}
use Rattle.std.specs.List.{HoldsAt}
use Rattle.std.specs.Ordering.{ordering_index, is_eq, is_le, is_lt}
use Rattle.std.proofs.lemmas.Bool.{cases_lt, false≢true, lt-ltb}
use Rattle.std.proofs.lemmas.List.Elements.{at_read}
use Rattle.std.proofs.lemmas.Option.{slice_get_read}
use Rattle.indexset_core.specs.Nodes.{equal_at}
use Rattle.indexset_core.specs.Parted.{IsParted}
use Rattle.indexset_core.proofs.AscendingLemmas.{equal_here, equal_inside}
use Rattle.indexset_core.proofs.LocateLemmas.{equal_read}
use Rattle.indexset_core.proofs.PartedLemmas.{Narrowed}

-- at is the place of an item found Equal, which is then at the bound, or past the end
pub record IsEqualAt {T : Type 0} (answer : T → Ordering) (xs : List T) (at bound : ℕ) : Type 0 where
  pub told : nat_lt at (length xs) ≡ equal_at answer xs bound
  pub place : nat_lt at (length xs) ≡ true → at ≡ bound

equal_past : (o p : Ordering) → ordering_index o ≤ ordering_index p → o ≡ Greater → is_eq p ≡ true → ⊥
equal_past o Less le greater equal = false≢true equal
equal_past o Equal le greater equal = let late : 2 ≤ 1 = rw greater at le in absurd (omega (arith, late))
equal_past o Greater le greater equal = false≢true equal

module _ {T : Type 0} (answer : T → Ordering) (xs : List T) (parted : IsParted answer xs) where
  -- from an item that compares Greater on, none compares Equal
  none_from : (m i : ℕ) (x : T) → answer (get_or xs m x) ≡ Greater → m ≤ i → equal_at answer xs i ≡ false
  none_from m i x greater le =
      elim (equal_at answer xs i) as (λ b. equal_at answer xs i ≡ b → b ≡ false) [
        | true ↦ λ e. absurd (equal_past _ _ (parted m i x le (equal_inside answer xs i e)) greater (equal_here answer xs i e x))
        | false ↦ λ _. refl
      ] refl

  module _ (low left at : ℕ) (some : 0 < left) (within : low + left ≤ length xs) (now : IsEqualAt answer xs at (low + left)) (x : T) (is : x ≡ get_or xs (low + left / 2) x) where
    inside : low + left / 2 < length xs
    inside = omega arith

    halved_less : (bound : ℕ) → bound ≡ low + left → IsEqualAt answer xs at bound
    halved_less bound same = rw same now

    halved_equal : answer x ≡ Equal → IsEqualAt answer xs (low + left / 2) (low + left / 2)
    halved_equal e =
        let read : slice_get xs (low + left / 2) ≡ Some x = slice_get_read xs (length xs) (low + left / 2) x refl inside is in
        record {
          told = lt-ltb _ _ inside ∙ sym (equal_read answer xs _ x read ∙ ap is_eq e);
          place = λ _. refl;
        }

    halved_greater : answer x ≡ Greater → IsEqualAt answer xs at (low + left / 2)
    halved_greater e =
        let greater : answer (get_or xs (low + left / 2) x) ≡ Greater = ap answer (sym is) ∙ e in
        let none : nat_lt at (length xs) ≡ false = now.told ∙ none_from (low + left / 2) (low + left) x greater (omega arith) in
        record {
          told = none ∙ sym (none_from (low + left / 2) (low + left / 2) x greater (omega arith));
          place = λ some. absurd (false≢true (sym none ∙ some));
        }

    pub equal_half : (next kept : ℕ) → next ≡ cond (is_lt (answer x)) (low + left / 2 + left % 2) low → kept ≡ cond (is_eq (answer x)) (low + left / 2) at → IsEqualAt answer xs kept (next + left / 2)
    equal_half next kept goes keeps =
        elim (answer x) as (λ o. answer x ≡ o → next ≡ cond (is_lt o) (low + left / 2 + left % 2) low → kept ≡ cond (is_eq o) (low + left / 2) at → IsEqualAt answer xs kept (next + left / 2)) [
          | Less ↦ λ e goes keeps. rw keeps (halved_less (next + left / 2) (omega (arith, goes)))
          | Equal ↦ λ e goes keeps. rw (goes, keeps) (halved_equal e)
          | Greater ↦ λ e goes keeps. rw (goes, keeps) (halved_greater e)
        ] refl goes keeps

-- if an item was found, its place is the bound
pub equal_met : {T : Type 0} (answer : T → Ordering) (xs : List T) (low at : ℕ) → IsEqualAt answer xs at low → cond (nat_lt at (length xs)) at low ≡ low
equal_met answer xs low at now =
    elim (nat_lt at (length xs)) as (λ b. nat_lt at (length xs) ≡ b → cond b at low ≡ low) [
      | true ↦ λ e. now.place e
      | false ↦ λ e. refl
    ] refl

-- the item before the place compares Equal, and the search for the last such item is not past it
pub record IsPastEqual {T : Type 0} (answer : T → Ordering) (xs : List T) (past low : ℕ) : Type 0 where
  pub within : past ≤ length xs
  pub order : low ≤ past
  pub equal : HoldsAt (λ x. answer x ≡ Equal) xs (past - 1)

module _ {T : Type 0} (answer : T → Ordering) (xs : List T) (parted : IsParted answer xs) where
  module _ (low left past : ℕ) (some : 0 < left) (within : low + left ≤ length xs) (now : 0 < past → IsPastEqual answer xs past low) (x : T) (is : x ≡ get_or xs (low + left / 2) x) where
    past_less : answer x ≡ Less → (next : ℕ) → next ≡ low + left / 2 + left % 2 → 0 < past → IsPastEqual answer xs past next
    past_less less next goes some_past =
        let it = now some_past in
        let here : answer (get_or xs (low + left / 2) x) ≡ Less = ap answer (sym is) ∙ less in
        elim (cases_lt (low + left / 2) (past - 1)) [
          | inl lt ↦ record { within = it.within; order = omega (arith, goes); equal = it.equal }
          | inr ge ↦ let early : 1 ≤ 0 = rw (it.equal x, here) at (parted (past - 1) (low + left / 2) x ge (omega arith)) in absurd (omega (arith, early))
        ]

    past_equal : answer x ≡ Equal → (next : ℕ) → next ≡ low + left / 2 + left % 2 → IsPastEqual answer xs (low + left / 2 + 1) next
    past_equal equal next goes = record {
      within = omega arith;
      order = omega (arith, goes);
      equal = subst (λ i. HoldsAt (λ x. answer x ≡ Equal) xs i) (omega arith) (at_read xs (λ x. answer x ≡ Equal) (low + left / 2) x (omega arith) is equal);
    }

    pub past_half : (next kept : ℕ) → next ≡ cond (is_le (answer x)) (low + left / 2 + left % 2) low
        → kept ≡ cond (is_eq (answer x)) (low + left / 2 + 1) past → 0 < kept → IsPastEqual answer xs kept next
    past_half next kept goes keeps =
        elim (answer x) as (λ o. answer x ≡ o → next ≡ cond (is_le o) (low + left / 2 + left % 2) low → kept ≡ cond (is_eq o) (low + left / 2 + 1) past → 0 < kept → IsPastEqual answer xs kept next) [
          | Less ↦ λ e goes keeps. rw keeps (past_less e next goes)
          | Equal ↦ λ e goes keeps _. rw keeps (past_equal e next goes)
          | Greater ↦ λ e goes keeps. rw (goes, keeps) now
        ] refl goes keeps

-- at the end of the search, that place is the count
pub past_met : {T : Type 0} (answer : T → Ordering) (xs : List T) (low high past : ℕ) → high ≤ low
    → Narrowed (λ x. is_le (answer x)) xs low high → (0 < past → IsPastEqual answer xs past low)
    → cond (nat_lt 0 past) past low ≡ low
past_met answer xs low high zero met now told = refl
past_met answer [] low high (suc past) met now told = absurd (omega (arith, (told (omega arith)).within))
past_met answer (x ∷ xs) low high (suc past) met now told =
    let it = told (omega arith) in
    elim (cases_lt past low) [
      | inl lt ↦ rw (lt-ltb 0 (suc past) (omega arith)) (omega (arith, lt, it.order))
      | inr ge ↦
          let equal : HoldsAt (λ x. answer x ≡ Equal) (x ∷ xs) past = subst (λ i. HoldsAt (λ x. answer x ≡ Equal) (x ∷ xs) i) (omega arith) it.equal in
          absurd (false≢true (sym (now.after past x (omega arith) (omega (arith, it.within))) ∙ ap is_le (equal x)))
    ]
