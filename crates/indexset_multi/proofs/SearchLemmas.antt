-- The place where a search of lawful nodes ends, as the code returns it.
use Rattle.std.proofs.Common.{◌≡◌, ℕ, ◌<◌, ◌≤◌, zero, suc, true, List, slice_get, [], ◌∷◌, length, Option, None, Some}
use Rattle.std.proofs.Common.{MatchOption, Result, Ok, Err, is_ok, is_some, Ordering, refl, ap, sym, ◌∙◌, arith}
use Rattle.std.proofs.lemmas.Option.{slice_get_past}
use Rattle.std.specs.Cmp.{IsTotalOrder}
use Rattle.std.specs.List.{find, list_any}
use Rattle.std.specs.Ordering.{is_eq}
use Rattle.std.specs.Result.{result_ok}
use Rattle.indexset_core.specs.declared.multipair.MultiPair.{MultiPair}
use Rattle.indexset_core.specs.MultiPairs.{by_number}
use Rattle.indexset_core.specs.Nodes.{concat, node_at, IsLawful}
use Rattle.indexset_core.specs.Parted.{IsParted}
use Rattle.indexset_events.proofs.CallerLemmas.{lawful_ascends, lawful_filled}
use Rattle.indexset_log.specs.PlaceRemoval.{IsItemPlaceInNodes, placed_item}
use Rattle.indexset_core.specs.LookupKey.{OrdersAsItem, acts_as_itself, acts_on_numbered}
use Rattle.indexset_core.proofs.CallerLemmas.{parted_by_sought, is_some-find, end_found, end_node, end_offset, gap_found, get_in_node}
use Rattle.indexset_core.specs.Places.{items_before, located}

module _ {T : Type 0} (cmp : T → T → Ordering) (size : ℕ) (ns : List (List T)) (law : IsLawful cmp size ns)
    (answer : T → Ordering) (parted : IsParted answer (concat ns)) (r : Result (ℕ × ℕ) (ℕ × ℕ))
    (e : r ≡ located answer ns) where
  -- it is the place of an item if the search found one
  pub ok_place : IsItemPlaceInNodes ns (result_ok r)
  ok_place = elim r as (λ s. r ≡ s → IsItemPlaceInNodes ns (result_ok s)) [
    | Ok p ↦ λ is. (end_node answer ns (lawful_filled cmp size ns law) parted r e p is, end_offset answer ns (lawful_filled cmp size ns law) parted r e p is)
    | Err p ↦ λ is. tt
  ] refl

  -- that item is the first that is found Equal
  pub ok_item : placed_item ns (result_ok r) ≡ find (λ x. is_eq (answer x)) (concat ns)
  ok_item = elim r as (λ s. r ≡ s → placed_item ns (result_ok s) ≡ find (λ x. is_eq (answer x)) (concat ns)) [
    | Ok p ↦ λ is. sym (end_found answer ns (lawful_filled cmp size ns law) parted r e p is)
    | Err p ↦ λ is. sym (gap_found answer ns (lawful_filled cmp size ns law) parted r e p is)
  ] refl

  pub ok_found : is_ok r ≡ list_any (λ x. is_eq (answer x)) (concat ns)
  ok_found = told r ok_place ∙ (ap is_some ok_item ∙ is_some-find (λ x. is_eq (answer x)) (concat ns)) where
    some_read : (l : List T) (i : ℕ) → i < length l → is_some (slice_get l i) ≡ true
    some_read [] i lt = absurd (omega arith)
    some_read (x ∷ xs) zero lt = refl
    some_read (x ∷ xs) (suc i) lt = some_read xs i (omega arith)

    told : (r : Result (ℕ × ℕ) (ℕ × ℕ)) → IsItemPlaceInNodes ns (result_ok r) → is_ok r ≡ is_some (placed_item ns (result_ok r))
    told (Ok p) place = sym (some_read (node_at ns p.0) p.1 place.1)
    told (Err p) place = refl

-- a probe by a key finds the pairs of lawful nodes in order
module _ {K V : Type 0} (cmp : K → K → Ordering) (size : ℕ) (ns : List (List (MultiPair K V))) (law : IsLawful (by_number cmp) size ns) where
  pub sought_keys : {Q : Type 0} {order : K → Q → Ordering} {among : Q → Q → Ordering} → OrdersAsItem cmp order among → (k : Q) → IsParted (λ p. order p.key k) (concat ns)
  sought_keys acts k = parted_by_sought (acts_on_numbered acts) (concat ns) (lawful_ascends (by_number cmp) size ns law) k

pub lawful_keys : {K V : Type 0} (cmp : K → K → Ordering) (o : IsTotalOrder cmp) (size : ℕ)
    (ns : List (List (MultiPair K V))) (law : IsLawful (by_number cmp) size ns) (k : K)
    → IsParted (λ p. cmp p.key k) (concat ns)
lawful_keys cmp o size ns law k = sought_keys cmp size ns law (acts_as_itself o) k

-- the item at a position, by its place
module _ {T : Type 0} (ns : List (List T)) (i : ℕ) where
  abbrev pub IsPlaceAt : Option (ℕ × ℕ) → Type 0
  IsPlaceAt r = MatchOption r (length (concat ns) ≤ i) (λ p. (p.0 < length ns) × (p.1 < length (node_at ns p.0)) × (items_before ns p ≡ i))

  pub at_place : (r : Option (ℕ × ℕ)) → IsPlaceAt r → IsItemPlaceInNodes ns r
  at_place None h = tt
  at_place (Some p) h = (h.0, h.1)

  pub at_item : (r : Option (ℕ × ℕ)) → IsPlaceAt r → placed_item ns r ≡ slice_get (concat ns) i
  at_item None h = sym (slice_get_past (concat ns) i h)
  at_item (Some p) h = sym (get_in_node ns p.0 p.1 h.0 h.1) ∙ ap (slice_get (concat ns)) h.2
