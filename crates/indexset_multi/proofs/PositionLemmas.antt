-- The positions of the pairs of a key, between two places.
use Rattle.std.proofs.Common.{◌≡◌, ℕ, ◌+◌, ◌-◌, ◌<◌, ◌≤◌, zero, suc, Bool, true, false, ◌||◌, cond, filter, Some, List, slice_get, [], ◌∷◌, length, find, refl, ap, sym, ◌∙◌, arith}
use Rattle.std.specs.List.{between, list_any}
use Rattle.std.proofs.lemmas.Bool.{false≢true}
use Rattle.std.proofs.lemmas.List.Edits.{length-between}
use Rattle.indexset_core.specs.Nodes.{concat}
use Rattle.indexset_core.specs.Places.{IsPlace, items_before}
use Rattle.indexset_core.proofs.CallerLemmas.{offset-le}
use Rattle.indexset_multi.proofs.ReadingLemmas.{slice_between}

module _ {X : Type 0} where
  node-in : (n : List X) (ns : List (List X)) (k o : ℕ) → IsPlace (n ∷ ns) (k, o) → k < length (n ∷ ns)
  node-in n ns k o h = omega (arith, h.node_in)

  -- the items before a place are no more than all items
  place-fits : (ns : List (List X)) (p : ℕ × ℕ) → IsPlace ns p → items_before ns p ≤ length (concat ns)
  place-fits [] (zero, o) h = omega (arith, h.offset_in)
  place-fits [] (suc k, o) h = absurd (omega (arith, h.node_in))
  place-fits (n ∷ ns) (k, o) h = offset-le (n ∷ ns) k o (node-in n ns k o h) h.offset_in

  -- how many items are between two places
  pub count_between : (ns : List (List X)) (a b : ℕ × ℕ) → IsPlace ns b → items_before ns b - items_before ns a ≡ length (between (items_before ns a) (items_before ns b) (concat ns))
  count_between ns a b h = sym (length-between (concat ns) (items_before ns a) (items_before ns b) (place-fits ns b h))

  module _ (q : X → Bool) where
    filter_first : (l : List X) → slice_get (filter q l) 0 ≡ find q l
    filter_first [] = refl
    filter_first (x ∷ l) = elim (q x) as (λ b. slice_get (cond b (x ∷ filter q l) (filter q l)) 0 ≡ cond b (Some x) (find q l)) [ true ↦ refl | false ↦ filter_first l ]

    filter_some : (l : List X) → list_any q l ≡ true → 0 < length (filter q l)
    filter_some [] e = absurd (false≢true e)
    filter_some (x ∷ l) e =
        elim (q x) as (λ b. (b || list_any q l) ≡ true → 0 < length (cond b (x ∷ filter q l) (filter q l))) [
          | true ↦ λ _. omega arith
          | false ↦ λ e. filter_some l e
        ] e

    -- the first item that passes begins the part of all items that pass
    pub part_first : (l : List X) (a b : ℕ) → between a b l ≡ filter q l → list_any q l ≡ true → slice_get l a ≡ find q l
    part_first l a b is some =
        let lt : 0 < length (between a b l) = rw is (filter_some l some) in
        let at : a + 0 ≡ a = omega arith in
        sym (rw at at (slice_between a b l 0 lt)) ∙ (ap (λ m. slice_get m 0) is ∙ filter_first l)
