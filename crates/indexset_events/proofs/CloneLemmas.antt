-- The properties that clones of numbered events keep.
use Rattle.std.proofs.Common.{◌≡◌, ℕ, ◌+◌, List, [], ◌∷◌, ◌++◌, get_or, refl, ap, sym, ◌∙◌, arith, Some, None, zero, suc}
use Rattle.std.specs.List.{AllZip}
use Rattle.std.proofs.lemmas.List.Elements.{same_from_all_zip}
use Rattle.indexset_core.specs.Nodes.{node_at}
use Rattle.indexset_core.specs.declared.pair.Pair.{Pair}
use Rattle.indexset_events.specs.Clones.{IsEventClone, event_items, event_shape}
use Rattle.indexset_events.specs.Merging.{item_removed, merge_after}
use Rattle.indexset_events.specs.Replay.{IsNumberedFrom, event_number, numbered_from, assigned}
use Rattle.indexset_events.specs.Table.{merge_event, removal_event, place_removal_events}
use Rattle.indexset_events.specs.declared.change.ChangeEvent.{ChangeEvent}
use Rattle.indexset_events.specs.declared.change.ChangeEvent.TheVariants as numbered
use Rattle.indexset_events.specs.declared.change.ChangeEventUnassigned.{ChangeEventUnassigned}
use Rattle.indexset_events.proofs.ReplayTheorem.{number_on}

pub zip_on : {X : Type 0} (R : X → X → Type 0) (a b p q : List X) → AllZip R a p → AllZip R b q → AllZip R (a ++ b) (p ++ q)
zip_on R [] b [] q h k = k
zip_on R [] b (y ∷ p) q h k = absurd h
zip_on R (x ∷ a) b [] q h k = absurd h
zip_on R (x ∷ a) b (y ∷ p) q h k = (h.0, zip_on R a b p q h.1 k)

number_shape : {T : Type 0} (e : ChangeEvent T) → event_number (event_shape e) ≡ event_number e
number_shape (numbered.InsertAt id m v i) = refl
number_shape (numbered.RemoveAt id m v i) = refl
number_shape (numbered.CreateNode id m) = refl
number_shape (numbered.RemoveNode id m) = refl
number_shape (numbered.SplitNode id m k) = refl
number_shape (numbered.MergeNodes id m w) = refl

number_same : {T : Type 0} (e f : ChangeEvent T) → event_shape f ≡ event_shape e → event_number f ≡ event_number e
number_same e f same = sym (number_shape f) ∙ (ap (λ s. event_number s) same ∙ number_shape e)

-- the numbers are those of the table
pub clones_numbered : {T : Type 0} (C : T → T → Type 0) (s : ℕ) (es : List (ChangeEventUnassigned T))
    (fs : List (ChangeEvent T))
    → AllZip (IsEventClone C) (numbered_from s es) fs → IsNumberedFrom s fs
clones_numbered C s [] [] h i lt d = absurd (omega arith)
clones_numbered C s [] (f ∷ fs) h i lt d = absurd h
clones_numbered C s (e ∷ es) [] h i lt d = absurd h
clones_numbered C s (e ∷ es) (f ∷ fs) h zero lt d = number_same (assigned s e) f h.0.0 ∙ (number_on s e ∙ omega arith)
clones_numbered C s (e ∷ es) (f ∷ fs) h (suc i) lt d = clones_numbered C (s + 1) es fs h.1 i (omega arith) d ∙ omega arith

-- an event built from its shape and its items
abbrev remade : {T : Type 0} → T → ChangeEvent (Unit {0}) → List T → ChangeEvent T
remade d (numbered.InsertAt id m v i) l = numbered.InsertAt id (get_or l 0 d) (get_or l 1 d) i
remade d (numbered.RemoveAt id m v i) l = numbered.RemoveAt id (get_or l 0 d) (get_or l 1 d) i
remade d (numbered.CreateNode id m) l = numbered.CreateNode id (get_or l 0 d)
remade d (numbered.RemoveNode id m) l = numbered.RemoveNode id (get_or l 0 d)
remade d (numbered.SplitNode id m k) l = numbered.SplitNode id (get_or l 0 d) k
remade d (numbered.MergeNodes id m w) l = numbered.MergeNodes id (get_or l 0 d) (get_or l 1 d)

remade_same : {T : Type 0} (d : T) (e : ChangeEvent T) → remade d (event_shape e) (event_items e) ≡ e
remade_same d (numbered.InsertAt id m v i) = refl
remade_same d (numbered.RemoveAt id m v i) = refl
remade_same d (numbered.CreateNode id m) = refl
remade_same d (numbered.RemoveNode id m) = refl
remade_same d (numbered.SplitNode id m k) = refl
remade_same d (numbered.MergeNodes id m w) = refl

abbrev first_item : {T : Type 0} → ChangeEvent T → T
first_item (numbered.InsertAt id m v i) = m
first_item (numbered.RemoveAt id m v i) = m
first_item (numbered.CreateNode id m) = m
first_item (numbered.RemoveNode id m) = m
first_item (numbered.SplitNode id m k) = m
first_item (numbered.MergeNodes id m w) = m

-- events with clones are identical to their sources if clones are
pub event_same : {T : Type 0} (C : T → T → Type 0) → ((x y : T) → C x y → y ≡ x) → (e f : ChangeEvent T) → IsEventClone C e f → f ≡ e
event_same C h e f clone =
    let d = first_item e in
    let items = same_from_all_zip C (event_items e) (event_items f) clone.1 h in
    sym (remade_same d f) ∙ ((λ i. remade d (clone.0 i) (items i)) ∙ remade_same d e)

module _ {T : Type 0} (C : T → T → Type 0) (s size : ℕ) (ns : List (List T)) (k i : ℕ) (x : T) where
  -- the events of a removal as the code adds them
  module _ {items : List (ChangeEvent T)} (e : ChangeEventUnassigned T) (first : IsEventClone C (assigned s (removal_event (node_at ns k) i x)) (assigned s e)) where
    pub one_cloned : merge_after size ns k i ≡ None → items ≡ assigned s e ∷ [] → AllZip (IsEventClone C) (numbered_from s (place_removal_events size ns k i x)) items
    one_cloned none made = rw (made, none) (first, tt)

    pub both_cloned : {j : ℕ} (f : ChangeEventUnassigned T) → merge_after size ns k i ≡ Some j
        → IsEventClone C (assigned (s + 1) (merge_event (item_removed ns k i) x j)) (assigned (s + 1) f)
        → items ≡ assigned s e ∷ assigned (s + 1) f ∷ []
        → AllZip (IsEventClone C) (numbered_from s (place_removal_events size ns k i x)) items
    both_cloned f some second made = rw (made, some) (first, (second, tt))

-- clones of pairs are identical to their sources if clones of keys and of values are
pub pair_same : {K V : Type 0} {C : K → K → Type 0} {D : V → V → Type 0} → ((x y : K) → C x y → y ≡ x) → ((x y : V) → D x y → y ≡ x) → (p q : Pair K V) → C p.key q.key × D p.value q.value → q ≡ p
pair_same hk hv p q e = λ i. record { key = hk p.key q.key e.0 i; value = hv p.value q.value e.1 i }
