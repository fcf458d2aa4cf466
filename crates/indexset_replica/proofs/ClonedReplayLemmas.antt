-- The replay of clones of events gives the nodes after the events, up to related items.
use Rattle.std.proofs.Common.{◌≡◌, List, [], ◌∷◌, Option, Some, None, Ordering, refl, ap, sym, ◌∙◌, subst}
use Rattle.std.specs.Cmp.{IsTotalOrder}
use Rattle.std.specs.List.{AllZip}
use Rattle.std.specs.declared.cmp.Ordering.TheVariants.{Equal}
use Rattle.indexset_events.specs.Clones.{IsEventClone, event_items, event_shape}
use Rattle.indexset_events.specs.Replay.{replay, step, step_plain, unassigned}
use Rattle.indexset_events.specs.declared.change.ChangeEvent.{ChangeEvent}
use Rattle.indexset_events.specs.declared.change.ChangeEvent.TheVariants as numbered
use Rattle.indexset_replica.proofs.RelatedNodeLemmas.{AreAlike, IsEventAlike, step_alike}
use Rattle.indexset_replica.proofs.EditLemmas.{some_inj}
use Rattle.indexset_replica.proofs.StepLemmas.{then_some}

-- the event of a kind, a number and an index, with these items
abbrev filled : {T : Type 0} → ChangeEvent (Unit {0}) → List T → Option (ChangeEvent T)
filled (numbered.InsertAt id m v i) (a ∷ b ∷ []) = Some (numbered.InsertAt id a b i)
filled (numbered.RemoveAt id m v i) (a ∷ b ∷ []) = Some (numbered.RemoveAt id a b i)
filled (numbered.CreateNode id m) (a ∷ []) = Some (numbered.CreateNode id a)
filled (numbered.RemoveNode id m) (a ∷ []) = Some (numbered.RemoveNode id a)
filled (numbered.SplitNode id m k) (a ∷ []) = Some (numbered.SplitNode id a k)
filled (numbered.MergeNodes id m w) (a ∷ b ∷ []) = Some (numbered.MergeNodes id a b)
filled e l = None

filled_itself : {T : Type 0} (f : ChangeEvent T) → filled (event_shape f) (event_items f) ≡ Some f
filled_itself (numbered.InsertAt id m v i) = refl
filled_itself (numbered.RemoveAt id m v i) = refl
filled_itself (numbered.CreateNode id m) = refl
filled_itself (numbered.RemoveNode id m) = refl
filled_itself (numbered.SplitNode id m k) = refl
filled_itself (numbered.MergeNodes id m w) = refl

one_item : {T : Type 0} (R : T → T → Type 0) (a : T) (l : List T) → AllZip R (a ∷ []) l → (x : T) × (l ≡ x ∷ []) × R a x
one_item R a [] h = absurd h
one_item R a (x ∷ []) h = (x, refl, h.0)
one_item R a (x ∷ y ∷ l) h = absurd h.1

two_items : {T : Type 0} (R : T → T → Type 0) (a b : T) (l : List T) → AllZip R (a ∷ b ∷ []) l → (x : T) × (y : T) × (l ≡ x ∷ y ∷ []) × R a x × R b y
two_items R a b [] h = absurd h
two_items R a b (x ∷ []) h = absurd h.1
two_items R a b (x ∷ y ∷ []) h = (x, y, refl, h.0, h.1.0)
two_items R a b (x ∷ y ∷ z ∷ l) h = absurd h.1.1

module _ {T : Type 0} (cmp : T → T → Ordering) (o : IsTotalOrder cmp) (C E : T → T → Type 0) (equal : (x y : T) → E x y → cmp x y ≡ Equal) (made : (x y : T) → C x y → E x y) where
  -- the clone, by its kind and its items
  told : (e f : ChangeEvent T) (l : List T) → IsEventClone C e f → event_items f ≡ l → filled (event_shape e) l ≡ Some f
  told e f l h is = ap (λ s. filled s l) (sym h.0) ∙ (ap (filled (event_shape f)) (sym is) ∙ filled_itself f)

  pub clone_alike : (e f : ChangeEvent T) → IsEventClone C e f → IsEventAlike cmp o E equal (unassigned e) (unassigned f)
  clone_alike (numbered.InsertAt id m v i) f h =
      let t = two_items C m v (event_items f) h.1 in
      (t.0, t.1, ap unassigned (sym (some_inj (told (numbered.InsertAt id m v i) f (t.0 ∷ t.1 ∷ []) h t.2))), made m t.0 t.3, made v t.1 t.4)
  clone_alike (numbered.RemoveAt id m v i) f h =
      let t = two_items C m v (event_items f) h.1 in
      (t.0, t.1, ap unassigned (sym (some_inj (told (numbered.RemoveAt id m v i) f (t.0 ∷ t.1 ∷ []) h t.2))), made m t.0 t.3, made v t.1 t.4)
  clone_alike (numbered.CreateNode id m) f h =
      let t = one_item C m (event_items f) h.1 in
      (t.0, ap unassigned (sym (some_inj (told (numbered.CreateNode id m) f (t.0 ∷ []) h t.1))), made m t.0 t.2)
  clone_alike (numbered.RemoveNode id m) f h =
      let t = one_item C m (event_items f) h.1 in
      (t.0, ap unassigned (sym (some_inj (told (numbered.RemoveNode id m) f (t.0 ∷ []) h t.1))), made m t.0 t.2)
  clone_alike (numbered.SplitNode id m k) f h =
      let t = one_item C m (event_items f) h.1 in
      (t.0, ap unassigned (sym (some_inj (told (numbered.SplitNode id m k) f (t.0 ∷ []) h t.1))), made m t.0 t.2)
  clone_alike (numbered.MergeNodes id m w) f h =
      let t = two_items C m w (event_items f) h.1 in
      (t.0, t.1, ap unassigned (sym (some_inj (told (numbered.MergeNodes id m w) f (t.0 ∷ t.1 ∷ []) h t.2))), made m t.0 t.3, made w t.1 t.4)

  abbrev AreNodesAlike : List (List T) → List (List T) → Type 0
  AreNodesAlike = AllZip (AllZip E)

  also_some : (x : List (List T)) (y : Option (List (List T))) → AreAlike AreNodesAlike (Some x) y → (z : List (List T)) × (y ≡ Some z) × AreNodesAlike x z
  also_some x None h = absurd h
  also_some x (Some z) h = (z, refl, h)

  replayed_one : (ms mid r : List (List T)) (f : ChangeEvent T) (fs : List (ChangeEvent T)) → step cmp ms f ≡ Some mid → replay cmp mid fs ≡ Some r → replay cmp ms (f ∷ fs) ≡ Some r
  replayed_one ms mid r f fs first rest = rw first rest

  pub replay_clones : (ns ms after : List (List T)) (es fs : List (ChangeEvent T)) → AreNodesAlike ns ms
      → AllZip (IsEventClone C) es fs → replay cmp ns es ≡ Some after
      → (r : List (List T)) × (replay cmp ms fs ≡ Some r) × AreNodesAlike after r
  replay_clones ns ms after [] [] near h led = (ms, refl, subst (λ t. AreNodesAlike t ms) (some_inj led) near)
  replay_clones ns ms after [] (f ∷ fs) near h led = absurd h
  replay_clones ns ms after (e ∷ es) [] near h led = absurd h
  replay_clones ns ms after (e ∷ es) (f ∷ fs) near h led =
      let first = then_some (step cmp ns e) (λ r. replay cmp r es) after led in
      let both = step_alike cmp o E equal ns ms near (unassigned e) (unassigned f) (clone_alike e f h.0) in
      let mine = also_some first.0 (step_plain cmp ms (unassigned f)) (subst (λ t. AreAlike AreNodesAlike t (step_plain cmp ms (unassigned f))) first.1 both) in
      let rest = replay_clones first.0 mine.0 after es fs mine.2 h.1 first.2 in
      (rest.0, replayed_one ms mine.0 rest.0 f fs mine.1 rest.1, rest.2)
