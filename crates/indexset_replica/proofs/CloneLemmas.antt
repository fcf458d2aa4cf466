-- Equal clones in the place of their sources.
use Rattle.std.proofs.Common.{◌≡◌, ◌==◌, ◌&&◌, ℕ, ◌+◌, ◌<◌, true, not, if◌then◌else◌, List}
use Rattle.std.proofs.Common.{[], ◌∷◌, length, insert, Result, Ok, Err, OnOk, Option}
use Rattle.std.proofs.Common.{Some, None, Ordering, refl, ap, sym, ◌∙◌, inl, inr, subst}
use Rattle.std.below.core.specs.declared.int.u64.TheConstants.{MAX}
use Rattle.std.specs.Cmp.{IsTotalOrder}
use Rattle.std.specs.List.{position_or_len, splice}
use Rattle.std.specs.Option.{option_map_or}
use Rattle.std.specs.Ordering.{is_lt}
use Rattle.std.proofs.lemmas.Bool.{eqb-false}
use Rattle.std.proofs.lemmas.Cmp.{alike_right}
use Rattle.std.specs.declared.cmp.Ordering.TheVariants.{Equal}
use Rattle.indexset_core.specs.Nodes.{ends_less, concat, node_at}
use Rattle.indexset_events.specs.Nodes.{is_ascending}
use Rattle.indexset_events.specs.Replay.{event_number, reaches, step_plain, unassigned}
use Rattle.indexset_events.specs.declared.change.ChangeEvent.{ChangeEvent}
use Rattle.indexset_events.specs.declared.change.ChangeEventUnassigned.{ChangeEventUnassigned}
use Rattle.indexset_events.specs.declared.change.ChangeEventUnassigned.TheVariants.{InsertAt, RemoveAt, CreateNode, RemoveNode, SplitNode, MergeNodes}
use Rattle.indexset_events.proofs.CallerLemmas.{Ruled}
use Rattle.indexset_replica.specs.Delivery.{IsDelivery, IsOffered, delivered, offered}
use Rattle.indexset_replica.specs.Replica.{AddsClone, IsClonedEdit, IsClonedStep, IsEdit, ReplicaState, apply_refusal, is_between, misfit}
use Rattle.indexset_core.specs.declared.refusal.Refusal.TheVariants.{Gap, Numbers}
use Rattle.indexset_replica.proofs.DeliveryLemmas.{passed_over, taken_in}
use Rattle.indexset_replica.proofs.NodeSearchLemmas.{fits_alone, fits_node}
use Rattle.indexset_replica.proofs.StepLemmas.{else_none, misfit_refused, step_fits}

-- a clone that is identical to its source is the event's own item
pub adds_same : {T : Type 0} (cmp : T → T → Ordering) (C : T → T → Type 0) → ((x y : T) → C x y → y ≡ x) → (e f : ChangeEventUnassigned T) → AddsClone cmp C e f → f ≡ e
adds_same cmp C h (InsertAt m v i) f a = a.2 ∙ ap (λ w. InsertAt m w i) (h v a.0 a.1.0)
adds_same cmp C h (CreateNode m) f a = a.2 ∙ ap (λ w. CreateNode w) (h m a.0 a.1.0)
adds_same cmp C h (RemoveAt m v i) f a = a
adds_same cmp C h (RemoveNode m) f a = a
adds_same cmp C h (SplitNode m k) f a = a
adds_same cmp C h (MergeNodes m w) f a = a

module _ {T : Type 0} (cmp : T → T → Ordering) (o : IsTotalOrder cmp) (v w : T) (same : cmp w v ≡ Equal) where
  between_same : (before after : Option T) → is_between cmp before w after ≡ is_between cmp before v after
  between_same before after = λ i. (let t = option_map_or (λ x. is_lt (alike_right o w v x same i)) before true in t) && option_map_or (λ x. is_lt (o.congr w v x same i)) after true

  -- the items ascend with the clone if and only if they do with its source
  pub inserted_same : (ns : List (List T)) → Ruled cmp ns → (p : ℕ) → p < length ns → (i : ℕ)
      → let n = node_at ns p in
      is_ascending cmp (concat (splice ns p (p + 1) (insert n i w ∷ [])))
      ≡ is_ascending cmp (concat (splice ns p (p + 1) (insert n i v ∷ [])))
  inserted_same ns rule p inside i = fits_node cmp o w ns rule p inside i ∙ (between_same _ _ ∙ sym (fits_node cmp o v ns rule p inside i))

  pub created_same : (ns : List (List T)) → Ruled cmp ns → (p : ℕ) → is_ascending cmp (concat (insert ns p (w ∷ []))) ≡ is_ascending cmp (concat (insert ns p (v ∷ [])))
  created_same ns rule p = fits_alone cmp o w ns rule p ∙ (between_same _ _ ∙ sym (fits_alone cmp o v ns rule p))

  pub reaching_same : (ns : List (List T)) → position_or_len (reaches cmp w) ns ≡ position_or_len (reaches cmp v) ns
  reaching_same ns = λ i. position_or_len (λ n. not (ends_less (λ x. alike_right o w v x same i) n)) ns

-- an event that adds no item
module _ {T : Type 0} {cmp : T → T → Ordering} {C : T → T → Type 0} {ns after : List (List T)} where
  pub kept_remove : {m v : T} {i : ℕ} → IsEdit cmp ns (RemoveAt m v i) after → IsClonedEdit cmp C ns (RemoveAt m v i) after
  kept_remove d = record { fits = d.fits; event = _; adds = refl; done = d }

  pub kept_remove_node : {m : T} → IsEdit cmp ns (RemoveNode m) after → IsClonedEdit cmp C ns (RemoveNode m) after
  kept_remove_node d = record { fits = d.fits; event = _; adds = refl; done = d }

  pub kept_split : {m : T} {k : ℕ} → IsEdit cmp ns (SplitNode m k) after → IsClonedEdit cmp C ns (SplitNode m k) after
  kept_split d = record { fits = d.fits; event = _; adds = refl; done = d }

  pub kept_merge : {m w : T} → IsEdit cmp ns (MergeNodes m w) after → IsClonedEdit cmp C ns (MergeNodes m w) after
  kept_merge d = record { fits = d.fits; event = _; adds = refl; done = d }

-- an event that is the next, if it is applied
module _ {T U E : Type 0} (cmp : T → T → Ordering) (C : T → T → Type 0) where
  pub delivery_where_ok : (o : Result U E) (r q : ReplicaState T) (e : ChangeEvent T) → event_number e ≡ r.next
      → OnOk o (apply_refusal cmp r.nodes r.next e ≡ None) → OnOk o (q.next ≡ r.next + 1)
      → OnOk o (IsClonedStep cmp C r.nodes (unassigned e) q.nodes) → OnOk o (IsDelivery cmp C r e q)
  unfolding apply_refusal
  delivery_where_ok (Ok u) r q e number fits next made =
      let gap = else_none _ Gap (if r.next == MAX then Some Numbers else misfit cmp r.nodes (unassigned e)) fits in
      let last = else_none (r.next == MAX) Numbers (misfit cmp r.nodes (unassigned e)) gap.1 in
      inr (number, eqb-false r.next MAX last.0, next, made)
  delivery_where_ok (Err x) r q e number fits next made = tt

-- if clones are identical to their sources, the replica is as after the events themselves
module _ {T : Type 0} (cmp : T → T → Ordering) (C : T → T → Type 0) (h : (x y : T) → C x y → y ≡ x) where
  pub step_same : (ns : List (List T)) (e : ChangeEventUnassigned T) (after : List (List T)) → IsClonedStep cmp C ns e after → step_plain cmp ns e ≡ Some after
  step_same ns e after s = subst (λ f. step_plain cmp ns f ≡ Some after) (adds_same cmp C h e s.event s.adds) s.made

  pub delivered_same : (r q : ReplicaState T) (e : ChangeEvent T) → IsDelivery cmp C r e q → delivered cmp r e ≡ Some q
  delivered_same r q e d =
      elim d [
        | inl past ↦ passed_over cmp r e past.0 ∙ ap (λ s. Some s) (sym past.1)
        | inr here ↦
            let step = step_same r.nodes (unassigned e) q.nodes here.3 in
            taken_in cmp r q e (misfit_refused cmp r.nodes r.next e here.0 here.1 ∙ step_fits cmp r.nodes (unassigned e) q.nodes step) step here.2
      ]

  pub offered_same : (r q : ReplicaState T) (es : List (ChangeEvent T)) → IsOffered cmp C r es q → offered cmp r es ≡ Some q
  offered_same r q [] d = ap (λ s. Some s) (sym d)
  offered_same r q (e ∷ es) d = rw (delivered_same r d.0 e d.1) (offered_same d.0 q es d.2)
