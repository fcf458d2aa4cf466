-- The lines of the events that are applied.
use Rattle.std.proofs.Common.{◌≡◌, ◌+◌, ◌∷◌, [], ap, cond, arith, map, refl, take, ◌∙◌}
use Rattle.std.below.core.specs.declared.int.u64.TheConstants.{MAX}
use Rattle.std.proofs.lemmas.Bool.{eq-eqb}
use Rattle.indexset_bench.specs.PairText.{event_text}
use Rattle.indexset_events.specs.Replay.{event_number}
use Rattle.indexset_replica.specs.Replica.{apply_refusal}
use Rattle.indexset_follow.specs.Early.{caught_up, consecutive}
use Rattle.indexset_follow.specs.EventLine.{Event}
use Rattle.indexset_follow.specs.Follow.{State, event_taken}
use Rattle.indexset_keep.specs.Followed.{event_kept, step_count}
use Rattle.std.specs.declared.cmp.Ordering.{Ordering}
use Rattle.indexset_wire.specs.Texts.{Texts}

module _ {T : Type 0} (cmp : T → T → Ordering) (texts : Texts T) where
  module _ (s : State T) (e : Event T) (here : event_number e ≡ s.held.next) where
    pub kept_in_turn : event_kept cmp texts s e ≡ map (event_text texts) (take (step_count cmp s e) (e ∷ consecutive (s.held.next + 1) s.early))
    kept_in_turn = ap (λ b. cond b (map (event_text texts) (take (step_count cmp s e) (e ∷ consecutive (s.held.next + 1) s.early))) []) (eq-eqb (event_number e) s.held.next here)

    -- an event with the greatest number is not applied
    last_stays : s.held.next ≡ MAX → (event_taken cmp s e).held ≡ s.held
    unfolding caught_up apply_refusal
    last_stays end = rw (eq-eqb (event_number e) s.held.next here, eq-eqb s.held.next MAX end) refl

    pub none_at_last : s.held.next ≡ MAX → event_kept cmp texts s e ≡ []
    none_at_last end =
        let zero : step_count cmp s e ≡ 0 = omega (arith, ap (λ c. c.next) (last_stays end)) in
        kept_in_turn ∙ ap (λ n. map (event_text texts) (take n (e ∷ consecutive (s.held.next + 1) s.early))) zero
