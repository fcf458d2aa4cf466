-- Events that are clones of a tree's events, applied in order to copies of its nodes.
use Rattle.std.proofs.Common.{◌≡◌, List, [], ◌∷◌, Some, Ordering, ap, subst, unwrap_or}
use Rattle.std.specs.List.{AllZip}
use Rattle.std.proofs.lemmas.Option.{option_and_then_some}
use Rattle.indexset.specs.Words.{replay, step, unassigned, AreCopies, ChangeEvent, IsClonedStep, IsEventClone}

module _ {T : Type 0} (cmp : T → T → Ordering) (C : T → T → Type 0) where
  -- the events fs are clones of events whose replay takes nodes, of which ms are copies, to the
  -- nodes after
  pub record IsOnTheWay (after ms : List (List T)) (fs : List (ChangeEvent T)) : Type 0 where
    pub nodes : List (List T)
    pub events : List (ChangeEvent T)
    pub copied : AreCopies cmp C nodes ms
    pub cloned : AllZip (IsEventClone C) events fs
    pub led : replay cmp nodes events ≡ Some after

  module _ (after ms : List (List T)) where
    -- all events were applied
    arrived : (ns : List (List T)) (es : List (ChangeEvent T)) → AreCopies cmp C ns ms → AllZip (IsEventClone C) es [] → replay cmp ns es ≡ Some after → AreCopies cmp C after ms
    arrived ns [] copied cloned led = subst (λ r. AreCopies cmp C r ms) (ap (λ o. unwrap_or o ns) led) copied
    arrived ns (e ∷ es) copied cloned led = absurd cloned

    pub at_end : IsOnTheWay after ms [] → AreCopies cmp C after ms
    at_end way = arrived way.nodes way.events way.copied way.cloned way.led

    -- another event
    module _
        (law : (ns ks mid new : List (List T)) (e f : ChangeEvent T) → AreCopies cmp C ns ks → IsEventClone C e f
        → step cmp ns e ≡ Some mid → IsClonedStep cmp C ks (unassigned f) new → AreCopies cmp C mid new)
        (new : List (List T)) (f : ChangeEvent T) (fs : List (ChangeEvent T))
        (made : IsClonedStep cmp C ms (unassigned f) new) where
      stepped : (ns : List (List T)) (es : List (ChangeEvent T)) → AreCopies cmp C ns ms → AllZip (IsEventClone C) es (f ∷ fs) → replay cmp ns es ≡ Some after → IsOnTheWay after new fs
      stepped ns [] copied cloned led = absurd cloned
      stepped ns (e ∷ es) copied cloned led =
          option_and_then_some (λ r. replay cmp r es) (step cmp ns e) after led (λ mid first rest. record {
            nodes = mid;
            events = es;
            copied = law ns ms mid new e f copied cloned.0 first made;
            cloned = cloned.1;
            led = rest;
          })

      pub one_more : IsOnTheWay after ms (f ∷ fs) → IsOnTheWay after new fs
      one_more way = stepped way.nodes way.events way.copied way.cloned way.led
