-- The events that a leader emitted before a crash are a prefix of those that give the state after
-- recovery.
use Rattle.std.proofs.Common.{◌≡◌, ℕ, ◌<◌, ◌^◌, List, [], ◌∷◌, ◌++◌, length, refl, ap, sym, ◌∙◌, arith}
use Rattle.std.proofs.lemmas.List.{append_assoc, take_all}
use Rattle.std.specs.List.{All}
use Rattle.std.specs.Cmp.{IsTotalOrder}
use Rattle.std.specs.declared.cmp.Ordering.{Ordering}
use Rattle.std.specs.Prelude.{is_some}
use Rattle.indexset_core.specs.Pairs.{by_key}
use Rattle.indexset_events.specs.Replay.{replay}
use Rattle.indexset_events.proofs.CallerLemmas.{each_all}
use Rattle.indexset_lines.specs.Run.{left_by}
use Rattle.indexset_bench.specs.Pairs.{PairTree}
use Rattle.indexset_wire.specs.Texts.{AreTokens, Texts}
use Rattle.indexset_follow.specs.Copy.{copy}
use Rattle.indexset_follow.specs.Drawn.{HoldsFirst, IsDrawn, IsFeedOfPairs}
use Rattle.indexset_follow.specs.EventLine.{Event, EventFits}
use Rattle.indexset_follow.specs.Follow.{State, holding, state_after}
use Rattle.indexset_follow.specs.Leading.{after_leading, events_led, leader_of, leading_events, tree_of}
use Rattle.indexset_follow.specs.declared.leader.Leader.{Leader}
use Rattle.indexset_follow.specs.declared.role.Role.TheVariants.{Leading}
use Rattle.indexset_follow.proofs.Drawing.{beginning}
use Rattle.indexset_follow.proofs.Leads.{lines_led}
use Rattle.indexset_follow.proofs.Onwards.{Onward}
use Rattle.indexset_keep.specs.Leads.{IsSound}
use Rattle.indexset_keep.specs.Roles.{settled}
use Rattle.indexset_keep.proofs.Onward.{good}

module _ {T : Type 0} (cmp : T → T → Ordering) (texts : Texts T) where
  pub events_part : (t : PairTree T) (front back : List (List ℕ)) → events_led cmp texts t (front ++ back) ≡ events_led cmp texts t front ++ events_led cmp texts (tree_of cmp texts t front) back
  unfolding left_by events_led
  events_part t [] back = refl
  events_part t (line ∷ front) back =
      ap (λ l. leading_events cmp texts t line ++ l) (events_part (after_leading cmp texts t line) front back)
      ∙ sym
      (append_assoc (leading_events cmp texts t line) (events_led cmp texts (after_leading cmp texts t line) front)
      (events_led cmp texts (tree_of cmp texts (after_leading cmp texts t line) front) back))

module _ {T : Type 0} (cmp : T → T → Ordering) (texts : Texts T) (total : IsTotalOrder cmp) (spelled : AreTokens texts) where
  module _ (l : Leader T) (lines : List (List ℕ)) (sound : IsSound cmp texts l) where
    abbrev told : List (Event T)
    told = events_led cmp texts l.pairs lines

    onward : Onward cmp texts l.pairs (tree_of cmp texts l.pairs lines) told
    onward = lines_led cmp texts total spelled l.pairs (good cmp texts l sound) lines

    pub found : (d : ℕ) → HoldsFirst cmp l.pairs.next l.pairs.nodes told (length told) (settled (Leading (leader_of (tree_of cmp texts l.pairs lines) d)))
    found d = record {
      within = omega arith;
      nodes = ap (replay (by_key cmp) l.pairs.nodes) (take_all (length told) told (omega arith)) ∙ onward.replayed;
      next = onward.next;
    }

    module _ (less : (tree_of cmp texts l.pairs lines).next < 2 ^ 64) where
      pub feed : IsFeedOfPairs cmp l.pairs.next l.pairs.nodes told
      feed = record {
        numbered = onward.numbered;
        defined = ap is_some onward.replayed;
        fits = omega (arith, less, onward.next);
      }

      pub follows : (w d : ℕ) (delivered : List (List ℕ)) → All (IsDrawn texts told) delivered
          → (k : ℕ) × HoldsFirst cmp l.pairs.next l.pairs.nodes told k (state_after cmp texts (holding w (copy l.pairs.nodes l.pairs.next) d) delivered)
      follows w d delivered drawn =
          let first : State T = holding w (copy l.pairs.nodes l.pairs.next) d in
          let fits : All (EventFits texts) told = each_all (EventFits texts) told (onward.fits (omega (arith, less))) in
          let none : HoldsFirst cmp l.pairs.next l.pairs.nodes told 0 first = record { within = omega arith; nodes = refl; next = omega arith } in
          let after = beginning cmp texts spelled l.pairs.next l.pairs.nodes told feed fits 0 first delivered none tt drawn in
          (after.0, after.1)
