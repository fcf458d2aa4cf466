-- The events of the commands up to a follower's greatest command number were applied.
use Rattle.std.proofs.Common.{Option, None, Some, ◌≡◌, ◌≢◌, ℕ, zero, suc, ◌≤◌, Bool, true, false, if◌then◌else◌, List, [], ◌∷◌, take, max, refl, sym, subst, arith}
use Rattle.std.proofs.Math.Nat.{le-max_left, max-eq_left, max-eq_right}
use Rattle.std.proofs.lemmas.Bool.{leb-false, leb-true, ltb-false}
use Rattle.std.proofs.lemmas.List.Elements.{All-head, All-tail}
use Rattle.std.specs.List.{All}
use Rattle.std.specs.Option.{option_map_or}
use Rattle.std.specs.Prelude.{nat_le, nat_lt}
use Rattle.indexset_lines.specs.Run.{left_by}
use Rattle.indexset_core.specs.declared.pair.Pair.{Pair}
use Rattle.indexset_follow.specs.Echo.{command_of, done_by}
use Rattle.indexset_follow.specs.EventLine.{Event, event_of}
use Rattle.indexset_follow.specs.Follow.{State, after_event, after_line, after_mark, after_node, start_state, state_after, with_done}
use Rattle.indexset_follow.specs.Known.{IsDoneBy, KnowsDone, TellsDone}
use Rattle.indexset_follow.specs.Leading.{done_after, done_of}
use Rattle.indexset_follow.specs.Mark.{mark_of}
use Rattle.indexset_follow.specs.NodeLine.{node_of}
use Rattle.indexset_follow.specs.Query.{query_of}
use Rattle.indexset_follow.specs.declared.echo.Command.{Command}
use Rattle.indexset_follow.specs.declared.mark.Mark.{Mark}
use Rattle.indexset_follow.specs.declared.mark.Mark.TheVariants.{Start, End, Done}
use Rattle.indexset_follow.specs.declared.reads.query.Query.{Query}
use Rattle.indexset_follow.proofs.Near.{awaits_on}
use Rattle.std.specs.declared.cmp.Ordering.{Ordering}
use Rattle.indexset_wire.specs.Texts.{Texts}

-- ---- the greatest number

-- it never decreases
number_kept : (d : ℕ) (o : Option ℕ) → d ≤ option_map_or (max d) o d
number_kept d None = omega arith
number_kept d (Some n) = le-max_left d n

module _ {T : Type 0} (texts : Texts T) where
  one_kept : (d : ℕ) (line : List ℕ) → d ≤ done_after texts d line
  one_kept d line = at (query_of texts line) (command_of texts line)
    where
      at : (q : Option (Query T)) (o : Option (Command T)) → d ≤ option_map_or (λ q. d) q (option_map_or (done_by d) o d)
      at (Some q) o = omega arith
      at None None = omega arith
      at None (Some c) = number_kept d c.echo

  all_kept : (d : ℕ) (lines : List (List ℕ)) → d ≤ done_of texts d lines
  unfolding left_by
  all_kept d [] = omega arith
  all_kept d (line ∷ lines) = omega (arith, one_kept d line, all_kept (done_after texts d line) lines)

  -- a prefix of the lines has no greater one
  pub beginning_less : (k d : ℕ) (lines : List (List ℕ)) → done_of texts d (take k lines) ≤ done_of texts d lines
  unfolding left_by
  beginning_less zero d lines = all_kept d lines
  beginning_less (suc k) d [] = omega arith
  beginning_less (suc k) d (line ∷ lines) = beginning_less k (done_after texts d line) lines

module _ {T : Type 0} (cmp : T → T → Ordering) (texts : Texts T) where
  -- ---- a follower

  module _ (size : ℕ) (lines : List (List ℕ)) where
    abbrev Knows : State T → Type 0
    Knows = KnowsDone cmp texts size lines

    -- further events were applied
    further : (s after : State T) → after.done ≡ s.done → s.held.next ≤ after.held.next → Knows s → Knows after
    further s after same more known = record {
      place = known.place;
      next = known.next;
      done = subst (λ d. IsDoneBy cmp texts size lines known.place d known.next) (sym same) known.done;
      taken = omega (arith, more, known.taken);
    }

    -- the greater of two such numbers is such a number
    greater : (s : State T) (d n : ℕ) → (k : ℕ) × IsDoneBy cmp texts size lines k d n → n ≤ s.held.next → Knows s → Knows (with_done s d)
    greater s d n told near known = at (nat_le d s.done) refl
      where
        at : (b : Bool) → nat_le d s.done ≡ b → Knows (with_done s d)
        at true le = record {
          place = known.place;
          next = known.next;
          done = subst (λ x. IsDoneBy cmp texts size lines known.place x known.next) (sym (max-eq_left (leb-true d s.done le))) known.done;
          taken = known.taken;
        }
        at false gt = record {
          place = told.0;
          next = n;
          done = subst (λ x. IsDoneBy cmp texts size lines told.0 x n) (sym (max-eq_right (let lt = leb-false d s.done gt in omega (arith, lt)))) told.1;
          taken = near;
        }

    line_known : (s : State T) (line : List ℕ) → TellsDone cmp texts size lines line → Knows s → Knows (after_line cmp texts s line)
    line_known s line tells known = at (event_of texts line) (node_of texts line) (mark_of line) tells.no_end tells.told
      where
        taken : (d n : ℕ) → (k : ℕ) × IsDoneBy cmp texts size lines k d n → (b : Bool) → nat_lt s.held.next n ≡ b → Knows (if b then s else with_done s d)
        taken d n told true missing = known
        taken d n told false near = greater s d n told (ltb-false s.held.next n near) known

        at : (e : Option (Event T)) (n : Option (List (Pair T T))) (m : Option Mark)
            → ((count : ℕ) (sum : Option ℕ) → m ≢ Some (End count sum))
            → ((d n : ℕ) → m ≡ Some (Done d n) → (k : ℕ) × IsDoneBy cmp texts size lines k d n)
            → Knows (option_map_or {U = State T} (after_event cmp s) e (option_map_or (after_node cmp s) n (option_map_or (after_mark texts s) m s)))
        at (Some e) n m no_end told = further s (after_event cmp s e) refl (awaits_on cmp s e) known
        at None (Some n) m no_end told = further s (after_node cmp s n) refl (omega arith) known
        at None None None no_end told = known
        at None None (Some (Start n d)) no_end told = further s (after_mark texts s (Start n d)) refl (omega arith) known
        at None None (Some (End count sum)) no_end told = absurd (no_end count sum refl)
        at None None (Some (Done d n)) no_end told = taken d n (told d n refl) (nat_lt s.held.next n) refl

    pub lines_known : (s : State T) (delivered : List (List ℕ)) → All (TellsDone cmp texts size lines) delivered → Knows s → Knows (state_after cmp texts s delivered)
    unfolding left_by
    lines_known s [] tell known = known
    lines_known s (line ∷ delivered) tell known =
        lines_known (after_line cmp texts s line) delivered
        (All-tail (TellsDone cmp texts size lines) line delivered tell)
        (line_known s line (All-head (TellsDone cmp texts size lines) line delivered tell) known)

    pub none_known : (w : ℕ) → Knows (start_state w)
    unfolding left_by
    none_known w = record { place = 0; next = 0; done = record { done = refl; next = refl }; taken = omega arith }

    pub known_less : (s : State T) → Knows s → s.done ≤ done_of texts 0 lines
    known_less s known = omega (arith, known.done.done, beginning_less texts known.place 0 lines)
