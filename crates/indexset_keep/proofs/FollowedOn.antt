-- Replaying the lines that a follower keeps gives its state.
use Rattle.std.proofs.Common.{Option, None, Some, ◌≡◌, ◌≢◌, ℕ, suc, ◌+◌, ◌-◌, ◌<◌, ◌≤◌, ◌^◌, ◌==◌, Bool, true, false}
use Rattle.std.proofs.Common.{if◌then◌else◌, List, [], ◌∷◌, ◌++◌, length, map, take, refl, ap, sym, subst, ◌∙◌, arith}
use Rattle.std.below.core.specs.declared.int.u64.TheConstants.{MAX}
use Rattle.std.proofs.lemmas.Bool.{eq-eqb, eqb-true, ne_eqb}
use Rattle.std.proofs.lemmas.List.Elements.{All-cons, All-head, All-tail}
use Rattle.std.specs.List.{All}
use Rattle.std.specs.Option.{option_map_or}
use Rattle.std.specs.Prelude.{IfSome, is_none, nat_le, nat_lt, not}
use Rattle.indexset_lines.specs.Lines.{whole_lines}
use Rattle.indexset_lines.specs.Run.{left_by}
use Rattle.indexset_lines.proofs.CallerLemmas.{left_by-append}
use Rattle.indexset_bench.specs.PairText.{event_text}
use Rattle.indexset_core.proofs.CallerLemmas.{pairs_total, some_held}
use Rattle.indexset_core.specs.Pairs.{pair}
use Rattle.indexset_core.specs.declared.pair.Pair.{Pair}
use Rattle.indexset_core.specs.declared.refusal.Refusal.{Refusal}
use Rattle.indexset_events.specs.Nodes.{are_nodes}
use Rattle.indexset_events.specs.Replay.{edit, event_number, step, step_plain, unassigned}
use Rattle.indexset_wire.specs.Parts.Laws.{none_some, some_inj, then_some}
use Rattle.indexset_events.proofs.CallerLemmas.{Ruled, nodes_ruled, tested_ruled}
use Rattle.indexset_replica.specs.Delivery.{delivered}
use Rattle.indexset_replica.specs.Replica.{apply_refusal}
use Rattle.indexset_replica.proofs.StepLemmas.{refusal_law}
use Rattle.indexset_follow.specs.Copy.{Copy, copy, unsummed_text}
use Rattle.indexset_follow.specs.Early.{EarlyEvents, caught_up, consecutive, copy_after, first_number, taken, with_early}
use Rattle.indexset_follow.specs.EventLine.{Event, EventFits, event_of}
use Rattle.indexset_follow.specs.Follow.{State, after_event, after_line, after_mark, after_node, has_sum, event_taken, holding, put_in_place, state_after, with_coming, with_done}
use Rattle.indexset_follow.specs.Mark.{mark_line, mark_of}
use Rattle.indexset_follow.specs.NodeLine.{node_of}
use Rattle.indexset_follow.specs.declared.mark.Mark.{Mark}
use Rattle.indexset_follow.specs.declared.mark.Mark.TheVariants.{Start, End, Done}
use Rattle.indexset_follow.specs.declared.reason.Reason.{Reason}
use Rattle.indexset_follow.specs.declared.reason.Reason.TheVariants.{Refused, Count, Sum}
use Rattle.indexset_follow.specs.declared.reply.Reply.{Reply}
use Rattle.indexset_follow.specs.declared.reply.Reply.TheVariants as reply
use Rattle.indexset_follow.proofs.EventLines.{event_sound}
use Rattle.indexset_follow.proofs.MarkLines.{done_cut, end_cut, mark_sound, start_cut}
use Rattle.indexset_follow.proofs.Onwards.{order}
use Rattle.indexset_keep.specs.Followed.{end_kept, event_kept, line_kept, mark_kept}
use Rattle.indexset_keep.specs.Sound.{IsSoundCopy, IsSoundFollower}
use Rattle.indexset_keep.proofs.Onward.{one_taken}
use Rattle.indexset_keep.proofs.Soundness.{snapshot_leads}
use Rattle.std.specs.declared.cmp.Ordering.{Ordering}
use Rattle.indexset_wire.specs.Texts.{AreTokens, Texts}
use Rattle.std.specs.Cmp.{IsTotalOrder}

module _ {T : Type 0} (cmp : T → T → Ordering) where
  -- ---- a step

  -- a step preserves the order of the nodes
  step_ruled : (ns after : List (List (Pair T T))) (e : Event T) → step (order cmp) ns e ≡ Some after → Ruled (order cmp) after
  unfolding step_plain
  step_ruled ns after e made =
      let edited = then_some (edit (order cmp) ns (unassigned e)) (λ r. if are_nodes (order cmp) r then Some r else None) after made in
      at edited.0 (are_nodes (order cmp) edited.0) refl edited.2
    where
      at : (r : List (List (Pair T T))) (b : Bool) → are_nodes (order cmp) r ≡ b → (if b then Some r else None) ≡ Some after → Ruled (order cmp) after
      at r true is e = subst (Ruled (order cmp)) (some_inj r after e) (tested_ruled (order cmp) r is)
      at r false is e = none_some after e

  -- the awaited event is applied if it has a successor number
  made : (c : Copy T) (e : Event T) (after : List (List (Pair T T))) → event_number e ≡ c.next → c.next ≢ MAX → step (order cmp) c.nodes e ≡ Some after → copy_after cmp c e ≡ copy after (c.next + 1)
  unfolding delivered
  made c e after number more is = rw (eq-eqb (event_number e) c.next number, ne_eqb c.next MAX more, is) refl

module _ {T : Type 0} (cmp : T → T → Ordering) (total : IsTotalOrder cmp) where
  -- an event for which no refusal is found is applied
  stepped : (c : Copy T) (e : Event T) → Ruled (order cmp) c.nodes
      → apply_refusal (order cmp) c.nodes c.next e ≡ None
      → ((copy_after cmp c e).next ≡ c.next + 1) × Ruled (order cmp) (copy_after cmp c e).nodes
  stepped c e rule fits =
      let law = (refusal_law (order cmp) c.nodes c.next e (pairs_total cmp total) rule).0 fits in
      let after = some_held (step (order cmp) c.nodes e) law.2 in
      subst (λ (t : Copy T). (t.next ≡ c.next + 1) × Ruled (order cmp) t.nodes) (sym (made cmp c e after.0 law.0 law.1 after.1)) (refl, step_ruled cmp c.nodes after.0 e after.1)

module _ {T : Type 0} (cmp : T → T → Ordering) (texts : Texts T) where
  -- ---- steps

  -- replaying as many of the events as the next number increases by gives the second copy from the
  -- first
  abbrev StepsTo : ℕ → Copy T → List (Event T) → Copy T → Type 0
  StepsTo d c es t = (c.next ≤ t.next) × (state_after cmp texts (holding 0 c d) (map (event_text texts) (take (t.next - c.next) es)) ≡ holding 0 t d)

  stays : (d : ℕ) (c : Copy T) (es : List (Event T)) → StepsTo d c es c
  unfolding left_by
  stays d c es =
      let none : 0 ≡ c.next - c.next = omega arith in
      (omega arith, subst (λ k. state_after cmp texts (holding 0 c d) (map (event_text texts) (take k es)) ≡ holding 0 c d) none refl)

module _ {T : Type 0} (cmp : T → T → Ordering) (texts : Texts T) (spelled : AreTokens texts) where
  steps : (d : ℕ) (c t : Copy T) (e : Event T) (es : List (Event T)) → EventFits texts e
      → (copy_after cmp c e).next ≡ c.next + 1 → StepsTo cmp texts d (copy_after cmp c e) es t
      → StepsTo cmp texts d c (e ∷ es) t
  unfolding left_by
  steps d c t e es fit next more =
      let first = more.0 in
      let count : suc (t.next - (copy_after cmp c e).next) ≡ t.next - c.next = omega (arith, next, first) in (
        omega (arith, next, first),
        subst (λ k. state_after cmp texts (holding 0 c d) (map (event_text texts) (take k (e ∷ es))) ≡ holding 0 t d) count
            (ap (λ r. state_after cmp texts r (map (event_text texts) (take (t.next - (copy_after cmp c e).next) es))) (one_taken cmp texts spelled c d e fit) ∙ more.1),
      )

module _ {T : Type 0} (cmp : T → T → Ordering) (texts : Texts T) (total : IsTotalOrder cmp) (spelled : AreTokens texts) where
  -- the events that are applied one after another
  caught : (d : ℕ) (c : Copy T) (early : EarlyEvents T) → Ruled (order cmp) c.nodes
      → All (λ p. EventFits texts p.value) early
      → StepsTo cmp texts d c (consecutive c.next early) (caught_up cmp c early).held
  unfolding caught_up
  caught d c [] rule fit = stays cmp texts d c []
  caught d c (p ∷ early) rule fit =
      by (p.key == c.next) (apply_refusal (order cmp) c.nodes c.next p.value) refl
      (λ fits. caught d (copy_after cmp c p.value) early (stepped cmp total c p.value rule fits).1 (All-tail (λ p. EventFits texts p.value) p early fit))
    where
      by : (b : Bool) (o : Option Refusal) → apply_refusal (order cmp) c.nodes c.next p.value ≡ o
          → (apply_refusal (order cmp) c.nodes c.next p.value ≡ None
          → StepsTo cmp texts d (copy_after cmp c p.value) (consecutive (copy_after cmp c p.value).next early)
          (caught_up cmp (copy_after cmp c p.value) early).held)
          → StepsTo cmp texts d c (if b then p.value ∷ consecutive (c.next + 1) early else [])
          (if b then option_map_or (λ cause. taken c early (reply.Unfit c.next (Refused cause))) o (caught_up cmp (copy_after cmp c p.value) early) else taken c (p ∷ early) (reply.Next c.next)).held
      by true None fits more =
          let next = (stepped cmp total c p.value rule fits).0 in
          steps cmp texts spelled d c (caught_up cmp (copy_after cmp c p.value) early).held p.value (consecutive (c.next + 1) early) (All-head (λ p. EventFits texts p.value) p early fit) next
          (subst (λ n. StepsTo cmp texts d (copy_after cmp c p.value) (consecutive n early) (caught_up cmp (copy_after cmp c p.value) early).held) next (more fits))
      by true (Some cause) refused more = stays cmp texts d c (p.value ∷ consecutive (c.next + 1) early)
      by false o is more = stays cmp texts d c []

  -- ---- an event

  module _ (s : State T) (rule : Ruled (order cmp) s.held.nodes) (fit : All (λ p. EventFits texts p.value) s.early) (e : Event T) (fits : EventFits texts e) where
    abbrev begun : State T
    begun = holding 0 s.held s.done

    in_turn : (event_number e == s.held.next) ≡ true → state_after cmp texts begun (event_kept cmp texts s e) ≡ holding 0 (after_event cmp s e).held s.done
    in_turn is =
        let due = pair (event_number e) e ∷ s.early in
        let chosen : event_taken cmp s e ≡ caught_up cmp s.held due = rw is refl in
        let kept : event_kept cmp texts s e ≡ map (event_text texts) (take ((event_taken cmp s e).held.next - s.held.next) (consecutive s.held.next due)) = rw is refl in
        let all = caught s.done s.held due rule (All-cons (λ p. EventFits texts p.value) (pair (event_number e) e) s.early fits fit) in
        ap (state_after cmp texts begun) kept
        ∙ subst (λ t. state_after cmp texts begun (map (event_text texts) (take (t.held.next - s.held.next) (consecutive s.held.next due))) ≡ holding 0 t.held s.done) (sym chosen) all.1

    out_of_turn : (event_number e == s.held.next) ≡ false → state_after cmp texts begun (event_kept cmp texts s e) ≡ holding 0 (after_event cmp s e).held s.done
    unfolding left_by
    out_of_turn other =
        let kept : event_kept cmp texts s e ≡ [] = rw other refl in
        let still : s.held ≡ (event_taken cmp s e).held =
        rw other
        (same (nat_lt (event_number e) s.held.next) (nat_le (event_number e) (s.held.next + s.window)) s.held
        s.early (with_early s.early e) (reply.Had s.held.next)
        (reply.Missing s.held.next (first_number (with_early s.early e) (event_number e)))
        (reply.Gap s.held.next)) in
        ap (state_after cmp texts begun) kept ∙ ap (λ c. holding 0 c s.done) still
      where
        same : (a b : Bool) (c : Copy T) (x y : EarlyEvents T) (p q r : Reply) → c ≡ (if a then taken c x p else if b then taken c y q else taken c x r).held
        same true b c x y p q r = refl
        same false true c x y p q r = refl
        same false false c x y p q r = refl

    event_on : state_after cmp texts begun (event_kept cmp texts s e) ≡ holding 0 (after_event cmp s e).held s.done
    event_on = at (event_number e == s.held.next) refl
      where
        at : (b : Bool) → (event_number e == s.held.next) ≡ b → state_after cmp texts begun (event_kept cmp texts s e) ≡ holding 0 (after_event cmp s e).held s.done
        at true is = in_turn is
        at false other = out_of_turn other

module _ {T : Type 0} (texts : Texts T) where
  -- ---- a mark

  mark_is_no_node : (m : Mark) → node_of texts (mark_line m) ≡ None
  mark_is_no_node (Start n d) = rw (start_cut n d) refl
  mark_is_no_node (End count sum) = rw (end_cut count sum) refl
  mark_is_no_node (Done d n) = rw (done_cut d n) refl

  no_node : (line : List ℕ) (m : Mark) → mark_of line ≡ Some m → node_of texts line ≡ None
  no_node line m is = ap (node_of texts) (mark_sound line m is).0 ∙ mark_is_no_node m

-- the reason to refuse the end of a snapshot, from whether its count and its sum are right
abbrev reason_by : Bool → Bool → Option Reason
reason_by count sum = if not count then Some Count else if not sum then Some Sum else None

module _ {T : Type 0} (cmp : T → T → Ordering) (texts : Texts T) (total : IsTotalOrder cmp) (spelled : AreTokens texts) where
  module _ (s : State T) (sound : IsSoundFollower cmp texts s) where
    -- the line takes the replayed state and the finished commands to this state
    abbrev GoesTo : List (List ℕ) → State T → Type 0
    GoesTo kept t = state_after cmp texts (holding 0 s.held s.done) kept ≡ holding 0 t.held t.done

    end_on : (count : ℕ) (sum : Option ℕ) → count < 2 ^ 64 → (o : Option (Copy T)) → IfSome o (IsSoundCopy cmp texts)
        → GoesTo (option_map_or (end_kept texts count sum s.coming_done) o []) (option_map_or (put_in_place texts count sum s) o s)
    unfolding left_by
    end_on count sum few None none = refl
    end_on count sum few (Some c) good = at (length c.nodes == count) refl (has_sum texts sum c s.coming_done)
      where
        at : (a : Bool) → (length c.nodes == count) ≡ a → (b : Bool)
            → GoesTo (if is_none (reason_by a b) then whole_lines (unsummed_text texts c s.coming_done) else [])
            (if is_none (reason_by a b) then holding s.window c s.coming_done else with_coming s None 0)
        at false other b = refl
        at true is false = refl
        at true is true = snapshot_leads cmp texts spelled (holding 0 s.held s.done) c s.coming_done good sound.coming_done (omega (arith, few, eqb-true (length c.nodes) count is))

    done_on : (line : List ℕ) (d n : ℕ) → event_of texts line ≡ None → mark_of line ≡ Some (Done d n) → GoesTo (mark_kept texts s line (Done d n)) (after_mark texts s (Done d n))
    unfolding left_by
    done_on line d n event mark = at (nat_lt s.held.next n) refl
      where
        at : (b : Bool) → nat_lt s.held.next n ≡ b → GoesTo (if b then [] else line ∷ []) (if b then s else with_done s d)
        at true is = refl
        at false near = let node = no_node texts line (Done d n) mark in rw (event, node, mark, near) refl

    mark_on : (line : List ℕ) (m : Mark) → event_of texts line ≡ None → mark_of line ≡ Some m → GoesTo (mark_kept texts s line m) (after_mark texts s m)
    unfolding left_by
    mark_on line (Start n d) event mark = refl
    mark_on line (End count sum) event mark = end_on count sum (mark_sound line (End count sum) mark).1.0 s.coming sound.coming
    mark_on line (Done d n) event mark = done_on line d n event mark

    line_on : (line : List ℕ) → GoesTo (line_kept cmp texts s line) (after_line cmp texts s line)
    unfolding left_by
    line_on line = at (event_of texts line) refl (node_of texts line) refl (mark_of line) refl
      where
        at : (e : Option (Event T)) → event_of texts line ≡ e → (n : Option (List (Pair T T))) → node_of texts line ≡ n → (m : Option Mark) → mark_of line ≡ m
            → GoesTo (option_map_or {U = List (List ℕ)} (event_kept cmp texts s) e (option_map_or {U = List (List ℕ)} (mark_kept texts s line) m []))
            (option_map_or {U = State T} (after_event cmp s) e (option_map_or {U = State T} (after_node cmp s) n (option_map_or {U = State T} (after_mark texts s) m s)))
        at (Some e) is n node m mark = event_on cmp texts total spelled s (nodes_ruled (order cmp) s.held.nodes sound.held.nodes) sound.early e (event_sound texts spelled line e is).1
        at None event None node None mark = refl
        at None event (Some n) node None mark = refl
        at None event None node (Some m) mark = mark_on line m event mark
        at None event (Some n) node (Some m) mark = none_some n (sym (no_node texts line m mark) ∙ node)

  -- if replaying some lines gives the state, replaying those kept of a line after them gives the
  -- next state
  pub followed_on : (s : State T) (line : List ℕ) → IsSoundFollower cmp texts s → (b : State T) (kept : List (List ℕ)) → state_after cmp texts b kept ≡ holding 0 s.held s.done
      → state_after cmp texts b (kept ++ line_kept cmp texts s line) ≡ holding 0 (after_line cmp texts s line).held (after_line cmp texts s line).done
  followed_on s line sound b kept leads =
      left_by-append (after_line cmp texts) b kept (line_kept cmp texts s line) ∙ ap (λ r. state_after cmp texts r (line_kept cmp texts s line)) leads ∙ line_on s sound line
