-- A follower that starts empty, or from a leader's state, holds lawful nodes and numbers of at most
-- 64 bits after any lines.
use Rattle.std.proofs.Common.{Option, None, Some, IfSome, ◌≡◌, ◌≢◌, ℕ, ◌+◌, ◌==◌, ◌<◌, ◌≤◌, ◌^◌}
use Rattle.std.proofs.Common.{Bool, true, false, max, if◌then◌else◌, List, [], ◌∷◌, ◌++◌, length}
use Rattle.std.proofs.Common.{refl, ap, sym, ◌∙◌, subst, arith, append_assoc, append-nil}
use Rattle.std.below.core.specs.declared.int.u64.TheConstants.{MAX}
use Rattle.std.proofs.Math.Nat.{max-eq_left, max-eq_right}
use Rattle.std.proofs.lemmas.Bool.{eqb-false, leb-false, leb-true}
use Rattle.std.proofs.lemmas.List.Elements.{All-append, All-cons, All-filter, All-head, All-nil, All-tail}
use Rattle.std.specs.List.{All}
use Rattle.std.specs.Option.{option_map, option_map_or}
use Rattle.std.specs.Ordering.{is_eq, is_gt, is_lt, nat_cmp}
use Rattle.std.specs.Prelude.{is_none, nat_le, nat_lt, unwrap_or}
use Rattle.indexset_lines.specs.Lines.{IsWhole, lines_of, whole_lines}
use Rattle.indexset_lines.specs.Run.{left_by}
use Rattle.indexset_lines.proofs.Lines.{IsWhole-end, whole_lines-append}
use Rattle.indexset_core.specs.Nodes.{concat}
use Rattle.indexset_core.specs.Order.{above, below, put}
use Rattle.indexset_core.specs.Pairs.{by_key, has_key, pair, put_value, set_value, valued, set_found}
use Rattle.indexset_core.specs.declared.pair.Pair.{Pair}
use Rattle.indexset_core.specs.declared.refusal.Refusal.{Refusal}
use Rattle.indexset_events.specs.Attach.{attached, nodes_refusal}
use Rattle.indexset_events.specs.Replay.{event_number, step}
use Rattle.indexset_events.proofs.CallerLemmas.{Each, all_each, each_all, follow_lawful, nodes_each, none_lawful}
use Rattle.indexset_replica.specs.Delivery.{delivered}
use Rattle.indexset_replica.specs.Replica.{apply_refusal}
use Rattle.indexset_follow.specs.Copy.{Copy, body_text, copy, end_line, unsummed_text}
use Rattle.indexset_follow.specs.Early.{EarlyEvents, Taken, caught_up, copy_after, first_number, taken, with_early}
use Rattle.indexset_follow.specs.EventLine.{Event, EventFits, event_of}
use Rattle.indexset_follow.specs.Follow.{State, after_event, after_line, after_mark, after_node}
use Rattle.indexset_follow.specs.Follow.{end_reason, event_taken, holding, node_refusal, put_in_place}
use Rattle.indexset_follow.specs.Follow.{start_state, state_after, with_coming, with_done, with_node}
use Rattle.indexset_follow.specs.Leading.{leader_of}
use Rattle.indexset_follow.specs.Mark.{MarkFits, mark_of}
use Rattle.indexset_follow.specs.NodeLine.{NodeFits, node_of}
use Rattle.indexset_bench.specs.Texts.{PairFits}
use Rattle.indexset_wire.specs.Texts.{AreTokens, Texts}
use Rattle.indexset_follow.specs.Store.{can_lead, promoted}
use Rattle.indexset_follow.specs.declared.leader.Leader.{Leader}
use Rattle.indexset_follow.specs.declared.mark.Mark.{Mark}
use Rattle.indexset_follow.specs.declared.mark.Mark.TheVariants.{Start, End, Done}
use Rattle.indexset_follow.specs.declared.reason.Reason.{Reason}
use Rattle.indexset_follow.specs.declared.reason.Reason.TheVariants.{Refused}
use Rattle.indexset_follow.specs.declared.reply.Reply.{Reply}
use Rattle.indexset_follow.specs.declared.reply.Reply.TheVariants as reply
use Rattle.indexset_follow.proofs.EventLines.{event_sound}
use Rattle.indexset_follow.proofs.Fits.{each_apart}
use Rattle.indexset_follow.proofs.MarkLines.{mark_sound}
use Rattle.indexset_follow.proofs.NodeLines.{node_sound}
use Rattle.indexset_follow.proofs.Onwards.{order}
use Rattle.indexset_follow.proofs.Snapshots.{unsummed_taken}
use Rattle.indexset_keep.specs.Leads.{IsSound}
use Rattle.indexset_keep.specs.Sound.{IsSoundCopy, IsSoundFollower}
use Rattle.indexset_keep.proofs.Edited.{Nodes, SoundNodes, attached_sound, each_together, step_sound, ordered}
use Rattle.std.specs.declared.cmp.Ordering.{Ordering}
use Rattle.std.specs.Cmp.{IsTotalOrder}

-- the greater of two 64-bit numbers has 64 bits
pub max_fits : (d n : ℕ) → d < 2 ^ 64 → n < 2 ^ 64 → max d n < 2 ^ 64
max_fits d n first second = at (nat_le n d) refl
  where
    at : (b : Bool) → nat_le n d ≡ b → max d n < 2 ^ 64
    at true le = subst (λ x. x < 2 ^ 64) (sym (max-eq_left (leb-true n d le))) first
    at false gt = subst (λ x. x < 2 ^ 64) (sym (max-eq_right (let lt = leb-false n d gt in omega (arith, lt)))) second

module _ {T : Type 0} (cmp : T → T → Ordering) (texts : Texts T) where
  -- ---- a copy

  -- the property of nodes that the proof of an edit needs
  copy_nodes : (c : Copy T) → IsSoundCopy cmp texts c → SoundNodes cmp texts c.nodes
  copy_nodes c s = record { nodes = s.nodes; fit = each_apart (PairFits texts) c.nodes (all_each (PairFits texts) (concat c.nodes) s.fits) }

  copy_made : (ns : Nodes T) (n : ℕ) → SoundNodes cmp texts ns → n < 2 ^ 64 → IsSoundCopy cmp texts (copy ns n)
  copy_made ns n s small = record { nodes = s.nodes; fits = each_all (PairFits texts) (concat ns) (each_together (PairFits texts) ns s.fit); next = small }

  no_nodes : (n : ℕ) → n < 2 ^ 64 → IsSoundCopy cmp texts (copy [] n)
  no_nodes n small = record { nodes = (none_lawful (order cmp) 2).nodes; fits = All-nil (PairFits texts); next = small }

  pub copy_sound : (l : Leader T) → IsSound cmp texts l → l.pairs.next < 2 ^ 64 → IsSoundCopy cmp texts (copy l.pairs.nodes l.pairs.next)
  copy_sound l s small = record { nodes = s.lawful.nodes; fits = s.fits; next = small }

  -- ---- the awaited event

  step_taken : (c : Copy T) (e : Event T) → EventFits texts e → IsSoundCopy cmp texts c → IsSoundCopy cmp texts (copy_after cmp c e)
  unfolding delivered
  step_taken c e fit s = at (event_number e == c.next) (c.next == MAX) refl (step (order cmp) c.nodes e) (step_sound cmp texts c.nodes (copy_nodes c s).fit e fit)
    where
      at : (b d : Bool) → (c.next == MAX) ≡ d → (o : Option (Nodes T)) → IfSome o (SoundNodes cmp texts)
          → IsSoundCopy cmp texts
          (unwrap_or
          (if b then (if d then None else option_map {U = Copy T} (λ ns. copy ns (c.next + 1)) o) else Some c) c)
      at true true is o made = s
      at true false other None made = s
      at true false other (Some ns) made = let ne = eqb-false c.next MAX other in copy_made ns (c.next + 1) made (omega (arith, s.next, ne))
      at false d is o made = s

module _ {T : Type 0} (texts : Texts T) where
  -- ---- early events

  -- the numbers of an early event have at most 64 bits
  abbrev EarlyFits : Pair ℕ (Event T) → Type 0
  EarlyFits p = EventFits texts p.value

module _ {T : Type 0} (cmp : T → T → Ordering) (texts : Texts T) where
  module _ (n : ℕ) (e : Event T) (new : EventFits texts e) where
    set_fit : (early : EarlyEvents T) → All (EarlyFits texts) early → All (EarlyFits texts) (set_value nat_cmp early n e)
    unfolding set_found
    set_fit [] fit = fit
    set_fit (p ∷ early) fit = at (is_eq (nat_cmp p.key n)) (set_fit early (All-tail (EarlyFits texts) p early fit))
      where
        at : (b : Bool) → All (EarlyFits texts) (set_value nat_cmp early n e) → All (EarlyFits texts) (if b then valued p e ∷ early else p ∷ set_value nat_cmp early n e)
        at true rest = All-cons (EarlyFits texts) (valued p e) early new (All-tail (EarlyFits texts) p early fit)
        at false rest = All-cons (EarlyFits texts) p (set_value nat_cmp early n e) (All-head (EarlyFits texts) p early fit) rest

    put_fit : (early : EarlyEvents T) → All (EarlyFits texts) early → All (EarlyFits texts) (put_value nat_cmp early n e)
    unfolding put_value put
    put_fit early fit = at (has_key nat_cmp early n)
      where
        low : EarlyEvents T
        low = below (by_key nat_cmp) early (pair n e)

        high : EarlyEvents T
        high = above (by_key nat_cmp) early (pair n e)

        at : (b : Bool) → All (EarlyFits texts) (if b then set_value nat_cmp early n e else low ++ pair n e ∷ high)
        at true = set_fit early fit
        at false =
            let first = All-filter (λ p. is_lt (by_key nat_cmp p (pair n e))) (EarlyFits texts) early fit in
            let rest = All-filter (λ p. is_gt (by_key nat_cmp p (pair n e))) (EarlyFits texts) early fit in
            All-append (EarlyFits texts) low (pair n e ∷ high) first (All-cons (EarlyFits texts) (pair n e) high new rest)

  -- the nodes and the early events are sound
  record SoundTaken (t : Taken T) : Type 0 where
    held : IsSoundCopy cmp texts t.held
    early : All (EarlyFits texts) t.early

  caught_sound : (c : Copy T) (early : EarlyEvents T) → IsSoundCopy cmp texts c → All (EarlyFits texts) early → SoundTaken (caught_up cmp c early)
  unfolding caught_up
  caught_sound c [] s fit = record { held = s; early = fit }
  caught_sound c (p ∷ early) s fit =
      by (p.key == c.next) (apply_refusal (order cmp) c.nodes c.next p.value)
      (caught_sound (copy_after cmp c p.value) early (step_taken cmp texts c p.value (All-head (EarlyFits texts) p early fit) s) (All-tail (EarlyFits texts) p early fit))
    where
      by : (b : Bool) (o : Option Refusal) → SoundTaken (caught_up cmp (copy_after cmp c p.value) early)
          → SoundTaken
          (if b
          then
          option_map_or (λ cause. taken c early (reply.Unfit c.next (Refused cause))) o
          (caught_up cmp (copy_after cmp c p.value) early)
          else taken c (p ∷ early) (reply.Next c.next))
      by true None more = more
      by true (Some cause) more = record { held = s; early = All-tail (EarlyFits texts) p early fit }
      by false o more = record { held = s; early = fit }

module _ {T : Type 0} (cmp : T → T → Ordering) (texts : Texts T) (total : IsTotalOrder cmp) where
  -- ---- a line

  module _ (s : State T) (f : IsSoundFollower cmp texts s) where
    same_taken : (answer : Reply) → SoundTaken cmp texts (taken s.held s.early answer)
    same_taken answer = record { held = f.held; early = f.early }

    event_taken_sound : (e : Event T) → EventFits texts e → SoundTaken cmp texts (event_taken cmp s e)
    event_taken_sound e fit = at (event_number e == s.held.next) (nat_lt (event_number e) s.held.next) (nat_le (event_number e) (s.held.next + s.window))
      where
        n : ℕ
        n = event_number e

        at : (a b d : Bool)
            → SoundTaken cmp texts
            (if a then caught_up cmp s.held (pair n e ∷ s.early) else if b
            then taken s.held s.early (reply.Had s.held.next) else if d
            then
            taken s.held (with_early s.early e) (reply.Missing s.held.next (first_number (with_early s.early e) n))
            else taken s.held s.early (reply.Gap s.held.next))
        at true b d = caught_sound cmp texts s.held (pair n e ∷ s.early) f.held (All-cons (EarlyFits texts) (pair n e) s.early fit f.early)
        at false true d = same_taken (reply.Had s.held.next)
        at false false true = record { held = f.held; early = put_fit cmp texts n e fit s.early f.early }
        at false false false = same_taken (reply.Gap s.held.next)

    after_event_sound : (e : Event T) → EventFits texts e → IsSoundFollower cmp texts (after_event cmp s e)
    after_event_sound e fit =
        let t = event_taken_sound e fit in
        record { held = t.held; done = f.done; coming = f.coming; coming_done = f.coming_done; early = t.early }

    with_node_sound : (n : List (Pair T T)) → NodeFits texts n → (c : Copy T) → IsSoundCopy cmp texts c → IsSoundCopy cmp texts (with_node cmp n c)
    with_node_sound n fit c came = at (node_refusal cmp c n) refl
      where
        at : (o : Option Refusal) → node_refusal cmp c n ≡ o → IsSoundCopy cmp texts (if is_none o then copy (attached (order cmp) c.nodes n) c.next else c)
        at None is =
            copy_made cmp texts (attached (order cmp) c.nodes n) c.next
            (attached_sound cmp texts total c.nodes (copy_nodes cmp texts c came) n (all_each (PairFits texts) n fit.1)
            is)
            came.next
        at (Some cause) is = came

    after_node_sound : (n : List (Pair T T)) → NodeFits texts n → IsSoundFollower cmp texts (after_node cmp s n)
    after_node_sound n fit = record { held = f.held; done = f.done; coming = at s.coming f.coming; coming_done = f.coming_done; early = f.early }
      where
        at : (o : Option (Copy T)) → IfSome o (IsSoundCopy cmp texts) → IfSome (option_map (with_node cmp n) o) (IsSoundCopy cmp texts)
        at None came = tt
        at (Some c) came = with_node_sound n fit c came

    coming_sound : (o : Option (Copy T)) (d : ℕ) → IfSome o (IsSoundCopy cmp texts) → d < 2 ^ 64 → IsSoundFollower cmp texts (with_coming s o d)
    coming_sound o d came less = record { held = f.held; done = f.done; coming = came; coming_done = less; early = f.early }

module _ {T : Type 0} (cmp : T → T → Ordering) (texts : Texts T) where
  pub holding_sound : (w d : ℕ) (c : Copy T) → IsSoundCopy cmp texts c → d < 2 ^ 64 → IsSoundFollower cmp texts (holding w c d)
  holding_sound w d c s less = record { held = s; done = less; coming = tt; coming_done = omega arith; early = All-nil (EarlyFits texts) }

  pub start_sound : (w : ℕ) → IsSoundFollower cmp texts (start_state w)
  start_sound w = holding_sound w 0 (copy [] 0) (no_nodes cmp texts 0 (omega arith)) (omega arith)

module _ {T : Type 0} (cmp : T → T → Ordering) (texts : Texts T) (total : IsTotalOrder cmp) where
  after_mark_sound : (s : State T) → IsSoundFollower cmp texts s → (m : Mark) → MarkFits m → IsSoundFollower cmp texts (after_mark texts s m)
  after_mark_sound s f (Start n d) fit = coming_sound cmp texts total s f (Some (copy [] n)) d (no_nodes cmp texts n fit.0) fit.1
  after_mark_sound s f (End count sum) fit = at s.coming f.coming
    where
      whole : (c : Copy T) → IsSoundCopy cmp texts c → (o : Option Reason) → IsSoundFollower cmp texts (if is_none o then holding s.window c s.coming_done else with_coming s None 0)
      whole c came None = holding_sound cmp texts s.window s.coming_done c came f.coming_done
      whole c came (Some reason) = coming_sound cmp texts total s f None 0 tt (omega arith)

      at : (o : Option (Copy T)) → IfSome o (IsSoundCopy cmp texts) → IsSoundFollower cmp texts (option_map_or (put_in_place texts count sum s) o s)
      at None came = f
      at (Some c) came = whole c came (end_reason texts count sum c s.coming_done)
  after_mark_sound s f (Done d n) fit = at (nat_lt s.held.next n)
    where
      at : (b : Bool) → IsSoundFollower cmp texts (if b then s else with_done s d)
      at true = f
      at false = record { held = f.held; done = max_fits s.done d f.done fit.0; coming = f.coming; coming_done = f.coming_done; early = f.early }

module _ {T : Type 0} (cmp : T → T → Ordering) (texts : Texts T) (total : IsTotalOrder cmp) (spelled : AreTokens texts) where
  pub line_sound : (s : State T) (line : List ℕ) → IsSoundFollower cmp texts s → IsSoundFollower cmp texts (after_line cmp texts s line)
  line_sound s line f =
      at (event_of texts line) (λ e is. (event_sound texts spelled line e is).1) (node_of texts line)
      (λ n is. (node_sound texts spelled line n is).1) (mark_of line) (λ m is. (mark_sound line m is).1)
    where
      at : (e : Option (Event T)) → ((x : Event T) → e ≡ Some x → EventFits texts x)
          → (n : Option (List (Pair T T))) → ((x : List (Pair T T)) → n ≡ Some x → NodeFits texts x) → (m : Option Mark)
          → ((x : Mark) → m ≡ Some x → MarkFits x)
          → IsSoundFollower cmp texts (option_map_or {U = State T} (after_event cmp s) e (option_map_or (after_node cmp s) n (option_map_or (after_mark texts s) m s)))
      at (Some e) fit n _ m _ = after_event_sound cmp texts total s f e (fit e refl)
      at None _ (Some n) fit m _ = after_node_sound cmp texts total s f n (fit n refl)
      at None _ None _ (Some m) fit = after_mark_sound cmp texts total s f m (fit m refl)
      at None _ None _ None _ = f

  pub lines_sound : (s : State T) (lines : List (List ℕ)) → IsSoundFollower cmp texts s → IsSoundFollower cmp texts (state_after cmp texts s lines)
  unfolding left_by
  lines_sound s [] f = f
  lines_sound s (line ∷ lines) f = lines_sound (after_line cmp texts s line) lines (line_sound s line f)

module _ {T : Type 0} (cmp : T → T → Ordering) (texts : Texts T) (total : IsTotalOrder cmp) where
  -- ---- a follower that becomes a leader

  pub leader_sound : (size d : ℕ) (c : Copy T) → 2 ≤ size → size < 2 ^ 64 → IsSoundCopy cmp texts c → d < 2 ^ 64 → can_lead cmp size c ≡ true → IsSound cmp texts (leader_of (promoted size c) d)
  leader_sound size d c two few s less can = record {
    two = two;
    few = few;
    lawful = follow_lawful (order cmp) (ordered cmp total) size c.nodes (none (nodes_refusal (order cmp) size c.nodes) can);
    fits = s.fits;
    done = less;
  }
    where
      none : (o : Option Refusal) → is_none o ≡ true → o ≡ None
      none None is = refl
      none (Some cause) is = absurd (cc)

module _ {T : Type 0} (texts : Texts T) where
  -- ---- a snapshot

  filled_fit : (ns : Nodes T) → Each (Each (PairFits texts)) ns → Each (λ n. 1 ≤ length n) ns → Each (NodeFits texts) ns
  filled_fit [] fit filled = tt
  filled_fit (n ∷ ns) fit filled = ((omega (arith, filled.0), each_all (PairFits texts) n fit.0), filled_fit ns fit.1 filled.1)

  snapshot_whole : (c : Copy T) (d : ℕ) → whole_lines (unsummed_text texts c d) ≡ lines_of (unsummed_text texts c d)
  snapshot_whole c d =
      let text = unsummed_text texts c d in
      let front = body_text texts c d in
      let last = end_line c None in
      let end : (front ++ last) ++ 10 ∷ [] ≡ text = append_assoc front last (10 ∷ []) in
      sym (ap whole_lines (append-nil text)) ∙ whole_lines-append [] (All-nil (λ x. x ≢ 10)) text (subst IsWhole end (IsWhole-end (front ++ last)))

module _ {T : Type 0} (cmp : T → T → Ordering) (texts : Texts T) (spelled : AreTokens texts) where
  pub snapshot_leads : (taker : State T) (c : Copy T) (d : ℕ) → IsSoundCopy cmp texts c → d < 2 ^ 64
      → length c.nodes < 2 ^ 64
      → state_after cmp texts taker (whole_lines (unsummed_text texts c d)) ≡ holding taker.window c d
  snapshot_leads taker c d s less few =
      let filled = nodes_each (λ n. 1 ≤ n) c.nodes s.nodes.filled in
      ap (state_after cmp texts taker) (snapshot_whole texts c d)
      ∙ unsummed_taken cmp texts spelled c d s.next less few (each_all (NodeFits texts) c.nodes (filled_fit texts c.nodes (copy_nodes cmp texts c s).fit filled)) taker s.nodes
