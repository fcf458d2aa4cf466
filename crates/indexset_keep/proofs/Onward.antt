-- A follower that reads the answers of a leader has the leader's state.
use Rattle.std.proofs.Common.{None, Some, Option, ◌≡◌, ℕ, zero, suc, ◌<◌, ◌≤◌, ◌^◌, max, List, [], ◌∷◌, length, map, get_or, refl, ap, sym, subst, ◌∙◌, arith, inl, append-nil}
use Rattle.std.proofs.Math.Nat.{le-max_left, max-eq_right}
use Rattle.std.proofs.lemmas.Bool.{le-ltb}
use Rattle.std.proofs.lemmas.List.{take_all}
use Rattle.std.specs.List.{All}
use Rattle.std.specs.Option.{option_map_or}
use Rattle.std.specs.Prelude.{is_some, slice_get}
use Rattle.indexset_lines.specs.Run.{left_by}
use Rattle.indexset_lines.specs.Lines.{whole_lines}
use Rattle.indexset_bench.specs.PairCommand.{CommandFits}
use Rattle.indexset_bench.specs.PairText.{event_text}
use Rattle.indexset_bench.specs.Pairs.{PairTree, pairs_after, told_events}
use Rattle.indexset_core.specs.Nodes.{concat}
use Rattle.indexset_events.specs.Replay.{replay}
use Rattle.indexset_wire.specs.Parts.Laws.{some_inj}
use Rattle.indexset_events.proofs.CallerLemmas.{Each, all_each, each_all, none_lawful}
use Rattle.indexset_log.specs.Tree.{fresh}
use Rattle.indexset_replica.specs.Delivery.{IsSubsequence}
use Rattle.indexset_follow.specs.Copy.{Copy, copy}
use Rattle.indexset_follow.specs.Drawn.{HoldsFirst, IsDrawn, IsFeedOfPairs}
use Rattle.indexset_follow.specs.Early.{copy_after}
use Rattle.indexset_follow.specs.Echo.{command_of, done_by}
use Rattle.indexset_follow.specs.EventLine.{Event, EventFits}
use Rattle.indexset_follow.specs.Follow.{State, after_line, event_taken, holding, state_after, with_taken}
use Rattle.indexset_follow.specs.Leading.{after_leading, command_text, done_after, events_led, leader_after, leader_of, leading_events, leading_reply, tree_of}
use Rattle.indexset_follow.specs.Mark.{mark_line}
use Rattle.indexset_follow.specs.NodeLine.{node_of}
use Rattle.indexset_bench.specs.Texts.{PairFits}
use Rattle.indexset_wire.specs.Texts.{AreTokens, Texts}
use Rattle.indexset_follow.specs.Query.{query_of}
use Rattle.indexset_follow.specs.Reads.{query_text}
use Rattle.indexset_follow.specs.Reply.{others_text}
use Rattle.indexset_follow.specs.declared.echo.Command.{Command}
use Rattle.indexset_follow.specs.declared.leader.Leader.{Leader}
use Rattle.indexset_follow.specs.declared.mark.Mark.TheVariants.{Done}
use Rattle.indexset_follow.specs.declared.others.Others.{Others}
use Rattle.indexset_follow.specs.declared.reads.query.Query.{Query}
use Rattle.indexset_follow.proofs.Drawing.{whole}
use Rattle.indexset_follow.proofs.Echoes.{command_fits}
use Rattle.indexset_follow.proofs.EventLines.{event_told}
use Rattle.indexset_follow.proofs.Leads.{leading_onward, lines_led}
use Rattle.indexset_follow.proofs.MarkLines.{done_cut, mark_told}
use Rattle.indexset_follow.proofs.NoWindow.{alone}
use Rattle.indexset_follow.proofs.Onwards.{Good, order}
use Rattle.indexset_keep.specs.Leads.{IsSound}
use Rattle.indexset_keep.specs.Told.{answer_kept, told_lines}
use Rattle.indexset_keep.proofs.Soundness.{max_fits}
use Rattle.indexset_keep.proofs.States.{more_lines, nothing_after}
use Rattle.indexset_keep.proofs.Told.{EchoFits, command_keeps, done_alone, done_lines, number_fits, others_keep}
use Rattle.std.specs.declared.cmp.Ordering.{Ordering}
use Rattle.std.specs.Cmp.{IsTotalOrder}

module _ {T : Type 0} (cmp : T → T → Ordering) (texts : Texts T) where
  -- ---- a sound leader

  pub good : (l : Leader T) → IsSound cmp texts l → Good cmp texts l.pairs
  good l s = record { two = s.two; few = s.few; lawful = s.lawful; held = all_each (PairFits texts) (concat l.pairs.nodes) s.fits }

  sound : (l : Leader T) → Good cmp texts l.pairs → l.done < 2 ^ 64 → IsSound cmp texts l
  sound l g known = record { two = g.two; few = g.few; lawful = g.lawful; fits = each_all (PairFits texts) (concat l.pairs.nodes) g.held; done = known }

  pub begins : (size : ℕ) → 2 ≤ size → size < 2 ^ 64 → IsSound cmp texts (leader_of (fresh size) 0)
  begins size two few = sound (leader_of (fresh size) 0) (record { two = two; few = few; lawful = none_lawful (order cmp) size; held = tt }) (omega arith)

pub number_kept : (d : ℕ) → d < 2 ^ 64 → (echo : Option ℕ) → EchoFits echo → option_map_or (max d) echo d < 2 ^ 64
number_kept d known None fit = known
number_kept d known (Some n) fit = max_fits d n known fit

module _ {T : Type 0} (texts : Texts T) where
  done_kept : (d : ℕ) → d < 2 ^ 64 → (line : List ℕ) → done_after texts d line < 2 ^ 64
  done_kept d known line = at (query_of texts line) (command_of texts line) (number_fits texts line)
    where
      at : (q : Option (Query T)) (o : Option (Command T)) → ((c : Command T) → o ≡ Some c → EchoFits c.echo) → option_map_or (λ q. d) q (option_map_or (done_by d) o d) < 2 ^ 64
      at (Some q) o fit = known
      at None None fit = known
      at None (Some c) fit = number_kept d known c.echo (fit c refl)

module _ {T : Type 0} (cmp : T → T → Ordering) (texts : Texts T) (total : IsTotalOrder cmp) (spelled : AreTokens texts) where
  pub line_sound : (l : Leader T) (line : List ℕ) → IsSound cmp texts l → IsSound cmp texts (leader_after cmp texts l line)
  line_sound l line s = sound cmp texts (leader_after cmp texts l line) (leading_onward cmp texts total spelled l.pairs (good cmp texts l s) line).good (done_kept texts l.done s.done line)

-- ---- the lines of events

in_order : {X : Type 0} (xs : List X) → IsSubsequence xs xs
in_order [] = tt
in_order (x ∷ xs) = inl (refl, in_order xs)

module _ {T : Type 0} (texts : Texts T) where
  text_at : (es : List (Event T)) (k : ℕ) (d : List ℕ) → k < length (map (event_text texts) es)
      → (e : Event T) × (slice_get es k ≡ Some e) × (get_or (map (event_text texts) es) k d ≡ event_text texts e)
  text_at [] k d lt = absurd (omega (arith, lt))
  text_at (e ∷ es) zero d lt = (e, refl, refl)
  text_at (e ∷ es) (suc k) d lt = text_at es k d (omega (arith, lt))

  own_texts : (es : List (Event T)) → All (IsDrawn texts es) (map (event_text texts) es)
  own_texts es k d lt = let it = text_at es k d lt in record { place = k; event = it.0; at = it.1; text = it.2 }

module _ {T : Type 0} (cmp : T → T → Ordering) (texts : Texts T) (spelled : AreTokens texts) where
  -- a follower without a window applies the event of a line, and holds no early event
  pub one_taken : (c : Copy T) (n : ℕ) (e : Event T) → EventFits texts e → after_line cmp texts (holding 0 c n) (event_text texts e) ≡ holding 0 (copy_after cmp c e) n
  one_taken c n e fit =
      let told = event_told texts spelled e fit in
      let it = alone cmp (holding 0 c n) e refl refl in
      rw told (λ i. with_taken (holding 0 c n) (record { held = it.1 i; early = it.0 i; reply = (event_taken cmp (holding 0 c n) e).reply }))

  nothing_besides : (c : Copy T) (n : ℕ) (es : List (Event T)) → Each (EventFits texts) es
      → state_after cmp texts (holding 0 c n) (map (event_text texts) es)
      ≡ holding 0 (state_after cmp texts (holding 0 c n) (map (event_text texts) es)).held n
  unfolding left_by
  nothing_besides c n [] fit = refl
  nothing_besides c n (e ∷ es) fit =
      let one = one_taken c n e fit.0 in
      ap (λ r. state_after cmp texts r (map (event_text texts) es)) one
      ∙ nothing_besides (copy_after cmp c e) n es fit.1
      ∙ ap (λ r. holding 0 (state_after cmp texts r (map (event_text texts) es)).held n) (sym one)

module _ {T : Type 0} where
  -- a follower's copy of a tree
  abbrev copied : PairTree T → Copy T
  copied t = copy t.nodes t.next

module _ {T : Type 0} (cmp : T → T → Ordering) (texts : Texts T) (total : IsTotalOrder cmp) (spelled : AreTokens texts) where
  module _ (l : Leader T) (s : IsSound cmp texts l) (lines : List (List ℕ)) (less : (tree_of cmp texts l.pairs lines).next < 2 ^ 64) where
    abbrev events : List (Event T)
    events = events_led cmp texts l.pairs lines

    abbrev begun : State T
    begun = holding 0 (copied l.pairs) l.done

    first_held : (state_after cmp texts begun (map (event_text texts) events)).held ≡ copied (tree_of cmp texts l.pairs lines)
    first_held =
        let on = lines_led cmp texts total spelled l.pairs (good cmp texts l s) lines in
        let fit : All (EventFits texts) events = each_all (EventFits texts) events (on.fits (omega (arith, less))) in
        let feed : IsFeedOfPairs cmp l.pairs.next l.pairs.nodes events = record { numbered = on.numbered; defined = ap is_some on.replayed; fits = omega (arith, on.next, less) } in
        let at : HoldsFirst cmp l.pairs.next l.pairs.nodes events 0 begun = record { within = omega arith; nodes = refl; next = omega arith } in
        let done =
        whole cmp texts spelled l.pairs.next l.pairs.nodes events feed fit 0 begun
        (map (event_text texts) events) at tt (own_texts texts events) (in_order (map (event_text texts) events)) in
        let nodes : (state_after cmp texts begun (map (event_text texts) events)).held.nodes
        ≡ (tree_of cmp texts l.pairs lines).nodes =
        some_inj _ _
        (sym done.nodes ∙ ap (replay (order cmp) l.pairs.nodes) (take_all (length events) events (omega arith))
        ∙ on.replayed) in
        let next : (state_after cmp texts begun (map (event_text texts) events)).held.next ≡ (tree_of cmp texts l.pairs lines).next = omega (arith, done.next, on.next) in
        λ i. copy (nodes i) (next i)

    pub onward : state_after cmp texts begun (map (event_text texts) events) ≡ holding 0 (copied (tree_of cmp texts l.pairs lines)) l.done
    onward =
        let fit = (lines_led cmp texts total spelled l.pairs (good cmp texts l s) lines).fits (omega (arith, less)) in
        nothing_besides cmp texts spelled (copied l.pairs) l.done events fit ∙ ap (λ c. holding 0 c l.done) first_held

module _ {T : Type 0} (cmp : T → T → Ordering) (texts : Texts T) where
  -- ---- one line

  one_led : (l : Leader T) (line : List ℕ) → events_led cmp texts l.pairs (line ∷ []) ≡ leading_events cmp texts l.pairs line
  unfolding events_led
  one_led l line = append-nil (leading_events cmp texts l.pairs line)

  one_left : (l : Leader T) (line : List ℕ) → tree_of cmp texts l.pairs (line ∷ []) ≡ after_leading cmp texts l.pairs line
  unfolding left_by
  one_left l line = refl

module _ {T : Type 0} where
  -- the state of a follower that has read all answers of the leader
  abbrev followed : Leader T → State T
  followed l = holding 0 (copied l.pairs) l.done

module _ {T : Type 0} (cmp : T → T → Ordering) (texts : Texts T) (total : IsTotalOrder cmp) (spelled : AreTokens texts) where
  -- the events of a line
  events_onward : (l : Leader T) → IsSound cmp texts l → (line : List ℕ)
      → (after_leading cmp texts l.pairs line).next < 2 ^ 64
      → state_after cmp texts (followed l) (map (event_text texts) (leading_events cmp texts l.pairs line))
      ≡ holding 0 (copied (after_leading cmp texts l.pairs line)) l.done
  events_onward l s line less =
      let left = one_left cmp texts l line in
      ap (λ es. state_after cmp texts (followed l) (map (event_text texts) es)) (sym (one_led cmp texts l line))
      ∙ onward cmp texts total spelled l s (line ∷ []) (subst (λ t. t.next < 2 ^ 64) (sym left) less)
      ∙ ap (λ t. holding 0 (copied t) l.done) left

-- taking the greater of two command numbers twice changes nothing
max_twice : (d n : ℕ) → max d (max d n) ≡ max d n
max_twice d n = max-eq_right (le-max_left d n)

module _ {T : Type 0} (cmp : T → T → Ordering) (texts : Texts T) where
  -- a follower that awaits the event of a `done` line accepts the line
  done_taken : (t : PairTree T) (d n : ℕ) → max d n < 2 ^ 64 → t.next < 2 ^ 64 → after_line cmp texts (holding 0 (copied t) d) (mark_line (Done (max d n) t.next)) ≡ holding 0 (copied t) (max d n)
  done_taken t d n small less =
      let event = done_alone texts (max d n) t.next in
      let mark = mark_told (Done (max d n) t.next) (small, less) in
      let cut = done_cut (max d n) t.next in
      let node : node_of texts (mark_line (Done (max d n) t.next)) ≡ None = rw cut refl in
      let near = le-ltb t.next t.next (omega arith) in
      rw (event, node, mark, near) (ap (holding 0 (copied t)) (max_twice d n))

module _ {T : Type 0} (cmp : T → T → Ordering) (texts : Texts T) (total : IsTotalOrder cmp) (spelled : AreTokens texts) where
  done_onward : (t : PairTree T) (d : ℕ) (echo : Option ℕ) → EchoFits echo → d < 2 ^ 64 → t.next < 2 ^ 64
      → state_after cmp texts (holding 0 (copied t) d) (done_lines echo (option_map_or (max d) echo d) t.next) ≡ holding 0 (copied t) (option_map_or (max d) echo d)
  unfolding left_by
  done_onward t d None fit small less = refl
  done_onward t d (Some n) fit small less = done_taken cmp texts t d n (max_fits d n small fit) less

  -- the answer to a command
  command_leads : (l : Leader T) → IsSound cmp texts l → (line : List ℕ) (c : Command T)
      → CommandFits texts c.change → EchoFits c.echo
      → leading_events cmp texts l.pairs line ≡ told_events cmp l.pairs c.change
      → after_leading cmp texts l.pairs line ≡ pairs_after cmp l.pairs c.change
      → (pairs_after cmp l.pairs c.change).next < 2 ^ 64
      → state_after cmp texts (followed l) (told_lines texts (whole_lines (command_text cmp texts l c)))
      ≡ holding 0 (copied (pairs_after cmp l.pairs c.change)) (done_by l.done c)
  command_leads l s line c fit small told after less =
      let t = pairs_after cmp l.pairs c.change in
      let events = map (event_text texts) (told_events cmp l.pairs c.change) in
      let done = done_lines c.echo (done_by l.done c) t.next in
      let known = number_kept l.done s.done c.echo small in
      let on : state_after cmp texts (followed l) events ≡ holding 0 (copied t) l.done
      = ap (λ es. state_after cmp texts (followed l) (map (event_text texts) es)) (sym told)
      ∙ events_onward cmp texts total spelled l s line (subst (λ u. u.next < 2 ^ 64) (sym after) less)
      ∙ ap (λ u. holding 0 (copied u) l.done) after in
      ap (state_after cmp texts (followed l)) (command_keeps cmp texts total spelled l (good cmp texts l s) c fit small known (omega (arith, less)))
      ∙ more_lines cmp texts (followed l) events done
      ∙ ap (λ r. state_after cmp texts r done) on
      ∙ done_onward t l.done c.echo small s.done less

  pub line_leads : (o : Others) (l : Leader T) → IsSound cmp texts l → (line : List ℕ)
      → (after_leading cmp texts l.pairs line).next < 2 ^ 64
      → state_after cmp texts (followed l) (answer_kept texts line (leading_reply cmp texts o l line))
      ≡ followed (leader_after cmp texts l line)
  line_leads o l s line less = at (query_of texts line) refl (command_of texts line) refl
    where
      at : (q : Option (Query T)) → query_of texts line ≡ q → (m : Option (Command T)) → command_of texts line ≡ m
          → state_after cmp texts (followed l)
          (option_map_or {U = List (List ℕ)} (λ q. []) q
          (told_lines texts
          (whole_lines
          (option_map_or {U = List ℕ} (query_text cmp texts l.pairs.nodes l.pairs.next l.done) q
          (option_map_or {U = List ℕ} (command_text cmp texts l) m (others_text o))))))
          ≡ holding 0
          (copied
          (option_map_or {U = PairTree T} (λ q. l.pairs) q
          (option_map_or {U = PairTree T} (λ c. pairs_after cmp l.pairs c.change) m l.pairs)))
          (option_map_or (λ q. l.done) q (option_map_or (done_by l.done) m l.done))
      at (Some q) asked m is = nothing_after cmp texts (followed l)
      at None asked None is = ap (state_after cmp texts (followed l)) (others_keep texts o) ∙ nothing_after cmp texts (followed l)
      at None asked (Some c) is =
          let after : after_leading cmp texts l.pairs line ≡ pairs_after cmp l.pairs c.change = rw (asked, is) refl in
          let told : leading_events cmp texts l.pairs line ≡ told_events cmp l.pairs c.change = rw (asked, is) refl in
          command_leads l s line c (command_fits texts spelled line c is) (number_fits texts line c is) told after (subst (λ u. u.next < 2 ^ 64) after less)
