-- A follower that reads lines of the first program.
use Rattle.std.proofs.Common.{Option, None, Some, ◌≡◌, inl, ℕ, zero, suc, ◌<◌, ◌≤◌, ◌^◌, cond, List, [], ◌∷◌, length, map, get_or, slice_get, take, is_some, refl, ap, sym, ◌∙◌, subst}
use Rattle.std.proofs.lemmas.Option.{slice_get-get_or}
use Rattle.std.specs.List.{All}
use Rattle.std.specs.Option.{option_map_or}
use Rattle.indexset_lines.specs.Run.{left_by}
use Rattle.indexset_bench.specs.PairText.{event_text}
use Rattle.indexset_bench.specs.Text.{no_stores, stores_of}
use Rattle.indexset_events.proofs.CallerLemmas.{Each, all_each, each_all}
use Rattle.indexset_replica.specs.Delivery.{IsSubsequence}
use Rattle.indexset_follow.specs.Drawn.{AreWithin, HoldsFirst, IsDrawn}
use Rattle.indexset_follow.specs.EventLine.{Event, EventFits, event_of}
use Rattle.indexset_follow.specs.Copy.{copy}
use Rattle.indexset_follow.specs.Follow.{State, after_line, start_state, state_after}
use Rattle.indexset_follow.specs.Told.{IsAmong, event_lines, events_of_lines, output_lines}
use Rattle.indexset_follow.proofs.EventLines.{event_sound, event_told}
use Rattle.indexset_follow.proofs.Output.{Known, events_in, output_known, output_tells}
use Rattle.indexset_follow.proofs.Programs.{follower_begins, follower_ends, follower_holds, same_nodes, told_fit}
use Rattle.indexset_wire.specs.Parts.Laws.{some_inj, none_some}
use Rattle.std.specs.Ordering.{nat_cmp}
use Rattle.indexset_wire.specs.Texts.{number_texts, number_tokens}

-- ---- lists

each_read : {X : Type 0} (Q : X → Type 0) (xs : List X) (p : ℕ) (y : X) → slice_get xs p ≡ Some y → Each Q xs → Q y
each_read Q [] p y e h = none_some y e
each_read Q (x ∷ xs) zero y e h = subst Q (some_inj x y e) h.0
each_read Q (x ∷ xs) (suc p) y e h = each_read Q xs p y e h.1

all_came : {X : Type 0} (xs : List X) → IsSubsequence xs xs
all_came [] = tt
all_came (x ∷ xs) = inl (refl, all_came xs)

all_among : (ls : List (List ℕ)) → All (IsAmong ls) ls
all_among ls k d lt = record { place = k; at = slice_get-get_or ls k d lt }

-- ---- lines that are events

-- the lines that are events are the texts of these events
texts_told : (ls : List (List ℕ)) → event_lines ls ≡ map (event_text number_texts) (events_in ls)
texts_told [] = refl
texts_told (l ∷ ls) = at (event_of number_texts l) (λ e told. (event_sound number_texts number_tokens l e told).0) (texts_told ls)
  where
    at : (o : Option (Event ℕ)) → ((e : Event ℕ) → o ≡ Some e → l ≡ event_text number_texts e) → event_lines ls ≡ map (event_text number_texts) (events_in ls)
        → cond (is_some o) (l ∷ event_lines ls) (event_lines ls) ≡ map (event_text number_texts) (option_map_or (λ e. e ∷ events_in ls) o (events_in ls))
    at None text rest = rest
    at (Some e) text rest = λ i. text e refl i ∷ rest i

-- the event of a line is an element of the events
event_at : (ls : List (List ℕ)) (p : ℕ) (l : List ℕ) (e : Event ℕ) → slice_get ls p ≡ Some l → event_of number_texts l ≡ Some e → (q : ℕ) × (slice_get (events_in ls) q ≡ Some e)
event_at [] p l e at told = none_some l at
event_at (x ∷ ls) zero l e at told =
    let own : event_of number_texts x ≡ Some e = ap (event_of number_texts) (some_inj x l at) ∙ told in
    (0, ap (λ o. slice_get (option_map_or (λ f. f ∷ events_in ls) o (events_in ls)) 0) own)
event_at (x ∷ ls) (suc p) l e at told = behind (event_of number_texts x) (event_at ls p l e at told)
  where
    behind : (o : Option (Event ℕ)) → (q : ℕ) × (slice_get (events_in ls) q ≡ Some e) → (q : ℕ) × (slice_get (option_map_or (λ f. f ∷ events_in ls) o (events_in ls)) q ≡ Some e)
    behind None found = found
    behind (Some f) found = (suc found.0, found.1)

-- a line that is an event is an element of the lines that are events
among_told : (ls : List (List ℕ)) (i : ℕ) (l : List ℕ) (e : Event ℕ) → slice_get ls i ≡ Some l → event_of number_texts l ≡ Some e → IsAmong (event_lines ls) l
among_told [] i l e at told = none_some l at
among_told (x ∷ ls) zero l e at told =
    let own : event_of number_texts x ≡ Some e = ap (event_of number_texts) (some_inj x l at) ∙ told in
    rw own (record { place = 0; at = at })
among_told (x ∷ ls) (suc i) l e at told = behind (event_of number_texts x) (among_told ls i l e at told)
  where
    behind : (o : Option (Event ℕ)) → IsAmong (event_lines ls) l → IsAmong (cond (is_some o) (x ∷ event_lines ls) (event_lines ls)) l
    behind None found = found
    behind (Some f) found = record { place = suc found.place; at = found.at }

text_at : (es : List (Event ℕ)) (p : ℕ) (e : Event ℕ) → slice_get es p ≡ Some e → slice_get (map (event_text number_texts) es) p ≡ Some (event_text number_texts e)
text_at [] p e at = none_some e at
text_at (f ∷ es) zero e at = ap (λ g. Some (event_text number_texts g)) (some_inj f e at)
text_at (f ∷ es) (suc p) e at = text_at es p e at

-- a property of each line that is an event holds for each of the filtered lines
each_told : (Q : List ℕ → Type 0) (ls : List (List ℕ)) → Each (λ l. (e : Event ℕ) → event_of number_texts l ≡ Some e → Q l) ls → Each Q (event_lines ls)
each_told Q [] h = tt
each_told Q (l ∷ ls) h = at (event_of number_texts l) h.0 (each_told Q ls h.1)
  where
    at : (o : Option (Event ℕ)) → ((e : Event ℕ) → o ≡ Some e → Q l) → Each Q (event_lines ls) → Each Q (cond (is_some o) (l ∷ event_lines ls) (event_lines ls))
    at None own rest = rest
    at (Some e) own rest = (own e refl, rest)

-- other lines change nothing
only_told : (r : State ℕ) (ls : List (List ℕ)) → Each Known ls → state_after nat_cmp number_texts r ls ≡ state_after nat_cmp number_texts r (event_lines ls)
unfolding left_by
only_told r [] h = refl
only_told r (l ∷ ls) h = at (event_of number_texts l) (λ none. h.0 none r) (only_told r ls h.1) (only_told (after_line nat_cmp number_texts r l) ls h.1)
  where
    at : (o : Option (Event ℕ)) → (o ≡ None → after_line nat_cmp number_texts r l ≡ r)
        → state_after nat_cmp number_texts r ls ≡ state_after nat_cmp number_texts r (event_lines ls)
        → state_after nat_cmp number_texts (after_line nat_cmp number_texts r l) ls
        ≡ state_after nat_cmp number_texts (after_line nat_cmp number_texts r l) (event_lines ls)
        → state_after nat_cmp number_texts (after_line nat_cmp number_texts r l) ls ≡ state_after nat_cmp number_texts r (cond (is_some o) (l ∷ event_lines ls) (event_lines ls))
    at None still same made = ap (λ q. state_after nat_cmp number_texts q ls) (still refl) ∙ same
    at (Some e) still same made = made

-- lines that are within the window are so without other lines
only_within : (r : State ℕ) (ls : List (List ℕ)) → Each Known ls → AreWithin nat_cmp number_texts r ls → AreWithin nat_cmp number_texts r (event_lines ls)
only_within r [] h within = tt
only_within r (l ∷ ls) h within = at (event_of number_texts l) (λ none. h.0 none r) (only_within r ls h.1) (within.0, only_within (after_line nat_cmp number_texts r l) ls h.1 within.1)
  where
    at : (o : Option (Event ℕ)) → (o ≡ None → after_line nat_cmp number_texts r l ≡ r)
        → (AreWithin nat_cmp number_texts r ls → AreWithin nat_cmp number_texts r (event_lines ls))
        → AreWithin nat_cmp number_texts r (l ∷ event_lines ls)
        → AreWithin nat_cmp number_texts r (cond (is_some o) (l ∷ event_lines ls) (event_lines ls))
    at None still same made = same (subst (λ q. AreWithin nat_cmp number_texts q ls) (still refl) within.1)
    at (Some e) still same made = made

-- ---- delivered lines

module _ (lines : List (List ℕ)) (many : length lines < 2 ^ 64) (less : (stores_of no_stores lines).pairs.next < 2 ^ 64) where
  pub output_texts : event_lines (output_lines lines) ≡ map (event_text number_texts) (events_of_lines lines)
  output_texts = texts_told (output_lines lines) ∙ ap (map (event_text number_texts)) (output_tells lines many less)

  module _ (w : ℕ) (delivered : List (List ℕ)) (among : All (IsAmong (output_lines lines)) delivered) where
    one_drawn : (line : List ℕ) → IsAmong (output_lines lines) line → (e : Event ℕ) → event_of number_texts line ≡ Some e → IsDrawn number_texts (events_of_lines lines) line
    one_drawn line a e told =
        let found = event_at (output_lines lines) a.place line e a.at told in
        record { place = found.0; event = e; at = subst (λ es. slice_get es found.0 ≡ Some e) (output_tells lines many less) found.1; text = (event_sound number_texts number_tokens line e told).0 }

    drawn : All (IsDrawn number_texts (events_of_lines lines)) (event_lines delivered)
    drawn =
        each_all (IsDrawn number_texts (events_of_lines lines)) (event_lines delivered)
        (each_told (IsDrawn number_texts (events_of_lines lines)) delivered
        (all_each _ delivered (λ k d lt. one_drawn (get_or delivered k d) (among k d lt))))

    all_known : Each Known delivered
    all_known = all_each Known delivered (λ k d lt. let a = among k d lt in each_read Known (output_lines lines) a.place (get_or delivered k d) a.at (output_known lines many less))

    told_alone : state_after nat_cmp number_texts (start_state w) delivered ≡ state_after nat_cmp number_texts (start_state w) (event_lines delivered)
    told_alone = only_told (start_state w) delivered all_known

    pub delivered_begins : (k : ℕ) × HoldsFirst nat_cmp 0 [] (events_of_lines lines) k (state_after nat_cmp number_texts (start_state w) delivered)
    delivered_begins =
        let held = follower_begins lines less w (event_lines delivered) drawn in
        (held.0, subst (HoldsFirst nat_cmp 0 [] (events_of_lines lines) held.0) (sym told_alone) held.1)

    pub delivered_same : (n : ℕ)
        → (state_after nat_cmp number_texts (start_state w) delivered).held.next
        ≡ (stores_of no_stores (take n lines)).pairs.next
        → (state_after nat_cmp number_texts (start_state w) delivered).held.nodes
        ≡ (stores_of no_stores (take n lines)).pairs.nodes
    delivered_same n same = ap (λ r. r.held.nodes) told_alone ∙ same_nodes lines less w (event_lines delivered) drawn n (sym (ap (λ r. r.held.next) told_alone) ∙ same)

    pub delivered_whole : IsSubsequence (event_lines (output_lines lines)) (event_lines delivered)
        → (state_after nat_cmp number_texts (start_state w) delivered).held
        ≡ copy (stores_of no_stores lines).pairs.nodes (stores_of no_stores lines).pairs.next
    delivered_whole came = ap (λ r. r.held) told_alone ∙ follower_ends lines less w (event_lines delivered) drawn (subst (λ ls. IsSubsequence ls (event_lines delivered)) output_texts came)

    pub delivered_within : AreWithin nat_cmp number_texts (start_state w) delivered
        → All (IsAmong delivered) (event_lines (output_lines lines))
        → (state_after nat_cmp number_texts (start_state w) delivered).held
        ≡ copy (stores_of no_stores lines).pairs.nodes (stores_of no_stores lines).pairs.next
    delivered_within within came = ap (λ r. r.held) told_alone ∙ follower_holds lines less w (event_lines delivered) drawn (only_within (start_state w) delivered all_known within) there
      where
        there : (p : ℕ) (e : Event ℕ) → 0 ≤ p → slice_get (events_of_lines lines) p ≡ Some e → IsAmong (event_lines delivered) (event_text number_texts e)
        there p e le at =
            let told : event_of number_texts (event_text number_texts e) ≡ Some e =
            event_told number_texts number_tokens e
            (each_read (EventFits number_texts) (events_of_lines lines) p
            e at (all_each (EventFits number_texts) (events_of_lines lines) (told_fit lines less))) in
            let text : slice_get (event_lines (output_lines lines)) p ≡ Some (event_text number_texts e) = ap (λ ls. slice_get ls p) output_texts ∙ text_at (events_of_lines lines) p e at in
            let among = each_read (IsAmong delivered) (event_lines (output_lines lines)) p (event_text number_texts e) text (all_each (IsAmong delivered) (event_lines (output_lines lines)) came) in
            among_told delivered among.place (event_text number_texts e) e among.at told

  pub delivered_piped : (w : ℕ) → (state_after nat_cmp number_texts (start_state w) (output_lines lines)).held ≡ copy (stores_of no_stores lines).pairs.nodes (stores_of no_stores lines).pairs.next
  delivered_piped w = delivered_whole w (output_lines lines) (all_among (output_lines lines)) (all_came (event_lines (output_lines lines)))
