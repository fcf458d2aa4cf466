-- Replaying the events of the first program gives its nodes.
use Rattle.std.proofs.Common.{Option, None, Some, ◌≡◌, ℕ, ◌<◌, ◌≤◌, ◌^◌, List, [], ◌∷◌, ◌++◌, length, map, drop, slice_get, take, refl, ap, sym, ◌∙◌, arith, append_assoc}
use Rattle.std.proofs.Math.Seq.{take-append_seam}
use Rattle.std.proofs.lemmas.Cmp.{nat_cmp_total}
use Rattle.std.proofs.lemmas.List.{take-append-drop, take_all}
use Rattle.std.specs.List.{All}
use Rattle.std.specs.Option.{option_map_or}
use Rattle.std.specs.Ordering.{nat_cmp}
use Rattle.std.specs.Prelude.{is_some}
use Rattle.indexset_lines.specs.Run.{left_by}
use Rattle.indexset_bench.specs.PairCommand.{CommandFits, pair_meaning}
use Rattle.indexset_bench.specs.PairText.{event_text}
use Rattle.indexset_bench.specs.Pairs.{pairs_after, told_events}
use Rattle.indexset_bench.specs.Command.{meaning}
use Rattle.indexset_bench.specs.Reply.{contents_after}
use Rattle.indexset_bench.specs.Text.{Stores, no_stores, stores, stores_after, stores_of}
use Rattle.indexset_bench.specs.declared.pair_command.PairCommand.{PairCommand}
use Rattle.indexset_bench.proofs.CallerLemmas.{pair_sound}
use Rattle.indexset_core.specs.Pairs.{by_key}
use Rattle.indexset_events.specs.Replay.{replay, IsNumberedFrom}
use Rattle.indexset_events.proofs.CallerLemmas.{each_all, none_lawful}
use Rattle.indexset_replica.specs.Delivery.{IsSubsequence}
use Rattle.indexset_follow.specs.Drawn.{AreWithin, HoldsFirst, IsDrawn, IsFeedOfPairs}
use Rattle.indexset_follow.specs.EventLine.{Event, EventFits}
use Rattle.indexset_follow.specs.Copy.{copy}
use Rattle.indexset_follow.specs.Follow.{start_state, state_after}
use Rattle.indexset_follow.specs.Told.{IsAmong, events_from, events_of_lines, line_events}
use Rattle.indexset_follow.proofs.Drawing.{beginning, whole}
use Rattle.indexset_follow.proofs.Within.{all_held}
use Rattle.indexset_wire.specs.Parts.Laws.{some_inj}
use Rattle.indexset_follow.proofs.Onwards.{Good, Onward, both_onward, command_onward, still}
use Rattle.indexset_wire.specs.Texts.{number_texts, number_tokens}

-- ---- lines

pub line_onward : (s : Stores) → Good nat_cmp number_texts s.pairs → (line : List ℕ) → Onward nat_cmp number_texts s.pairs (stores_after s line).pairs (line_events s line)
line_onward s g line = at (pair_meaning number_texts line) (λ c told. (pair_sound number_texts number_tokens line c told).1)
  where
    at : (o : Option (PairCommand ℕ)) → ((c : PairCommand ℕ) → o ≡ Some c → CommandFits number_texts c)
        → Onward nat_cmp number_texts s.pairs
        (option_map_or {U = Stores} (λ c. stores s.numbers (pairs_after nat_cmp s.pairs c)) o
        (stores (contents_after s.numbers (meaning line)) s.pairs)).pairs
        (option_map_or {U = List (Event ℕ)} (told_events nat_cmp s.pairs) o [])
    at None fit = still nat_cmp number_texts s.pairs g
    at (Some c) fit = command_onward nat_cmp number_texts nat_cmp_total s.pairs g c (fit c refl)

pub lines_onward : (s : Stores) → Good nat_cmp number_texts s.pairs → (lines : List (List ℕ)) → Onward nat_cmp number_texts s.pairs (stores_of s lines).pairs (events_from s lines)
unfolding left_by events_from
lines_onward s g [] = still nat_cmp number_texts s.pairs g
lines_onward s g (line ∷ lines) =
    let first = line_onward s g line in
    both_onward nat_cmp number_texts s.pairs (stores_after s line).pairs
    (stores_of (stores_after s line) lines).pairs (line_events s line) (events_from (stores_after s line) lines)
    first (lines_onward (stores_after s line) first.good lines)

-- the events of a prefix of the lines are a prefix of the events
pub events_part : (s : Stores) (front back : List (List ℕ)) → events_from s (front ++ back) ≡ events_from s front ++ events_from (stores_of s front) back
unfolding left_by events_from
events_part s [] back = refl
events_part s (line ∷ front) back =
    ap (λ l. line_events s line ++ l) (events_part (stores_after s line) front back)
    ∙ sym (append_assoc (line_events s line) (events_from (stores_after s line) front) (events_from (stores_of (stores_after s line) front) back))

pub no_good : Good nat_cmp number_texts no_stores.pairs
no_good = record {
  two = omega arith;
  few = omega arith;
  lawful = none_lawful (by_key nat_cmp) 4;
  held = tt;
}

-- ---- a follower

-- the events of the lines, and the state of the program after them
module _ (lines : List (List ℕ)) where
  told : Onward nat_cmp number_texts no_stores.pairs (stores_of no_stores lines).pairs (events_of_lines lines)
  told = lines_onward no_stores no_good lines

  pub told_numbered : IsNumberedFrom 0 (events_of_lines lines)
  told_numbered = told.numbered

  pub told_replayed : replay (by_key nat_cmp) [] (events_of_lines lines) ≡ Some (stores_of no_stores lines).pairs.nodes
  told_replayed = told.replayed

  pub told_count : (stores_of no_stores lines).pairs.next ≡ length (events_of_lines lines)
  told_count = omega (arith, told.next)

  pub told_first : (n : ℕ) → take (length (events_of_lines (take n lines))) (events_of_lines lines) ≡ events_of_lines (take n lines)
  told_first n =
      let parts : events_of_lines lines
      ≡ events_of_lines (take n lines) ++ events_from (stores_of no_stores (take n lines)) (drop n lines) =
      ap events_of_lines (sym (take-append-drop n lines)) ∙ events_part no_stores (take n lines) (drop n lines) in
      ap (take (length (events_of_lines (take n lines)))) parts ∙ take-append_seam (events_of_lines (take n lines)) (events_from (stores_of no_stores (take n lines)) (drop n lines))

  module _ (less : (stores_of no_stores lines).pairs.next < 2 ^ 64) where
    pub told_fit : All (EventFits number_texts) (events_of_lines lines)
    told_fit = each_all (EventFits number_texts) (events_of_lines lines) (told.fits (omega (arith, less)))

    pub told_feed : IsFeedOfPairs nat_cmp 0 [] (events_of_lines lines)
    told_feed = record { numbered = told.numbered; defined = ap is_some told.replayed; fits = omega (arith, told_count, less) }

    start : (w : ℕ) → HoldsFirst nat_cmp 0 [] (events_of_lines lines) 0 (start_state w)
    start w = record { within = omega arith; nodes = refl; next = omega arith }

    module _ (w : ℕ) (delivered : List (List ℕ)) (drawn : All (IsDrawn number_texts (events_of_lines lines)) delivered) where
      pub follower_begins : (k : ℕ) × HoldsFirst nat_cmp 0 [] (events_of_lines lines) k (state_after nat_cmp number_texts (start_state w) delivered)
      follower_begins = let held = beginning nat_cmp number_texts number_tokens 0 [] (events_of_lines lines) told_feed told_fit 0 (start_state w) delivered (start w) tt drawn in (held.0, held.1)

      -- a follower that applied k events, and the program after lines that emitted as many
      pub same_nodes : (n : ℕ)
          → (state_after nat_cmp number_texts (start_state w) delivered).held.next
          ≡ (stores_of no_stores (take n lines)).pairs.next
          → (state_after nat_cmp number_texts (start_state w) delivered).held.nodes
          ≡ (stores_of no_stores (take n lines)).pairs.nodes
      same_nodes n same =
          let at = follower_begins in
          let front = lines_onward no_stores no_good (take n lines) in
          let count : at.0 ≡ length (events_of_lines (take n lines)) = omega (arith, at.1.next, same, front.next) in
          let first : take at.0 (events_of_lines lines) ≡ events_of_lines (take n lines) = ap (λ k. take k (events_of_lines lines)) count ∙ told_first n in
          some_inj _ _ (sym at.1.nodes ∙ ap (replay (by_key nat_cmp) []) first ∙ front.replayed)

      -- a follower that applied all events has the program's nodes
      at_end : HoldsFirst nat_cmp 0 [] (events_of_lines lines) (length (events_of_lines lines))
          (state_after nat_cmp number_texts (start_state w) delivered)
          → (state_after nat_cmp number_texts (start_state w) delivered).held
          ≡ copy (stores_of no_stores lines).pairs.nodes (stores_of no_stores lines).pairs.next
      at_end at =
          let nodes : (state_after nat_cmp number_texts (start_state w) delivered).held.nodes
          ≡ (stores_of no_stores lines).pairs.nodes =
          some_inj _ _
          (sym at.nodes
          ∙ ap (replay (by_key nat_cmp) [])
          (take_all (length (events_of_lines lines)) (events_of_lines lines) (omega arith))
          ∙ told.replayed) in
          let next : (state_after nat_cmp number_texts (start_state w) delivered).held.next ≡ (stores_of no_stores lines).pairs.next = omega (arith, at.next, told_count) in
          λ i. copy (nodes i) (next i)

      pub follower_ends : IsSubsequence (map (event_text number_texts) (events_of_lines lines)) delivered
          → (state_after nat_cmp number_texts (start_state w) delivered).held
          ≡ copy (stores_of no_stores lines).pairs.nodes (stores_of no_stores lines).pairs.next
      follower_ends came = at_end (whole nat_cmp number_texts number_tokens 0 [] (events_of_lines lines) told_feed told_fit 0 (start_state w) delivered (start w) tt drawn came)

      pub follower_holds : AreWithin nat_cmp number_texts (start_state w) delivered
          → ((p : ℕ) (e : Event ℕ) → 0 ≤ p → slice_get (events_of_lines lines) p ≡ Some e
          → IsAmong delivered (event_text number_texts e))
          → (state_after nat_cmp number_texts (start_state w) delivered).held
          ≡ copy (stores_of no_stores lines).pairs.nodes (stores_of no_stores lines).pairs.next
      follower_holds within came = at_end (all_held nat_cmp number_texts number_tokens 0 [] (events_of_lines lines) told_feed told_fit 0 (start_state w) delivered refl (start w) drawn within came)
