-- The lines of the first program's output that are events are the events of its commands.
use Rattle.std.proofs.Common.{Option, None, Some, ◌≡◌, ℕ, zero, suc, ◌+◌, ◌<◌, ◌≤◌, ◌^◌, Bool, true}
use Rattle.std.proofs.Common.{false, cond, not, List, [], ◌∷◌, ◌++◌, length, filter, slice_get, Ordering}
use Rattle.std.proofs.Common.{refl, ap, sym, ◌∙◌, subst, arith, append_assoc, append-nil, length-append}
use Rattle.std.below.core.specs.declared.int.u64.TheConstants.{MAX}
use Rattle.std.proofs.lemmas.List.Sums.{count_by-le-length}
use Rattle.std.specs.Option.{option_map_or}
use Rattle.std.specs.Ordering.{is_eq, is_gt, is_lt, nat_cmp}
use Rattle.std.specs.declared.cmp.Ordering.TheVariants.{Less, Equal, Greater}
use Rattle.indexset_lines.specs.Run.{left_by, replies_to}
use Rattle.indexset_bench.specs.Command.{FitsU64, meaning}
use Rattle.indexset_lines.specs.Lines.{HasNoEnd, lines_of}
use Rattle.indexset_bench.specs.PairCommand.{pair_meaning}
use Rattle.indexset_bench.specs.PairText.{ended, event_text, lines_for, node_text}
use Rattle.indexset_bench.specs.Pairs.{PairTree, change_reply, pair_reply, pairs_after, reply_ended, told_events}
use Rattle.indexset_bench.specs.Reply.{contents_after, item_reply, reply_text, reply_to}
use Rattle.indexset_bench.specs.Text.{Stores, no_stores, replies_of, reply_line, stores, stores_after, stores_of}
use Rattle.indexset_bench.specs.declared.command.Command.{Command}
use Rattle.indexset_bench.specs.declared.command.Command.TheVariants.{Add, Del, Has, Rank, At, Len}
use Rattle.indexset_bench.specs.declared.pair_command.PairCommand.{PairCommand}
use Rattle.indexset_bench.specs.declared.pair_command.PairCommand.TheVariants.{Put, Cut, Nodes}
use Rattle.indexset_bench.specs.declared.reply.Reply.{Reply}
use Rattle.indexset_bench.specs.declared.reply.Reply.TheVariants.{New, Old, Gone, Yes, No, Nothing, Empty}
use Rattle.indexset_bench.proofs.CallerLemmas.{sound}
use Rattle.indexset_core.specs.Order.{above, below, has_equal, keep, put, unequal}
use Rattle.indexset_core.specs.declared.pair.Pair.{Pair}
use Rattle.indexset_events.specs.Nodes.{is_filled}
use Rattle.indexset_events.proofs.CallerLemmas.{Each, each-append, each_all}
use Rattle.indexset_follow.specs.EventLine.{Event, EventFits, event_of}
use Rattle.indexset_follow.specs.Follow.{State, after_line}
use Rattle.indexset_follow.specs.Passed.{IsPassedOver, ReplyFits}
use Rattle.indexset_follow.specs.Told.{events_from, events_of_lines, line_events, output_lines}
use Rattle.indexset_follow.proofs.EventLines.{event_told, event_whole}
use Rattle.indexset_follow.proofs.Fits.{each_apart}
use Rattle.indexset_follow.proofs.Passing.{node_alone, node_passed}
use Rattle.indexset_follow.proofs.PassedReplies.{reply_passed}
use Rattle.indexset_follow.proofs.Onwards.{Good}
use Rattle.indexset_follow.proofs.Programs.{line_onward, lines_onward, no_good}
use Rattle.indexset_wire.specs.Parts.Laws.{none_some}
use Rattle.indexset_follow.proofs.Snapshots.{first_line, row_lacks}
use Rattle.indexset_bench.specs.Texts.{PairFits}
use Rattle.indexset_wire.specs.Texts.{number_texts, number_tokens}
use Rattle.indexset_follow.proofs.Replies.{change_fits, reply_alone, reply_whole}

-- ---- the events of a text, with any text after it

-- the events of lines in order, without lines that are not events
abbrev pub events_in : List (List ℕ) → List (Event ℕ)
events_in [] = []
events_in (line ∷ lines) = option_map_or (λ e. e ∷ events_in lines) (event_of number_texts line) (events_in lines)

-- the line is an event, or changes no follower
abbrev pub Known : List ℕ → Type 0
Known line = event_of number_texts line ≡ None → (s : State ℕ) → after_line nat_cmp number_texts s line ≡ s

-- the text has these events, with any text after it, and its other lines change no follower
abbrev Tells : List ℕ → List (Event ℕ) → Type 0
Tells text es = (rest : List ℕ) → (events_in (lines_of (text ++ rest)) ≡ es ++ events_in (lines_of rest)) × (Each Known (lines_of rest) → Each Known (lines_of (text ++ rest)))

tells_nothing : (line : List ℕ) → HasNoEnd line → event_of number_texts line ≡ None → IsPassedOver nat_cmp number_texts line → Tells (ended line) []
tells_nothing line none event passed rest =
    let first = first_line line rest none in
    (ap events_in first ∙ rw event refl, λ known. subst (Each Known) (sym first) ((λ e s. (passed s).0), known))

tells_event : (e : Event ℕ) → EventFits number_texts e → Tells (ended (event_text number_texts e)) (e ∷ [])
tells_event e fit rest =
    let told = event_told number_texts number_tokens e fit in
    let first = first_line (event_text number_texts e) rest (event_whole number_texts number_tokens e fit) in
    (ap events_in first ∙ rw told refl, λ known. subst (Each Known) (sym first) ((λ none. none_some e (sym none ∙ told)), known))

tells_both : (a b : List ℕ) (es fs : List (Event ℕ)) → Tells a es → Tells b fs → Tells (a ++ b) (es ++ fs)
tells_both a b es fs first second rest = (
  ap (λ t. events_in (lines_of t)) (append_assoc a b rest) ∙ (first (b ++ rest)).0 ∙ ap (λ l. es ++ l) (second rest).0 ∙ sym (append_assoc es fs (events_in (lines_of rest))),
  λ known. subst (λ t. Each Known (lines_of t)) (sym (append_assoc a b rest)) ((first (b ++ rest)).1 ((second rest).1 known)),
)

tells_none : Tells [] []
tells_none rest = (refl, λ known. known)

tells_events : (es : List (Event ℕ)) → Each (EventFits number_texts) es → Tells (lines_for (event_text number_texts) es) es
tells_events [] fit = tells_none
tells_events (e ∷ es) fit = tells_both (ended (event_text number_texts e)) (lines_for (event_text number_texts) es) (e ∷ []) es (tells_event e fit.0) (tells_events es fit.1)

tells_nodes : (ns : List (List (Pair ℕ ℕ))) → Each (Each (PairFits number_texts)) ns → Tells (lines_for (node_text number_texts) ns) []
tells_nodes [] fit = tells_none
tells_nodes (n ∷ ns) fit =
    tells_both (ended (node_text number_texts n)) (lines_for (node_text number_texts) ns) [] []
    (tells_nothing (node_text number_texts n)
    (row_lacks number_texts number_tokens n (each_all (PairFits number_texts) n fit.0))
    (node_alone number_texts number_tokens n fit.0) (node_passed nat_cmp number_texts number_tokens n fit.0))
    (tells_nodes ns fit.1)

tells_reply : (r : Reply ℕ) → ReplyFits number_texts r → Tells (reply_ended number_texts r) []
tells_reply r fit = tells_nothing (reply_text number_texts r) (reply_whole number_texts number_tokens r fit) (reply_alone number_texts number_tokens r fit) (reply_passed r fit)

-- ---- a command to the map

command_tells : (t : PairTree ℕ) → Good nat_cmp number_texts t → (c : PairCommand ℕ)
    → Each (EventFits number_texts) (told_events nat_cmp t c)
    → Tells (pair_reply nat_cmp number_texts t c) (told_events nat_cmp t c)
command_tells t g (Put k v) fits =
    tells_both (reply_ended number_texts (change_reply nat_cmp t (Put k v)))
    (lines_for (event_text number_texts) (told_events nat_cmp t (Put k v))) [] (told_events nat_cmp t (Put k v))
    (tells_reply (change_reply nat_cmp t (Put k v)) (change_fits nat_cmp number_texts t g (Put k v)))
    (tells_events (told_events nat_cmp t (Put k v)) fits)
command_tells t g (Cut k) fits =
    tells_both (reply_ended number_texts (change_reply nat_cmp t (Cut k)))
    (lines_for (event_text number_texts) (told_events nat_cmp t (Cut k))) [] (told_events nat_cmp t (Cut k))
    (tells_reply (change_reply nat_cmp t (Cut k)) (change_fits nat_cmp number_texts t g (Cut k)))
    (tells_events (told_events nat_cmp t (Cut k)) fits)
command_tells t g Nodes fits = at (is_filled t.nodes)
  where
    at : (b : Bool) → Tells (cond b (lines_for (node_text number_texts) t.nodes) (reply_ended number_texts Empty)) []
    at true = tells_nodes t.nodes (each_apart (PairFits number_texts) t.nodes g.held)
    at false = tells_reply Empty tt

-- ---- a command to the set

-- the numbers of the set have at most 64 bits, and there are at most `count` of them
record Few (count : ℕ) (s : List ℕ) : Type 0 where
  pub small : Each (λ n. n < 2 ^ 64) s
  pub many : length s ≤ count

kept_small : (q : ℕ → Bool) (s : List ℕ) → Each (λ n. n < 2 ^ 64) s → Each (λ n. n < 2 ^ 64) (filter q s)
kept_small q [] h = tt
kept_small q (x ∷ s) h = at (q x) (kept_small q s h.1)
  where
    at : (b : Bool) → Each (λ n. n < 2 ^ 64) (filter q s) → Each (λ n. n < 2 ^ 64) (cond b (x ∷ filter q s) (filter q s))
    at true rest = (h.0, rest)
    at false rest = rest

kept_many : (q : ℕ → Bool) (s : List ℕ) → length (filter q s) ≤ length s
kept_many q [] = omega arith
kept_many q (x ∷ s) = at (q x) (kept_many q s)
  where
    at : (b : Bool) → length (filter q s) ≤ length s → length (cond b (x ∷ filter q s) (filter q s)) ≤ length (x ∷ s)
    at true rest = omega (arith, rest)
    at false rest = omega (arith, rest)

-- no number is both less than and greater than another
parted_many : (v : ℕ) (s : List ℕ) → length (below nat_cmp s v) + length (above nat_cmp s v) ≤ length s
parted_many v [] = omega arith
parted_many v (x ∷ s) = at (nat_cmp x v) (parted_many v s)
  where
    at : (o : Ordering) → length (below nat_cmp s v) + length (above nat_cmp s v) ≤ length s
        → length (cond (is_lt o) (x ∷ below nat_cmp s v) (below nat_cmp s v)) + length (cond (is_gt o) (x ∷ above nat_cmp s v) (above nat_cmp s v)) ≤ length (x ∷ s)
    at Less rest = omega (arith, rest)
    at Equal rest = omega (arith, rest)
    at Greater rest = omega (arith, rest)

added_few : (count n : ℕ) (s : List ℕ) → n < 2 ^ 64 → Few count s → Few (count + 1) (keep nat_cmp s n)
unfolding keep put
added_few count n s small h = at (has_equal nat_cmp s n)
  where
    at : (b : Bool) → Few (count + 1) (cond b s (below nat_cmp s n ++ n ∷ above nat_cmp s n))
    at true = record { small = h.small; many = omega (arith, h.many) }
    at false = record {
      small = each-append (λ n. n < 2 ^ 64) (below nat_cmp s n) (n ∷ above nat_cmp s n) (kept_small _ s h.small) (small, kept_small _ s h.small);
      many = omega (arith, h.many, parted_many n s, length-append (below nat_cmp s n) (n ∷ above nat_cmp s n));
    }

more_few : (count : ℕ) (s : List ℕ) → Few count s → Few (count + 1) s
more_few count s h = record { small = h.small; many = omega (arith, h.many) }

after_few : (count : ℕ) (s : List ℕ) → Few count s → (o : Option Command) → ((c : Command) → o ≡ Some c → FitsU64 c) → Few (count + 1) (contents_after s o)
unfolding unequal
after_few count s h None fit = more_few count s h
after_few count s h (Some (Add n)) fit = added_few count n s (fit (Add n) refl) h
after_few count s h (Some (Del n)) fit = record { small = kept_small _ s h.small; many = let less = kept_many (λ x. not (is_eq (nat_cmp x n))) s in omega (arith, h.many, less) }
after_few count s h (Some (Has n)) fit = more_few count s h
after_few count s h (Some (Rank n)) fit = more_few count s h
after_few count s h (Some (At n)) fit = more_few count s h
after_few count s h (Some Len) fit = more_few count s h

item_fits : (s : List ℕ) (i : ℕ) → Each (λ n. n < 2 ^ 64) s → ReplyFits number_texts (item_reply (slice_get s i))
item_fits [] i h = tt
item_fits (x ∷ s) zero h = h.0
item_fits (x ∷ s) (suc i) h = item_fits s i h.1

set_fits : (count : ℕ) → count < 2 ^ 64 → (s : List ℕ) → Few count s → (o : Option Command) → ReplyFits number_texts (reply_to s o)
set_fits count less s h None = tt
set_fits count less s h (Some (Add n)) = at (has_equal nat_cmp s n)
  where
    at : (b : Bool) → ReplyFits number_texts (cond b Old New)
    at true = tt
    at false = tt
set_fits count less s h (Some (Del n)) = at (has_equal nat_cmp s n)
  where
    at : (b : Bool) → ReplyFits number_texts (cond b Gone Nothing)
    at true = tt
    at false = tt
set_fits count less s h (Some (Has n)) = at (has_equal nat_cmp s n)
  where
    at : (b : Bool) → ReplyFits number_texts (cond b Yes No)
    at true = tt
    at false = tt
set_fits count less s h (Some (Rank n)) = omega (arith, less, h.many, count_by-le-length (λ x. is_lt (nat_cmp x n)) s)
set_fits count less s h (Some (At n)) = item_fits s n h.small
set_fits count less s h (Some Len) = omega (arith, less, h.many)

-- ---- lines

line_few : (count : ℕ) (s : Stores) → Few count s.numbers → (line : List ℕ) → Few (count + 1) (stores_after s line).numbers
line_few count s h line = at (pair_meaning number_texts line)
  where
    at : (o : Option (PairCommand ℕ))
        → Few (count + 1)
        (option_map_or {U = Stores} (λ c. stores s.numbers (pairs_after nat_cmp s.pairs c)) o
        (stores (contents_after s.numbers (meaning line)) s.pairs)).numbers
    at None = after_few count s.numbers h (meaning line) (λ c e. (sound line c e).1)
    at (Some c) = more_few count s.numbers h

line_tells : (count : ℕ) → count < 2 ^ 64 → (s : Stores) → Good nat_cmp number_texts s.pairs → Few count s.numbers
    → (line : List ℕ) → Each (EventFits number_texts) (line_events s line)
    → Tells (reply_line s line) (line_events s line)
line_tells count less s g h line = at (pair_meaning number_texts line)
  where
    at : (o : Option (PairCommand ℕ))
        → Each (EventFits number_texts) (option_map_or {U = List (Event ℕ)} (told_events nat_cmp s.pairs) o [])
        → Tells
        (option_map_or (pair_reply nat_cmp number_texts s.pairs) o
        (reply_ended number_texts (reply_to s.numbers (meaning line))))
        (option_map_or {U = List (Event ℕ)} (told_events nat_cmp s.pairs) o [])
    at None fits = tells_reply (reply_to s.numbers (meaning line)) (set_fits count less s.numbers h (meaning line))
    at (Some c) fits = command_tells s.pairs g c fits

lines_tell : (count : ℕ) (s : Stores) → Good nat_cmp number_texts s.pairs → Few count s.numbers
    → (lines : List (List ℕ)) → count + length lines < 2 ^ 64 → (stores_of s lines).pairs.next ≤ MAX
    → Tells (replies_of s lines) (events_from s lines)
unfolding replies_to left_by events_from
lines_tell count s g h [] many less = tells_none
lines_tell count s g h (line ∷ lines) many less =
    let first = line_onward s g line in
    let onward = lines_onward (stores_after s line) first.good lines in
    tells_both (reply_line s line) (replies_of (stores_after s line) lines) (line_events s line) (events_from (stores_after s line) lines)
    (line_tells count (omega (arith, many)) s g h line (first.fits (omega (arith, less, onward.next))))
    (lines_tell (count + 1) (stores_after s line) first.good (line_few count s h line) lines (omega (arith, many)) less)

-- the lines of the output from the initial state
module _ (lines : List (List ℕ)) (many : length lines < 2 ^ 64) (less : (stores_of no_stores lines).pairs.next < 2 ^ 64) where
  all_tell : Tells (replies_of no_stores lines) (events_of_lines lines)
  all_tell = lines_tell 0 no_stores no_good (record { small = tt; many = omega arith }) lines (omega (arith, many)) (omega (arith, less))

  pub output_tells : events_in (output_lines lines) ≡ events_of_lines lines
  unfolding lines_of
  output_tells = ap (λ t. events_in (lines_of t)) (sym (append-nil (replies_of no_stores lines))) ∙ (all_tell []).0 ∙ append-nil (events_of_lines lines)

  pub output_known : Each Known (output_lines lines)
  unfolding lines_of
  output_known = subst (λ t. Each Known (lines_of t)) (append-nil (replies_of no_stores lines)) ((all_tell []).1 tt)
