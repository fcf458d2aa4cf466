-- The lines of an answer that are kept.
use Rattle.std.proofs.Common.{Option, None, Some, ◌≡◌, ◌≢◌, ℕ, ◌<◌, ◌≤◌, ◌^◌, Bool, true, false, cond, eqb, List, [], ◌∷◌, ◌++◌, map, refl, ap, sym, subst, ◌∙◌, arith, append_assoc, append-nil}
use lib.Chars.{codes}
use Rattle.std.below.core.specs.declared.int.u64.TheConstants.{MAX}
use Rattle.std.proofs.lemmas.List.Elements.{All-append, All-cons, All-nil}
use Rattle.std.specs.Fmt.{decimal}
use Rattle.std.specs.Option.{option_and_then, option_map, option_map_or}
use Rattle.std.specs.Str.{bytes_eq}
use Rattle.indexset_lines.specs.Lines.{HasNoEnd, IsWhole, lines_of, whole_lines}
use Rattle.indexset_lines.proofs.Lines.{IsWhole-end, whole_lines-append}
use Rattle.indexset_bench.specs.PairCommand.{CommandFits, pair_meaning}
use Rattle.indexset_bench.specs.PairText.{ended, event_text, lines_for, node_text, pair_text}
use Rattle.indexset_bench.specs.Pairs.{PairTree, change_reply, echo_text, pair_reply, pairs_after, reply_ended, told_events}
use Rattle.indexset_bench.specs.Reply.{reply_text}
use Rattle.indexset_bench.specs.declared.pair_command.PairCommand.{PairCommand}
use Rattle.indexset_bench.specs.declared.pair_command.PairCommand.TheVariants.{Put, Cut, Nodes}
use Rattle.indexset_bench.specs.declared.reply.Reply.{Reply}
use Rattle.indexset_bench.specs.declared.reply.Reply.TheVariants.{New, Old, OldValue, Gone, GoneValue, Yes, No, Count, Item, Nothing, Empty, Bad}
use Rattle.indexset_core.specs.declared.pair.Pair.{Pair}
use Rattle.indexset_events.specs.Nodes.{is_filled}
use Rattle.indexset_wire.specs.Numbers.{number_of}
use Rattle.indexset_wire.specs.Parts.{cut_at}
use Rattle.indexset_wire.specs.Numbers.Laws.{number_lacks, number_sound}
use Rattle.indexset_wire.specs.Parts.Laws.{Lacks, cut_told, lacks_tested, map_some, none_some, some_inj, then_some}
use Rattle.indexset_events.proofs.CallerLemmas.{Each, each_all}
use Rattle.indexset_follow.specs.Echo.{change_of, command, command_of, done_by, echo_of, echoed_of}
use Rattle.indexset_follow.specs.EventLine.{Event, EventFits, event_of}
use Rattle.indexset_follow.specs.Leading.{command_text, done_text}
use Rattle.indexset_follow.specs.Mark.{mark_line, mark_of}
use Rattle.indexset_bench.specs.Texts.{PairFits}
use Rattle.indexset_wire.specs.Texts.{AreTokens, Texts}
use Rattle.indexset_follow.specs.Passed.{ReplyFits}
use Rattle.indexset_follow.specs.Reply.{others_text}
use Rattle.indexset_follow.specs.declared.echo.Command.{Command}
use Rattle.indexset_follow.specs.declared.leader.Leader.{Leader}
use Rattle.indexset_follow.specs.declared.mark.Mark.TheVariants.{Done}
use Rattle.indexset_follow.specs.declared.others.Others.{Others}
use Rattle.indexset_follow.specs.declared.others.Others.TheVariants.{Tell, Pass}
use Rattle.indexset_follow.proofs.EventLines.{event_told, event_whole}
use Rattle.indexset_follow.proofs.Fits.{each_apart}
use Rattle.indexset_follow.proofs.MarkLines.{done_cut, mark_told}
use Rattle.indexset_follow.proofs.Replies.{change_fits, reply_alone, reply_whole}
use Rattle.indexset_follow.proofs.Passing.{node_alone, pair_no_word, uncut}
use Rattle.indexset_follow.proofs.Onwards.{Good, command_onward}
use Rattle.indexset_follow.proofs.Readings.{no_number, pair_lacks, space_apart}
use Rattle.indexset_follow.proofs.Snapshots.{first_line, row_lacks}
use Rattle.indexset_bench.proofs.CallerLemmas.{space_lacks}
use Rattle.indexset_keep.specs.Told.{is_told, told_lines}
use Rattle.std.specs.declared.cmp.Ordering.{Ordering}
use Rattle.std.specs.Cmp.{IsTotalOrder}

module _ {T : Type 0} (texts : Texts T) where
  -- ---- what is kept of a text, with any text after it

  -- these lines of the text are kept
  abbrev Keeps : List ℕ → List (List ℕ) → Type 0
  Keeps text ls = (rest : List ℕ) → told_lines texts (lines_of (text ++ rest)) ≡ ls ++ told_lines texts (lines_of rest)

  keeps_none : Keeps [] []
  keeps_none rest = refl

  keeps_both : (a b : List ℕ) (ls ks : List (List ℕ)) → Keeps a ls → Keeps b ks → Keeps (a ++ b) (ls ++ ks)
  keeps_both a b ls ks first second rest =
      ap (λ t. told_lines texts (lines_of t)) (append_assoc a b rest) ∙ first (b ++ rest) ∙ ap (λ l. ls ++ l) (second rest) ∙ sym (append_assoc ls ks (told_lines texts (lines_of rest)))

  passes : (line : List ℕ) → HasNoEnd line → is_told texts line ≡ false → Keeps (ended line) []
  passes line none other rest = ap (told_lines texts) (first_line line rest none) ∙ rw other refl

  keeps_line : (line : List ℕ) → HasNoEnd line → is_told texts line ≡ true → Keeps (ended line) (line ∷ [])
  keeps_line line none is rest = ap (told_lines texts) (first_line line rest none) ∙ rw is refl

module _ {T : Type 0} (texts : Texts T) (spelled : AreTokens texts) where
  keeps_events : (es : List (Event T)) → Each (EventFits texts) es → Keeps texts (lines_for (event_text texts) es) (map (event_text texts) es)
  keeps_events [] fit = keeps_none texts
  keeps_events (e ∷ es) fit =
      let told = event_told texts spelled e fit.0 in
      let is : is_told texts (event_text texts e) ≡ true = rw told refl in
      keeps_both texts (ended (event_text texts e)) (lines_for (event_text texts) es) (event_text texts e ∷ [])
      (map (event_text texts) es) (keeps_line texts (event_text texts e) (event_whole texts spelled e fit.0) is)
      (keeps_events es fit.1)

-- ---- a reply

word_unmarked : (word : List ℕ) → Lacks 32 word → mark_of word ≡ None
word_unmarked word lacks = let one = uncut 32 word lacks in rw one refl

module _ {T : Type 0} (texts : Texts T) (spelled : AreTokens texts) where
  reply_unmarked : (r : Reply T) → ReplyFits texts r → mark_of (reply_text texts r) ≡ None
  reply_unmarked New fit = word_unmarked (codes "new") (lacks_tested 32 (codes "new") refl)
  reply_unmarked Old fit = word_unmarked (codes "old") (lacks_tested 32 (codes "old") refl)
  reply_unmarked (OldValue v) fit =
      let cut : cut_at 32 (codes "old " ++ texts.text v) ≡ Some (codes "old", texts.text v) = cut_told 32 (codes "old") (texts.text v) (lacks_tested 32 (codes "old") refl) in
      rw cut refl
  reply_unmarked Gone fit = word_unmarked (codes "gone") (lacks_tested 32 (codes "gone") refl)
  reply_unmarked (GoneValue v) fit =
      let cut : cut_at 32 (codes "gone " ++ texts.text v) ≡ Some (codes "gone", texts.text v) = cut_told 32 (codes "gone") (texts.text v) (lacks_tested 32 (codes "gone") refl) in
      rw cut refl
  reply_unmarked Yes fit = word_unmarked (codes "yes") (lacks_tested 32 (codes "yes") refl)
  reply_unmarked No fit = word_unmarked (codes "no") (lacks_tested 32 (codes "no") refl)
  reply_unmarked (Count n) fit = word_unmarked (decimal n) (number_lacks 32 (omega arith) n fit)
  reply_unmarked (Item v) fit = word_unmarked (texts.text v) (space_lacks texts spelled v fit)
  reply_unmarked Nothing fit = word_unmarked (codes "none") (lacks_tested 32 (codes "none") refl)
  reply_unmarked Empty fit = word_unmarked (codes "empty") (lacks_tested 32 (codes "empty") refl)
  reply_unmarked Bad fit = word_unmarked (codes "bad") (lacks_tested 32 (codes "bad") refl)

  passes_reply : (r : Reply T) → ReplyFits texts r → Keeps texts (reply_ended texts r) []
  passes_reply r fit =
      let event = reply_alone texts spelled r fit in
      let mark = reply_unmarked r fit in
      passes texts (reply_text texts r) (reply_whole texts spelled r fit) (rw (event, mark) refl)

  node_unmarked : (n : List (Pair T T)) → Each (PairFits texts) n → mark_of (node_text texts n) ≡ None
  node_unmarked [] fit = refl
  node_unmarked (p ∷ []) fit = word_unmarked (pair_text texts p) (pair_lacks texts 32 (space_apart texts spelled) p fit.0)
  node_unmarked (p ∷ q ∷ ps) fit =
      let cut : cut_at 32 (node_text texts (p ∷ q ∷ ps)) ≡ Some (pair_text texts p, node_text texts (q ∷ ps)) =
      cut_told 32 (pair_text texts p) (node_text texts (q ∷ ps))
      (pair_lacks texts 32 (space_apart texts spelled) p fit.0) in
      let start : bytes_eq (pair_text texts p) (codes "start") ≡ false = pair_no_word texts p (codes "start") refl in
      let end : bytes_eq (pair_text texts p) (codes "end") ≡ false = pair_no_word texts p (codes "end") refl in
      let done : bytes_eq (pair_text texts p) (codes "done") ≡ false = pair_no_word texts p (codes "done") refl in
      rw (cut, start, end, done) refl

  passes_nodes : (ns : List (List (Pair T T))) → Each (Each (PairFits texts)) ns → Keeps texts (lines_for (node_text texts) ns) []
  passes_nodes [] fit = keeps_none texts
  passes_nodes (n ∷ ns) fit =
      let event = node_alone texts spelled n fit.0 in
      let mark = node_unmarked n fit.0 in
      keeps_both texts (ended (node_text texts n)) (lines_for (node_text texts) ns) [] []
      (passes texts (node_text texts n) (row_lacks texts spelled n (each_all (PairFits texts) n fit.0))
      (rw (event, mark) refl))
      (passes_nodes ns fit.1)

module _ {T : Type 0} (texts : Texts T) where
  -- ---- after a command number

  module _ (n : ℕ) (small : n < 2 ^ 64) where
    number_apart : (c : ℕ) → Lacks c (codes "#") → Lacks c (decimal n) → Lacks c (35 ∷ decimal n)
    number_apart c first rest = All-append (λ x. x ≢ c) (codes "#") (decimal n) first rest

    number_first : (text : List ℕ) → echo_text (Some n) ++ text ≡ (35 ∷ decimal n) ++ 32 ∷ text
    number_first text = append_assoc (35 ∷ decimal n) (codes " ") text

    number_cut : (text : List ℕ) → cut_at 32 (echo_text (Some n) ++ text) ≡ Some (35 ∷ decimal n, text)
    number_cut text = ap (cut_at 32) (number_first text) ∙ cut_told 32 (35 ∷ decimal n) text (number_apart 32 (lacks_tested 32 (codes "#") refl) (number_lacks 32 (omega arith) n small))

    pub number_whole : (line : List ℕ) → HasNoEnd line → HasNoEnd (echo_text (Some n) ++ line)
    number_whole line none =
        subst HasNoEnd (sym (number_first line))
        (All-append (λ x. x ≢ 10) (35 ∷ decimal n) (32 ∷ line)
        (number_apart 10 (lacks_tested 10 (codes "#") refl) (number_lacks 10 (omega arith) n small))
        (All-cons (λ x. x ≢ 10) 32 line (omega arith) none))

    -- a line that begins with a command number is not kept
    passes_first : (line : List ℕ) → HasNoEnd line → Keeps texts (ended (echo_text (Some n) ++ line)) []
    passes_first line none =
        let cut = number_cut line in
        let other = no_number 35 (decimal n) (omega arith) in
        passes texts (echo_text (Some n) ++ line) (number_whole line none) (rw (cut, other) refl)

    -- a command number before a text changes nothing of what is kept after its first line
    passes_number : (line more : List ℕ) (ls : List (List ℕ)) → HasNoEnd line → Keeps texts more ls → Keeps texts (echo_text (Some n) ++ (ended line ++ more)) ls
    passes_number line more ls none kept =
        let parts : ended (echo_text (Some n) ++ line) ++ more ≡ echo_text (Some n) ++ (ended line ++ more)
        = ap (λ t. t ++ more) (append_assoc (echo_text (Some n)) line (10 ∷ [])) ∙ append_assoc (echo_text (Some n)) (ended line) more in
        subst (λ t. Keeps texts t ls) parts (keeps_both texts (ended (echo_text (Some n) ++ line)) more [] ls (passes_first line none) kept)

    passes_alone : (line : List ℕ) → HasNoEnd line → Keeps texts (echo_text (Some n) ++ ended line) []
    passes_alone line none = subst (λ t. Keeps texts t []) (append_assoc (echo_text (Some n)) line (10 ∷ [])) (passes_first line none)

-- the command number has at most 64 bits
abbrev pub EchoFits : Option ℕ → Type 0
EchoFits None = Unit {0}
EchoFits (Some n) = n < 2 ^ 64

module _ {T : Type 0} (texts : Texts T) (spelled : AreTokens texts) where
  keeps_change : (echo : Option ℕ) → EchoFits echo → (r : Reply T) → ReplyFits texts r → (es : List (Event T))
      → Each (EventFits texts) es
      → Keeps texts (echo_text echo ++ (reply_ended texts r ++ lines_for (event_text texts) es))
      (map (event_text texts) es)
  keeps_change None small r fit es fits =
      keeps_both texts (reply_ended texts r) (lines_for (event_text texts) es) [] (map (event_text texts) es)
      (passes_reply texts spelled r fit) (keeps_events texts spelled es fits)
  keeps_change (Some n) small r fit es fits =
      passes_number texts n small (reply_text texts r) (lines_for (event_text texts) es) (map (event_text texts) es)
      (reply_whole texts spelled r fit) (keeps_events texts spelled es fits)

  keeps_rows : (echo : Option ℕ) → EchoFits echo → (ns : List (List (Pair T T))) → Each (Each (PairFits texts)) ns
      → Keeps texts
      (echo_text echo ++ (cond (is_filled ns) (lines_for (node_text texts) ns) (reply_ended texts Empty))) []
  keeps_rows None small ns fit = at (is_filled ns)
    where
      at : (b : Bool) → Keeps texts (cond b (lines_for (node_text texts) ns) (reply_ended texts Empty)) []
      at true = passes_nodes texts spelled ns fit
      at false = passes_reply texts spelled Empty tt
  keeps_rows (Some n) small [] fit = passes_alone texts n small (reply_text texts Empty) (reply_whole texts spelled Empty tt)
  keeps_rows (Some n) small (x ∷ ns) fit =
      passes_number texts n small (node_text texts x) (lines_for (node_text texts) ns) []
      (row_lacks texts spelled x (each_all (PairFits texts) x fit.0)) (passes_nodes texts spelled ns fit.1)

module _ {T : Type 0} (cmp : T → T → Ordering) (texts : Texts T) (spelled : AreTokens texts) where
  keeps_reply : (echo : Option ℕ) → EchoFits echo → (t : PairTree T) → Good cmp texts t → (c : PairCommand T)
      → Each (EventFits texts) (told_events cmp t c)
      → Keeps texts (echo_text echo ++ pair_reply cmp texts t c) (map (event_text texts) (told_events cmp t c))
  keeps_reply echo small t g (Put k v) fits = keeps_change texts spelled echo small (change_reply cmp t (Put k v)) (change_fits cmp texts t g (Put k v)) (told_events cmp t (Put k v)) fits
  keeps_reply echo small t g (Cut k) fits = keeps_change texts spelled echo small (change_reply cmp t (Cut k)) (change_fits cmp texts t g (Cut k)) (told_events cmp t (Cut k)) fits
  keeps_reply echo small t g Nodes fits = keeps_rows texts spelled echo small t.nodes (each_apart (PairFits texts) t.nodes g.held)

-- ---- the lines after a reply

-- the `done` line, if the command has a number
abbrev pub done_lines : Option ℕ → ℕ → ℕ → List (List ℕ)
done_lines None d next = []
done_lines (Some n) d next = mark_line (Done d next) ∷ []

module _ {T : Type 0} (texts : Texts T) where
  pub done_alone : (d n : ℕ) → event_of texts (mark_line (Done d n)) ≡ None
  done_alone d n = let cut = done_cut d n in rw (cut, no_number 100 (codes "one") (omega arith)) refl

pub done_whole : (d n : ℕ) → d < 2 ^ 64 → n < 2 ^ 64 → HasNoEnd (mark_line (Done d n))
done_whole d n small less =
    All-append (λ x. x ≢ 10) (codes "done ") (decimal d ++ 32 ∷ decimal n) (lacks_tested 10 (codes "done ") refl)
    (All-append (λ x. x ≢ 10) (decimal d) (32 ∷ decimal n) (number_lacks 10 (omega arith) d small)
    (All-cons (λ x. x ≢ 10) 32 (decimal n) (omega arith) (number_lacks 10 (omega arith) n less)))

module _ {T : Type 0} (texts : Texts T) where
  keeps_done : (echo : Option ℕ) (d n : ℕ) → d < 2 ^ 64 → n < 2 ^ 64 → Keeps texts (done_text echo d n) (done_lines echo d n)
  keeps_done None d n small less = keeps_none texts
  keeps_done (Some _) d n small less =
      let mark = mark_told (Done d n) (small, less) in
      let event = done_alone texts d n in
      keeps_line texts (mark_line (Done d n)) (done_whole d n small less) (rw (event, mark) refl)

  next_passes : (n : ℕ) → n < 2 ^ 64 → Keeps texts (ended (codes "next " ++ decimal n)) []
  next_passes n less =
      let cut : cut_at 32 (codes "next " ++ decimal n) ≡ Some (codes "next", decimal n) = cut_told 32 (codes "next") (decimal n) (lacks_tested 32 (codes "next") refl) in
      let other = no_number 110 (codes "ext") (omega arith) in
      let whole = All-append (λ x. x ≢ 10) (codes "next ") (decimal n) (lacks_tested 10 (codes "next ") refl) (number_lacks 10 (omega arith) n less) in
      passes texts (codes "next " ++ decimal n) whole (rw (cut, other) refl)

  -- the reply with the next number
  pub next_keeps : (n : ℕ) → n < 2 ^ 64 → told_lines texts (whole_lines (ended (codes "next " ++ decimal n))) ≡ []
  unfolding lines_of
  next_keeps n less =
      let last = codes "next " ++ decimal n in
      let whole : whole_lines (ended last) ≡ lines_of (ended last) = sym (ap whole_lines (append-nil (ended last))) ∙ whole_lines-append [] (All-nil (λ x. x ≢ 10)) (ended last) (IsWhole-end last) in
      ap (told_lines texts) whole ∙ ap (λ t. told_lines texts (lines_of t)) (sym (append-nil (ended last))) ∙ next_passes n less []

  -- ---- the answer to a command

  pub others_keep : (o : Others) → told_lines texts (whole_lines (others_text o)) ≡ []
  unfolding whole_lines
  others_keep Tell = refl
  others_keep Pass = refl

module _ {T : Type 0} (cmp : T → T → Ordering) (texts : Texts T) (total : IsTotalOrder cmp) (spelled : AreTokens texts) where
  module _ (l : Leader T) (g : Good cmp texts l.pairs) (c : Command T) (fit : CommandFits texts c.change)
      (small : EchoFits c.echo) (known : done_by l.done c < 2 ^ 64)
      (less : (pairs_after cmp l.pairs c.change).next ≤ MAX) where
    abbrev next : ℕ
    next = (pairs_after cmp l.pairs c.change).next

    abbrev front : List ℕ
    front = echo_text c.echo ++ pair_reply cmp texts l.pairs c.change

    abbrev last : List ℕ
    last = codes "next " ++ decimal next

    whole_text : whole_lines (command_text cmp texts l c) ≡ lines_of (command_text cmp texts l c)
    whole_text =
        let done = done_text c.echo (done_by l.done c) next in
        let end : command_text cmp texts l c ≡ ((front ++ done) ++ last) ++ 10 ∷ [] = sym (append_assoc front done (ended last)) ∙ sym (append_assoc (front ++ done) last (10 ∷ [])) in
        let is_whole : IsWhole (command_text cmp texts l c) = subst IsWhole (sym end) (IsWhole-end ((front ++ done) ++ last)) in
        sym (ap whole_lines (append-nil (command_text cmp texts l c))) ∙ whole_lines-append [] (All-nil (λ x. x ≢ 10)) (command_text cmp texts l c) is_whole

    -- its events and its `done` line are kept
    pub command_keeps : told_lines texts (whole_lines (command_text cmp texts l c)) ≡ map (event_text texts) (told_events cmp l.pairs c.change) ++ done_lines c.echo (done_by l.done c) next
    unfolding lines_of
    command_keeps =
        let fits = (command_onward cmp texts total l.pairs g c.change fit).fits less in
        let events = map (event_text texts) (told_events cmp l.pairs c.change) in
        let done = done_lines c.echo (done_by l.done c) next in
        let few : next < 2 ^ 64 = omega (arith, less) in
        let back = keeps_both texts (done_text c.echo (done_by l.done c) next) (ended last) done [] (keeps_done texts c.echo (done_by l.done c) next known few) (next_passes texts next few) in
        let all = keeps_both texts front (done_text c.echo (done_by l.done c) next ++ ended last) events (done ++ []) (keeps_reply cmp texts spelled c.echo small l.pairs g c.change fits) back in
        ap (told_lines texts) whole_text
        ∙ ap (λ t. told_lines texts (lines_of t)) (sym (append-nil (command_text cmp texts l c))) ∙ all []
        ∙ append-nil (events ++ (done ++ [])) ∙ ap (λ ls. events ++ ls) (append-nil done)

-- ---- the number of a command

echo_fits : (word : List ℕ) (n : ℕ) → echo_of word ≡ Some n → n < 2 ^ 64
echo_fits [] n e = none_some n e
echo_fits (x ∷ digits) n e = at (eqb x 35) e
  where
    at : (b : Bool) → cond b (number_of digits) None ≡ Some n → n < 2 ^ 64
    at true e = (number_sound digits n e).1
    at false e = none_some n e

module _ {T : Type 0} (texts : Texts T) where
  echoed_fits : (line : List ℕ) (c : Command T) → echoed_of texts line ≡ Some c → EchoFits c.echo
  echoed_fits line c h =
      let cut = then_some (cut_at 32 line) (λ cut. option_and_then (λ n. option_map (command (Some n)) (change_of texts cut.1)) (echo_of cut.0)) c h in
      let number = then_some (echo_of cut.0.0) (λ n. option_map (command (Some n)) (change_of texts cut.0.1)) c cut.2 in
      let made = map_some (change_of texts cut.0.1) (command (Some number.0)) c number.2 in
      subst (λ c. EchoFits c.echo) made.2 (echo_fits cut.0.0 number.0 number.1)

  pub number_fits : (line : List ℕ) (c : Command T) → command_of texts line ≡ Some c → EchoFits c.echo
  number_fits line c h = at (pair_meaning texts line) h
    where
      at : (o : Option (PairCommand T)) → option_map_or {U = Option (Command T)} (λ c. Some (command None c)) o (echoed_of texts line) ≡ Some c → EchoFits c.echo
      at (Some p) h = subst (λ c. EchoFits c.echo) (some_inj (command None p) c h) tt
      at None h = echoed_fits line c h
