-- Of a leader's answer to a line that is not a read, the lines between the first and the last are
-- kept.
use Rattle.std.proofs.Common.{Option, None, Some, ◌≡◌, ◌≢◌, ℕ, ◌-◌, ◌<◌, ◌≤◌, ◌^◌, Bool, true}
use Rattle.std.proofs.Common.{false, List, [], ◌∷◌, ◌++◌, length, take, map, refl, ap, sym}
use Rattle.std.proofs.Common.{subst, ◌∙◌, arith, append_assoc, append-nil, length-append}
use lib.Chars.{codes}
use Rattle.std.below.core.specs.declared.int.u64.TheConstants.{MAX}
use Rattle.std.proofs.lemmas.List.{take-append-le, take_all}
use Rattle.std.proofs.lemmas.List.Elements.{All-append, All-nil}
use Rattle.std.specs.Fmt.{decimal}
use Rattle.std.specs.Option.{option_and_then, option_map, option_map_or}
use Rattle.indexset_lines.specs.Lines.{HasNoEnd, IsWhole, lines_of, whole_lines}
use Rattle.indexset_lines.proofs.Lines.{IsWhole-end, whole_lines-append}
use Rattle.indexset_bench.specs.PairCommand.{CommandFits, pair_meaning}
use Rattle.indexset_bench.specs.PairText.{ended, event_text, lines_for}
use Rattle.indexset_bench.specs.Pairs.{PairTree, change_reply, echo_text, pair_reply, pairs_after, reply_ended, told_events}
use Rattle.indexset_bench.specs.Reply.{reply_text}
use Rattle.indexset_wire.specs.Texts.{AreTokens, Texts}
use Rattle.indexset_bench.specs.declared.pair_command.PairCommand.{PairCommand}
use Rattle.indexset_bench.specs.declared.pair_command.PairCommand.TheVariants.{Put, Cut, Nodes}
use Rattle.indexset_bench.specs.declared.reply.Reply.{Reply}
use Rattle.indexset_bench.proofs.CallerLemmas.{pair_sound}
use Rattle.indexset_wire.specs.Parts.{cut_at}
use Rattle.indexset_wire.specs.Numbers.Laws.{number_lacks}
use Rattle.indexset_wire.specs.Parts.Laws.{lacks_tested, map_some, none_some, some_inj, then_some}
use Rattle.indexset_events.proofs.CallerLemmas.{Each}
use Rattle.indexset_follow.specs.Echo.{change_of, command, command_of, done_by, echo_of, echoed_of}
use Rattle.indexset_follow.specs.EventLine.{Event, EventFits}
use Rattle.indexset_follow.specs.Leading.{after_leading, command_text, done_text, leading_reply}
use Rattle.indexset_follow.specs.Mark.{mark_line}
use Rattle.indexset_follow.specs.Passed.{ReplyFits}
use Rattle.indexset_follow.specs.Query.{query_of}
use Rattle.indexset_follow.specs.Reads.{query_text}
use Rattle.indexset_follow.specs.Reply.{others_text}
use Rattle.indexset_follow.specs.declared.echo.Command.{Command}
use Rattle.indexset_follow.specs.declared.leader.Leader.{Leader}
use Rattle.indexset_follow.specs.declared.mark.Mark.TheVariants.{Done}
use Rattle.indexset_follow.specs.declared.others.Others.{Others}
use Rattle.indexset_follow.specs.declared.others.Others.TheVariants.{Tell, Pass}
use Rattle.indexset_follow.specs.declared.reads.query.Query.{Query}
use Rattle.indexset_follow.specs.declared.reads.query.Query.TheVariants as query
use Rattle.indexset_follow.proofs.Echoes.{command_fits}
use Rattle.indexset_follow.proofs.Onwards.{Good, command_onward}
use Rattle.indexset_follow.proofs.EventLines.{event_whole}
use Rattle.indexset_follow.proofs.Replies.{change_fits, reply_whole}
use Rattle.indexset_follow.proofs.Snapshots.{first_line}
use Rattle.indexset_keep.specs.Leads.{IsSound}
use Rattle.indexset_keep.specs.Told.{inner, told_lines}
use Rattle.indexset_keep.proofs.Onward.{good, number_kept}
use Rattle.indexset_keep.proofs.Told.{EchoFits, command_keeps, done_lines, done_whole, number_fits, number_whole, others_keep}
use Rattle.std.specs.declared.cmp.Ordering.{Ordering}
use Rattle.std.specs.Cmp.{IsTotalOrder}

-- ---- the lines of a text, with any text after it

abbrev Cuts : List ℕ → List (List ℕ) → Type 0
Cuts text ls = (rest : List ℕ) → lines_of (text ++ rest) ≡ ls ++ lines_of rest

cuts_both : (a b : List ℕ) (ls ks : List (List ℕ)) → Cuts a ls → Cuts b ks → Cuts (a ++ b) (ls ++ ks)
cuts_both a b ls ks first second rest = ap lines_of (append_assoc a b rest) ∙ first (b ++ rest) ∙ ap (λ l. ls ++ l) (second rest) ∙ sym (append_assoc ls ks (lines_of rest))

cuts_line : (line : List ℕ) → HasNoEnd line → Cuts (ended line) (line ∷ [])
cuts_line line none rest = first_line line rest none

module _ {T : Type 0} (texts : Texts T) (spelled : AreTokens texts) where
  cuts_events : (es : List (Event T)) → Each (EventFits texts) es → Cuts (lines_for (event_text texts) es) (map (event_text texts) es)
  cuts_events [] fit = λ rest. refl
  cuts_events (e ∷ es) fit =
      cuts_both (ended (event_text texts e)) (lines_for (event_text texts) es) (event_text texts e ∷ [])
      (map (event_text texts) es) (cuts_line (event_text texts e) (event_whole texts spelled e fit.0))
      (cuts_events es fit.1)

  cuts_change : (echo : Option ℕ) → EchoFits echo → (r : Reply T) → ReplyFits texts r → (es : List (Event T))
      → Each (EventFits texts) es
      → Cuts (echo_text echo ++ (reply_ended texts r ++ lines_for (event_text texts) es))
      ((echo_text echo ++ reply_text texts r) ∷ map (event_text texts) es)
  cuts_change None small r fit es fits =
      cuts_both (reply_ended texts r) (lines_for (event_text texts) es) (reply_text texts r ∷ [])
      (map (event_text texts) es) (cuts_line (reply_text texts r) (reply_whole texts spelled r fit))
      (cuts_events es fits)
  cuts_change (Some n) small r fit es fits =
      let line = echo_text (Some n) ++ reply_text texts r in
      let whole = number_whole texts n small (reply_text texts r) (reply_whole texts spelled r fit) in
      let parts : ended line ++ lines_for (event_text texts) es ≡ echo_text (Some n) ++ (reply_ended texts r ++ lines_for (event_text texts) es)
      = ap (λ t. t ++ lines_for (event_text texts) es)
      (append_assoc (echo_text (Some n)) (reply_text texts r) (10 ∷ []))
      ∙ append_assoc (echo_text (Some n)) (reply_ended texts r) (lines_for (event_text texts) es) in
      subst (λ t. Cuts t (line ∷ map (event_text texts) es)) parts
      (cuts_both (ended line) (lines_for (event_text texts) es) (line ∷ []) (map (event_text texts) es)
      (cuts_line line whole) (cuts_events es fits))

cuts_done : (echo : Option ℕ) (d n : ℕ) → d < 2 ^ 64 → n < 2 ^ 64 → Cuts (done_text echo d n) (done_lines echo d n)
cuts_done None d n small less = λ rest. refl
cuts_done (Some _) d n small less = cuts_line (mark_line (Done d n)) (done_whole d n small less)

-- ---- the answer to a command that changes the map

abbrev is_change : {T : Type 0} → PairCommand T → Bool
is_change (Put k v) = true
is_change (Cut k) = true
is_change Nodes = false

module _ {T : Type 0} (texts : Texts T) (spelled : AreTokens texts) where
  meant_change : (text : List ℕ) (p : PairCommand T) → query_of texts text ≡ None → pair_meaning texts text ≡ Some p → is_change p ≡ true
  meant_change text (Put k v) none is = refl
  meant_change text (Cut k) none is = refl
  meant_change text Nodes none is =
      let asked : query_of texts text ≡ Some query.Nodes = ap (query_of texts) (pair_sound texts spelled text Nodes is).0 in
      none_some query.Nodes (sym none ∙ asked)

  change_meant : (text : List ℕ) (p : PairCommand T) → change_of texts text ≡ Some p → is_change p ≡ true
  change_meant text p is = at (query_of texts text) refl is
    where
      at : (q : Option (Query T)) → query_of texts text ≡ q → option_map_or {U = Option (PairCommand T)} (λ q. None) q (pair_meaning texts text) ≡ Some p → is_change p ≡ true
      at (Some q) asked is = none_some p is
      at None none is = meant_change text p none is

  echoed_change : (line : List ℕ) (c : Command T) → echoed_of texts line ≡ Some c → is_change c.change ≡ true
  echoed_change line c h =
      let cut = then_some (cut_at 32 line) (λ cut. option_and_then (λ n. option_map (command (Some n)) (change_of texts cut.1)) (echo_of cut.0)) c h in
      let number = then_some (echo_of cut.0.0) (λ n. option_map (command (Some n)) (change_of texts cut.0.1)) c cut.2 in
      let made = map_some (change_of texts cut.0.1) (command (Some number.0)) c number.2 in
      subst (λ c. is_change c.change ≡ true) made.2 (change_meant cut.0.1 made.0 made.1)

  command_change : (line : List ℕ) (c : Command T) → query_of texts line ≡ None → command_of texts line ≡ Some c → is_change c.change ≡ true
  command_change line c none h = at (pair_meaning texts line) refl h
    where
      at : (o : Option (PairCommand T)) → pair_meaning texts line ≡ o
          → option_map_or {U = Option (Command T)} (λ c. Some (command None c)) o (echoed_of texts line) ≡ Some c
          → is_change c.change ≡ true
      at (Some p) is h = subst (λ c. is_change c.change ≡ true) (some_inj (command None p) c h) (meant_change line p none is)
      at None is h = echoed_change line c h

module _ {T : Type 0} (cmp : T → T → Ordering) (texts : Texts T) (spelled : AreTokens texts) where
  cuts_reply : (echo : Option ℕ) → EchoFits echo → (t : PairTree T) → Good cmp texts t → (c : PairCommand T) → is_change c ≡ true → Each (EventFits texts) (told_events cmp t c)
      → Cuts (echo_text echo ++ pair_reply cmp texts t c) ((echo_text echo ++ reply_text texts (change_reply cmp t c)) ∷ map (event_text texts) (told_events cmp t c))
  cuts_reply echo small t g (Put k v) is fits = cuts_change texts spelled echo small (change_reply cmp t (Put k v)) (change_fits cmp texts t g (Put k v)) (told_events cmp t (Put k v)) fits
  cuts_reply echo small t g (Cut k) is fits = cuts_change texts spelled echo small (change_reply cmp t (Cut k)) (change_fits cmp texts t g (Cut k)) (told_events cmp t (Cut k)) fits
  cuts_reply echo small t g Nodes is fits = absurd (cc)

-- such lines without the first and the last
inner_between : (a b : List ℕ) (lines : List (List ℕ)) → inner (a ∷ (lines ++ b ∷ [])) ≡ lines
inner_between a b lines =
    let count : length (a ∷ (lines ++ b ∷ [])) - 2 ≡ length lines = omega (arith, length-append lines (b ∷ [])) in
    ap (λ n. take n (lines ++ b ∷ [])) count ∙ take-append-le (length lines) lines (b ∷ []) (omega arith) ∙ take_all (length lines) lines (omega arith)

-- ---- all lines of an answer

-- each line of whole lines has a line end
ended_lines : (text : List ℕ) → IsWhole text → whole_lines text ≡ lines_of text
ended_lines text is = sym (ap whole_lines (append-nil text)) ∙ whole_lines-append [] (All-nil (λ x. x ≢ 10)) text is

-- the reply with the next number
abbrev next_line : ℕ → List ℕ
next_line n = codes "next " ++ decimal n

next_whole : (n : ℕ) → n < 2 ^ 64 → HasNoEnd (next_line n)
next_whole n less = All-append (λ x. x ≢ 10) (codes "next ") (decimal n) (lacks_tested 10 (codes "next ") refl) (number_lacks 10 (omega arith) n less)

cut_whole : (text : List ℕ) (ls : List (List ℕ)) → IsWhole text → Cuts text ls → whole_lines text ≡ ls
unfolding lines_of
cut_whole text ls is cut = ended_lines text is ∙ ap lines_of (sym (append-nil text)) ∙ cut [] ∙ append-nil ls

pub next_inner : (n : ℕ) → n < 2 ^ 64 → inner (whole_lines (ended (codes "next " ++ decimal n))) ≡ []
next_inner n less = ap inner (cut_whole (ended (next_line n)) (next_line n ∷ []) (IsWhole-end (next_line n)) (cuts_line (next_line n) (next_whole n less)))

module _ {T : Type 0} (cmp : T → T → Ordering) (texts : Texts T) (total : IsTotalOrder cmp) (spelled : AreTokens texts) where
  module _ (l : Leader T) (g : Good cmp texts l.pairs) (c : Command T) (fit : CommandFits texts c.change)
      (is : is_change c.change ≡ true) (small : EchoFits c.echo) (known : done_by l.done c < 2 ^ 64)
      (less : (pairs_after cmp l.pairs c.change).next ≤ MAX) where
    abbrev next : ℕ
    next = (pairs_after cmp l.pairs c.change).next

    abbrev first : List ℕ
    first = echo_text c.echo ++ reply_text texts (change_reply cmp l.pairs c.change)

    abbrev events : List (List ℕ)
    events = map (event_text texts) (told_events cmp l.pairs c.change)

    abbrev done : List (List ℕ)
    done = done_lines c.echo (done_by l.done c) next

    abbrev front : List ℕ
    front = echo_text c.echo ++ pair_reply cmp texts l.pairs c.change

    abbrev marks : List ℕ
    marks = done_text c.echo (done_by l.done c) next

    command_whole : IsWhole (command_text cmp texts l c)
    command_whole = subst IsWhole (append_assoc (front ++ marks) (next_line next) (10 ∷ []) ∙ append_assoc front marks (ended (next_line next))) (IsWhole-end ((front ++ marks) ++ next_line next))

    command_cuts : Cuts (command_text cmp texts l c) ((first ∷ events) ++ (done ++ next_line next ∷ []))
    command_cuts =
        let few : next < 2 ^ 64 = omega (arith, less) in
        let fits = (command_onward cmp texts total l.pairs g c.change fit).fits less in
        let back = cuts_both marks (ended (next_line next)) done (next_line next ∷ []) (cuts_done c.echo (done_by l.done c) next known few) (cuts_line (next_line next) (next_whole next few)) in
        cuts_both front (marks ++ ended (next_line next)) (first ∷ events) (done ++ next_line next ∷ []) (cuts_reply cmp texts spelled c.echo small l.pairs g c.change is fits) back

    command_inner : inner (whole_lines (command_text cmp texts l c)) ≡ told_lines texts (whole_lines (command_text cmp texts l c))
    command_inner =
        let lines = cut_whole (command_text cmp texts l c) ((first ∷ events) ++ (done ++ next_line next ∷ [])) command_whole command_cuts in
        let parts : (first ∷ events) ++ (done ++ next_line next ∷ [])
        ≡ first ∷ ((events ++ done) ++ next_line next ∷ []) =
        ap (λ ls. first ∷ ls) (sym (append_assoc events done (next_line next ∷ []))) in
        ap inner (lines ∙ parts) ∙ inner_between first (next_line next) (events ++ done) ∙ sym (command_keeps cmp texts total spelled l g c fit small known less)

pub others_inner : (o : Others) → inner (whole_lines (others_text o)) ≡ []
unfolding whole_lines
others_inner Tell = refl
others_inner Pass = refl

module _ {T : Type 0} (cmp : T → T → Ordering) (texts : Texts T) (total : IsTotalOrder cmp) (spelled : AreTokens texts) where
  pub leading_inner : (o : Others) (l : Leader T) → IsSound cmp texts l → (line : List ℕ) → query_of texts line ≡ None → (after_leading cmp texts l.pairs line).next < 2 ^ 64
      → inner (whole_lines (leading_reply cmp texts o l line)) ≡ told_lines texts (whole_lines (leading_reply cmp texts o l line))
  leading_inner o l s line none less = at (query_of texts line) none (command_of texts line) refl
    where
      at : (q : Option (Query T)) → q ≡ None → (m : Option (Command T)) → command_of texts line ≡ m
          → inner (whole_lines (option_map_or {U = List ℕ} (query_text cmp texts l.pairs.nodes l.pairs.next l.done) q (option_map_or {U = List ℕ} (command_text cmp texts l) m (others_text o))))
          ≡ told_lines texts
          (whole_lines
          (option_map_or {U = List ℕ} (query_text cmp texts l.pairs.nodes l.pairs.next l.done) q
          (option_map_or {U = List ℕ} (command_text cmp texts l) m (others_text o))))
      at (Some q) other m is = none_some q (sym other)
      at None other None is = others_inner o ∙ sym (others_keep texts o)
      at None other (Some c) is =
          let after : after_leading cmp texts l.pairs line ≡ pairs_after cmp l.pairs c.change = rw (none, is) refl in
          let small = number_fits texts line c is in
          let few : (pairs_after cmp l.pairs c.change).next < 2 ^ 64 = subst (λ u. u.next < 2 ^ 64) after less in
          command_inner cmp texts total spelled l (good cmp texts l s) c (command_fits texts spelled line c is)
          (command_change texts spelled line c none is) small (number_kept l.done s.done c.echo small)
          (omega (arith, few))
