-- No reply of a leader, and no node that it writes, is a line that a follower accepts.
use Rattle.std.proofs.Common.{Option, None, Some, ◌≡◌, ℕ, ◌+◌, Bool, true, false, cond, eqb, get_or, take, drop, List, [], ◌∷◌, ◌++◌, length, refl, sym, subst, arith, append_assoc, length-append}
use Rattle.std.proofs.Math.Seq.{get_or-append_seam}
use lib.Chars.{codes}
use Rattle.std.specs.Prelude.{nat_lt}
use Rattle.std.proofs.lemmas.Bool.{eqb-true, ltb-true}
use Rattle.std.proofs.lemmas.List.Sums.{passes_at_first}
use Rattle.std.proofs.lemmas.Slice.Eq.{bytes_eq-Decides}
use Rattle.std.specs.Fmt.{decimal}
use Rattle.std.specs.List.{position_or_len}
use Rattle.std.specs.Option.{option_map, option_map_or}
use Rattle.std.specs.Str.{bytes_eq}
use Rattle.indexset_bench.specs.PairText.{node_text, pair_text}
use Rattle.indexset_bench.specs.Reply.{reply_text}
use Rattle.indexset_bench.specs.declared.reply.Reply.TheVariants.{New, OldValue, GoneValue, Nothing}
use Rattle.indexset_bench.specs.Pairs.{PairTree, change_reply}
use Rattle.indexset_bench.specs.declared.pair_command.PairCommand.{PairCommand}
use Rattle.indexset_bench.specs.declared.pair_command.PairCommand.TheVariants.{Put, Cut, Nodes}
use Rattle.indexset_core.specs.Nodes.{concat}
use Rattle.indexset_core.specs.Pairs.{value_of}
use Rattle.indexset_core.specs.declared.pair.Pair.{Pair}
use Rattle.indexset_events.proofs.CallerLemmas.{Each}
use Rattle.indexset_follow.specs.EventLine.{event_of}
use Rattle.indexset_follow.specs.Follow.{reply_line}
use Rattle.indexset_follow.specs.Mark.{mark_of}
use Rattle.indexset_follow.specs.NodeLine.{node_of}
use Rattle.indexset_wire.specs.Numbers.{number_of}
use Rattle.indexset_wire.specs.Parts.{cut_at, lacks}
use Rattle.indexset_bench.specs.Texts.{PairFits}
use Rattle.indexset_wire.specs.Texts.{AreTokens, Texts}
use Rattle.indexset_follow.specs.Passed.{IsPassedOver}
use Rattle.indexset_follow.specs.Query.{query_of}
use Rattle.indexset_follow.specs.declared.others.Others.TheVariants.{Pass}
use Rattle.indexset_wire.specs.Numbers.Laws.{number_lacks, number_sound}
use Rattle.indexset_wire.specs.Parts.Laws.{Lacks, cut_told, lacks_tested}
use Rattle.indexset_follow.proofs.Readings.{no_number, pair_lacks, space_apart}
use Rattle.std.specs.declared.cmp.Ordering.{Ordering}

module _ {T : Type 0} (cmp : T → T → Ordering) (texts : Texts T) where
  -- a line that is not one of the grammar is passed over
  pub says_nothing : (line : List ℕ) → event_of texts line ≡ None → node_of texts line ≡ None → mark_of line ≡ None → query_of texts line ≡ None → IsPassedOver cmp texts line
  says_nothing line event node mark query s = (rw (event, node, mark) refl, silent)
    where
      silent : (quiet : Bool) → reply_line cmp texts (record { others = Pass; is_quiet = quiet }) s line ≡ []
      silent true = rw (event, node, mark, query) refl
      silent false = rw (event, node, mark, query) refl

-- a text without the byte is not split
pub uncut : (c : ℕ) (text : List ℕ) → Lacks c text → cut_at c text ≡ None
uncut c text lacks = at (nat_lt spot (length text)) refl
  where
    spot : ℕ
    spot = position_or_len (λ x. eqb x c) text

    at : (b : Bool) → nat_lt spot (length text) ≡ b → option_map {U = List ℕ × List ℕ} (λ i. (take i text, drop (i + 1) text)) (cond b (Some spot) None) ≡ None
    at true is =
        let inside = ltb-true spot (length text) is in
        absurd (lacks spot 0 inside (eqb-true (get_or text spot 0) c (passes_at_first (λ x. eqb x c) text 0 inside)))
    at false is = refl

module _ {T : Type 0} (cmp : T → T → Ordering) (texts : Texts T) where
  pub old_passed : (v : T) → IsPassedOver cmp texts (codes "old " ++ texts.text v)
  old_passed v =
      let cut : cut_at 32 (codes "old " ++ texts.text v) ≡ Some (codes "old", texts.text v) = cut_told 32 (codes "old") (texts.text v) (lacks_tested 32 (codes "old") refl) in
      says_nothing cmp texts (codes "old " ++ texts.text v) (rw (cut, no_number 111 (codes "ld") (omega arith)) refl) (rw cut refl) (rw cut refl) (rw cut refl)

  pub gone_passed : (v : T) → IsPassedOver cmp texts (codes "gone " ++ texts.text v)
  gone_passed v =
      let cut : cut_at 32 (codes "gone " ++ texts.text v) ≡ Some (codes "gone", texts.text v) = cut_told 32 (codes "gone") (texts.text v) (lacks_tested 32 (codes "gone") refl) in
      says_nothing cmp texts (codes "gone " ++ texts.text v) (rw (cut, no_number 103 (codes "one") (omega arith)) refl) (rw cut refl) (rw cut refl) (rw cut refl)

  -- the last line of a leader's answer to a command
  pub next_passed : (n : ℕ) → IsPassedOver cmp texts (codes "next " ++ decimal n)
  next_passed n =
      let cut : cut_at 32 (codes "next " ++ decimal n) ≡ Some (codes "next", decimal n) = cut_told 32 (codes "next") (decimal n) (lacks_tested 32 (codes "next") refl) in
      says_nothing cmp texts (codes "next " ++ decimal n) (rw (cut, no_number 110 (codes "ext") (omega arith)) refl) (rw cut refl) (rw cut refl) (rw cut refl)

  -- a reply of one word that is not a read
  pub word_passed : (word : List ℕ) → Lacks 32 word → query_of texts word ≡ None → IsPassedOver cmp texts word
  word_passed word lacks none = let one = uncut 32 word lacks in says_nothing cmp texts word (rw one refl) (rw one refl) (rw one refl) none

  -- the reply of a leader to a command
  pub change_passed : (t : PairTree T) (c : PairCommand T) → IsPassedOver cmp texts (reply_text texts (change_reply cmp t c))
  change_passed t (Put k v) = at (value_of cmp (concat t.nodes) k)
    where
      at : (o : Option T) → IsPassedOver cmp texts (reply_text texts (option_map_or OldValue o New))
      at None = word_passed (codes "new") (lacks_tested 32 (codes "new") refl) refl
      at (Some w) = old_passed w
  change_passed t (Cut k) = at (value_of cmp (concat t.nodes) k)
    where
      at : (o : Option T) → IsPassedOver cmp texts (reply_text texts (option_map_or GoneValue o Nothing))
      at None = word_passed (codes "none") (lacks_tested 32 (codes "none") refl) refl
      at (Some w) = gone_passed w
  change_passed t Nodes = word_passed (codes "empty") (lacks_tested 32 (codes "empty") refl) refl

module _ {T : Type 0} (texts : Texts T) where
  -- ---- a node

  -- a pair has a colon
  pair_has_colon : (p : Pair T T) → Lacks 58 (pair_text texts p) → ⊥
  pair_has_colon p lacks =
      let text = texts.text p.key in
      lacks (length text) 0 (omega (arith, length-append text (58 ∷ texts.text p.value))) (get_or-append_seam text 58 (texts.text p.value) 0)

  -- so it is not a number, nor a word without a colon
  pair_no_number : (p : Pair T T) → number_of (pair_text texts p) ≡ None
  pair_no_number p = at (number_of (pair_text texts p)) refl
    where
      at : (o : Option ℕ) → number_of (pair_text texts p) ≡ o → o ≡ None
      at None e = refl
      at (Some n) e =
          let read = number_sound (pair_text texts p) n e in
          absurd (pair_has_colon p (subst (Lacks 58) (sym read.0) (number_lacks 58 (omega arith) n read.1)))

  pub pair_no_word : (p : Pair T T) (word : List ℕ) → lacks 58 word ≡ true → bytes_eq (pair_text texts p) word ≡ false
  pair_no_word p word none = at (bytes_eq (pair_text texts p) word) refl
    where
      at : (b : Bool) → bytes_eq (pair_text texts p) word ≡ b → b ≡ false
      at true e = absurd (pair_has_colon p (subst (Lacks 58) (sym ((bytes_eq-Decides (pair_text texts p) word).0 e)) (lacks_tested 58 word none)))
      at false e = refl

module _ {T : Type 0} (texts : Texts T) (spelled : AreTokens texts) where
  pub node_alone : (n : List (Pair T T)) → Each (PairFits texts) n → event_of texts (node_text texts n) ≡ None
  node_alone [] fit = refl
  node_alone (p ∷ []) fit = (let one = uncut 32 (pair_text texts p) (pair_lacks texts 32 (space_apart texts spelled) p fit.0) in rw one refl)
  node_alone (p ∷ q ∷ ps) fit =
      let cut : cut_at 32 (node_text texts (p ∷ q ∷ ps)) ≡ Some (pair_text texts p, node_text texts (q ∷ ps)) =
      cut_told 32 (pair_text texts p) (node_text texts (q ∷ ps))
      (pair_lacks texts 32 (space_apart texts spelled) p fit.0) in
      rw (cut, pair_no_number texts p) refl

module _ {T : Type 0} (cmp : T → T → Ordering) (texts : Texts T) (spelled : AreTokens texts) where
  pub node_passed : (n : List (Pair T T)) → Each (PairFits texts) n → IsPassedOver cmp texts (node_text texts n)
  node_passed [] fit = says_nothing cmp texts [] refl refl refl refl
  node_passed (p ∷ []) fit =
      let one = uncut 32 (pair_text texts p) (pair_lacks texts 32 (space_apart texts spelled) p fit.0) in
      let nodes : bytes_eq (pair_text texts p) (codes "nodes") ≡ false = pair_no_word texts p (codes "nodes") refl in
      let snapshot : bytes_eq (pair_text texts p) (codes "snapshot") ≡ false = pair_no_word texts p (codes "snapshot") refl in
      let sum : bytes_eq (pair_text texts p) (codes "sum") ≡ false = pair_no_word texts p (codes "sum") refl in
      let compact : bytes_eq (pair_text texts p) (codes "compact") ≡ false = pair_no_word texts p (codes "compact") refl in
      let len : bytes_eq (pair_text texts p) (codes "len") ≡ false = pair_no_word texts p (codes "len") refl in
      let first : bytes_eq (pair_text texts p) (codes "first") ≡ false = pair_no_word texts p (codes "first") refl in
      let last : bytes_eq (pair_text texts p) (codes "last") ≡ false = pair_no_word texts p (codes "last") refl in
      let next : bytes_eq (pair_text texts p) (codes "next") ≡ false = pair_no_word texts p (codes "next") refl in
      says_nothing cmp texts (pair_text texts p) (rw one refl) (rw one refl) (rw one refl) (rw (one, len, first, last, nodes, next, snapshot, sum, compact) refl)
  node_passed (p ∷ q ∷ ps) fit =
      let cut : cut_at 32 (node_text texts (p ∷ q ∷ ps)) ≡ Some (pair_text texts p, node_text texts (q ∷ ps)) =
      cut_told 32 (pair_text texts p) (node_text texts (q ∷ ps))
      (pair_lacks texts 32 (space_apart texts spelled) p fit.0) in
      let node : bytes_eq (pair_text texts p) (codes "node") ≡ false = pair_no_word texts p (codes "node") refl in
      let start : bytes_eq (pair_text texts p) (codes "start") ≡ false = pair_no_word texts p (codes "start") refl in
      let end : bytes_eq (pair_text texts p) (codes "end") ≡ false = pair_no_word texts p (codes "end") refl in
      let done : bytes_eq (pair_text texts p) (codes "done") ≡ false = pair_no_word texts p (codes "done") refl in
      let get : bytes_eq (pair_text texts p) (codes "get") ≡ false = pair_no_word texts p (codes "get") refl in
      let rank : bytes_eq (pair_text texts p) (codes "rank") ≡ false = pair_no_word texts p (codes "rank") refl in
      let at : bytes_eq (pair_text texts p) (codes "at") ≡ false = pair_no_word texts p (codes "at") refl in
      let head : bytes_eq (pair_text texts p) (codes "head") ≡ false = pair_no_word texts p (codes "head") refl in
      let range : bytes_eq (pair_text texts p) (codes "range") ≡ false = pair_no_word texts p (codes "range") refl in
      let page : bytes_eq (pair_text texts p) (codes "page") ≡ false = pair_no_word texts p (codes "page") refl in
      says_nothing cmp texts (node_text texts (p ∷ q ∷ ps)) (node_alone texts spelled (p ∷ q ∷ ps) fit)
      (rw (cut, node) refl) (rw (cut, start, end, done) refl) (rw (cut, get, rank, at, head, range, page) refl)
