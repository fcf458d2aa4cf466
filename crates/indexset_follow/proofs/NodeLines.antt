-- A line is a node if and only if it is the text of that node.
use Rattle.std.proofs.Common.{Option, None, Some, ◌≡◌, ◌≢◌, ℕ, ◌+◌, ◌<◌, Bool, true, false}
use Rattle.std.proofs.Common.{cond, if◌then◌else◌, eqb, take, drop, get_or, List, [], ◌∷◌, ◌++◌}
use Rattle.std.proofs.Common.{length, map, refl, sym, ap, subst, ◌∙◌, arith, append_assoc}
use lib.Chars.{codes}
use Rattle.std.specs.Prelude.{nat_lt}
use Rattle.std.proofs.lemmas.Bool.{eqb-false, ltb-true, ne_eqb}
use borrow.Author.Tests.{ltb-false}
use Rattle.std.proofs.lemmas.List.Elements.{All-cons, All-from_get_or, All-head, All-nil, All-tail}
use Rattle.std.proofs.lemmas.List.Splits.{join_with_byte-slice_split, length-slice_split, slice_split_first, slice_split_none}
use Rattle.std.proofs.lemmas.List.Sums.{fails_before_first}
use Rattle.std.proofs.lemmas.Slice.Eq.{bytes_eq-Decides}
use Rattle.std.specs.List.{All, join_with_byte, position_or_len}
use Rattle.std.specs.Option.{option_map}
use Rattle.std.specs.Str.{bytes_eq}
use Rattle.indexset_bench.specs.PairText.{node_text, pair_text}
use Rattle.indexset_core.specs.declared.pair.Pair.{Pair}
use Rattle.indexset_follow.specs.NodeLine.{NodeFits, node_line, node_of, pairs_of, words}
use Rattle.indexset_wire.specs.Parts.{cut_at}
use Rattle.indexset_bench.specs.Texts.{PairFits, pair_of}
use Rattle.indexset_wire.specs.Texts.{AreTokens, Texts}
use Rattle.indexset_wire.specs.Parts.Laws.{Lacks, cut_sound, cut_told, lacks_tested, map_some, none_some, some_inj, then_some}
use Rattle.indexset_follow.proofs.Readings.{pair_lacks, pair_sound, pair_told, space_apart}

-- ---- words

-- the index of the first space, or the length if there is none
abbrev spot : List ℕ → ℕ
spot text = position_or_len (λ x. eqb x 32) text

-- a text with a space: its first word is the part before it
pub cut_words : (text a b : List ℕ) → cut_at 32 text ≡ Some (a, b) → words text ≡ a ∷ words b
cut_words text a b e = at (nat_lt (spot text) (length text)) refl e
  where
    at : (t : Bool) → nat_lt (spot text) (length text) ≡ t
        → option_map {U = List ℕ × List ℕ} (λ i. (take i text, drop (i + 1) text)) (cond t (Some (spot text)) None)
        ≡ Some (a, b)
        → words text ≡ a ∷ words b
    at true is e =
        slice_split_first (λ x. eqb x 32) text 0 (ltb-true (spot text) (length text) is)
        ∙ ap (λ p. p.0 ∷ words p.1) (some_inj (take (spot text) text, drop (spot text + 1) text) (a, b) e)
    at false is e = none_some (a, b) e

lacking_words : (text : List ℕ) → Lacks 32 text → words text ≡ text ∷ []
lacking_words text lacks = slice_split_none (λ x. eqb x 32) text (none text lacks)
  where
    none : (xs : List ℕ) → Lacks 32 xs → All (λ x. eqb x 32 ≡ false) xs
    none [] lacks = All-nil (λ x. eqb x 32 ≡ false)
    none (x ∷ xs) lacks = All-cons (λ y. eqb y 32 ≡ false) x xs (ne_eqb x 32 (All-head (λ y. y ≢ 32) x xs lacks)) (none xs (All-tail (λ y. y ≢ 32) x xs lacks))

-- a text without a space is one word
pub uncut_words : (text : List ℕ) → cut_at 32 text ≡ None → words text ≡ text ∷ []
uncut_words text e = at (nat_lt (spot text) (length text)) refl e
  where
    at : (t : Bool) → nat_lt (spot text) (length text) ≡ t → option_map {U = List ℕ × List ℕ} (λ i. (take i text, drop (i + 1) text)) (cond t (Some (spot text)) None) ≡ None → words text ≡ text ∷ []
    at true is e = none_some (take (spot text) text, drop (spot text + 1) text) (sym e)
    at false is e = lacking_words text (All-from_get_or (λ x. x ≢ 32) text 0 (λ k inside space.
        let before : k < spot text = omega (arith, inside, ltb-false (spot text) (length text) is) in
        let other = fails_before_first (λ x. eqb x 32) text k 0 before in
        eqb-false (get_or text k 0) 32 other space))

module _ {T : Type 0} (texts : Texts T) where
  -- ---- pairs

  pub pairs_first : (word : List ℕ) (rest : List (List ℕ)) (p : Pair T T) → pair_of texts word ≡ Some p → pairs_of texts (word ∷ rest) ≡ option_map (λ ps. p ∷ ps) (pairs_of texts rest)
  unfolding pairs_of
  pairs_first word rest p e = rw e refl

  pub pairs_none : (word : List ℕ) (rest : List (List ℕ)) → pair_of texts word ≡ None → pairs_of texts (word ∷ rest) ≡ None
  unfolding pairs_of
  pairs_none word rest e = rw e refl

  pub pairs_last : (word : List ℕ) (p : Pair T T) → pair_of texts word ≡ Some p → pairs_of texts (word ∷ []) ≡ Some (p ∷ [])
  unfolding pairs_of
  pairs_last word p e = rw e refl

module _ {T : Type 0} where
  -- another pair was read
  pub pairs_more : (ps : List (Pair T T)) (p : Pair T T) (o : Option (List (Pair T T))) → option_map (λ qs. ps ++ qs) (option_map (λ qs. p ∷ qs) o) ≡ option_map (λ qs. (ps ++ p ∷ []) ++ qs) o
  pairs_more ps p None = refl
  pairs_more ps p (Some qs) = ap Some (sym (append_assoc ps (p ∷ []) qs))

module _ {T : Type 0} (texts : Texts T) (spelled : AreTokens texts) where
  pub all_pairs_told : (ps : List (Pair T T)) → All (PairFits texts) ps → pairs_of texts (map (pair_text texts) ps) ≡ Some ps
  unfolding pairs_of
  all_pairs_told [] fit = refl
  all_pairs_told (p ∷ ps) fit = rw (pair_told texts spelled p (All-head (PairFits texts) p ps fit), all_pairs_told ps (All-tail (PairFits texts) p ps fit)) refl

  all_pairs_sound : (ws : List (List ℕ)) (ps : List (Pair T T)) → pairs_of texts ws ≡ Some ps → (ws ≡ map (pair_text texts) ps) × All (PairFits texts) ps
  unfolding pairs_of
  all_pairs_sound [] ps e = subst (λ qs. ([] ≡ map (pair_text texts) qs) × All (PairFits texts) qs) (some_inj [] ps e) (refl, All-nil (PairFits texts))
  all_pairs_sound (w ∷ ws) ps e =
      let first = then_some (pair_of texts w) (λ p. option_map (λ qs. p ∷ qs) (pairs_of texts ws)) ps e in
      let more = map_some (pairs_of texts ws) (λ qs. first.0 ∷ qs) ps first.2 in
      let read = pair_sound texts spelled w first.0 first.1 in
      let rest = all_pairs_sound ws more.0 more.1 in
      subst (λ qs. (w ∷ ws ≡ map (pair_text texts) qs) × All (PairFits texts) qs) more.2 ((λ i. read.0 i ∷ rest.0 i), All-cons (PairFits texts) first.0 more.0 read.1 rest.1)

  -- ---- nodes

  -- the words of a node's text are those of its pairs
  node_words : (ps : List (Pair T T)) → 0 < length ps → All (PairFits texts) ps → words (node_text texts ps) ≡ map (pair_text texts) ps
  node_words [] some fit = absurd (omega arith)
  node_words (p ∷ []) some fit = lacking_words (pair_text texts p) (pair_lacks texts 32 (space_apart texts spelled) p (All-head (PairFits texts) p [] fit))
  node_words (p ∷ q ∷ ps) some fit =
      let lacks = pair_lacks texts 32 (space_apart texts spelled) p (All-head (PairFits texts) p (q ∷ ps) fit) in
      cut_words (pair_text texts p ++ 32 ∷ node_text texts (q ∷ ps)) (pair_text texts p) (node_text texts (q ∷ ps)) (cut_told 32 (pair_text texts p) (node_text texts (q ∷ ps)) lacks)
      ∙ ap (λ ws. pair_text texts p ∷ ws) (node_words (q ∷ ps) (omega arith) (All-tail (PairFits texts) p (q ∷ ps) fit))

  pub node_told : (n : List (Pair T T)) → NodeFits texts n → node_of texts (node_line texts n) ≡ Some n
  node_told n fit =
      let cut : cut_at 32 (node_line texts n) ≡ Some (codes "node", node_text texts n) = cut_told 32 (codes "node") (node_text texts n) (lacks_tested 32 (codes "node") refl) in
      rw cut (ap (pairs_of texts) (node_words n fit.0 fit.1) ∙ all_pairs_told n fit.1)

  pub node_sound : (line : List ℕ) (n : List (Pair T T)) → node_of texts line ≡ Some n → (line ≡ node_line texts n) × NodeFits texts n
  node_sound line n e =
      let cut = then_some (cut_at 32 line) (λ cut. if bytes_eq cut.0 (codes "node") then pairs_of texts (words cut.1) else None) n e in
      let text = cut_sound 32 line cut.0.0 cut.0.1 cut.1 in
      let read = at cut.0.0 cut.0.1 (bytes_eq cut.0.0 (codes "node")) refl cut.2 in
      let some = length-slice_split (λ x. eqb x 32) cut.0.1 in
      let rest = sym (join_with_byte-slice_split 32 cut.0.1) ∙ ap (join_with_byte 32) read.1 in
      (text ∙ (λ i. read.0 i ++ 32 ∷ rest i), (omega (arith, some, ap length read.1, length_map n), read.2))
    where
      at : (word rest : List ℕ) (b : Bool) → bytes_eq word (codes "node") ≡ b
          → cond b (pairs_of texts (words rest)) None ≡ Some n
          → (word ≡ codes "node") × (words rest ≡ map (pair_text texts) n) × All (PairFits texts) n
      at word rest true is e = let read = all_pairs_sound (words rest) n e in ((bytes_eq-Decides word (codes "node")).0 is, read.0, read.1)
      at word rest false is e = none_some n e

      length_map : (ps : List (Pair T T)) → length (map (pair_text texts) ps) ≡ length ps
      length_map [] = refl
      length_map (p ∷ ps) = omega (arith, length_map ps)
