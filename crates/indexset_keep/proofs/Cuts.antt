-- Splitting a text into its lines.
use Rattle.std.proofs.Common.{None, Some, ◌≡◌, ◌≢◌, ℕ, ◌+◌, ◌-◌, ◌<◌, Bool, true, false}
use Rattle.std.proofs.Common.{cond, eqb, take, drop, get_or, List, [], ◌∷◌, ◌++◌, length}
use Rattle.std.proofs.Common.{refl, sym, ap, subst, ◌∙◌, arith, append_assoc, length-append}
use Rattle.std.specs.Prelude.{nat_lt}
use Rattle.std.proofs.lemmas.Bool.{eqb-false, ne_eqb}
use borrow.Author.Tests.{ltb-false}
use Rattle.std.proofs.lemmas.List.Elements.{All-from_get_or, All-head, All-tail}
use Rattle.std.proofs.lemmas.List.Sums.{fails_before_first}
use Rattle.std.proofs.lemmas.List.{get_or-take, length-take}
use Rattle.std.specs.List.{position_or_len}
use Rattle.std.specs.Option.{option_map}
use Rattle.indexset_lines.specs.Lines.{HasNoEnd, IsWhole, before_first, lines_of, whole_lines}
use Rattle.indexset_lines.proofs.Lines.{whole_lines-append}
use Rattle.indexset_wire.specs.Parts.{cut_at}
use Rattle.indexset_wire.specs.Parts.Laws.{cut_sound, none_some, some_inj}
use Rattle.indexset_keep.specs.Told.{inner}

-- the index of the first line end, or the length if there is none
abbrev spot : List ℕ → ℕ
spot text = position_or_len (λ x. eqb x 10) text

whole_line : (line rest : List ℕ) → HasNoEnd line → whole_lines (line ++ 10 ∷ rest) ≡ line ∷ whole_lines rest
unfolding whole_lines
whole_line [] rest none = refl
whole_line (x ∷ xs) rest none =
    ap (λ b. cond b ([] ∷ whole_lines (xs ++ 10 ∷ rest)) (before_first x (whole_lines (xs ++ 10 ∷ rest)))) (ne_eqb x 10 (All-head (λ y. y ≢ 10) x xs none))
    ∙ ap (before_first x) (whole_line xs rest (All-tail (λ y. y ≢ 10) x xs none))

front_lacks : (text : List ℕ) → HasNoEnd (take (spot text) text)
front_lacks text = All-from_get_or (λ x. x ≢ 10) (take (spot text) text) 0 (λ k inside end.
    let before : k < spot text = omega (arith, inside, length-take (spot text) text) in
    let same : get_or (take (spot text) text) k 0 ≡ get_or text k 0 = get_or-take (spot text) text k 0 before in
    eqb-false (get_or text k 0) 10 (fails_before_first (λ x. eqb x 10) text k 0 before) (sym same ∙ end))

-- a text that has a line end: its first line is the part before it
pub cut_lines : (text a b : List ℕ) → cut_at 10 text ≡ Some (a, b) → whole_lines text ≡ a ∷ whole_lines b
cut_lines text a b e = at (nat_lt (spot text) (length text)) refl e
  where
    at : (t : Bool) → nat_lt (spot text) (length text) ≡ t
        → option_map {U = List ℕ × List ℕ} (λ i. (take i text, drop (i + 1) text)) (cond t (Some (spot text)) None)
        ≡ Some (a, b)
        → whole_lines text ≡ a ∷ whole_lines b
    at true is made =
        let front : take (spot text) text ≡ a = ap (λ p. p.0) (some_inj (take (spot text) text, drop (spot text + 1) text) (a, b) made) in
        ap whole_lines (cut_sound 10 text a b e) ∙ whole_line a b (subst HasNoEnd front (front_lacks text))
    at false is made = none_some (a, b) made

no_lines : (text : List ℕ) → HasNoEnd text → whole_lines text ≡ []
unfolding IsWhole lines_of
no_lines text none = whole_lines-append text none [] (λ some. absurd (omega (arith, some)))

-- a text that has no line end has no whole line
pub uncut_lines : (text : List ℕ) → cut_at 10 text ≡ None → whole_lines text ≡ []
uncut_lines text e = at (nat_lt (spot text) (length text)) refl e
  where
    at : (t : Bool) → nat_lt (spot text) (length text) ≡ t → option_map {U = List ℕ × List ℕ} (λ i. (take i text, drop (i + 1) text)) (cond t (Some (spot text)) None) ≡ None → whole_lines text ≡ []
    at true is e = none_some (take (spot text) text, drop (spot text + 1) text) (sym e)
    at false is e = no_lines text (All-from_get_or (λ x. x ≢ 10) text 0 (λ k inside end.
        let before : k < spot text = omega (arith, inside, ltb-false (spot text) (length text) is) in
        eqb-false (get_or text k 0) 10 (fails_before_first (λ x. eqb x 10) text k 0 before) end))

-- ---- lines so far

module _ (done : List (List ℕ)) (left line rest : List ℕ) (cut : cut_at 10 left ≡ Some (line, rest)) where
  -- the next line is appended to them
  pub line_more : done ++ whole_lines left ≡ (done ++ line ∷ []) ++ whole_lines rest
  line_more = ap (λ ls. done ++ ls) (cut_lines left line rest cut) ∙ sym (append_assoc done (line ∷ []) (whole_lines rest))

  pub shorter : length rest < length left
  shorter = omega (arith, ap length (cut_sound 10 left line rest cut), length-append line (10 ∷ rest))

-- ---- lines between the first and the last

-- a line and the lines after it, without the last of all
abbrev pub but_last : List ℕ → List (List ℕ) → List (List ℕ)
but_last line lines = take (length lines) (line ∷ lines)

inner_two : (a b : List ℕ) (lines : List (List ℕ)) → inner (a ∷ b ∷ lines) ≡ but_last b lines
inner_two a b lines =
    let count : length (a ∷ b ∷ lines) - 2 ≡ length lines = omega arith in
    ap (λ n. take n (b ∷ lines)) count

pub inner_cut : (text a b c d : List ℕ) → cut_at 10 text ≡ Some (a, b) → cut_at 10 b ≡ Some (c, d) → inner (whole_lines text) ≡ but_last c (whole_lines d)
inner_cut text a b c d first second = ap inner (cut_lines text a b first ∙ ap (λ ls. a ∷ ls) (cut_lines b c d second)) ∙ inner_two a c (whole_lines d)

pub inner_none : (text : List ℕ) → cut_at 10 text ≡ None → inner (whole_lines text) ≡ []
inner_none text none = ap inner (uncut_lines text none)

pub inner_one : (text a b : List ℕ) → cut_at 10 text ≡ Some (a, b) → cut_at 10 b ≡ None → inner (whole_lines text) ≡ []
inner_one text a b first none = ap inner (cut_lines text a b first ∙ ap (λ ls. a ∷ ls) (uncut_lines b none))

module _ (done : List (List ℕ)) (line left next rest : List ℕ) (cut : cut_at 10 left ≡ Some (next, rest)) where
  -- a line with another after it is appended to those so far
  pub but_last_more : done ++ but_last line (whole_lines left) ≡ (done ++ line ∷ []) ++ but_last next (whole_lines rest)
  but_last_more = ap (λ ls. done ++ but_last line ls) (cut_lines left next rest cut) ∙ sym (append_assoc done (line ∷ []) (but_last next (whole_lines rest)))

pub but_last_end : (line left : List ℕ) → cut_at 10 left ≡ None → but_last line (whole_lines left) ≡ []
but_last_end line left none = ap (but_last line) (uncut_lines left none)
