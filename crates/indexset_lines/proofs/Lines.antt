-- The lines of an input and their replies, for concatenations of inputs.
use Rattle.std.proofs.Common.{◌≡◌, ◌≢◌, ℕ, suc, ◌-◌, ◌<◌, get_or, Bool, true, false, cond, eqb, List, [], ◌∷◌, ◌++◌}
use Rattle.std.proofs.Common.{length, refl, sym, ap, ◌∙◌, arith, append_assoc, append-nil, eq-eqb, ne_eqb, ◌==◌, ◌||◌}
use Rattle.std.proofs.lemmas.List.{get_or_push, length_push}
use Rattle.std.proofs.lemmas.Bool.{eqb-false}
use Rattle.std.proofs.lemmas.List.Elements.{All-cons, All-head, All-nil, All-tail}
use Rattle.std.proofs.lemmas.List.Folds.{list_any_none}
use Rattle.indexset_lines.specs.Lines.{HasNoEnd, IsWhole, before_first, has_end, onto_first, lines_of, rest_of, whole_lines}
use Rattle.indexset_lines.specs.Run.{left_by, replies_to, rest_reply, text_of}

-- the first line is the bytes before the first line end
pub lines_of-line : (line rest : List ℕ) → HasNoEnd line → lines_of (line ++ 10 ∷ rest) ≡ line ∷ lines_of rest
unfolding lines_of
lines_of-line [] rest none = refl
lines_of-line (x ∷ xs) rest none =
    ap (λ b. cond b ([] ∷ lines_of (xs ++ 10 ∷ rest)) (onto_first x (lines_of (xs ++ 10 ∷ rest)))) (ne_eqb x 10 (All-head (λ y. y ≢ 10) x xs none))
    ∙ ap (onto_first x) (lines_of-line xs rest (All-tail (λ y. y ≢ 10) x xs none))

-- one line with its end
pub lines_of-end : (line : List ℕ) → HasNoEnd line → lines_of (line ++ 10 ∷ []) ≡ line ∷ []
unfolding lines_of
lines_of-end line none = lines_of-line line [] none

-- one line without an end
pub lines_of-last : (line : List ℕ) → HasNoEnd line → 0 < length line → lines_of line ≡ line ∷ []
unfolding lines_of
lines_of-last [] none some = absurd (omega arith)
lines_of-last (x ∷ []) none some = ap (λ b. cond b ([] ∷ []) ((x ∷ []) ∷ [])) (ne_eqb x 10 (All-head (λ y. y ≢ 10) x [] none))
lines_of-last (x ∷ y ∷ ys) none some =
    ap (λ b. cond b ([] ∷ lines_of (y ∷ ys)) (onto_first x (lines_of (y ∷ ys)))) (ne_eqb x 10 (All-head (λ z. z ≢ 10) x (y ∷ ys) none))
    ∙ ap (onto_first x) (lines_of-last (y ∷ ys) (All-tail (λ z. z ≢ 10) x (y ∷ ys) none) (omega arith))

onto_first-some : (x : ℕ) (ls : List (List ℕ)) → 0 < length (onto_first x ls)
onto_first-some x [] = omega arith
onto_first-some x (l ∷ ls) = omega arith

onto_first-append : (x : ℕ) (ls ms : List (List ℕ)) → 0 < length ls → onto_first x (ls ++ ms) ≡ onto_first x ls ++ ms
onto_first-append x [] ms some = absurd (omega arith)
onto_first-append x (l ∷ ls) ms some = refl

-- a non-empty input has a line
lines_of-some : (x : ℕ) (xs : List ℕ) → 0 < length (lines_of (x ∷ xs))
unfolding lines_of
lines_of-some x xs = at (eqb x 10)
  where
    at : (b : Bool) → 0 < length (cond b ([] ∷ lines_of xs) (onto_first x (lines_of xs)))
    at true = omega arith
    at false = onto_first-some x (lines_of xs)

-- whole lines without their first byte, if more bytes follow
IsWhole-tail : (x y : ℕ) (ys : List ℕ) → IsWhole (x ∷ y ∷ ys) → IsWhole (y ∷ ys)
unfolding IsWhole
IsWhole-tail x y ys is_whole some =
    let place : length (x ∷ y ∷ ys) - 1 ≡ suc (length (y ∷ ys) - 1) = omega arith in
    ap (λ k. get_or (x ∷ y ∷ ys) k 0) (sym place) ∙ is_whole (omega arith)

pub IsWhole-end : (xs : List ℕ) → IsWhole (xs ++ 10 ∷ [])
unfolding IsWhole
IsWhole-end xs some = get_or_push xs 10 0 (length (xs ++ 10 ∷ []) - 1) (omega (arith, length_push xs 10))

-- the lines of whole lines and more are the lines of each
pub lines_of-append : (whole part : List ℕ) → IsWhole whole → lines_of (whole ++ part) ≡ lines_of whole ++ lines_of part
unfolding lines_of IsWhole
lines_of-append [] part is_whole = refl
lines_of-append (x ∷ []) part is_whole =
    let hit = eq-eqb x 10 (is_whole (omega arith)) in
    ap (λ b. cond b ([] ∷ lines_of part) (onto_first x (lines_of part))) hit ∙ sym (ap (λ b. cond b ([] ∷ []) (onto_first x []) ++ lines_of part) hit)
lines_of-append (x ∷ y ∷ ys) part is_whole = at (eqb x 10) (lines_of-append (y ∷ ys) part (IsWhole-tail x y ys is_whole))
  where
    at : (b : Bool) → lines_of ((y ∷ ys) ++ part) ≡ lines_of (y ∷ ys) ++ lines_of part
        → cond b ([] ∷ lines_of ((y ∷ ys) ++ part)) (onto_first x (lines_of ((y ∷ ys) ++ part))) ≡ cond b ([] ∷ lines_of (y ∷ ys)) (onto_first x (lines_of (y ∷ ys))) ++ lines_of part
    at true rest = ap (λ l. [] ∷ l) rest
    at false rest = ap (onto_first x) rest ∙ onto_first-append x (lines_of (y ∷ ys)) (lines_of part) (lines_of-some y ys)

-- ---- whole lines, and the bytes after them

no_end_any : (xs : List ℕ) → HasNoEnd xs → has_end xs ≡ false
no_end_any xs none = list_any_none (λ x. x == 10) xs (λ k d lt. ne_eqb (get_or xs k d) 10 (none k d lt))

any_end : (xs : List ℕ) → has_end xs ≡ false → HasNoEnd xs
any_end [] none = All-nil (λ x. x ≢ 10)
any_end (x ∷ xs) none = at (eqb x 10) refl none (any_end xs)
  where
    at : (b : Bool) → eqb x 10 ≡ b → (b || has_end xs) ≡ false → (has_end xs ≡ false → HasNoEnd xs) → HasNoEnd (x ∷ xs)
    at true is e rest = absurd (cc)
    at false is e rest = All-cons (λ y. y ≢ 10) x xs (eqb-false x 10 is) (rest e)

-- bytes without a line end have no whole line
no_whole : (xs : List ℕ) → has_end xs ≡ false → whole_lines xs ≡ []
unfolding whole_lines
no_whole [] none = refl
no_whole (x ∷ xs) none = at (eqb x 10) none (no_whole xs)
  where
    at : (b : Bool) → (b || has_end xs) ≡ false → (has_end xs ≡ false → whole_lines xs ≡ []) → cond b ([] ∷ whole_lines xs) (before_first x (whole_lines xs)) ≡ []
    at true e rest = absurd (cc)
    at false e rest = ap (before_first x) (rest e)

before_some : (x : ℕ) (ls : List (List ℕ)) → 0 < length ls → 0 < length (before_first x ls)
before_some x [] some = absurd (omega (arith, some))
before_some x (l ∷ ls) some = omega arith

some_whole : (xs : List ℕ) → has_end xs ≡ true → 0 < length (whole_lines xs)
unfolding whole_lines
some_whole [] some = absurd (cc)
some_whole (x ∷ xs) some = at (eqb x 10) some (some_whole xs)
  where
    at : (b : Bool) → (b || has_end xs) ≡ true → (has_end xs ≡ true → 0 < length (whole_lines xs)) → 0 < length (cond b ([] ∷ whole_lines xs) (before_first x (whole_lines xs)))
    at true e rest = omega arith
    at false e rest = before_some x (whole_lines xs) (rest e)

-- the bytes as the last line, if there are any
abbrev last_line : List ℕ → List (List ℕ)
last_line [] = []
last_line (x ∷ xs) = (x ∷ xs) ∷ []

before_more : (x : ℕ) (ls ms : List (List ℕ)) → 0 < length ls → onto_first x (ls ++ ms) ≡ before_first x ls ++ ms
before_more x [] ms some = absurd (omega (arith, some))
before_more x (l ∷ ls) ms some = refl

-- the lines are the whole lines and the rest, if it is not empty
pub lines_of-parts : (input : List ℕ) → lines_of input ≡ whole_lines input ++ last_line (rest_of input)
unfolding lines_of whole_lines rest_of
lines_of-parts [] = refl
lines_of-parts (x ∷ xs) = at (eqb x 10) refl (has_end xs) refl (lines_of-parts xs)
  where
    at : (b : Bool) → eqb x 10 ≡ b → (c : Bool) → has_end xs ≡ c → lines_of xs ≡ whole_lines xs ++ last_line (rest_of xs)
        → cond b ([] ∷ lines_of xs) (onto_first x (lines_of xs)) ≡ cond b ([] ∷ whole_lines xs) (before_first x (whole_lines xs)) ++ last_line (cond (b || c) (rest_of xs) (x ∷ xs))
    at true is c more rest = ap (λ ls. [] ∷ ls) rest
    at false is true more rest = ap (onto_first x) rest ∙ before_more x (whole_lines xs) (last_line (rest_of xs)) (some_whole xs more)
    at false is false more rest =
        let whole : lines_of (x ∷ xs) ≡ (x ∷ xs) ∷ [] = lines_of-last (x ∷ xs) (All-cons (λ y. y ≢ 10) x xs (eqb-false x 10 is) (any_end xs more)) (omega arith) in
        sym (ap (λ b. cond b ([] ∷ lines_of xs) (onto_first x (lines_of xs))) is) ∙ whole ∙ sym (ap (λ ls. before_first x ls ++ (x ∷ xs) ∷ []) (no_whole xs more))

onto_before : (x : ℕ) (ls : List (List ℕ)) → 0 < length ls → before_first x ls ≡ onto_first x ls
onto_before x [] some = absurd (omega (arith, some))
onto_before x (l ∷ ls) some = refl

whole_end : (x : ℕ) (xs rest : List ℕ) → IsWhole (x ∷ xs) → has_end ((x ∷ xs) ++ rest) ≡ true
unfolding IsWhole
whole_end x [] rest is_whole = rw (eq-eqb x 10 (is_whole (omega arith))) refl
whole_end x (y ∷ ys) rest is_whole = at (eqb x 10) (whole_end y ys rest (IsWhole-tail x y ys is_whole))
  where
    at : (b : Bool) → has_end ((y ∷ ys) ++ rest) ≡ true → (b || has_end ((y ∷ ys) ++ rest)) ≡ true
    at true h = refl
    at false h = h

module _ (rest : List ℕ) (none : HasNoEnd rest) where
  rest_alone : (xs : List ℕ) → has_end xs ≡ false → rest_of xs ≡ xs
  unfolding rest_of
  rest_alone [] e = refl
  rest_alone (x ∷ xs) e = rw e refl

  -- whole lines followed by such a rest have a unique decomposition
  pub whole_lines-append : (whole : List ℕ) → IsWhole whole → whole_lines (whole ++ rest) ≡ lines_of whole
  unfolding whole_lines lines_of IsWhole
  whole_lines-append [] is_whole = no_whole rest (no_end_any rest none)
  whole_lines-append (x ∷ []) is_whole =
      let hit = eq-eqb x 10 (is_whole (omega arith)) in
      ap (λ b. cond b ([] ∷ whole_lines rest) (before_first x (whole_lines rest))) hit ∙ ap (λ ls. [] ∷ ls) (no_whole rest (no_end_any rest none))
      ∙ sym (ap (λ b. cond b ([] ∷ []) (onto_first x [])) hit)
  whole_lines-append (x ∷ y ∷ ys) is_whole = at (eqb x 10) (whole_lines-append (y ∷ ys) (IsWhole-tail x y ys is_whole))
    where
      at : (b : Bool) → whole_lines ((y ∷ ys) ++ rest) ≡ lines_of (y ∷ ys)
          → cond b ([] ∷ whole_lines ((y ∷ ys) ++ rest)) (before_first x (whole_lines ((y ∷ ys) ++ rest))) ≡ cond b ([] ∷ lines_of (y ∷ ys)) (onto_first x (lines_of (y ∷ ys)))
      at true same = ap (λ l. [] ∷ l) same
      at false same = ap (before_first x) same ∙ onto_before x (lines_of (y ∷ ys)) (lines_of-some y ys)

  pub rest_of-append : (whole : List ℕ) → IsWhole whole → rest_of (whole ++ rest) ≡ rest
  unfolding rest_of
  rest_of-append [] is_whole = rest_alone rest (no_end_any rest none)
  rest_of-append (x ∷ []) is_whole = rw (whole_end x [] rest is_whole) (rest_alone rest (no_end_any rest none))
  rest_of-append (x ∷ y ∷ ys) is_whole = rw (whole_end x (y ∷ ys) rest is_whole) (rest_of-append (y ∷ ys) (IsWhole-tail x y ys is_whole))

module _ {S : Type 0} (after : S → List ℕ → S) where
  pub left_by-append : (s : S) (ls ms : List (List ℕ)) → left_by after s (ls ++ ms) ≡ left_by after (left_by after s ls) ms
  unfolding left_by
  left_by-append s [] ms = refl
  left_by-append s (l ∷ ls) ms = left_by-append (after s l) ls ms

  pub replies_to-append : (reply : S → List ℕ → List ℕ) (s : S) (ls ms : List (List ℕ))
      → replies_to reply after s (ls ++ ms)
      ≡ replies_to reply after s ls ++ replies_to reply after (left_by after s ls) ms
  unfolding replies_to left_by
  replies_to-append reply s [] ms = refl
  replies_to-append reply s (l ∷ ls) ms =
      ap (λ rest. reply s l ++ rest) (replies_to-append reply (after s l) ls ms)
      ∙ sym (append_assoc (reply s l) (replies_to reply after (after s l) ls) (replies_to reply after (left_by after (after s l) ls) ms))

module _ {S : Type 0} (reply : S → List ℕ → List ℕ) (after : S → List ℕ → S) where
  one_text : (s : S) (rest : List ℕ) → rest_reply reply after reply s rest ≡ replies_to reply after s (last_line rest)
  unfolding replies_to
  one_text s [] = refl
  one_text s (x ∷ xs) = sym (append-nil (reply s (x ∷ xs)))

  -- the case that the rest is answered as a line is
  pub text_of-uncut : (start : S) (input : List ℕ) → text_of reply after reply start input ≡ replies_to reply after start (lines_of input)
  text_of-uncut start input =
      ap (λ t. replies_to reply after start (whole_lines input) ++ t) (one_text (left_by after start (whole_lines input)) (rest_of input))
      ∙ sym (replies_to-append after reply start (whole_lines input) (last_line (rest_of input)))
      ∙ sym (ap (replies_to reply after start) (lines_of-parts input))
