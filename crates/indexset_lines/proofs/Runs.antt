-- The state of a run, line by line.
use Rattle.std.proofs.Common.{Option, OnSome, Bool, ◌≡◌, ◌≢◌, ◌<◌, ℕ, length, List, [], ◌∷◌, ◌++◌, refl, sym, ap, subst, ◌∙◌, arith, append_assoc, append-nil}
use Rattle.std.proofs.lemmas.List.Elements.{All-nil}
use Rattle.std.specs.Io.KnownBytes.{Appends, Consumes, IsAtEnd, Keeps}
use Rattle.std.proofs.KnownBytes.{Consumes-nil, Consumes-kept, Appends-nil, Consumes-trans, Appends-trans, Appends-kept, Keeps-refl}
use Rattle.std.proofs.Transfers.{StopsAt-of_All, StopsAt-append}
use Rattle.indexset_lines.specs.declared.line.Part.{Part}
use Rattle.indexset_lines.specs.declared.line.Part.TheVariants.{Whole, Last, End}
use Rattle.indexset_lines.specs.Lines.{HasNoEnd, IsLinePart, IsWhole, lines_of}
use Rattle.indexset_lines.specs.Reading.{Reads}
use Rattle.indexset_lines.specs.Run.{AnswersAll, AnswersWholeLines, LacksNumbers, left_by, replies_to, rest_reply, text_of}
use Rattle.indexset_lines.proofs.Lines.{lines_of-end, lines_of-last, lines_of-append, IsWhole-end, left_by-append, replies_to-append, rest_of-append, whole_lines-append}
use Rattle.indexset_lines.proofs.Pieces.{at_end-after}

pub whole_not_end : (is_used_up : Bool) → Whole is_used_up ≢ End
whole_not_end is_used_up e = cc

pub last_not_end : Last ≢ End
last_not_end e = cc

module _ {S : Type 0} (reply : S → List ℕ → List ℕ) (after : S → List ℕ → S) (begun : S) where
  -- the replies to whole lines
  abbrev text_so_far : List ℕ → List ℕ
  text_so_far whole = replies_to reply after begun (lines_of whole)

  -- whole lines were read and answered, and the state is that after them
  pub record SoFar (reader reader' writer writer' : Option (List ℕ)) (held : S) : Type 0 where
    pub whole : List ℕ
    pub is_whole : IsWhole whole
    pub read : Consumes reader reader' whole
    pub written : Appends writer writer' (text_so_far whole)
    pub left : held ≡ left_by after begun (lines_of whole)

  pub start : (r w : Option (List ℕ)) (held : S) → held ≡ begun → SoFar r r w w held
  unfolding IsWhole lines_of replies_to left_by
  start r w held none = record { whole = []; is_whole = λ some. absurd (omega (arith, some)); read = Consumes-nil r; written = Appends-nil w; left = none }

  -- the writer was flushed
  pub flushed : (r r1 w w1 w2 : Option (List ℕ)) (held : S) → SoFar r r1 w w1 held → Keeps w1 w2 → SoFar r r1 w w2 held
  flushed r r1 w w1 w2 held far kept = record { whole = far.whole; is_whole = far.is_whole; read = far.read; written = Appends-kept w w1 w2 (text_so_far far.whole) far.written kept; left = far.left }

  -- nothing was read or answered
  pub nothing_read : (r w : Option (List ℕ)) → AnswersWholeLines reply after begun IsLinePart r r w w
  unfolding IsWhole lines_of replies_to
  nothing_read r w = record {
    whole = [];
    rest = [];
    is_whole = λ some. absurd (omega (arith, some));
    is_rest = StopsAt-of_All [] 10 (All-nil (λ x. x ≢ 10));
    read = Consumes-nil r;
    written = Appends-nil w;
  }

  -- ---- whole lines and a rest

  module _ (cut : S → List ℕ → List ℕ) where
    text_with : (whole rest : List ℕ) → IsWhole whole → HasNoEnd rest
        → text_of reply after cut begun (whole ++ rest)
        ≡ text_so_far whole ++ rest_reply reply after cut (left_by after begun (lines_of whole)) rest
    text_with whole rest is_whole none = rw (whole_lines-append rest none whole is_whole, rest_of-append rest none whole is_whole) refl

    text_whole : (whole : List ℕ) → IsWhole whole → text_of reply after cut begun whole ≡ text_so_far whole
    text_whole whole is_whole =
        sym (ap (text_of reply after cut begun) (append-nil whole)) ∙ text_with whole [] is_whole (All-nil (λ x. x ≢ 10)) ∙ append-nil (text_so_far whole)

    rest_some : {s : S} (rest : List ℕ) → 0 < length rest → rest_reply reply after cut s rest ≡ cut s rest
    rest_some [] some = absurd (omega (arith, some))
    rest_some (x ∷ xs) some = refl

  -- ---- whole lines and another

  module _ (whole part line : List ℕ) (held : S) (is_whole : IsWhole whole) (one : lines_of part ≡ line ∷ []) (left : held ≡ left_by after begun (lines_of whole)) where
    text_of-more : text_so_far (whole ++ part) ≡ text_so_far whole ++ reply held line
    unfolding replies_to
    text_of-more =
        ap (replies_to reply after begun) (lines_of-append whole part is_whole ∙ ap (λ ls. lines_of whole ++ ls) one)
        ∙ replies_to-append after reply begun (lines_of whole) (line ∷ [])
        ∙ ap (λ t. text_so_far whole ++ t) (append-nil (reply (left_by after begun (lines_of whole)) line) ∙ ap (λ s. reply s line) (sym left))

    left_by-more : left_by after begun (lines_of (whole ++ part)) ≡ after held line
    unfolding left_by
    left_by-more =
        ap (left_by after begun) (lines_of-append whole part is_whole ∙ ap (λ ls. lines_of whole ++ ls) one)
        ∙ left_by-append after begun (lines_of whole) (line ∷ [])
        ∙ ap (λ s. after s line) (sym left)

  module _ (r r1 r2 w w1 w2 : Option (List ℕ)) (held : S) (line : List ℕ) (far : SoFar r r1 w w1 held) where
    -- a line was answered
    pub further : (part : Part) (is_used_up : Bool) (passed : List ℕ) (held' : S) → part ≡ Whole is_used_up → passed ≡ line → Reads r1 r2 line part
        → Appends w1 w2 (reply held passed) → held' ≡ after held passed → SoFar r r2 w w2 held'
    further part is_used_up passed held' is same reads told next =
        let read = subst (Reads r1 r2 line) is reads in
        let one = lines_of-end line read.0 in
        let line_told = subst (λ l. Appends w1 w2 (reply held l)) same told in
        record {
          whole = far.whole ++ (line ++ 10 ∷ []);
          is_whole = subst IsWhole (append_assoc far.whole line (10 ∷ [])) (IsWhole-end (far.whole ++ line));
          read = Consumes-trans r r1 r2 far.whole (line ++ 10 ∷ []) far.read read.1;
          written =
              subst (Appends w w2) (sym (text_of-more far.whole (line ++ 10 ∷ []) line held far.is_whole one far.left))
              (Appends-trans w w1 w2 (text_so_far far.whole) (reply held line) far.written line_told);
          left = next ∙ ap (λ l. after held l) same ∙ sym (left_by-more far.whole (line ++ 10 ∷ []) line held far.is_whole one far.left);
        }

    -- the last line, which has no end, was answered
    pub all_but_end : (cut : S → List ℕ → List ℕ) (part : Part) (passed : List ℕ) → part ≡ Last → passed ≡ line
        → Reads r1 r2 line part → Appends w1 w2 (cut held passed) → AnswersAll (text_of reply after cut begun) r r2 w w2
    all_but_end cut part passed is same reads told =
        let read = subst (Reads r1 r2 line) is reads in
        let cut_told = subst (λ l. Appends w1 w2 (cut held l)) same told in
        record {
          input = far.whole ++ line;
          read = Consumes-trans r r1 r2 far.whole line far.read read.1;
          at_end = at_end-after r r1 r2 far.whole far.read read.3;
          written =
              subst (Appends w w2)
              (sym
              (text_with cut far.whole line far.is_whole read.0
              ∙ ap (λ t. text_so_far far.whole ++ t) (rest_some cut line read.2 ∙ ap (λ s. cut s line) (sym far.left))))
              (Appends-trans w w1 w2 (text_so_far far.whole) (cut held line) far.written cut_told);
        }

    -- the reader failed within a line
    pub stopped : (IsRest : List ℕ → Type 0) → IsRest line → Consumes r1 r2 line → Keeps w1 w2 → AnswersWholeLines reply after begun IsRest r r2 w w2
    stopped IsRest is_rest read kept = record {
      whole = far.whole;
      rest = line;
      is_whole = far.is_whole;
      is_rest = is_rest;
      read = Consumes-trans r r1 r2 far.whole line far.read read;
      written = Appends-kept w w1 w2 (text_so_far far.whole) far.written kept;
    }

    -- a line was read but not answered
    unanswered_rest : (rest : List ℕ) → IsLinePart rest → Consumes r1 r2 rest → Keeps w1 w2 → AnswersWholeLines reply after begun IsLinePart r r2 w w2
    unanswered_rest rest stops read kept = record {
      whole = far.whole;
      rest = rest;
      is_whole = far.is_whole;
      is_rest = stops;
      read = Consumes-trans r r1 r2 far.whole rest far.read read;
      written = Appends-kept w w1 w2 (text_so_far far.whole) far.written kept;
    }

    pub unanswered : (part : Part) → part ≢ End → Reads r1 r2 line part → Keeps w1 w2 → AnswersWholeLines reply after begun IsLinePart r r2 w w2
    unanswered (Whole is_used_up) other reads kept = unanswered_rest (line ++ 10 ∷ []) (StopsAt-append line (10 ∷ []) 10 reads.0 (All-nil (λ x. x ≢ 10))) reads.1 kept
    unanswered Last other reads kept = unanswered_rest line (StopsAt-of_All line 10 reads.0) reads.1 kept
    unanswered End other reads kept = absurd (other refl)

    -- a line was read whose events need more numbers than remain
    lacking_rest : (lacks : S → Type 0) (rest passed : List ℕ) → lines_of rest ≡ line ∷ [] → IsLinePart rest
        → Consumes r1 r2 rest → passed ≡ line → Keeps w1 w2 → lacks (after held passed)
        → LacksNumbers reply after begun lacks r r2 w w2
    unfolding unanswered_rest
    lacking_rest lacks rest passed one stops read same kept many =
        let onward = ap (λ l. after held l) same ∙ sym (left_by-more far.whole rest line held far.is_whole one far.left) in
        (unanswered_rest rest stops read kept, subst lacks onward many)

    pub lacking : (lacks : S → Type 0) (part : Part) (passed : List ℕ) → part ≢ End → passed ≡ line
        → Reads r1 r2 line part → Keeps w1 w2 → lacks (after held passed)
        → LacksNumbers reply after begun lacks r r2 w w2
    lacking lacks (Whole is_used_up) passed other same reads kept many =
        lacking_rest lacks (line ++ 10 ∷ []) passed (lines_of-end line reads.0)
        (StopsAt-append line (10 ∷ []) 10 reads.0 (All-nil (λ x. x ≢ 10))) reads.1 same kept many
    lacking lacks Last passed other same reads kept many = lacking_rest lacks line passed (lines_of-last line reads.0 reads.2) (StopsAt-of_All line 10 reads.0) reads.1 same kept many
    lacking lacks End passed other same reads kept many = absurd (other refl)

    -- all was read, and the writer was flushed
    pub all_read : (cut : S → List ℕ → List ℕ) (part : Part) → part ≡ End → Reads r1 r2 line part → Keeps w1 w2 → AnswersAll (text_of reply after cut begun) r r2 w w2
    all_read cut part is reads kept =
        let read = subst (Reads r1 r2 line) is reads in
        record {
          input = far.whole;
          read = subst (Consumes r r2) (append-nil far.whole) (Consumes-trans r r1 r2 far.whole [] far.read read.1);
          at_end = at_end-after r r1 r2 far.whole far.read read.2;
          written = subst (Appends w w2) (sym (text_whole cut far.whole far.is_whole)) (Appends-kept w w1 w2 (text_so_far far.whole) far.written kept);
        }

  -- the reader had nothing left
  pub rest_read : (cut : S → List ℕ → List ℕ) (r r1 r2 w w1 : Option (List ℕ)) (held : S) → SoFar r r1 w w1 held
      → Keeps r1 r2 → OnSome r1 (IsAtEnd r2) → AnswersAll (text_of reply after cut begun) r r2 w w1
  rest_read cut r r1 r2 w w1 held far kept end = record {
    input = far.whole;
    read = Consumes-kept r r1 r2 far.whole far.read kept;
    at_end = at_end-after r r1 r2 far.whole far.read end;
    written = subst (Appends w w1) (sym (text_whole cut far.whole far.is_whole)) far.written;
  }

  -- nothing more was read
  pub unread : (r r1 r2 w w1 : Option (List ℕ)) (held : S) → SoFar r r1 w w1 held → Keeps r1 r2 → AnswersWholeLines reply after begun HasNoEnd r r2 w w1
  unread r r1 r2 w w1 held far kept = stopped r r1 r2 w w1 w1 held [] far HasNoEnd (All-nil (λ x. x ≢ 10)) (Consumes-kept r1 r1 r2 [] (Consumes-nil r1) kept) (Keeps-refl w1)

  -- the writer was flushed
  pub flushed_lacking : (lacks : S → Type 0) (r r' w w1 w2 : Option (List ℕ)) → LacksNumbers reply after begun lacks r r' w w1 → Keeps w1 w2 → LacksNumbers reply after begun lacks r r' w w2
  flushed_lacking lacks r r' w w1 w2 (a, many) kept =
      (record { whole = a.whole; rest = a.rest; is_whole = a.is_whole; is_rest = a.is_rest; read = a.read; written = Appends-kept w w1 w2 (text_so_far a.whole) a.written kept }, many)

-- the two functions give the same text for each input
pub texts_alike : (f h : List ℕ → List ℕ) → ((input : List ℕ) → f input ≡ h input) → (r r' w w' : Option (List ℕ)) → AnswersAll f r r' w w' → AnswersAll h r r' w w'
texts_alike f h same r r' w w' a = record { input = a.input; read = a.read; at_end = a.at_end; written = subst (Appends w w') (same a.input) a.written }
