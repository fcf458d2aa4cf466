-- The state of a run that keeps the changes of its map.
use Rattle.std.proofs.Common.{Result, Ok, Err, IfErr, OnErr, OnSome, Option, Some, ◌≡◌, ◌≢◌, ℕ}
use Rattle.std.proofs.Common.{◌+◌, ◌-◌, ◌<◌, get_or, length, length-append, List, [], ◌∷◌}
use Rattle.std.proofs.Common.{◌++◌, refl, sym, ap, subst, ◌∙◌, arith, append_assoc, append-nil}
use Rattle.std.specs.Io.KnownBytes.{Appends, Consumes, IsAtEnd, Keeps}
use Rattle.std.proofs.KnownBytes.{Appends-kept, Appends-nil, Appends-trans, Consumes-nil, Consumes-trans, Keeps-trans}
use Rattle.std.proofs.lemmas.List.{get_or-append-add}
use Rattle.indexset_lines.specs.Lines.{HasNoEnd, IsWhole, lines_of, whole_lines}
use Rattle.indexset_lines.specs.Run.{left_by, replies_to, rest_reply, text_of}
use Rattle.indexset_lines.specs.declared.fault.RunFault.{RunFault}
use Rattle.indexset_lines.specs.declared.fault.RunFault.TheVariants.{Memory, Numbers, Read, Write}
use Rattle.indexset_lines.proofs.Lines.{IsWhole-end, left_by-append, lines_of-end, lines_of-append, replies_to-append, rest_of-append, whole_lines-append}
use Rattle.indexset_lines.proofs.Runs.{SoFar}
use Rattle.indexset_follow.specs.Follow.{State, state_after}
use Rattle.indexset_follow.specs.Store.{Held, after_input}
use Rattle.sqlite_trees.specs.Tree.{Trees}
use Rattle.sqlite_trees.specs.View.{View}
use Rattle.indexset_keep.specs.Keep.{AnswersAll, AnswersSome, AnswersWhole, Leads, MayLead, map_after, rest_behind, state_held}
use Rattle.indexset_keep.specs.Roles.{IsSoundMap}
use Rattle.indexset_keep.specs.Told.{kept_by}
use Rattle.indexset_keep.specs.declared.answer.End.{End}
use Rattle.indexset_keep.specs.declared.answer.End.TheVariants.{Whole, Cut}
use Rattle.indexset_keep.specs.declared.fault.KeepFault.{KeepFault}
use Rattle.indexset_keep.specs.declared.fault.KeepFault.TheVariants.{Run, Journal, NodeSize}
use Rattle.indexset_keep.proofs.States.{leads_on, leads_still, may_lead_none, may_lead_on, more_lines, nothing_after, settled_same}
use Rattle.std.specs.declared.cmp.Ordering.{Ordering}
use Rattle.indexset_wire.specs.Texts.{Texts}

-- ---- consecutive lines

behind_any : (a : List ℕ) (x : ℕ) (xs : List ℕ) → IsWhole (x ∷ xs) → IsWhole (a ++ x ∷ xs)
unfolding IsWhole
behind_any a x xs second some =
    let place : length (a ++ x ∷ xs) - 1 ≡ length a + (length (x ∷ xs) - 1) = omega (arith, length-append a (x ∷ xs)) in
    ap (λ k. get_or (a ++ x ∷ xs) k 0) place ∙ get_or-append-add a (x ∷ xs) (length (x ∷ xs) - 1) 0 ∙ second (omega arith)

IsWhole-both : (a b : List ℕ) → IsWhole a → IsWhole b → IsWhole (a ++ b)
IsWhole-both a [] first second = subst IsWhole (sym (append-nil a)) first
IsWhole-both a (x ∷ xs) first second = behind_any a x xs second

pub none_whole : IsWhole []
unfolding IsWhole
none_whole some = absurd (omega (arith, some))

module _ {T : Type 0} (cmp : T → T → Ordering) (texts : Texts T) where
  held_both : (t : Held T) (whole part : List ℕ) → IsWhole whole → map_after cmp texts t (whole ++ part) ≡ map_after cmp texts (map_after cmp texts t whole) part
  held_both t whole part is_whole = ap (left_by (after_input cmp texts) t) (lines_of-append whole part is_whole) ∙ left_by-append (after_input cmp texts) t (lines_of whole) (lines_of part)

  left_alone : (t : Held T) (line : List ℕ) → left_by (after_input cmp texts) t (line ∷ []) ≡ after_input cmp texts t line
  unfolding left_by
  left_alone t line = refl

  none_left : (t : Held T) → t ≡ map_after cmp texts t []
  unfolding lines_of left_by
  none_left t = refl

-- a property of each fault holds for the fault of a result
pub on_err : {X : Type 0} (r : Result X KeepFault) (P : KeepFault → Type 0) → ((fault : KeepFault) → P fault) → IfErr r P
on_err (Ok x) P all = tt
on_err (Err fault) P all = all fault

pub on_err_any : {X E : Type 0} (r : Result X E) {P : Type 0} → P → OnErr r P
on_err_any (Ok x) it = tt
on_err_any (Err fault) it = it

module _ {T : Type 0} (cmp : T → T → Ordering) (texts : Texts T) where
  module _ (reply : Held T → List ℕ → List ℕ) where
    -- the answers to whole lines
    abbrev answers : Held T → List ℕ → List ℕ
    answers t whole = replies_to reply (after_input cmp texts) t (lines_of whole)

    answers_both : (t : Held T) (whole part : List ℕ) → IsWhole whole → answers t (whole ++ part) ≡ answers t whole ++ answers (map_after cmp texts t whole) part
    answers_both t whole part is_whole =
        ap (replies_to reply (after_input cmp texts) t) (lines_of-append whole part is_whole)
        ∙ replies_to-append (after_input cmp texts) reply t (lines_of whole) (lines_of part)

    reply_alone : (t : Held T) (line : List ℕ) → replies_to reply (after_input cmp texts) t (line ∷ []) ≡ reply t line
    unfolding replies_to
    reply_alone t line = append-nil (reply t line)

    none_written : (t : Held T) (waiting : List ℕ) → waiting ≡ [] → waiting ≡ [] ++ answers t []
    unfolding lines_of replies_to
    none_written t waiting none = none

  -- ---- a run

  module _ (reply cut : Held T → List ℕ → List ℕ) (t : Held T) {S : Type 0} (view : S → View) (recovers : S → Trees → Type 0) (old : S) (r w : Option (List ℕ)) (from : State T) where
    -- whole lines have their answers, and replaying what is kept gives the state after them;
    -- further whole lines were executed, and their answers and the lines to be kept of them are
    -- pending
    pub record Going (now : S) (r' w' : Option (List ℕ)) (waiting : List ℕ) (told : List (List ℕ)) (held : Held T) : Type 0 where
      pub middle : Option (List ℕ)
      pub between : Held T
      pub first : SoFar reply (after_input cmp texts) t r middle w w' between
      pub more : SoFar reply (after_input cmp texts) between middle r' (Some []) (Some waiting) held
      pub waits : state_after cmp texts (state_held between) told ≡ state_held held
      pub sound : IsSoundMap cmp texts held
      pub leads : Leads cmp texts view recovers old now from (state_held between)

    module _ (now : S) (r' w' : Option (List ℕ)) (waiting : List ℕ) (told : List (List ℕ)) (held : Held T) (g : Going now r' w' waiting told held) where
      -- the lines of both parts
      abbrev all : List ℕ
      all = g.first.whole ++ g.more.whole

      all_whole : IsWhole all
      all_whole = IsWhole-both g.first.whole g.more.whole g.first.is_whole g.more.is_whole

      all_read : Consumes r r' all
      all_read = Consumes-trans r g.middle r' g.first.whole g.more.whole g.first.read g.more.read

      answers_all : answers reply t all ≡ answers reply t g.first.whole ++ waiting
      answers_all =
          answers_both reply t g.first.whole g.more.whole g.first.is_whole
          ∙ ap (λ ls. answers reply t g.first.whole ++ ls) (ap (λ u. answers reply u g.more.whole) (sym g.first.left) ∙ sym g.more.written)

      left_all : held ≡ map_after cmp texts t all
      left_all = g.more.left ∙ ap (λ u. map_after cmp texts u g.more.whole) g.first.left ∙ sym (held_both cmp texts t g.first.whole g.more.whole g.first.is_whole)

      -- the state after the second part
      second_left : held ≡ map_after cmp texts (map_after cmp texts t g.first.whole) g.more.whole
      second_left = g.more.left ∙ ap (λ u. map_after cmp texts u g.more.whole) g.first.left

      -- a line was executed
      answered : (r2 : Option (List ℕ)) (line : List ℕ) (waiting2 : List ℕ) (told2 : List (List ℕ)) (held2 : Held T) → HasNoEnd line → Consumes r' r2 (line ++ 10 ∷ [])
          → waiting2 ≡ waiting ++ reply held line → told2 ≡ told ++ kept_by cmp texts reply held line → held2 ≡ after_input cmp texts held line
          → state_after cmp texts (state_held held) (kept_by cmp texts reply held line)
          ≡ state_held (after_input cmp texts held line)
          → IsSoundMap cmp texts held2 → Going now r2 w' waiting2 told2 held2
      answered r2 line waiting2 told2 held2 none read told_reply tells after on sound2 =
          let part = line ++ 10 ∷ [] in
          let one : lines_of part ≡ line ∷ [] = lines_of-end line none in
          let before : map_after cmp texts g.between g.more.whole ≡ held = sym g.more.left in
          let answer : answers reply (map_after cmp texts g.between g.more.whole) part ≡ reply held line =
          ap (λ u. answers reply u part) before ∙ ap (replies_to reply (after_input cmp texts) held) one
          ∙ reply_alone reply held line in
          let leaves : map_after cmp texts (map_after cmp texts g.between g.more.whole) part
          ≡ after_input cmp texts held line =
          ap (λ u. map_after cmp texts u part) before ∙ ap (left_by (after_input cmp texts) held) one
          ∙ left_alone cmp texts held line in
          record {
            middle = g.middle;
            between = g.between;
            first = g.first;
            more = record {
              whole = g.more.whole ++ part;
              is_whole = subst IsWhole (append_assoc g.more.whole line (10 ∷ [])) (IsWhole-end (g.more.whole ++ line));
              read = Consumes-trans g.middle r' r2 g.more.whole part g.more.read read;
              written = told_reply ∙ (λ i. g.more.written i ++ sym answer i) ∙ sym (answers_both reply g.between g.more.whole part g.more.is_whole);
              left = after ∙ sym leaves ∙ sym (held_both cmp texts g.between g.more.whole part g.more.is_whole);
            };
            waits =
                ap (state_after cmp texts (state_held g.between)) tells
                ∙ more_lines cmp texts (state_held g.between) told (kept_by cmp texts reply held line)
                ∙ ap (λ s. state_after cmp texts s (kept_by cmp texts reply held line)) g.waits
                ∙ on
                ∙ ap state_held (sym after);
            sound = sound2;
            leads = g.leads;
          }

      -- the writer was flushed
      waited : (w2 : Option (List ℕ)) → Keeps w' w2 → Going now r' w2 waiting told held
      waited w2 kept = record {
        middle = g.middle;
        between = g.between;
        first = record {
          whole = g.first.whole;
          is_whole = g.first.is_whole;
          read = g.first.read;
          written = Appends-kept w w' w2 (answers reply t g.first.whole) g.first.written kept;
          left = g.first.left;
        };
        more = g.more;
        waits = g.waits;
        sound = g.sound;
        leads = g.leads;
      }

      -- replaying what is kept gives the state
      leads_held : (now2 : S) → Leads cmp texts view recovers now now2 (state_held g.between) (state_held held) → Leads cmp texts view recovers old now2 from (state_held held)
      leads_held now2 it = leads_on cmp texts view recovers old now now2 from (state_held g.between) g.leads (state_held held) (settled_same g.between.role held.role) it

      -- the pending lines were kept, and the pending answers written
      pub put : (now2 : S) (w2 : Option (List ℕ))
          → Leads cmp texts view recovers now now2 (state_held g.between) (state_held held) → Appends w' w2 waiting
          → (waiting2 : List ℕ) (told2 : List (List ℕ)) → waiting2 ≡ [] → told2 ≡ []
          → Going now2 r' w2 waiting2 told2 held
      put now2 w2 kept wrote waiting2 told2 no_answers no_lines = record {
        middle = r';
        between = held;
        first = record {
          whole = all;
          is_whole = all_whole;
          read = all_read;
          written = subst (Appends w w2) (sym answers_all) (Appends-trans w w' w2 (answers reply t g.first.whole) waiting g.first.written wrote);
          left = left_all;
        };
        more = record { whole = []; is_whole = none_whole; read = Consumes-nil r'; written = none_written reply held waiting2 no_answers; left = none_left cmp texts held };
        waits = ap (state_after cmp texts (state_held held)) no_lines ∙ nothing_after cmp texts (state_held held);
        sound = g.sound;
        leads = leads_held now2 kept;
      }

      -- all was kept and written, before such a rest
      pub ended : (now2 : S) (r2 w2 w3 : Option (List ℕ)) (rest : List ℕ) → Consumes r' r2 rest → Keeps w' w2
          → Leads cmp texts view recovers now now2 (state_held g.between) (state_held held) → Appends w2 w3 waiting
          → AnswersWhole cmp texts reply cut t view recovers old now2 r r2 w w3 from rest held
      ended now2 r2 w2 w3 rest read kept adds wrote = record {
        whole = all;
        is_whole = all_whole;
        read = Consumes-trans r r' r2 all rest all_read read;
        written =
            subst (Appends w w3) (sym answers_all)
            (Appends-trans w w2 w3 (answers reply t g.first.whole) waiting
            (Appends-kept w w' w2 (answers reply t g.first.whole) g.first.written kept) wrote);
        left = left_all;
        leads = subst (λ u. Leads cmp texts view recovers old now2 from (state_held u)) left_all (leads_held now2 adds);
      }

      -- the states that a crash can leave are those after each part
      in_parts : (now2 : S) → MayLead cmp texts view recovers old now2 from (state_held g.between) (state_held held)
          → MayLead cmp texts view recovers old now2 from (state_held (map_after cmp texts t g.first.whole))
          (state_held (map_after cmp texts (map_after cmp texts t g.first.whole) g.more.whole))
      in_parts now2 it =
          subst (λ u.
          MayLead cmp texts view recovers old now2 from (state_held (map_after cmp texts t g.first.whole))
          (state_held u))
          second_left
          (subst (λ u. MayLead cmp texts view recovers old now2 from (state_held u) (state_held held)) g.first.left it)

      -- nothing more was kept or written, before such a rest
      pub stopped : (r2 w2 : Option (List ℕ)) (rest : List ℕ) (IsOut : Type 0) → Consumes r' r2 rest → Keeps w' w2 → AnswersSome cmp texts reply cut t view recovers old now r r2 w w2 from IsOut
      stopped r2 w2 rest IsOut read kept = record {
        whole = g.first.whole;
        more = g.more.whole;
        rest = rest;
        is_whole = g.first.is_whole;
        is_more = g.more.is_whole;
        read = Consumes-trans r g.middle r2 g.first.whole (g.more.whole ++ rest) g.first.read (Consumes-trans g.middle r' r2 g.more.whole rest g.more.read read);
        written = λ out. Appends-kept w w' w2 (answers reply t g.first.whole) g.first.written kept;
        crash = in_parts now (may_lead_none cmp texts view recovers old now now from (state_held g.between) g.leads (state_held held));
      }

      -- the pending lines could not be kept, or the pending answers could not be written
      pub failed : (now2 : S) (r2 w2 w3 : Option (List ℕ)) (rest : List ℕ) (fault : KeepFault) → Consumes r' r2 rest → Keeps w' w2
          → (fault ≢ Run Write
          → MayLead cmp texts view recovers now now2 (state_held g.between) (state_held g.between) (state_held held)
          × Keeps w2 w3)
          → (fault ≡ Run Write → Leads cmp texts view recovers now now2 (state_held g.between) (state_held held))
          → AnswersSome cmp texts reply cut t view recovers old now2 r r2 w w3 from (fault ≢ Run Write)
      failed now2 r2 w2 w3 rest fault read kept unkept unwritten = by fault unkept unwritten
        where
          lost : (IsOut : Type 0)
              → MayLead cmp texts view recovers now now2 (state_held g.between) (state_held g.between) (state_held held)
              × Keeps w2 w3
              → AnswersSome cmp texts reply cut t view recovers old now2 r r2 w w3 from IsOut
          lost IsOut it = record {
            whole = g.first.whole;
            more = g.more.whole;
            rest = rest;
            is_whole = g.first.is_whole;
            is_more = g.more.is_whole;
            read = Consumes-trans r g.middle r2 g.first.whole (g.more.whole ++ rest) g.first.read (Consumes-trans g.middle r' r2 g.more.whole rest g.more.read read);
            written = λ out. Appends-kept w w' w3 (answers reply t g.first.whole) g.first.written (Keeps-trans w' w2 w3 kept it.1);
            crash = in_parts now2 (may_lead_on cmp texts view recovers old now now2 from (state_held g.between) g.leads (state_held held) it.0);
          }

          unsaid : Leads cmp texts view recovers now now2 (state_held g.between) (state_held held) → AnswersSome cmp texts reply cut t view recovers old now2 r r2 w w3 from (Run Write ≢ Run Write)
          unsaid leads = record {
            whole = all;
            more = [];
            rest = rest;
            is_whole = all_whole;
            is_more = none_whole;
            read = Consumes-trans r r' r2 all rest all_read read;
            written = λ out. absurd (out refl);
            crash =
                may_lead_none cmp texts view recovers old now2 now2 from (state_held (map_after cmp texts t all))
                (subst (λ u. Leads cmp texts view recovers old now2 from (state_held u)) left_all
                (leads_held now2 leads))
                (state_held (map_after cmp texts (map_after cmp texts t all) []));
          }

          by : (fault : KeepFault)
              → (fault ≢ Run Write
              → MayLead cmp texts view recovers now now2 (state_held g.between) (state_held g.between) (state_held held)
              × Keeps w2 w3)
              → (fault ≡ Run Write → Leads cmp texts view recovers now now2 (state_held g.between) (state_held held))
              → AnswersSome cmp texts reply cut t view recovers old now2 r r2 w w3 from (fault ≢ Run Write)
          by (Run Memory) unkept unwritten = lost _ (unkept (λ e. cc))
          by (Run Numbers) unkept unwritten = lost _ (unkept (λ e. cc))
          by (Run Read) unkept unwritten = lost _ (unkept (λ e. cc))
          by (Run Write) unkept unwritten = unsaid (unwritten refl)
          by (Journal error) unkept unwritten = lost _ (unkept (λ e. cc))
          by NodeSize unkept unwritten = lost _ (unkept (λ e. cc))

    -- the writer was flushed, and a line was executed
    pub carried : (now : S) (r' w' : Option (List ℕ)) (waiting : List ℕ) (told : List (List ℕ)) (held : Held T) → Going now r' w' waiting told held
        → (w2 r2 : Option (List ℕ)) (line waiting2 : List ℕ) (told2 : List (List ℕ)) (held2 : Held T) → Keeps w' w2 → HasNoEnd line → Consumes r' r2 (line ++ 10 ∷ [])
        → waiting2 ≡ waiting ++ reply held line → told2 ≡ told ++ kept_by cmp texts reply held line → held2 ≡ after_input cmp texts held line
        → state_after cmp texts (state_held held) (kept_by cmp texts reply held line) ≡ state_held (after_input cmp texts held line) → IsSoundMap cmp texts held2 → Going now r2 w2 waiting2 told2 held2
    carried now r' w' waiting told held g w2 r2 line waiting2 told2 held2 kept none read told_reply tells after on sound2 =
        answered now r' w2 waiting told held (waited now r' w' waiting told held g w2 kept) r2 line waiting2 told2 held2 none read told_reply tells after on sound2

    -- the initial state
    pub begun : (waiting : List ℕ) (told : List (List ℕ)) → waiting ≡ [] → told ≡ [] → IsSoundMap cmp texts t → from ≡ state_held t → Going old r w waiting told t
    unfolding lines_of replies_to
    begun waiting told no_answers no_lines sound is = record {
      middle = r;
      between = t;
      first = record { whole = []; is_whole = none_whole; read = Consumes-nil r; written = Appends-nil w; left = none_left cmp texts t };
      more = record { whole = []; is_whole = none_whole; read = Consumes-nil r; written = none_written reply t waiting no_answers; left = none_left cmp texts t };
      waits = ap (state_after cmp texts (state_held t)) no_lines ∙ nothing_after cmp texts (state_held t);
      sound = sound;
      leads = leads_still cmp texts view recovers old from (state_held t) is;
    }

    -- ---- the end of the reader

    rest_some : (u : Held T) (line : List ℕ) → 0 < length line → rest_reply reply (after_input cmp texts) cut u line ≡ cut u line
    rest_some u [] some = absurd (omega (arith, some))
    rest_some u (x ∷ xs) some = refl

    module _ (now : S) (r' w' : Option (List ℕ)) (rest : List ℕ) (held : Held T) (a : AnswersWhole cmp texts reply cut t view recovers old now r r' w w' from rest held) (none : HasNoEnd rest) where
      input_text : text_of reply (after_input cmp texts) cut t (a.whole ++ rest) ≡ answers reply t a.whole ++ rest_reply reply (after_input cmp texts) cut (map_after cmp texts t a.whole) rest
      input_text = rw (whole_lines-append rest none a.whole a.is_whole, rest_of-append rest none a.whole a.is_whole) refl

      input_left : left_by (after_input cmp texts) t (whole_lines (a.whole ++ rest)) ≡ map_after cmp texts t a.whole
      input_left = ap (left_by (after_input cmp texts) t) (whole_lines-append rest none a.whole a.is_whole)

      -- such a rest was answered
      pub all_answered : (w2 : Option (List ℕ)) → OnSome r (IsAtEnd r')
          → Appends w' w2 (rest_reply reply (after_input cmp texts) cut held rest)
          → AnswersAll cmp texts reply cut t view recovers old now r r' w w2 from
      all_answered w2 end wrote = record {
        input = a.whole ++ rest;
        read = a.read;
        at_end = end;
        written =
            subst (Appends w w2)
            (ap (λ u. answers reply t a.whole ++ rest_reply reply (after_input cmp texts) cut u rest) a.left
            ∙ sym input_text)
            (Appends-trans w w' w2 (answers reply t a.whole) (rest_reply reply (after_input cmp texts) cut held rest)
            a.written wrote);
        leads = subst (λ u. Leads cmp texts view recovers old now from (state_held u)) (sym input_left) a.leads;
      }

      -- the answer to it failed
      pub not_answered : (w2 : Option (List ℕ)) (fault : RunFault) → (fault ≡ Memory → Keeps w' w2)
          → (fault ≡ Numbers → Keeps w' w2) → fault ≢ Read
          → AnswersSome cmp texts reply cut t view recovers old now r r' w w2 from (Run fault ≢ Run Write)
      not_answered w2 fault kept numbers no_read = by fault kept numbers no_read
        where
          some : (IsOut : Type 0) → (IsOut → Keeps w' w2) → AnswersSome cmp texts reply cut t view recovers old now r r' w w2 from IsOut
          some IsOut out = record {
            whole = a.whole;
            more = [];
            rest = rest;
            is_whole = a.is_whole;
            is_more = none_whole;
            read = a.read;
            written = λ it. Appends-kept w w' w2 (answers reply t a.whole) a.written (out it);
            crash = may_lead_none cmp texts view recovers old now now from (state_held (map_after cmp texts t a.whole)) a.leads (state_held (map_after cmp texts (map_after cmp texts t a.whole) []));
          }

          by : (fault : RunFault) → (fault ≡ Memory → Keeps w' w2) → (fault ≡ Numbers → Keeps w' w2) → fault ≢ Read
              → AnswersSome cmp texts reply cut t view recovers old now r r' w w2 from (Run fault ≢ Run Write)
          by Memory kept numbers no_read = some _ (λ out. kept refl)
          by Numbers kept numbers no_read = some _ (λ out. numbers refl)
          by Read kept numbers no_read = absurd (no_read refl)
          by Write kept numbers no_read = some _ (λ out. absurd (out refl))

    -- all lines had line ends
    pub ended_whole : (now : S) (r' w' : Option (List ℕ)) (line : List ℕ) (held : Held T) (end : End) → end ≢ Cut
        → AnswersWhole cmp texts reply cut t view recovers old now r r' w w' from (rest_behind end line) held
        → HasNoEnd (rest_behind end line)
        → OnSome r (IsAtEnd r') → AnswersAll cmp texts reply cut t view recovers old now r r' w w' from
    ended_whole now r' w' line held Whole other a none at_end = all_answered now r' w' [] held a none w' at_end (Appends-nil w')
    ended_whole now r' w' line held Cut other a none at_end = absurd (other refl)

    -- the last line had no line end, and was answered
    pub ended_cut : (now : S) (r' w' w2 : Option (List ℕ)) (line passed : List ℕ) (held : Held T)
        → AnswersWhole cmp texts reply cut t view recovers old now r r' w w' from line held → HasNoEnd line
        → 0 < length line
        → OnSome r (IsAtEnd r') → passed ≡ line → Appends w' w2 (cut held passed) → AnswersAll cmp texts reply cut t view recovers old now r r' w w2 from
    ended_cut now r' w' w2 line passed held a none some at_end same wrote =
        all_answered now r' w' line held a none w2 at_end
        (subst (Appends w' w2) (ap (cut held) same ∙ sym (rest_some held line some)) wrote)
