-- A run that continues from kept lines.
use Rattle.std.proofs.Common.{Result, Ok, Err, IfErr, Option, None, ◌≡◌, ℕ, ◌<◌, ◌^◌, true, List, [], ap, subst, sym, ◌∙◌}
use Rattle.std.proofs.KnownBytes.{Appends-nil, Consumes-nil}
use Rattle.indexset_lines.specs.Lines.{lines_of, whole_lines}
use Rattle.indexset_lines.specs.Run.{left_by, replies_to}
use Rattle.indexset_follow.specs.Follow.{State, start_state, state_after}
use Rattle.indexset_follow.specs.Store.{Held, after_input, can_lead, held, held_cut, input_reply}
use Rattle.indexset_follow.specs.declared.others.Voice.{Voice}
use Rattle.indexset_follow.specs.declared.role.Role.{Role}
use Rattle.sqlite_trees.specs.Tree.{Trees}
use Rattle.sqlite_trees.specs.View.{View}
use Rattle.indexset_keep.specs.Keep.{AnswersAll, AnswersSome, IsSame, Leads, MayLead, map_after, state_held}
use Rattle.indexset_keep.specs.Map.{first_map}
use Rattle.indexset_keep.specs.Roles.{IsSoundMap, IsSoundRole, role_of, settled}
use Rattle.indexset_keep.specs.declared.manner.Manner.{Manner}
use Rattle.indexset_keep.proofs.Runs.{none_whole}
use Rattle.indexset_keep.proofs.Starts.{first_same, first_sound, first_whole}
use Rattle.indexset_keep.proofs.States.{leads_on, may_lead_behind, may_lead_same, settled_same}
use Rattle.std.specs.declared.cmp.Ordering.{Ordering}
use Rattle.indexset_wire.specs.Texts.{AreTokens, Texts}
use Rattle.std.specs.Cmp.{IsTotalOrder}

module _ {T : Type 0} (cmp : T → T → Ordering) (texts : Texts T) where
  module _ (reply cut : Held T → List ℕ → List ℕ) (t : Held T) {S : Type 0} (view : S → View) (recovers : S → Trees → Type 0) (old : S) (from : State T) where
    -- it failed before the first line
    pub some_kept : (new : S) (r w : Option (List ℕ)) (IsOut : Type 0)
        → MayLead cmp texts view recovers old new from (state_held t) (state_held t)
        → AnswersSome cmp texts reply cut t view recovers old new r r w w from IsOut
    unfolding lines_of left_by replies_to
    some_kept new r w IsOut it = record {
      whole = [];
      more = [];
      rest = [];
      is_whole = none_whole;
      is_more = none_whole;
      read = Consumes-nil r;
      written = λ out. Appends-nil w;
      crash = it;
    }

    pub some_at_first : (r w : Option (List ℕ)) (IsOut : Type 0) → IsSame from (state_held t) → AnswersSome cmp texts reply cut t view recovers old old r r w w from IsOut
    some_at_first r w IsOut same = some_kept old r w IsOut (may_lead_same cmp texts view recovers old from (state_held t) (state_held t) same)

    module _ (mid new : S) (r r' w w' : Option (List ℕ)) (first : Leads cmp texts view recovers old mid from (state_held t)) where
      pub all_behind : AnswersAll cmp texts reply cut t view recovers mid new r r' w w' (state_held t) → AnswersAll cmp texts reply cut t view recovers old new r r' w w' from
      all_behind a = record {
        input = a.input;
        read = a.read;
        at_end = a.at_end;
        written = a.written;
        leads = let end = left_by (after_input cmp texts) t (whole_lines a.input) in
            leads_on cmp texts view recovers old mid new from (state_held t) first (state_held end)
            (settled_same t.role end.role) a.leads;
      }

      pub some_behind : (IsOut : Type 0)
          → AnswersSome cmp texts reply cut t view recovers mid new r r' w w' (state_held t) IsOut
          → AnswersSome cmp texts reply cut t view recovers old new r r' w w' from IsOut
      some_behind IsOut a = record {
        whole = a.whole;
        more = a.more;
        rest = a.rest;
        is_whole = a.is_whole;
        is_more = a.is_more;
        read = a.read;
        written = a.written;
        crash = let end = map_after cmp texts t a.whole in
            may_lead_behind cmp texts view recovers old mid new from (state_held t) first (state_held end)
            (state_held (map_after cmp texts end a.more)) (settled_same t.role end.role) a.crash;
      }

  -- ---- the same by other names

  module _ (v u : Voice) (t h : Held T) {S : Type 0} (view : S → View) (recovers : S → Trees → Type 0) (old new : S) (r r' w w' : Option (List ℕ)) (voice : u ≡ v) (is : h ≡ t) where
    pub all_named : AnswersAll cmp texts (input_reply cmp texts u) (held_cut cmp texts u) h view recovers old new r
        r' w w' (state_held h)
        → AnswersAll cmp texts (input_reply cmp texts v) (held_cut cmp texts v) t view recovers old new r r' w w'
        (state_held t)
    all_named a =
        subst (λ x.
        AnswersAll cmp texts (input_reply cmp texts x) (held_cut cmp texts x) t view recovers old new r r' w w'
        (state_held t))
        voice
        (subst (λ x.
        AnswersAll cmp texts (input_reply cmp texts u) (held_cut cmp texts u) x view recovers old new r r' w w'
        (state_held x))
        is a)

    pub some_named : (IsOut : Type 0)
        → AnswersSome cmp texts (input_reply cmp texts u) (held_cut cmp texts u) h view recovers old new r r' w w'
        (state_held h) IsOut
        → AnswersSome cmp texts (input_reply cmp texts v) (held_cut cmp texts v) t view recovers old new r r' w w'
        (state_held t) IsOut
    some_named IsOut a =
        subst (λ x.
        AnswersSome cmp texts (input_reply cmp texts x) (held_cut cmp texts x) t view recovers old new r r' w w'
        (state_held t) IsOut)
        voice
        (subst (λ x.
        AnswersSome cmp texts (input_reply cmp texts u) (held_cut cmp texts u) x view recovers old new r r' w w'
        (state_held x) IsOut)
        is a)

pub if_err_map : {X E : Type 0} (r : Result X E) {P Q : E → Type 0} → IfErr r P → ((e : E) → P e → Q e) → IfErr r Q
if_err_map (Ok x) p f = tt
if_err_map (Err e) p f = f e p

module _ {T : Type 0} (cmp : T → T → Ordering) (texts : Texts T) (total : IsTotalOrder cmp) (spelled : AreTokens texts) where
  -- ---- the initial map

  module _ (m : Manner) (lines : List (List ℕ)) (follower : State T) (role : Role T)
      (read : follower ≡ state_after cmp texts (start_state 0) lines)
      (began : role ≡ role_of m.size m.window m.leads follower) where
    pub role_is : role ≡ role_of m.size m.window m.leads (state_after cmp texts (start_state 0) lines)
    role_is = began ∙ ap (role_of m.size m.window m.leads) read

    pub role_sound : m.size < 2 ^ 64 → (m.leads ≡ true → can_lead cmp m.size follower.held ≡ true) → IsSoundRole cmp texts role
    role_sound few can =
        subst (IsSoundRole cmp texts) (sym role_is)
        (first_sound cmp texts total spelled m.size m.window m.leads lines m.two few
        (λ yes. subst (λ s. can_lead cmp m.size s.held ≡ true) read (can yes)))

    pub role_same : IsSame (state_after cmp texts (start_state 0) lines) (settled role)
    role_same = subst (λ r. IsSame (state_after cmp texts (start_state 0) lines) (settled r)) (sym role_is) (first_same m.size m.window m.leads (state_after cmp texts (start_state 0) lines))

    pub role_whole : follower.coming ≡ None → follower.coming_done ≡ 0 → state_after cmp texts (start_state 0) lines ≡ settled role
    role_whole coming done = first_whole cmp texts m.size m.window m.leads lines (subst (λ s. s.coming ≡ None) read coming) (subst (λ s. s.coming_done ≡ 0) read done) ∙ ap settled (sym role_is)

    pub map_is : (h : Held T) → h ≡ held m.size m.window role → h ≡ first_map cmp texts m lines
    map_is h is = is ∙ ap (held m.size m.window) role_is

    pub map_is_sound : m.size < 2 ^ 64 → (m.leads ≡ true → can_lead cmp m.size follower.held ≡ true) → (h : Held T) → h ≡ held m.size m.window role → IsSoundMap cmp texts h
    map_is_sound few can h is = subst (IsSoundMap cmp texts) (sym is) (record { two = m.two; few = few; role = role_sound few can })
