-- In either role, replaying what is kept of a line gives the next state, and the map stays sound.
use Rattle.std.proofs.Common.{Option, None, Some, ◌≡◌, ℕ, ◌-◌, ◌<◌, ◌≤◌, ◌^◌, Bool, true, false, cond, List, [], ◌∷◌, take, refl, ap, sym, subst, ◌∙◌, arith}
use lib.Chars.{codes}
use Rattle.std.proofs.lemmas.Slice.Eq.{bytes_eq-Decides}
use Rattle.std.specs.Option.{option_map_or}
use Rattle.std.specs.Prelude.{◌&&◌, if◌then◌else◌, not}
use Rattle.std.specs.Str.{bytes_eq}
use Rattle.indexset_lines.specs.Lines.{whole_lines}
use Rattle.indexset_events.specs.Nodes.{is_filled}
use Rattle.indexset_follow.specs.Copy.{copy, unsummed_text}
use Rattle.indexset_follow.specs.EventLine.{event_of}
use Rattle.indexset_follow.specs.Follow.{State, after_line, holding, reply_line, state_after}
use Rattle.indexset_follow.specs.Leading.{leader_of}
use Rattle.indexset_follow.specs.Mark.{mark_of}
use Rattle.indexset_follow.specs.NodeLine.{node_of}
use Rattle.indexset_follow.specs.Query.{query_of}
use Rattle.indexset_follow.specs.Reply.{reply_ended, voiced}
use Rattle.indexset_follow.specs.Store.{Held, after_input, after_in_role, after_lead, can_lead}
use Rattle.indexset_follow.specs.Store.{held, held_reply, input_reply, is_follow, is_lead, is_start}
use Rattle.indexset_follow.specs.Store.{promoted, reply_in_role, role_after, starts, without_return}
use Rattle.indexset_follow.specs.declared.leader.Leader.{Leader}
use Rattle.indexset_follow.specs.declared.mark.Mark.{Mark}
use Rattle.indexset_follow.specs.declared.mark.Mark.TheVariants.{Start, End, Done}
use Rattle.indexset_follow.specs.declared.others.Voice.{Voice}
use Rattle.indexset_follow.specs.declared.reads.query.Query.{Query}
use Rattle.indexset_follow.specs.declared.reply.Reply.TheVariants as reply
use Rattle.indexset_follow.specs.declared.role.Role.{Role}
use Rattle.indexset_follow.specs.declared.role.Role.TheVariants.{Following, Leading}
use Rattle.indexset_follow.proofs.MarkLines.{mark_sound, start_cut}
use Rattle.indexset_follow.proofs.Readings.{no_number}
use Rattle.indexset_journal.specs.Kept.{texts as lines_texts}
use Rattle.indexset_keep.specs.Followed.{line_kept}
use Rattle.indexset_keep.specs.Keep.{state_held}
use Rattle.indexset_keep.specs.Leads.{IsSound}
use Rattle.indexset_keep.specs.Roles.{IsSoundMap, IsSoundRole, copy_held, settled}
use Rattle.indexset_keep.specs.Sound.{IsSoundCopy, IsSoundFollower}
use Rattle.indexset_keep.specs.Tells.{lines_told}
use Rattle.indexset_keep.specs.declared.followed.Tells.{Tells}
use Rattle.indexset_keep.specs.declared.followed.Tells.TheVariants.{Nothing, Line, Steps, Snapshot}
use Rattle.indexset_keep.specs.Told.{answer_kept, inner, inner_kept, kept_by, kept_in, told_lines}
use Rattle.indexset_keep.proofs.FollowedOn.{followed_on}
use Rattle.indexset_keep.proofs.Inner.{leading_inner, next_inner}
use Rattle.indexset_keep.proofs.Onward.{line_leads, line_sound}
use Rattle.indexset_keep.proofs.Soundness.{copy_sound, holding_sound, leader_sound}
use Rattle.indexset_keep.proofs.Soundness.{line_sound as follower_sound}
use Rattle.indexset_keep.proofs.States.{nothing_after}
use Rattle.indexset_keep.proofs.Told.{next_keeps}
use Rattle.std.specs.declared.cmp.Ordering.{Ordering}
use Rattle.indexset_wire.specs.Texts.{AreTokens, Texts}
use Rattle.std.specs.Cmp.{IsTotalOrder}

same_word : (word text : List ℕ) → bytes_eq word text ≡ true → word ≡ text
same_word word text e = (bytes_eq-Decides word text).0 e

module _ {T : Type 0} (texts : Texts T) where
  -- an answer without events or `done` lines
  keeps_nothing : (line answer : List ℕ) → told_lines texts (whole_lines answer) ≡ [] → answer_kept texts line answer ≡ []
  keeps_nothing line answer none = at (query_of texts line)
    where
      at : (q : Option (Query T)) → option_map_or {U = List (List ℕ)} (λ q. []) q (told_lines texts (whole_lines answer)) ≡ []
      at None = none
      at (Some q) = refl

  held_told : (v : Voice) → told_lines texts (whole_lines (voiced v reply.Held)) ≡ []
  unfolding whole_lines
  held_told v = at v.is_quiet
    where
      at : (b : Bool) → told_lines texts (whole_lines (if b && true then [] else reply_ended reply.Held)) ≡ []
      at true = refl
      at false = refl

held_inner : (v : Voice) → inner (whole_lines (voiced v reply.Held)) ≡ []
unfolding whole_lines
held_inner v = at v.is_quiet
  where
    at : (b : Bool) → inner (whole_lines (if b && true then [] else reply_ended reply.Held)) ≡ []
    at true = refl
    at false = refl

module _ {T : Type 0} (cmp : T → T → Ordering) where
  -- ---- a follower that receives `lead` or `follow`

  -- in its new role the map has the same state
  module _ (size : ℕ) (s : State T) where
    after_lead_same : settled (after_lead cmp size (Following s)) ≡ settled (Following s)
    after_lead_same = at (can_lead cmp size s.held)
      where
        at : (b : Bool) → settled (cond b (Leading (leader_of (promoted size s.held) s.done)) (Following s)) ≡ settled (Following s)
        at true = refl
        at false = refl

module _ {T : Type 0} (cmp : T → T → Ordering) (texts : Texts T) (total : IsTotalOrder cmp) (spelled : AreTokens texts) where
  module _ (v : Voice) (size window : ℕ) (s : State T) (sound : IsSoundFollower cmp texts s) where
    follower_leads : (line : List ℕ) → state_after cmp texts (settled (Following s)) (line_kept cmp texts s line) ≡ holding 0 (after_line cmp texts s line).held (after_line cmp texts s line).done
    follower_leads line = followed_on cmp texts total spelled s line sound (settled (Following s)) [] (nothing_after cmp texts (settled (Following s)))

    -- a word that is neither an event nor a line of a snapshot
    word_leads : (line word : List ℕ) → line ≡ word → event_of texts word ≡ None → mark_of word ≡ None
        → state_after cmp texts (settled (Following s)) (line_kept cmp texts s line) ≡ settled (Following s)
    word_leads line word is event mark =
        let none : line_kept cmp texts s word ≡ [] = rw (event, mark) refl in
        ap (λ l. state_after cmp texts (settled (Following s)) (line_kept cmp texts s l)) is ∙ ap (state_after cmp texts (settled (Following s))) none ∙ nothing_after cmp texts (settled (Following s))

    following_on : (line : List ℕ)
        → state_after cmp texts (settled (Following s))
        (kept_in cmp texts (Following s) line (held_reply cmp texts v (held size window (Following s)) line))
        ≡ settled (role_after cmp texts (held size window (Following s)) line)
    following_on line = at (is_lead line) refl (is_follow line) refl
      where
        at : (a : Bool) → is_lead line ≡ a → (b : Bool) → is_follow line ≡ b
            → state_after cmp texts (settled (Following s)) (line_kept cmp texts s line)
            ≡ settled
            (cond a (after_lead cmp size (Following s))
            (cond b (Following s) (Following (after_line cmp texts s line))))
        at true is b _ = word_leads line (codes "lead") (same_word line (codes "lead") is) refl refl ∙ sym (after_lead_same cmp size s)
        at false _ true is = word_leads line (codes "follow") (same_word line (codes "follow") is) refl refl
        at false _ false _ = follower_leads line

    following_sound : 2 ≤ size → size < 2 ^ 64 → (line : List ℕ) → IsSoundRole cmp texts (role_after cmp texts (held size window (Following s)) line)
    following_sound two few line = at (is_lead line) (is_follow line)
      where
        led : (c : Bool) → can_lead cmp size s.held ≡ c → IsSoundRole cmp texts (cond c (Leading (leader_of (promoted size s.held) s.done)) (Following s))
        led true can = (leader_sound cmp texts total size s.done s.held two few sound.held sound.done can, sound.held.next)
        led false can = sound

        at : (a b : Bool) → IsSoundRole cmp texts (cond a (after_lead cmp size (Following s)) (cond b (Following s) (Following (after_line cmp texts s line))))
        at true b = led (can_lead cmp size s.held) refl
        at false true = sound
        at false false = follower_sound cmp texts total spelled s line sound

module _ {T : Type 0} (cmp : T → T → Ordering) (texts : Texts T) where
  -- in either role the map has the follower's state
  module _ (size window : ℕ) (s : State T) where
    word_still : (line word : List ℕ) → line ≡ word → event_of texts word ≡ None → node_of texts word ≡ None
        → mark_of word ≡ None → settled (Following s) ≡ settled (Following (after_line cmp texts s line))
    word_still line word is event node mark =
        let same : after_line cmp texts s word ≡ s = rw (event, node, mark) refl in
        ap (λ t. settled (Following t)) (sym same ∙ ap (after_line cmp texts s) (sym is))

    following_same : (line : List ℕ) → settled (role_after cmp texts (held size window (Following s)) line) ≡ settled (Following (after_line cmp texts s line))
    following_same line = at (is_lead line) refl (is_follow line) refl
      where
        at : (a : Bool) → is_lead line ≡ a → (b : Bool) → is_follow line ≡ b
            → settled (cond a (after_lead cmp size (Following s)) (cond b (Following s) (Following (after_line cmp texts s line)))) ≡ settled (Following (after_line cmp texts s line))
        at true is b _ = after_lead_same cmp size s ∙ word_still line (codes "lead") (same_word line (codes "lead") is) refl refl refl
        at false _ true is = word_still line (codes "follow") (same_word line (codes "follow") is) refl refl refl
        at false _ false _ = refl

module _ {T : Type 0} (texts : Texts T) where
  tells_alike : (tells : Tells) (line : List ℕ) (next : ℕ) (q r : Role T) → settled q ≡ settled r → lines_told texts tells line next q ≡ lines_told texts tells line next r
  tells_alike Nothing line next q r same = refl
  tells_alike Line line next q r same = refl
  tells_alike (Steps lines) line next q r same = ap (λ s. take (s.held.next - next) (lines_texts lines.items)) same
  tells_alike Snapshot line next q r same = ap (λ s. whole_lines (unsummed_text texts s.held s.done)) same

module _ {T : Type 0} (cmp : T → T → Ordering) (texts : Texts T) where
  -- what is kept of a line, by the role before it
  module _ (reply : Held T → List ℕ → List ℕ) (h : Held T) (line : List ℕ) where
    pub leading_told : (l : Leader T) → h.role ≡ Leading l → answer_kept texts (without_return line) (reply h line) ≡ kept_by cmp texts reply h line
    leading_told l is = sym (ap (λ r. kept_in cmp texts r (without_return line) (reply h line)) is)

    pub following_told : (h2 : Held T) (s : State T) (tells : Tells) → h.role ≡ Following s → h2 ≡ after_input cmp texts h line
        → lines_told texts tells (without_return line) s.held.next (Following (after_line cmp texts s (without_return line))) ≡ line_kept cmp texts s (without_return line)
        → lines_told texts tells (without_return line) (copy_held h.role).next h2.role ≡ kept_by cmp texts reply h line
    following_told h2 s tells is after told =
        let bare = without_return line in
        let role : settled h2.role ≡ settled (Following (after_line cmp texts s bare)) =
        ap (λ u. settled u.role) after ∙ ap (λ r. settled (role_after cmp texts (held h.size h.window r) bare)) is
        ∙ following_same cmp texts h.size h.window s bare in
        ap (λ r. lines_told texts tells bare (copy_held r).next h2.role) is
        ∙ tells_alike texts tells bare s.held.next h2.role (Following (after_line cmp texts s bare)) role
        ∙ told
        ∙ sym (ap (λ r. kept_in cmp texts r bare (reply h line)) is)

-- ---- a leader

none_filled : {X : Type 0} (xs : List X) → is_filled xs ≡ false → xs ≡ []
none_filled [] none = refl
none_filled (x ∷ xs) none = absurd (cc)

module _ {T : Type 0} (cmp : T → T → Ordering) (texts : Texts T) where
  -- the first line of a snapshot
  module _ (line : List ℕ) (is : starts line ≡ true) where
    start_read : (m : Option Mark) → mark_of line ≡ m → is_start m ≡ true → (n : ℕ) × (d : ℕ) × (mark_of line ≡ Some (Start n d))
    start_read None told is = absurd (cc)
    start_read (Some (Start n d)) told is = (n, d, told)
    start_read (Some (End count sum)) told is = absurd (cc)
    start_read (Some (Done d n)) told is = absurd (cc)

    started : (n : ℕ) × (d : ℕ) × (mark_of line ≡ Some (Start n d))
    started = start_read (mark_of line) refl is

    no_event : event_of texts line ≡ None
    no_event =
        let spelled = (mark_sound line (Start started.0 started.1) started.2).0 in
        let cut = start_cut started.0 started.1 in
        ap (event_of texts) spelled ∙ rw (cut, no_number 115 (codes "tart") (omega arith)) refl

    no_node : node_of texts line ≡ None
    no_node =
        let spelled = (mark_sound line (Start started.0 started.1) started.2).0 in
        let cut = start_cut started.0 started.1 in
        ap (node_of texts) spelled ∙ rw cut refl

    -- it does not change a follower's state, and its reply is one word
    start_still : (s : State T) → settled (Following (after_line cmp texts s line)) ≡ settled (Following s)
    start_still s = let event = no_event in let node = no_node in let mark = started.2 in rw (event, node, mark) refl

    start_told : (v : Voice) (s : State T) → reply_line cmp texts v s line ≡ voiced v reply.Held
    start_told v s = let event = no_event in let node = no_node in let mark = started.2 in rw (event, node, mark) refl

module _ {T : Type 0} (cmp : T → T → Ordering) (texts : Texts T) (total : IsTotalOrder cmp) (spelled : AreTokens texts) where
  module _ (v : Voice) (size window : ℕ) (l : Leader T) (sound : IsSound cmp texts l) (less : l.pairs.next < 2 ^ 64) where
    abbrev from : State T
    from = settled (Leading l)

    -- a follower without nodes that awaits the next number
    abbrev emptied : State T
    emptied = holding window (copy [] l.pairs.next) l.done

    told_nothing : (line answer : List ℕ) → told_lines texts (whole_lines answer) ≡ [] → state_after cmp texts from (answer_kept texts line answer) ≡ from
    told_nothing line answer none = ap (state_after cmp texts from) (keeps_nothing texts line answer none) ∙ nothing_after cmp texts from

    begins : (line : List ℕ) → starts line ≡ true → is_filled l.pairs.nodes ≡ false
        → state_after cmp texts from (answer_kept texts line (reply_line cmp texts v emptied line))
        ≡ settled (Following (after_line cmp texts emptied line))
    begins line is none =
        told_nothing line (reply_line cmp texts v emptied line) (ap (λ t. told_lines texts (whole_lines t)) (start_told cmp texts line is v emptied) ∙ held_told texts v)
        ∙ ap (λ ns. holding 0 (copy ns l.pairs.next) l.done) (none_filled l.pairs.nodes none)
        ∙ sym (start_still cmp texts line is emptied)

    -- the role after a line, by the kind of the line
    abbrev next_role : (a b c d : Bool) → List ℕ → Role T
    next_role a b c d line =
        cond a (Leading l)
        (cond b (Following (holding window (copy l.pairs.nodes l.pairs.next) l.done))
        (after_in_role cmp texts (cond (c && not d) (Following emptied) (Leading l)) line))

    abbrev next_reply : (a b c d : Bool) → List ℕ → List ℕ
    next_reply a b c d line =
        cond a (reply_ended (reply.Next l.pairs.next))
        (cond b (reply_ended (reply.Next l.pairs.next))
        (reply_in_role cmp texts v (cond (c && not d) (Following emptied) (Leading l)) line))

    leading_on : (line : List ℕ) → (copy_held (role_after cmp texts (held size window (Leading l)) line)).next < 2 ^ 64
        → state_after cmp texts from
        (kept_in cmp texts (Leading l) line (held_reply cmp texts v (held size window (Leading l)) line))
        ≡ settled (role_after cmp texts (held size window (Leading l)) line)
    leading_on line fits = at (is_lead line) (is_follow line) (starts line) refl (is_filled l.pairs.nodes) refl fits
      where
        at : (a b c : Bool) → starts line ≡ c → (d : Bool) → is_filled l.pairs.nodes ≡ d → (copy_held (next_role a b c d line)).next < 2 ^ 64
            → state_after cmp texts from (answer_kept texts line (next_reply a b c d line)) ≡ settled (next_role a b c d line)
        at true b c _ d _ fits = told_nothing line (reply_ended (reply.Next l.pairs.next)) (next_keeps texts l.pairs.next less)
        at false true c _ d _ fits = told_nothing line (reply_ended (reply.Next l.pairs.next)) (next_keeps texts l.pairs.next less)
        at false false true is false none fits = begins line is none
        at false false true is true none fits = line_leads cmp texts total spelled v.others l sound line fits
        at false false false is d none fits = line_leads cmp texts total spelled v.others l sound line fits

    -- of the answer to a line that is not a read, the lines between the first and the last are kept
    leading_between : (line : List ℕ) → query_of texts line ≡ None → (copy_held (role_after cmp texts (held size window (Leading l)) line)).next < 2 ^ 64
        → inner (whole_lines (held_reply cmp texts v (held size window (Leading l)) line)) ≡ told_lines texts (whole_lines (held_reply cmp texts v (held size window (Leading l)) line))
    leading_between line none fits = at (is_lead line) (is_follow line) (starts line) refl (is_filled l.pairs.nodes) fits
      where
        at : (a b c : Bool) → starts line ≡ c → (d : Bool) → (copy_held (next_role a b c d line)).next < 2 ^ 64
            → inner (whole_lines (next_reply a b c d line)) ≡ told_lines texts (whole_lines (next_reply a b c d line))
        at true b c _ d fits = next_inner l.pairs.next less ∙ sym (next_keeps texts l.pairs.next less)
        at false true c _ d fits = next_inner l.pairs.next less ∙ sym (next_keeps texts l.pairs.next less)
        at false false true is false fits =
            let told = start_told cmp texts line is v emptied in
            ap (λ t. inner (whole_lines t)) told ∙ held_inner v ∙ sym (ap (λ t. told_lines texts (whole_lines t)) told ∙ held_told texts v)
        at false false true is true fits = leading_inner cmp texts total spelled v.others l sound line none fits
        at false false false is d fits = leading_inner cmp texts total spelled v.others l sound line none fits

    leading_sound : (line : List ℕ)
        → (copy_held (role_after cmp texts (held size window (Leading l)) line)).next < 2 ^ 64
        → IsSoundRole cmp texts (role_after cmp texts (held size window (Leading l)) line)
    leading_sound line fits = at (is_lead line) (is_follow line) (starts line) (is_filled l.pairs.nodes) refl fits
      where
        copied : IsSoundCopy cmp texts (copy l.pairs.nodes l.pairs.next)
        copied = copy_sound cmp texts l sound less

        at : (a b c d : Bool) → is_filled l.pairs.nodes ≡ d → (copy_held (next_role a b c d line)).next < 2 ^ 64 → IsSoundRole cmp texts (next_role a b c d line)
        at true b c d _ fits = (sound, less)
        at false true c d _ fits = holding_sound cmp texts window l.done (copy l.pairs.nodes l.pairs.next) copied sound.done
        at false false true false none fits =
            follower_sound cmp texts total spelled emptied line
            (holding_sound cmp texts window l.done (copy [] l.pairs.next)
            (subst (λ ns. IsSoundCopy cmp texts (copy ns l.pairs.next)) (none_filled l.pairs.nodes none) copied)
            sound.done)
        at false false true true _ fits = (line_sound cmp texts total spelled l line sound, fits)
        at false false false d _ fits = (line_sound cmp texts total spelled l line sound, fits)

  -- ---- either

  role_on : (v : Voice) (size window : ℕ) (r : Role T) → IsSoundRole cmp texts r → (line : List ℕ) → (copy_held (role_after cmp texts (held size window r) line)).next < 2 ^ 64
      → state_after cmp texts (settled r) (kept_in cmp texts r line (held_reply cmp texts v (held size window r) line)) ≡ settled (role_after cmp texts (held size window r) line)
  role_on v size window (Following s) sound line fits = following_on cmp texts total spelled v size window s sound line
  role_on v size window (Leading l) sound line fits = leading_on v size window l sound.0 sound.1 line fits

  role_sound : (v : Voice) (size window : ℕ) → 2 ≤ size → size < 2 ^ 64 → (r : Role T) → IsSoundRole cmp texts r
      → (line : List ℕ) → (copy_held (role_after cmp texts (held size window r) line)).next < 2 ^ 64
      → IsSoundRole cmp texts (role_after cmp texts (held size window r) line)
  role_sound v size window two few (Following s) sound line fits = following_sound cmp texts total spelled v size window s sound two few line
  role_sound v size window two few (Leading l) sound line fits = leading_sound v size window l sound.0 sound.1 line fits

  -- replaying what is kept of a line gives the state after it
  pub kept_on : (v : Voice) (h : Held T) (line : List ℕ) → IsSoundMap cmp texts h
      → (copy_held (after_input cmp texts h line).role).next < 2 ^ 64
      → state_after cmp texts (state_held h) (kept_by cmp texts (input_reply cmp texts v) h line)
      ≡ state_held (after_input cmp texts h line)
  kept_on v h line sound fits = role_on v h.size h.window h.role sound.role (without_return line) fits

  pub map_sound : (v : Voice) (h : Held T) (line : List ℕ) → IsSoundMap cmp texts h
      → (copy_held (after_input cmp texts h line).role).next < 2 ^ 64
      → IsSoundMap cmp texts (after_input cmp texts h line)
  map_sound v h line sound fits = record { two = sound.two; few = sound.few; role = role_sound v h.size h.window sound.two sound.few h.role sound.role (without_return line) fits }

  -- of a leader's answer to a line, the lines between the first and the last are kept
  module _ (v : Voice) (h : Held T) (line : List ℕ) (l : Leader T) (is : h.role ≡ Leading l)
      (sound : IsSoundMap cmp texts h) (fits : (copy_held (after_input cmp texts h line).role).next < 2 ^ 64) where
    abbrev bare : List ℕ
    bare = without_return line

    abbrev answer : List ℕ
    answer = input_reply cmp texts v h line

    -- those lines, unless the line is a read
    abbrev unless_read : Option (Query T) → List (List ℕ) → List (List ℕ)
    unless_read q lines = option_map_or {U = List (List ℕ)} (λ q. []) q lines

    answer_between : query_of texts bare ≡ None → inner (whole_lines answer) ≡ told_lines texts (whole_lines answer)
    answer_between none =
        let led : IsSound cmp texts l × (l.pairs.next < 2 ^ 64) = subst (IsSoundRole cmp texts) is sound.role in
        let few : (copy_held (role_after cmp texts (held h.size h.window (Leading l)) bare)).next < 2 ^ 64 =
        subst (λ r. (copy_held (role_after cmp texts (held h.size h.window r) bare)).next < 2 ^ 64) is fits in
        subst
        (λ r. inner (whole_lines (held_reply cmp texts v (held h.size h.window r) bare))
        ≡ told_lines texts (whole_lines (held_reply cmp texts v (held h.size h.window r) bare)))
        (sym is) (leading_between v h.size h.window l led.0 led.1 bare none few)

    pub inner_told : inner_kept texts bare answer ≡ kept_by cmp texts (input_reply cmp texts v) h line
    inner_told = at (query_of texts bare) refl ∙ leading_told cmp texts (input_reply cmp texts v) h line l is
      where
        at : (q : Option (Query T)) → query_of texts bare ≡ q → inner_kept texts bare answer ≡ answer_kept texts bare answer
        at (Some q) asked = ap (λ q. unless_read q (inner (whole_lines answer))) asked ∙ sym (ap (λ q. unless_read q (told_lines texts (whole_lines answer))) asked)
        at None asked = ap (λ q. unless_read q (inner (whole_lines answer))) asked ∙ answer_between asked ∙ sym (ap (λ q. unless_read q (told_lines texts (whole_lines answer))) asked)
