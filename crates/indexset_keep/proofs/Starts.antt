-- The initial map of a run, and snapshots of a map.
use Rattle.std.proofs.Common.{Bool, true, false, cond, Option, None, Some, ◌≡◌, ℕ, ◌<◌, ◌≤◌, ◌^◌, List, [], ◌∷◌, length, refl, ap, sym, ◌∙◌}
use Rattle.indexset_lines.specs.Run.{left_by}
use Rattle.indexset_follow.specs.Copy.{Copy}
use Rattle.std.specs.Option.{option_map_or}
use Rattle.std.specs.Prelude.{is_none, nat_lt}
use Rattle.indexset_core.specs.declared.pair.Pair.{Pair}
use Rattle.indexset_follow.specs.EventLine.{Event, event_of}
use Rattle.indexset_follow.specs.Follow.{State, after_event, after_line, after_mark, after_node, end_reason, holding, put_in_place, start_state, state_after, with_coming, with_done}
use Rattle.indexset_follow.specs.Mark.{mark_of}
use Rattle.indexset_follow.specs.NodeLine.{node_of}
use Rattle.indexset_follow.specs.declared.mark.Mark.{Mark}
use Rattle.indexset_follow.specs.declared.mark.Mark.TheVariants.{Start, End, Done}
use Rattle.indexset_follow.proofs.NoWindow.{alone}
use Rattle.indexset_follow.specs.Store.{can_lead}
use Rattle.indexset_follow.specs.declared.leader.Leader.{Leader}
use Rattle.indexset_follow.specs.declared.role.Role.{Role}
use Rattle.indexset_follow.specs.declared.role.Role.TheVariants.{Following, Leading}
use Rattle.indexset_keep.specs.Keep.{IsSame}
use Rattle.indexset_keep.specs.Roles.{IsSoundRole, LeadsTo, copy_held, done_held, role_of, settled, snapshot_of}
use Rattle.indexset_keep.specs.Sound.{IsSoundCopy, IsSoundFollower}
use Rattle.indexset_keep.proofs.Soundness.{copy_sound, holding_sound, leader_sound, lines_sound, snapshot_leads, start_sound}
use Rattle.std.specs.declared.cmp.Ordering.{Ordering}
use Rattle.indexset_wire.specs.Texts.{AreTokens, Texts}
use Rattle.std.specs.Cmp.{IsTotalOrder}

module _ {T : Type 0} (cmp : T → T → Ordering) (texts : Texts T) where
  -- ---- a snapshot

  role_copy : (r : Role T) → IsSoundRole cmp texts r → IsSoundCopy cmp texts (copy_held r) × (done_held r < 2 ^ 64)
  role_copy (Following s) sound = (sound.held, sound.done)
  role_copy (Leading l) sound = (copy_sound cmp texts l sound.0 sound.1, sound.0.done)

module _ {T : Type 0} (cmp : T → T → Ordering) (texts : Texts T) (spelled : AreTokens texts) where
  pub snapshot_on : (r : Role T) → IsSoundRole cmp texts r → length (copy_held r).nodes < 2 ^ 64 → LeadsTo cmp texts (snapshot_of texts r) (settled r)
  snapshot_on r sound few = let it = role_copy cmp texts r sound in snapshot_leads cmp texts spelled (start_state 0) (copy_held r) (done_held r) it.0 it.1 few

module _ {T : Type 0} (cmp : T → T → Ordering) (texts : Texts T) (total : IsTotalOrder cmp) (spelled : AreTokens texts) where
  -- ---- the initial role

  pub first_sound : (size window : ℕ) (leads : Bool) (lines : List (List ℕ)) → 2 ≤ size → size < 2 ^ 64
      → (leads ≡ true → can_lead cmp size (state_after cmp texts (start_state 0) lines).held ≡ true)
      → IsSoundRole cmp texts (role_of size window leads (state_after cmp texts (start_state 0) lines))
  first_sound size window leads lines two few can = at leads can
    where
      sound : IsSoundFollower cmp texts (state_after cmp texts (start_state 0) lines)
      sound = lines_sound cmp texts total spelled (start_state 0) lines (start_sound cmp texts 0)

      at : (b : Bool) → (b ≡ true → can_lead cmp size (state_after cmp texts (start_state 0) lines).held ≡ true)
          → IsSoundRole cmp texts (role_of size window b (state_after cmp texts (start_state 0) lines))
      at true can = (
        leader_sound cmp texts total size (state_after cmp texts (start_state 0) lines).done (state_after cmp texts (start_state 0) lines).held two few sound.held sound.done (can refl),
        sound.held.next,
      )
      at false can = holding_sound cmp texts window (state_after cmp texts (start_state 0) lines).done (state_after cmp texts (start_state 0) lines).held sound.held sound.done

module _ {T : Type 0} where
  pub first_same : (size window : ℕ) (leads : Bool) (s : State T) → IsSame s (settled (role_of size window leads s))
  first_same size window true s = record { held = refl; done = refl }
  first_same size window false s = record { held = refl; done = refl }

  first_settled : (size window : ℕ) (leads : Bool) (s : State T) → settled (role_of size window leads s) ≡ holding 0 s.held s.done
  first_settled size window true s = refl
  first_settled size window false s = refl

module _ {T : Type 0} (cmp : T → T → Ordering) (texts : Texts T) where
  -- a map that starts from lines has the state that replaying them gives
  pub again_held : (size window : ℕ) (leads : Bool) (lines : List (List ℕ)) (r : Role T)
      → LeadsTo cmp texts lines (settled r)
      → copy_held (role_of size window leads (state_after cmp texts (start_state 0) lines)) ≡ copy_held r
  again_held size window leads lines r led = ap (λ s. s.held) (first_settled size window leads (state_after cmp texts (start_state 0) lines)) ∙ ap (λ s. s.held) led

  pub again_done : (size window : ℕ) (leads : Bool) (lines : List (List ℕ)) (r : Role T)
      → LeadsTo cmp texts lines (settled r)
      → done_held (role_of size window leads (state_after cmp texts (start_state 0) lines)) ≡ done_held r
  again_done size window leads lines r led = ap (λ s. s.done) (first_settled size window leads (state_after cmp texts (start_state 0) lines)) ∙ ap (λ s. s.done) led

  pub again_leads : (window : ℕ) (lines : List (List ℕ)) (l : Leader T)
      → LeadsTo cmp texts lines (settled (Leading l))
      → role_of l.pairs.size window true (state_after cmp texts (start_state 0) lines) ≡ Leading l
  again_leads window lines l led = ap (role_of l.pairs.size window true) led

module _ {T : Type 0} where
  -- ---- a follower that started without a window

  -- it holds no early event
  abbrev IsPlain : State T → Type 0
  IsPlain s = (s.window ≡ 0) × (s.early ≡ [])

module _ {T : Type 0} (texts : Texts T) where
  mark_plain : (s : State T) → IsPlain s → (m : Mark) → IsPlain (after_mark texts s m)
  mark_plain s it (Start n d) = it
  mark_plain s it (End count sum) = at s.coming
    where
      in_place : (c : Copy T) (b : Bool) → IsPlain (cond b (holding s.window c s.coming_done) (with_coming s None 0))
      in_place c true = (it.0, refl)
      in_place c false = it

      at : (o : Option (Copy T)) → IsPlain (option_map_or (put_in_place texts count sum s) o s)
      at None = it
      at (Some c) = in_place c (is_none (end_reason texts count sum c s.coming_done))
  mark_plain s it (Done d n) = at (nat_lt s.held.next n)
    where
      at : (b : Bool) → IsPlain (cond b s (with_done s d))
      at true = it
      at false = it

module _ {T : Type 0} (cmp : T → T → Ordering) (texts : Texts T) where
  line_plain : (s : State T) → IsPlain s → (line : List ℕ) → IsPlain (after_line cmp texts s line)
  line_plain s it line = at (event_of texts line) (node_of texts line) (mark_of line)
    where
      at : (e : Option (Event T)) (n : Option (List (Pair T T))) (m : Option Mark)
          → IsPlain
          (option_map_or (after_event cmp s) e
          (option_map_or (after_node cmp s) n (option_map_or (after_mark texts s) m s)))
      at (Some e) n m = (it.0, (alone cmp s e it.0 it.1).0)
      at None (Some n) m = it
      at None None (Some m) = mark_plain texts s it m
      at None None None = it

  lines_plain : (s : State T) → IsPlain s → (lines : List (List ℕ)) → IsPlain (state_after cmp texts s lines)
  unfolding left_by
  lines_plain s it [] = it
  lines_plain s it (line ∷ lines) = lines_plain (after_line cmp texts s line) (line_plain s it line) lines

  -- unless a snapshot has begun, it is the initial map of the run
  pub first_whole : (size window : ℕ) (leads : Bool) (lines : List (List ℕ))
      → (state_after cmp texts (start_state 0) lines).coming ≡ None
      → (state_after cmp texts (start_state 0) lines).coming_done ≡ 0
      → state_after cmp texts (start_state 0) lines ≡ settled (role_of size window leads (state_after cmp texts (start_state 0) lines))
  first_whole size window leads lines coming done =
      let s = state_after cmp texts (start_state 0) lines in
      let plain = lines_plain (start_state 0) (refl, refl) lines in
      (λ i. record { held = s.held; done = s.done; coming = coming i; coming_done = done i; window = plain.0 i; early = plain.1 i }) ∙ sym (first_settled size window leads s)
