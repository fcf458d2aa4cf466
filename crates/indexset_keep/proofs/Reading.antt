-- A line was executed, and replaying what is to be kept of it gives the next state.
use Rattle.std.proofs.Common.{Option, ◌≡◌, ◌<◌, ◌^◌, ℕ, List, [], ◌∷◌, ◌++◌, ap, sym, subst, ◌∙◌}
use Rattle.std.specs.Io.KnownBytes.{Consumes, Keeps}
use Rattle.indexset_lines.specs.Lines.{HasNoEnd}
use Rattle.indexset_follow.specs.Follow.{State}
use Rattle.indexset_follow.specs.Store.{Held, after_input, held_cut, input_reply}
use Rattle.indexset_follow.specs.declared.others.Voice.{Voice}
use Rattle.sqlite_trees.specs.Tree.{Trees}
use Rattle.sqlite_trees.specs.View.{View}
use Rattle.indexset_keep.specs.Roles.{IsSoundMap, copy_held}
use Rattle.indexset_keep.specs.Told.{kept_by}
use Rattle.indexset_keep.proofs.Roles.{kept_on, map_sound}
use Rattle.indexset_keep.proofs.Runs.{Going, carried}
use Rattle.std.specs.declared.cmp.Ordering.{Ordering}
use Rattle.indexset_wire.specs.Texts.{AreTokens, Texts}
use Rattle.std.specs.Cmp.{IsTotalOrder}

module _ {T : Type 0} (cmp : T → T → Ordering) (texts : Texts T) (total : IsTotalOrder cmp) (spelled : AreTokens texts) where
  module _ (v u : Voice) (t : Held T) {S : Type 0} (view : S → View) (recovers : S → Trees → Type 0) (old : S)
      (r w : Option (List ℕ)) (from : State T) (now : S) (r' w' : Option (List ℕ)) (waiting : List ℕ)
      (told : List (List ℕ)) (held : Held T)
      (g : Going cmp texts (input_reply cmp texts v) (held_cut cmp texts v) t view recovers old r w from now r' w' waiting told held) (alike : input_reply cmp texts u ≡ input_reply cmp texts v) where
    pub read_on : (w2 r2 : Option (List ℕ)) (line passed waiting2 : List ℕ) (told2 : List (List ℕ)) (held2 : Held T) → Keeps w' w2 → HasNoEnd line → Consumes r' r2 (line ++ 10 ∷ []) → passed ≡ line
        → waiting2 ≡ waiting ++ input_reply cmp texts u held passed
        → told2 ≡ told ++ kept_by cmp texts (input_reply cmp texts u) held passed
        → held2 ≡ after_input cmp texts held passed → (copy_held held2.role).next < 2 ^ 64
        → Going cmp texts (input_reply cmp texts v) (held_cut cmp texts v) t view recovers old r w from now r2 w2 waiting2 told2 held2
    read_on w2 r2 line passed waiting2 told2 held2 kept none read same reply tells after fits =
        let on : held2 ≡ after_input cmp texts held line = after ∙ ap (after_input cmp texts held) same in
        let few : (copy_held (after_input cmp texts held line).role).next < 2 ^ 64 = subst (λ h. (copy_held h.role).next < 2 ^ 64) on fits in
        carried cmp texts (input_reply cmp texts v) (held_cut cmp texts v) t view recovers old r w from now r' w' waiting told held g w2 r2 line waiting2 told2 held2 kept none read
        (reply ∙ (λ i. waiting ++ alike i held (same i)))
        (tells ∙ (λ i. told ++ kept_by cmp texts (alike i) held (same i)))
        on
        (kept_on cmp texts total spelled v held line g.sound few)
        (subst (IsSoundMap cmp texts) (sym on) (map_sound cmp texts total spelled v held line g.sound few))
