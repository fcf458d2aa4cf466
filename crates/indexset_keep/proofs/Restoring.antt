-- A follower that has read the kept lines.
use Rattle.std.proofs.Common.{◌≡◌, ℕ, List, [], ◌∷◌, ◌++◌, ap, sym, ◌∙◌}
use Rattle.indexset_lines.specs.Run.{left_by}
use Rattle.indexset_follow.specs.Copy.{Copy, copy}
use Rattle.indexset_follow.specs.Follow.{State, after_line, holding, start_state, state_after}
use Rattle.indexset_keep.proofs.States.{more_lines}
use Rattle.std.specs.declared.cmp.Ordering.{Ordering}
use Rattle.indexset_wire.specs.Texts.{Texts}

module _ {T : Type 0} (cmp : T → T → Ordering) (texts : Texts T) where
  pub one_more : (s : State T) (lines : List (List ℕ)) (line : List ℕ) → state_after cmp texts s (lines ++ line ∷ []) ≡ after_line cmp texts (state_after cmp texts s lines) line
  unfolding left_by
  one_more s lines line = more_lines cmp texts s lines (line ∷ [])

  pub first_follower : (f : State T) (c : Copy T) → f ≡ holding 0 c 0 → c ≡ copy [] 0 → f ≡ state_after cmp texts (start_state 0) []
  unfolding left_by
  first_follower f c is new = is ∙ ap (λ c. holding 0 c 0) new

  pub next_follower : (before after : List (List ℕ)) (line : List ℕ) (f f' : State T)
      → f ≡ state_after cmp texts (start_state 0) before → f' ≡ after_line cmp texts f line
      → after ≡ before ++ line ∷ [] → f' ≡ state_after cmp texts (start_state 0) after
  next_follower before after line f f' was is more = is ∙ ap (λ s. after_line cmp texts s line) was ∙ sym (ap (state_after cmp texts (start_state 0)) more ∙ one_more (start_state 0) before line)
