-- A closure that returns whether to retain an item, and does not change it.
use Rattle.std.proofs.Common.{◌≡◌, Bool, cond, List, [], ◌∷◌, ◌∙◌}
use Rattle.std.specs.List.{filter}
use Rattle.std.specs.List.Retain.{RetainsInTurn}

pub retained : {S X : Type 0} (R : S → X → Bool → S → X → Type 0) (test : X → Bool)
    → ((s : S) (x : X) (b : Bool) (t : S) (y : X) → R s x b t y → (b ≡ test x) × (y ≡ x)) → (s : S) (xs ys : List X)
    → RetainsInTurn R s xs ys → ys ≡ filter test xs
retained R test says s [] ys h = h
retained R test says s (x ∷ xs) ys h =
    let law = says s x h.0 h.1 h.2 h.3 in
    let rest = retained R test says h.1 xs h.4 h.5 in
    h.6 ∙ (λ i. cond (law.0 i) (law.1 i ∷ rest i) (rest i))
