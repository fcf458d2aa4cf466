-- The items of a whole run of an iterator.
use Rattle.std.proofs.Common.{◌≡◌, ◌∙◌, List, Option, Result, Ok, Err, true, subst}
use Rattle.std.specs.Iterator.{DrainsIf}
use Rattle.std.specs.Iterator.Runs.{Run, WholeRun}
use Rattle.std.specs.Map.Iter.{GivesInOrder, TakesFirst}
use Rattle.std.specs.Result.{IfOk}
use Rattle.std.proofs.iter.runs.Made.{took}

-- a whole run goes to the end
pub drained : {S A : Type 0} {steps : S → Option A → S → Type 0} (W : Type 0) (s : S) (run : Run steps) → run.from ≡ s → run.whole ≡ true → DrainsIf steps W s run.items
drained {steps = steps} W s run from whole = subst (λ z. DrainsIf steps W z run.items) from ((took run).0, (took run).1, λ _. (took run).2 whole)

-- the result of a call for a whole run is that for the remaining items, if each run yields them in
-- order
pub made_of : {T C E : Type 0} (Z : Type 0) (P : C → List T → Type 0) (l : List T) (r : Result C E)
    → IfOk r
    (λ c. (s : List T) × ((s ≡ l) × GivesInOrder T × Z) × WholeRun (TakesFirst (λ x. x)) s (λ run. P c run.items))
    → IfOk r (λ c. P c l)
made_of Z P l (Ok c) (s, is, whole) = subst (P c) ((is.1 whole.0 whole.0.seen).4 whole.2 ∙ (whole.1 ∙ is.0)) whole.3
made_of Z P l (Err e) h = tt
