-- Events that are appended to others.
use Rattle.std.specs.Prelude.{◌≡◌, ℕ, List, ◌++◌}
use Rattle.indexset_events.specs.declared.change.ChangeEvent.{ChangeEvent}
use Rattle.indexset_events.specs.declared.change.ChangeEventUnassigned.{ChangeEventUnassigned}
use Rattle.indexset_events.specs.Clones.{AreTableEvents}

-- the list `after` is the list `before` with the returned events of the table appended, numbered
-- from s
pub record AppendsEvents {T : Type 0} (C : T → T → Type 0) (s : ℕ)
    (table : List (ChangeEventUnassigned T)) (before after : List (ChangeEvent T)) : Type 0 where
  pub events : List (ChangeEvent T)
  pub added : after ≡ before ++ events
  pub clones : AreTableEvents C s table events
