-- The map of a run.
use Rattle.std.specs.Prelude.{ℕ, List}
use Rattle.std.specs.declared.clone.Clone as clone
use Rattle.std.specs.declared.cmp.Ord as ord
use Rattle.std.specs.declared.cmp.PartialEq as eq
use Rattle.std.specs.declared.cmp.PartialOrd as partial
use Rattle.std.specs.declared.cmp.Ordering.{Ordering}
use Rattle.std.specs.declared.fmt.Display as display
use Rattle.indexset_wire.specs.Texts.{Texts}
use Rattle.indexset_wire.specs.declared.item.Item as item
use Rattle.indexset_follow.specs.Follow.{start_state, state_after}
use Rattle.indexset_follow.specs.Store.{Held, held}
use Rattle.indexset_follow.specs.declared.store.Store.{Store}
use Rattle.indexset_keep.specs.Roles.{role_of}
use Rattle.indexset_keep.specs.declared.manner.Manner.{Manner}

module _ {T : Type 0} {o : ord.Ghosts T} {e : eq.Ghosts T} {p : partial.Ghosts T}
    {c : clone.Ghosts T} {d : display.Ghosts T} {i : item.Ghosts T} where
  -- the role of a map, with its settings
  abbrev pub map_held : Store T o e p c d i → Held T
  map_held m = held m.size m.window m.role

module _ {T : Type 0} (cmp : T → T → Ordering) (texts : Texts T) where
  -- the initial map, from the lines that are kept
  abbrev pub first_map : Manner → List (List ℕ) → Held T
  first_map m lines =
      held m.size m.window
      (role_of m.size m.window m.leads (state_after cmp texts (start_state 0) lines))
