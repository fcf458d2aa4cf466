-- Commands to a logged set, defined on its items in order and on its nodes.
use Rattle.std.specs.Prelude.{not, List}
use Rattle.std.specs.declared.cmp.Ordering.{Ordering}
use Rattle.indexset_core.specs.Order.{has_equal, equal_element, put, keep, without}
use Rattle.indexset_events.specs.Table.{put_events, checked_put_events, removal_events}
use Rattle.indexset_log.specs.Tree.{Tree}
use Rattle.indexset_events.specs.declared.change.ChangeEventUnassigned.{ChangeEventUnassigned}
use Rattle.indexset_bench.specs.declared.logged.set.LoggedSetCommand.{LoggedSetCommand}
use Rattle.indexset_bench.specs.declared.logged.set.LoggedSetCommand.TheVariants.{
  Put,
  PutChecked,
  Remove,
}
use Rattle.indexset_bench.specs.declared.logged.set.LoggedSetReply.{LoggedSetReply}
use Rattle.indexset_bench.specs.declared.logged.set.LoggedSetReply.TheVariants.{Old, Added}
use Rattle.indexset_bench.specs.Told.{tree_after}

module _ {T : Type 0} (cmp : T → T → Ordering) where
  -- the reply to a command
  abbrev pub logged_set_reply : List T → LoggedSetCommand T → LoggedSetReply T
  logged_set_reply l (Put v) = Old (equal_element cmp l v)
  logged_set_reply l (PutChecked v) = Added (not (has_equal cmp l v))
  logged_set_reply l (Remove v) = Old (equal_element cmp l v)

  -- the items of the set after a command
  abbrev pub logged_set_after : List T → LoggedSetCommand T → List T
  logged_set_after l (Put v) = put cmp l v
  logged_set_after l (PutChecked v) = keep cmp l v
  logged_set_after l (Remove v) = without cmp l v

  -- the events of a command
  abbrev pub logged_set_events : Tree T → LoggedSetCommand T → List (ChangeEventUnassigned T)
  logged_set_events t (Put v) = put_events cmp t.size t.nodes v
  logged_set_events t (PutChecked v) = checked_put_events cmp t.size t.nodes v
  logged_set_events t (Remove v) = removal_events cmp t.size t.nodes v

  -- the tree after a command
  abbrev pub logged_set_left : Tree T → LoggedSetCommand T → Tree T
  logged_set_left t c = tree_after cmp t (logged_set_events t c)
