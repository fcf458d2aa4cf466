-- Commands to a multimap, defined on its numbered pairs in order, on the number of its next new
-- pair, and on its nodes.
use Rattle.std.specs.Prelude.{ℕ, ◌+◌, Bool, false, List, length, is_none, if◌then◌else◌}
use Rattle.std.specs.Option.{option_map, unwrap_or}
use Rattle.std.specs.declared.cmp.Ordering.{Ordering}
use Rattle.indexset_core.specs.MultiPairs.{by_number, numbered_pair}
use Rattle.indexset_core.specs.Nodes.{concat}
use Rattle.indexset_core.specs.Order.{put}
use Rattle.indexset_core.specs.declared.multipair.MultiPair.{MultiPair}
use Rattle.indexset_events.specs.declared.change.ChangeEventUnassigned.{ChangeEventUnassigned}
use Rattle.indexset_multi.specs.Keys.{equal_pair, first_pair, kept_number}
use Rattle.indexset_multi.specs.Keys.{key_and_value, without_named}
use Rattle.indexset_multi.specs.Tree.{MultiTree, insertion_events}
use Rattle.indexset_multi.specs.Tree.{lacks_number, pair_removal_events}
use Rattle.indexset_bench.specs.declared.logged.multimap.LoggedMultiCommand.{LoggedMultiCommand}
use Rattle.indexset_bench.specs.declared.logged.multimap.LoggedMultiCommand.TheVariants.{
  Insert,
  RemoveSome,
  Remove,
}
use Rattle.indexset_bench.specs.declared.logged.multimap.LoggedMultiReply.{LoggedMultiReply}
use Rattle.indexset_bench.specs.declared.logged.multimap.LoggedMultiReply.TheVariants.{
  OldValue,
  Out,
}
use Rattle.indexset_bench.specs.Told.{nodes_after}

-- the state that a command reads and changes: the pairs, and the number of the next new pair
pub record MultiState (K V : Type 0) : Type 0 where
  pub pairs : List (MultiPair K V)
  pub pair_next : ℕ

module _ {K V : Type 0} (cmp : K → K → Ordering) (eq : V → V → Bool) where
  -- the reply to a command
  abbrev pub logged_multi_reply : MultiState K V → LoggedMultiCommand K V → LoggedMultiReply K V
  logged_multi_reply s (Insert k w) =
      OldValue (option_map (λ p. p.value) (equal_pair cmp eq s.pairs k w))
  logged_multi_reply s (RemoveSome k) = Out (option_map key_and_value (first_pair cmp s.pairs k))
  logged_multi_reply s (Remove k w) = Out (option_map key_and_value (equal_pair cmp eq s.pairs k w))

  -- the pairs after a command
  abbrev pub logged_multi_pairs : MultiState K V → LoggedMultiCommand K V → List (MultiPair K V)
  logged_multi_pairs s (Insert k w) =
      put (by_number cmp) s.pairs
      (numbered_pair k w (unwrap_or (kept_number cmp eq s.pairs k w) s.pair_next))
  logged_multi_pairs s (RemoveSome k) = without_named cmp s.pairs (first_pair cmp s.pairs k)
  logged_multi_pairs s (Remove k w) = without_named cmp s.pairs (equal_pair cmp eq s.pairs k w)

  -- the number of the next new pair after a command: one more if a new pair was inserted
  abbrev pub logged_multi_next : MultiState K V → LoggedMultiCommand K V → ℕ
  logged_multi_next s (Insert k w) =
      if is_none (kept_number cmp eq s.pairs k w) then s.pair_next + 1 else s.pair_next
  logged_multi_next s (RemoveSome k) = s.pair_next
  logged_multi_next s (Remove k w) = s.pair_next

  -- the state after a command
  abbrev pub logged_multi_after : MultiState K V → LoggedMultiCommand K V → MultiState K V
  logged_multi_after s command = record {
    pairs = logged_multi_pairs s command;
    pair_next = logged_multi_next s command;
  }

  -- the events of a command
  abbrev pub logged_multi_events : MultiTree K V → LoggedMultiCommand K V
      → List (ChangeEventUnassigned (MultiPair K V))
  logged_multi_events m (Insert k w) = insertion_events cmp eq m k w
  logged_multi_events m (RemoveSome k) =
      pair_removal_events cmp m.size m.nodes (first_pair cmp (concat m.nodes) k)
  logged_multi_events m (Remove k w) =
      pair_removal_events cmp m.size m.nodes (equal_pair cmp eq (concat m.nodes) k w)

  -- the tree after a command
  abbrev pub logged_multi_left : MultiTree K V → LoggedMultiCommand K V → MultiTree K V
  logged_multi_left m c = record {
    nodes = nodes_after (by_number cmp) m.nodes m.next (logged_multi_events m c);
    size = m.size;
    next = m.next + length (logged_multi_events m c);
    pair_next = logged_multi_next (record { pairs = concat m.nodes; pair_next = m.pair_next }) c;
  }

  -- the command inserts a new pair, and no pair number remains
  abbrev pub lacks_pair_number : MultiTree K V → LoggedMultiCommand K V → Bool
  lacks_pair_number m (Insert k w) = lacks_number cmp eq m k w
  lacks_pair_number m (RemoveSome k) = false
  lacks_pair_number m (Remove k w) = false
