use Rattle.indexset_events.proofs.CallerLemmas.{on_ok_map}
use Rattle.indexset_replica.proofs.CloneLemmas.{kept_merge, kept_remove, kept_remove_node, kept_split}
use Rattle.indexset_replica.proofs.edits.carry_out.Goals as goal

pub returns-in-RemoveAt-clause-done : goal.returns-in-RemoveAt-clause-done
returns-in-RemoveAt-clause-done g c = rw c.in-RemoveAt.is (on_ok_map c.remove_item.result c.remove_item.ensures.done (λ d. kept_remove d))

pub returns-in-RemoveNode-clause-done : goal.returns-in-RemoveNode-clause-done
returns-in-RemoveNode-clause-done g c = rw c.in-RemoveNode.is (on_ok_map c.remove_node.result c.remove_node.ensures.done (λ d. kept_remove_node d))

pub returns-in-SplitNode-clause-done : goal.returns-in-SplitNode-clause-done
returns-in-SplitNode-clause-done g c = rw c.in-SplitNode.is (on_ok_map c.split_node.result c.split_node.ensures.done (λ d. kept_split d))

pub returns-in-MergeNodes-clause-done : goal.returns-in-MergeNodes-clause-done
returns-in-MergeNodes-clause-done g c = rw c.in-MergeNodes.is (on_ok_map c.merge_nodes.result c.merge_nodes.ensures.done (λ d. kept_merge d))

pub returns-in-InsertAt-clause-done : goal.returns-in-InsertAt-clause-done
returns-in-InsertAt-clause-done g c = rw c.in-InsertAt.is c.insert_item.ensures.done

pub returns-in-CreateNode-clause-done : goal.returns-in-CreateNode-clause-done
returns-in-CreateNode-clause-done g c = rw c.in-CreateNode.is c.create_node.ensures.done
