use Rattle.std.proofs.Common.{◌≡◌, [], arith, ◌∙◌}
use Rattle.std.proofs.lemmas.List.{nil_from_length}
use Rattle.std.proofs.lemmas.Bool.Decides.{nat_tests}
use Rattle.indexset_spine.specs.NodeList.{with_last, with_all_last}
use Rattle.indexset_spine.proofs.AppendLemmas.{takes_items}
use Rattle.indexset_spine.proofs.FoldPrefixLemmas.{takes_all, takes_more}
use Rattle.indexset_spine.proofs.spine.Spine.append_items.Goals as goal

pub loop-self-preserved : goal.loop-self-preserved
loop-self-preserved g c = record {
  moved = takes_more (with_last c.args.self.now.size) _ _ _ _ _ _ c.loop-self.invariant.moved (rw c.loop-self.invariant.size at c.append_block.ensures.moved);
  size = c.append_block.ensures.size ∙ c.loop-self.invariant.size;
}

pub returns-clause-nodes : goal.returns-clause-nodes
unfolding with_all_last
returns-clause-nodes g c =
    let none : c.loop-self.from.items ≡ [] = nil_from_length _ (grind (arith, nat_tests)) in
    takes_all (with_last c.args.self.now.size) _ _ _ _ c.loop-self.invariant.moved none

pub returns-in_err-append_block-clause-items : goal.returns-in_err-append_block-clause-items
returns-in_err-append_block-clause-items g c =
    takes_items c.args.self.now.size _ _ _ _ c.recall_lengths.ensures.cut
    (takes_more (with_last c.args.self.now.size) _ _ _ _ _ _ c.loop-self.invariant.moved
    (rw c.loop-self.invariant.size at c.append_block.ensures.moved))

pub returns-clause-items : goal.returns-clause-items
returns-clause-items g c = takes_items c.args.self.now.size _ _ _ _ c.recall_lengths.ensures.cut c.loop-self.invariant.moved
