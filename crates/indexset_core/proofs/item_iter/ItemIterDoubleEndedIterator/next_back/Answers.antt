use Rattle.std.proofs.Common.{◌++◌, ap, map, ◌∙◌}
use Rattle.std.proofs.lemmas.List.{nil_from_length}
use Rattle.indexset_core.specs.Nodes.{concat}
use Rattle.indexset_core.proofs.ItemIterLemmas.{back_turn}
use Rattle.indexset_core.proofs.item_iter.ItemIterDoubleEndedIterator.next_back.Goals as goal

pub loop-last-preserved-in-Some-split_last : goal.loop-last-preserved-in-Some-split_last
loop-last-preserved-in-Some-split_last g c =
    let list = g.R.NodeItems.list in
    let s = c.loop-last.self-inside in
    let turn = c.in-Some-split_last in
    ap (λ l. s.front.now ++ (concat (map list turn.rest.now) ++ l)) c.items_of-self-inside.ensures
    ∙ (back_turn list turn.rest.now s.middle.now turn.node.now s.front.now s.back.now turn.ensures.cases.0 (nil_from_length s.back.now c.in_default.ensures.cases) ∙ c.loop-last.invariant)
