use Rattle.std.proofs.Common.{◌∙◌, arith}
use Rattle.std.proofs.lemmas.List.{length-set}
use Rattle.indexset_core.proofs.CallerLemmas.{on_err}
use Rattle.indexset_spine.specs.NodeList.{with_last}
use Rattle.indexset_spine.proofs.AppendLemmas.{emptied_more, lower_set, some_in, takes_node}
use Rattle.indexset_spine.proofs.FoldPrefixLemmas.{taken_shorter, takes_more}
use Rattle.indexset_spine.proofs.spine.append.move_nodes.Goals as goal

pub returns-in_err-append_items-clause-moved : goal.returns-in_err-append_items-clause-moved
returns-in_err-append_items-clause-moved g c =
    let f = with_last c.args.spine.now.size in
    let here = rw c.loop-k.invariant.size at c.append_items.ensures.moved in
    takes_more f _ _ _ _ _ _ c.loop-k.invariant.moved (takes_node c.loop-k.from.items c.loop-k.k _ _ (omega arith) c.index_mut.ensures.value f _ _ here c.loop-k.invariant.emptied)

pub returns-in_err-append_items-clause-bounded : goal.returns-in_err-append_items-clause-bounded
returns-in_err-append_items-clause-bounded g c =
    let fewer = taken_shorter (with_last c.loop-k.spine.size) _ _ _ _ c.append_items.ensures.moved in
    λ n low. lower_set c.loop-k.from.items c.loop-k.k _ _ (omega arith) c.index_mut.ensures.value n fewer (c.loop-k.invariant.bounded n low)

pub returns-in_err-append_items-clause-some_left : goal.returns-in_err-append_items-clause-some_left
returns-in_err-append_items-clause-some_left g c =
    on_err c.from_residual.result (some_in c.loop-k.from.items c.loop-k.k _ _ (omega arith) c.index_mut.ensures.value c.loop-k.invariant.emptied c.in_err-append_items.ensures.some_left)

pub loop-k-preserved : goal.loop-k-preserved
loop-k-preserved g c =
    let f = with_last c.args.spine.now.size in
    let here = rw c.loop-k.invariant.size at c.append_items.ensures.moved in
    let fewer = taken_shorter (with_last c.loop-k.spine.size) _ _ _ _ c.append_items.ensures.moved in
    record {
      moved = takes_more f _ _ _ _ _ _ c.loop-k.invariant.moved (takes_node c.loop-k.from.items c.loop-k.k _ _ (omega arith) c.index_mut.ensures.value f _ _ here c.loop-k.invariant.emptied);
      emptied = emptied_more c.loop-k.from.items c.loop-k.k _ _ (omega arith) c.index_mut.ensures.value c.loop-k.invariant.emptied c.in_ok-append_items.ensures.emptied;
      size = c.append_items.ensures.size ∙ c.loop-k.invariant.size;
      as_many = length-set c.loop-k.from.items c.loop-k.k _ ∙ c.loop-k.invariant.as_many;
      bounded = λ n low. lower_set c.loop-k.from.items c.loop-k.k _ _ (omega arith) c.index_mut.ensures.value n fewer (c.loop-k.invariant.bounded n low);
    }
