use Rattle.std.proofs.Common.{map, slice_set, Some, ap, sym, ◌∙◌, arith}
use Rattle.std.proofs.lemmas.List.{length-set}
use Rattle.std.specs.Ordering.{nat_cmp}
use Rattle.indexset_core.specs.Order.{rank}
use Rattle.indexset_spine.specs.NodeList.{items}
use Rattle.indexset_ffi.proofs.WrittenLemmas.{written_more, answer_at}
use Rattle.indexset_ffi.proofs.set_calls.rank_each.Goals as goal

pub loop-i-preserved : goal.loop-i-preserved
loop-i-preserved c =
    let f = rank nat_cmp (items c.args.set.now) in let keys = c.args.keys.now in let i = c.loop-i.i in
    let least = c.min-count.ensures in let test = c.loop-i-test.true in
    record {
      long = length-set c.loop-i.out i c.rank.result ∙ c.loop-i.invariant.long;
      done = ap (λ l. slice_set l i c.rank.result) c.loop-i.invariant.done ∙ written_more (map f keys) c.args.out.now i c.rank.result
          (answer_at f keys i 0 (omega (arith, least, test)) ∙ ap Some (sym c.rank.ensures.value)) (omega (arith, least, test));
    }
