use Rattle.std.proofs.Common.{map, slice_set, ap, ◌∙◌, arith}
use Rattle.std.proofs.lemmas.List.{length-set}
use Rattle.std.specs.Option.{unwrap_or}
use Rattle.indexset_ffi.specs.Elements.{value_or}
use Rattle.indexset_ffi.proofs.WrittenLemmas.{written_more, answer_read}
use Rattle.indexset_ffi.proofs.map_calls.value_each.Goals as goal

pub loop-i-preserved : goal.loop-i-preserved
loop-i-preserved c =
    let f = value_or c.args.held.now.pairs c.args.absent in let keys = c.args.keys.now in let i = c.loop-i.i in
    let least = c.min-count.ensures in let test = c.loop-i-test.true in let v = c.unwrap_or.result in
    record {
      long = length-set c.loop-i.out i v ∙ c.loop-i.invariant.long;
      done = ap (λ l. slice_set l i v) c.loop-i.invariant.done ∙ written_more (map f keys) c.args.out.now i v
          (answer_read f keys i 0 v (omega (arith, least, test)) (c.unwrap_or.ensures ∙ ap (λ o. unwrap_or o c.args.absent) (c.copied.ensures ∙ c.get.ensures))) (omega (arith, least, test));
    }
