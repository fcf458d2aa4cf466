use Rattle.std.proofs.Common.{◌<◌, length, map, slice_set, ap, ◌∙◌, arith}
use Rattle.std.proofs.lemmas.List.{length-set}
use Rattle.indexset_ffi.proofs.WrittenLemmas.{answer_read, written_more}
use Rattle.indexset_ffi.proofs.next.write_numbers_of.Goals as goal

pub loop-i-preserved : goal.loop-i-preserved
loop-i-preserved g c =
    let run = c.args.run.now in let i = c.loop-i.i in let key_of = g.P.Numbers.key_of in let value_of = g.P.Numbers.value_of in
    let k = c.key.result in let w = c.value.result in let at = c.loop-i.invariant in
    let few = c.min-count.ensures in let fewer = c.min.ensures in let test = c.loop-i-test.true in
    let v = c.index-run-i.result in let u = c.index-run-i-in-loop-i.result in
    let inside : i < length run = omega (arith, few, fewer, test) in
    record {
      many = length-set c.loop-i.keys i k ∙ at.many;
      long = length-set c.loop-i.values i w ∙ at.long;
      keyed =
          ap (λ l. slice_set l i k) at.keyed
          ∙ written_more (map key_of run) c.args.keys.now i k
          (answer_read key_of run i v k inside (c.key.ensures ∙ ap key_of c.index-run-i.is))
          (omega (arith, few, fewer, test));
      valued =
          ap (λ l. slice_set l i w) at.valued
          ∙ written_more (map value_of run) c.args.values.now i w
          (answer_read value_of run i u w inside (c.value.ensures ∙ ap value_of c.index-run-i-in-loop-i.is))
          (omega (arith, few, fewer, test));
    }
