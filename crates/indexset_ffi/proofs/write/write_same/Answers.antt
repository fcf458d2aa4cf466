use Rattle.std.proofs.Common.{replicate, slice_set, ap, ◌∙◌, arith}
use Rattle.std.proofs.lemmas.List.{length-set}
use Rattle.indexset_ffi.proofs.WrittenLemmas.{written_more, same_at}
use Rattle.indexset_ffi.proofs.write.write_same.Goals as goal

pub loop-i-preserved : goal.loop-i-preserved
loop-i-preserved g c =
    let i = c.loop-i.i in let x = c.args.answer in let least = c.min-count.ensures in let test = c.loop-i-test.true in
    record {
      long = length-set c.loop-i.out i x ∙ c.loop-i.invariant.long;
      done =
          ap (λ l. slice_set l i x) c.loop-i.invariant.done
          ∙ written_more (replicate c.args.asked x) c.args.out.now i x
          (same_at c.args.asked x i (omega (arith, least, test))) (omega (arith, least, test));
    }
