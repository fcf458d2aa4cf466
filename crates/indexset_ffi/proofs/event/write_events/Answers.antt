use Rattle.std.proofs.Common.{map, slice_set, ap, ◌∙◌, arith}
use Rattle.std.proofs.lemmas.List.{length-set}
use Rattle.indexset_ffi.specs.Events.{record_of}
use Rattle.indexset_ffi.proofs.WrittenLemmas.{written_more, answer_read}
use Rattle.indexset_ffi.proofs.event.write_events.Goals as goal

pub loop-i-preserved : goal.loop-i-preserved
loop-i-preserved c =
    let events = c.args.events.now in let i = c.loop-i.i in let test = c.loop-i-test.true in let fits = c.requires in
    record {
      long = length-set c.loop-i.out i c.record_of.result ∙ c.loop-i.invariant.long;
      done = ap (λ l. slice_set l i c.record_of.result) c.loop-i.invariant.done ∙ written_more (map record_of events) c.args.out.now i c.record_of.result
          (answer_read record_of events i _ c.record_of.result test c.record_of.ensures.value) (omega (arith, fits, test));
    }
