use Rattle.std.proofs.Common.{slice_set, ap, sym, ◌∙◌, arith}
use Rattle.std.proofs.lemmas.List.{length-set}
use Rattle.indexset_ffi.proofs.WrittenLemmas.{IsNext, written_more, next_is, none_left}
use Rattle.indexset_ffi.proofs.set_calls.write_each.Goals as goal

pub loop-count-preserved : goal.loop-count-preserved
loop-count-preserved c =
    let i = c.loop-count.invariant in let x = c.in-Some.element.now in let test = c.loop-count-test.true in
    let n : IsNext c.args.walk c.loop-count.count x c.next.new.self = next_is c.args.walk c.loop-count.count x c.next.new.self (sym i.walked ∙ c.in-Some.ensures.steps) in
    let inside = n.inside in let kept = length-set c.loop-count.out c.loop-count.count x in let long = i.long in
    record {
      inside = omega (arith, inside);
      room = omega (arith, test, kept);
      long = kept ∙ long;
      walked = n.left;
      done = ap (λ l. slice_set l c.loop-count.count x) i.done ∙ written_more c.args.walk c.args.out.now c.loop-count.count x n.there (omega (arith, test, long));
    }

pub returns-in_default-clause-count : goal.returns-in_default-clause-count
returns-in_default-clause-count c =
    let i = c.loop-count.invariant in let few = none_left c.args.walk c.loop-count.count (sym i.walked ∙ c.in_default.ensures.steps.0) in
    let inside = i.inside in let room = i.room in let long = i.long in omega (arith, few, inside, room, long)
