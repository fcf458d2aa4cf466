use Rattle.std.proofs.Common.{◌≡◌, length, map, slice_index_or, slice_set, slice_get, Some, ap, sym, ◌∙◌, arith}
use Rattle.std.proofs.lemmas.List.{length-set}
use Rattle.std.proofs.lemmas.Option.{slice_get_within, get_or_from_slice_get}
use Rattle.indexset_spine.specs.NodeList.{items}
use Rattle.indexset_ffi.specs.Elements.{element_at}
use Rattle.indexset_ffi.proofs.WrittenLemmas.{written_more, answer_at, within_more, none_past}
use Rattle.indexset_ffi.proofs.set_calls.element_each.Goals as goal

pub loop-count-preserved : goal.loop-count-preserved
loop-count-preserved c =
    let es = items c.args.set.now in let at = c.args.positions.now in let n = c.loop-count.count in let x = c.in-Some.element.now in
    let i = c.loop-count.invariant in let least = c.min-room.ensures in let test = c.loop-count-test.true in
    let found : slice_get es (slice_index_or at n 0) ≡ Some x = sym c.in-Some.ensures in
    record {
      inside = omega (arith, test);
      long = length-set c.loop-count.out n x ∙ i.long;
      contains = within_more at (length es) n i.contains (omega (arith, least, test)) (slice_get_within es (slice_index_or at n 0) x found);
      done = ap (λ l. slice_set l n x) i.done ∙ written_more (map (element_at es) at) c.args.out.now n x
          (answer_at (element_at es) at n 0 (omega (arith, least, test)) ∙ ap Some (get_or_from_slice_get es (slice_index_or at n 0) x 0 found)) (omega (arith, least, test));
    }

pub returns-in_default-clause-stop : goal.returns-in_default-clause-stop
returns-in_default-clause-stop c few = none_past (items c.args.set.now) (slice_index_or c.args.positions.now c.loop-count.count 0) (sym c.in_default.ensures)
