use Rattle.std.proofs.Common.{◌≡◌, length, slice_set, slice_get, Some, ap, sym, ◌∙◌, arith}
use Rattle.std.proofs.lemmas.List.{length-set}
use Rattle.std.proofs.lemmas.Option.{slice_get-map}
use Rattle.std.specs.Option.{option_map}
use Rattle.indexset_core.specs.Nodes.{node_lengths, vec_items}
use Rattle.indexset_ffi.proofs.WrittenLemmas.{IsNext, written_more, next_is, none_left}
use Rattle.indexset_ffi.proofs.log_calls.write_lengths.Goals as goal

pub loop-count-preserved : goal.loop-count-preserved
loop-count-preserved c =
    let i = c.loop-count.invariant in let n = c.loop-count.count in let walk = c.args.walk in let node = c.in-Some.node.now in let len = c.len.result in
    let next : IsNext walk n node c.next.new.self = next_is walk n node c.next.new.self (sym i.walked ∙ c.in-Some.ensures.steps) in
    let inside = next.inside in let test = c.loop-count-test.true in let long = i.long in let kept = length-set c.loop-count.out n len in
    let there : slice_get (node_lengths (vec_items walk)) n ≡ Some len =
    slice_get-map (λ m. length m) (vec_items walk) n
    ∙ ap (option_map (λ m. length m))
    (slice_get-map (λ v. v.items) walk n ∙ ap (option_map (λ v. v.items)) next.there)
    ∙ ap Some (sym (c.len.ensures ∙ node.ok.0)) in
    record {
      inside = omega (arith, inside);
      room = omega (arith, test, kept);
      long = kept ∙ long;
      walked = next.left;
      done = ap (λ l. slice_set l n len) i.done ∙ written_more (node_lengths (vec_items walk)) c.args.out.now n len there (omega (arith, test, long));
    }

pub returns-in_default-clause-count : goal.returns-in_default-clause-count
returns-in_default-clause-count c =
    let i = c.loop-count.invariant in let few = none_left c.args.walk c.loop-count.count (sym i.walked ∙ c.in_default.ensures.steps.0) in
    let inside = i.inside in let room = i.room in let long = i.long in omega (arith, few, inside, room, long)
