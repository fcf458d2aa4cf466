use Rattle.std.proofs.Common.{◌≡◌, ℕ, List, slice_set, slice_get, Some, ap, sym, ◌∙◌, arith}
use Rattle.std.proofs.lemmas.List.{length-set}
use Rattle.std.proofs.lemmas.Option.{slice_get-map}
use Rattle.std.specs.Option.{option_map}
use Rattle.indexset_core.specs.declared.pair.Pair.{Pair}
use Rattle.indexset_core.specs.Pairs.{pair, pair_values}
use Rattle.indexset_ffi.proofs.WrittenLemmas.{IsNext, written_more, next_is, none_left}
use Rattle.indexset_ffi.proofs.text_log_calls.write_values.Goals as goal

pub loop-count-preserved : goal.loop-count-preserved
loop-count-preserved c =
    let i = c.loop-count.invariant in let n = c.loop-count.count in let v = c.in-Some.value.now in
    let walk : List (Pair (List ℕ) ℕ) = c.args.walk in let p : Pair (List ℕ) ℕ = pair c.in-Some._key.now v in
    let next : IsNext walk n p c.next.new.self = next_is walk n p c.next.new.self (sym i.walked ∙ c.in-Some.ensures.steps) in
    let inside = next.inside in let test = c.loop-count-test.true in let long = i.long in
    let there : slice_get (pair_values walk) n ≡ Some v = slice_get-map (λ q. q.value) walk n ∙ ap (option_map (λ q. q.value)) next.there in
    record {
      inside = omega (arith, inside);
      room = omega (arith, test);
      long = length-set c.loop-count.values n v ∙ long;
      walked = next.left;
      valued = ap (λ l. slice_set l n v) i.valued ∙ written_more (pair_values walk) c.args.values.now n v there (omega (arith, test));
    }

pub returns-in_default-clause-count : goal.returns-in_default-clause-count
returns-in_default-clause-count c =
    let i = c.loop-count.invariant in let few = none_left c.args.walk c.loop-count.count (sym i.walked ∙ c.in_default.ensures.steps.0) in
    let inside = i.inside in let room = i.room in omega (arith, few, inside, room)
