use Rattle.std.proofs.Common.{◌≡◌, ℕ, ◌+◌, List, ◌++◌, length, take, drop, slice_set, slice_get, Some, ap, sym, ◌∙◌, arith, length-append}
use Rattle.std.proofs.lemmas.List.{length-set}
use Rattle.std.proofs.lemmas.Option.{slice_get-map}
use Rattle.std.specs.Option.{option_map}
use Rattle.indexset_core.specs.declared.pair.Pair.{Pair}
use Rattle.indexset_core.specs.Nodes.{concat}
use Rattle.indexset_core.specs.Pairs.{pair, pair_keys}
use Rattle.indexset_ffi.specs.Text.{key_lengths, written_over}
use Rattle.indexset_ffi.proofs.TextWrittenLemmas.{joined_more, length-over, over_more}
use Rattle.indexset_ffi.proofs.WrittenLemmas.{IsNext, written_more, next_is, none_left}
use Rattle.indexset_ffi.proofs.text_calls.write_keys.Goals as goal

pub loop-count-preserved : goal.loop-count-preserved
loop-count-preserved c =
    let i = c.loop-count.invariant in let n = c.loop-count.count in let k = c.in-Some.key.now in let b = c.args.bytes.now in
    let walk : List (Pair (List ℕ) ℕ) = c.args.walk in let p : Pair (List ℕ) ℕ = pair k c.in-Some._value.now in
    let next : IsNext walk n p c.next.new.self = next_is walk n p c.next.new.self (sym i.walked ∙ c.in-Some.ensures.steps) in
    let inside = next.inside in let test = c.loop-count-test.true in let long = i.long in
    let there : slice_get (pair_keys walk) n ≡ Some k = slice_get-map (λ q. q.key) walk n ∙ ap (option_map (λ q. q.key)) next.there in
    let before = concat (take n (pair_keys walk)) in let stored : c.as_bytes-stored.result.now ≡ k = c.as_bytes-stored.ensures in
    let size : length c.as_bytes-stored.result.now ≡ length k = ap length stored in
    let sized : slice_get (key_lengths walk) n ≡ Some (length c.as_bytes-stored.result.now) = slice_get-map length (pair_keys walk) n ∙ (ap (option_map length) there ∙ ap Some (sym size)) in
    let more : concat (take (n + 1) (pair_keys walk)) ≡ before ++ k = joined_more (pair_keys walk) n k there in
    let many : length (concat (take (n + 1) (pair_keys walk))) ≡ length before + length k = ap length more ∙ length-append before k in
    let used = i.used in let wide = i.wide in let told = c.write_behind-used.ensures.used in
    let over : c.write_behind-used.new.out ≡ written_over (concat (take (n + 1) (pair_keys walk))) b =
    c.write_behind-used.ensures.bytes ∙ (ap (λ (l : List ℕ). take c.loop-count.used l ++ written_over c.as_bytes-stored.result.now (drop c.loop-count.used l)) i.bytes
    ∙ (ap (λ (l : List ℕ). take c.loop-count.used (written_over before b) ++ written_over l (drop c.loop-count.used (written_over before b))) stored
    ∙ (over_more before k b c.loop-count.used used ∙ ap (λ (l : List ℕ). written_over l b) (sym more)))) in
    record {
      inside = omega (arith, inside);
      room = omega (arith, test);
      long = length-set c.loop-count.lengths n (length c.as_bytes-stored.result.now) ∙ long;
      walked = next.left;
      measured =
          ap (λ l. slice_set l n (length c.as_bytes-stored.result.now)) i.measured
          ∙ written_more (key_lengths walk) c.args.lengths.now n (length c.as_bytes-stored.result.now) sized
          (omega (arith, test));
      used = omega (arith, told, used, wide, size, many);
      wide = ap length over ∙ length-over (concat (take (n + 1) (pair_keys walk))) b;
      bytes = over;
    }

pub returns-in_default-clause-count : goal.returns-in_default-clause-count
returns-in_default-clause-count c =
    let i = c.loop-count.invariant in let few = none_left c.args.walk c.loop-count.count (sym i.walked ∙ c.in_default.ensures.steps.0) in
    let inside = i.inside in let room = i.room in omega (arith, few, inside, room)
