use Rattle.std.proofs.Common.{◌≡◌, ◌+◌, ◌*◌, ◌-◌, ◌/◌, ◌<◌, ◌≤◌, [], ◌∷◌, take, drop, length, reverse, refl, ap, ◌∙◌, arith, length-drop}
use Rattle.std.proofs.lemmas.List.{take-take}
use Rattle.indexset_core.specs.Nodes.{vec_items}
use Rattle.indexset_spine.proofs.BlockLemmas.{block_before, gathered, last_block, less_one, none_of, turned}
use Rattle.indexset_spine.specs.NodeList.{with_all_last}
use Rattle.indexset_spine.proofs.spine.make.nodes_of.Goals as goal

pub loop-left-init : goal.loop-left-init
loop-left-init g c =
    let xs = c.args.items.items in
    let last = c.in_ok-split_off.field-0 in
    let cut = c.in_ok-split_off.ensures {u = tt} in
    let end = c.count_halves-left.result * (c.args.size / 2) in
    let short : length (drop end xs) ≤ c.args.size = omega (arith, c.count_halves-left.ensures.within, c.len.ensures, length-drop end xs) in
    record {
      half_is = refl;
      rest = cut.items;
      inside = omega (arith, cut.tail_len);
      needed = λ some. omega (arith, c.count_halves-left.ensures.needed some, c.len.ensures);
      room = omega (arith, c.push_reserved.ensures.len, c.push_reserved.ensures.capacity, c.in_ok-nodes.ensures.len, c.in_ok-nodes.ensures.capacity);
      nodes =
          ap (λ vs. reverse (vec_items vs)) c.push_reserved.ensures.items
          ∙ (gathered c.in_ok-nodes.nodes.items last
          ∙ (ap (λ vs. last.items ∷ reverse (vec_items vs)) c.in_ok-nodes.ensures.items
          ∙ last_block c.args.size c.requires (drop end xs) last.items cut.tail short));
    }

pub loop-left-preserved : goal.loop-left-preserved
loop-left-preserved g c =
    let xs = c.args.items.items in
    let node = c.in_ok-split_off-2.field-0 in
    let cut = c.in_ok-split_off-2.ensures {u = tt} in
    let held = c.loop-left.invariant in
    let half = c.args.size / 2 in
    let left = c.loop-left.left in
    let i = (left - 1) * half in
    let j = left * half in
    let apart : j ≡ i + half = less_one left half c.loop-left-test.true in
    let more : c.args.size + i < length xs = omega (arith, held.needed c.loop-left-test.true, apart) in
    let is : node.items ≡ drop i (take j xs) = cut.tail ∙ ap (drop i) held.rest in
    record {
      half_is = refl;
      rest = cut.items ∙ (ap (take i) held.rest ∙ take-take i j xs (omega (arith, apart)));
      inside = omega (arith, apart, held.inside);
      needed = λ some. omega (arith, held.needed c.loop-left-test.true, apart);
      room = omega (arith, c.push_reserved-in-loop-left.ensures.len, c.push_reserved-in-loop-left.ensures.capacity, held.room, c.loop-left-test.true);
      nodes =
          ap (λ vs. reverse (vec_items vs)) c.push_reserved-in-loop-left.ensures.items
          ∙ (gathered c.loop-left.nodes.items node
          ∙ (ap (λ l. l ∷ reverse (vec_items c.loop-left.nodes.items)) is
          ∙ block_before c.args.size c.requires xs i j (reverse (vec_items c.loop-left.nodes.items)) (omega (arith, apart)) held.inside (omega (arith, apart)) more held.nodes));
    }

pub returns-clause-nodes : goal.returns-clause-nodes
returns-clause-nodes g c =
    let xs = c.args.items.items in
    let held = c.loop-left.invariant in
    let none : c.loop-left.left ≡ 0 = omega (arith, c.loop-left-test.false) in
    ap vec_items c.reverse.ensures.items
    ∙ (turned c.loop-left.nodes.items ∙ (held.nodes ∙ ap (λ k. with_all_last c.args.size ([] ∷ []) (drop k xs)) (none_of (c.args.size / 2) none)))
