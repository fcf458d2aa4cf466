use Rattle.std.proofs.Common.{◌≡◌, ℕ, ◌≤◌, ◌<◌, ◌+◌, ◌∙◌, true, false, List, Ordering, Ok, Err, length, map, refl, sym, arith}
use Rattle.std.specs.List.{All}
use Rattle.std.proofs.lemmas.Grind.{common_steps}
use Rattle.indexset_core.specs.Digits.{digits}
use Rattle.indexset_core.specs.Nodes.{equal_at, node_at, node_for, node_lengths}
use Rattle.indexset_core.specs.Parted.{less_count}
use Rattle.indexset_core.specs.Places.{located}
use Rattle.indexset_core.proofs.DigitsLemmas.{digits-mono}
use Rattle.indexset_core.proofs.LocateLemmas.{parted_node, searched, small_at}
use Rattle.indexset_core.proofs.locate.locate_by.Given.{Over}
use Rattle.indexset_core.proofs.locate.locate_by.Goals.{After-items_of-items, After-place_in-offset}
use Rattle.indexset_core.proofs.locate.locate_by.Goals as goal

-- the end of the search
told : {X : Type 0} (answer : X → Ordering) (ns : List (List X)) (k i : ℕ) → k ≡ node_for answer ns
    → i ≡ less_count answer (node_at ns k) → equal_at answer (node_at ns k) i ≡ true → Ok (k, i) ≡ located answer ns
told answer ns k i at offset here = rw (← at, ← offset, here) refl

untold : {X : Type 0} (answer : X → Ordering) (ns : List (List X)) (k i : ℕ) → k ≡ node_for answer ns
    → i ≡ less_count answer (node_at ns k) → equal_at answer (node_at ns k) i ≡ false → Err (k, i) ≡ located answer ns
untold answer ns k i at offset other = rw (← at, ← offset, other) refl

-- the node that the search reads
read : (g : Over) (c : After-items_of-items g) → let ns = map g.R.NodeItems.list c.args.nodes.now in
    (c.node_by-node.result < length ns) × (c.items_of-items.result.now ≡ node_at ns c.node_by-node.result)
read g c =
    let some : 1 ≤ length c.args.nodes.now = grind (arith, common_steps) in
    let r = searched (g.P.Probe.answer c.args.probe.now) g.R.NodeItems.list c.args.nodes.now c.node_by-node.result c.index-nodes-node.result some c.node_by-node.ensures.node c.index-nodes-node.is in
    (r.0, c.items_of-items.ensures ∙ r.1)

pub place_in-offset-requires : goal.place_in-offset-requires
place_in-offset-requires g c =
    let r = read g (goal.at.place_in-offset-requires g c).After-items_of-items in
    rw (c.node_by-node.ensures.fixed, r.1) (parted_node (g.P.Probe.answer c.args.probe.now) (map g.R.NodeItems.list c.args.nodes.now) c.node_by-node.result r.0 c.requires.parted)

-- the comparisons with the items there, and their number
module _ (g : Over) (c : After-place_in-offset g) where
  r : (c.node_by-node.result < length (map g.R.NodeItems.list c.args.nodes.now)) × (c.items_of-items.result.now ≡ node_at (map g.R.NodeItems.list c.args.nodes.now) c.node_by-node.result)
  r = read g c.before.before

  offset : c.place_in-offset.result.0 ≡ less_count (g.P.Probe.answer c.args.probe.now) (node_at (map g.R.NodeItems.list c.args.nodes.now) c.node_by-node.result)
  offset = rw (c.node_by-node.ensures.fixed, r.1) at c.place_in-offset.ensures.count

  equal : c.place_in-offset.result.1 ≡ equal_at (g.P.Probe.answer c.args.probe.now) (node_at (map g.R.NodeItems.list c.args.nodes.now) c.node_by-node.result) c.place_in-offset.result.0
  equal = rw (c.node_by-node.ensures.fixed, r.1) at c.place_in-offset.ensures.found

  few : (size : ℕ) → All (λ n. n ≤ size) (node_lengths (map g.R.NodeItems.list c.args.nodes.now))
      → g.P.Probe.asked c.place_in-offset.new.probe
      ≤ g.P.Probe.asked c.args.probe.now + (digits (length c.args.nodes.now) + digits size + 1)
  few size small =
      let short : length c.items_of-items.result.now ≤ size = rw r.1 (small_at (map g.R.NodeItems.list c.args.nodes.now) size c.node_by-node.result r.0 small) in
      omega (arith, c.node_by-node.ensures.comparisons, c.place_in-offset.ensures.comparisons, digits-mono _ _ short)

pub returns-then-found-clause-place : goal.returns-then-found-clause-place
returns-then-found-clause-place g c =
    let e = (goal.at.returns-then-found-clause-place g c).After-place_in-offset in
    told (g.P.Probe.answer c.args.probe.now) (map g.R.NodeItems.list c.args.nodes.now) _ _ c.node_by-node.ensures.node (offset g e) (sym (equal g e) ∙ c.if-found.true)

pub returns-else-found-clause-place : goal.returns-else-found-clause-place
returns-else-found-clause-place g c =
    let e = (goal.at.returns-else-found-clause-place g c).After-place_in-offset in
    untold (g.P.Probe.answer c.args.probe.now) (map g.R.NodeItems.list c.args.nodes.now) _ _ c.node_by-node.ensures.node (offset g e) (sym (equal g e) ∙ c.if-found.false)

pub returns-then-found-clause-comparisons : goal.returns-then-found-clause-comparisons
returns-then-found-clause-comparisons g c = few g (goal.at.returns-then-found-clause-comparisons g c).After-place_in-offset

pub returns-else-found-clause-comparisons : goal.returns-else-found-clause-comparisons
returns-else-found-clause-comparisons g c = few g (goal.at.returns-else-found-clause-comparisons g c).After-place_in-offset
