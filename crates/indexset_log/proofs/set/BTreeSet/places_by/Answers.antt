use Rattle.std.proofs.Common.{◌≡◌, ℕ, ◌+◌, ◌<◌, ◌≤◌, List, [], ◌∷◌, length, vec_len, Ordering, refl, eqb-true, ap, sym, ◌∙◌, arith}
use Rattle.std.proofs.lemmas.Grind.{common_steps}
use Rattle.std.proofs.lemmas.List.Sums.{count_by-le-length}
use Rattle.std.specs.Ordering.{is_lt}
use Rattle.indexset_core.specs.Digits.{digits}
use Rattle.indexset_core.specs.Nodes.{equal_at, concat, node_at, node_for}
use Rattle.indexset_core.specs.Parted.{less_count, not_greater_count}
use Rattle.indexset_core.specs.Places.{IsPlace, items_before}
use Rattle.indexset_log.proofs.GallopLemmas.{equal_goes_on, none_equal}
use Rattle.indexset_log.proofs.TreeViewLemmas.{held, node_held}
use Rattle.indexset_events.proofs.CallerLemmas.{lawful_filled, lawful_small}
use Rattle.indexset_log.proofs.set.BTreeSet.places_by.Given.{Over}
use Rattle.indexset_log.proofs.set.BTreeSet.places_by.Goals.{After-as_slice-2, After-first_not_less_near-offset, Then-is_empty}
use Rattle.indexset_log.proofs.set.BTreeSet.places_by.Goals as goal
use Rattle.indexset_core.proofs.CallerLemmas.{digits-mono, equal_inside, parted_node, place_for, equal_joined}
use Rattle.indexset_events.proofs.NodeViewLemmas.{lawful_filled, lawful_small}

-- the node that the search reads
record Read {T : Type 0} (answer : T → Ordering) (ns : List (List T)) (k : ℕ) (items : List T) : Type 0 where
  pub some : 1 ≤ length ns
  pub named : k ≡ node_for answer ns
  pub inside : k < length ns
  pub is : items ≡ node_at ns k

read : (g : Over) (c : After-as_slice-2 g) → Read (g.P.Probe.answer c.args.probe.now) c.args.self.now.nodes c.node_by-node.result c.as_slice-2.result.now
read g c =
    let t = held g.Node.NodeLike.list c.self.inside.nodes.items c.self.view_is c.self.invariant in
    let at : c.node_by-node.result ≡ node_for (g.P.Probe.answer c.args.probe.now) c.args.self.now.nodes = rw (c.as_slice.ensures.value, t.same) at c.node_by-node.ensures.node in
    let some : 1 ≤ length c.self.inside.nodes.items = grind (arith, common_steps) in
    let inside : c.node_by-node.result < length c.args.self.now.nodes = omega (arith, at, some, t.many) in
    record {
      some = omega (arith, some, t.many);
      named = at;
      inside = inside;
      is = c.as_slice-2.ensures.value ∙ (c.iter.ensures ∙ node_held t c.node_by-node.result inside c.index.ensures);
    }

-- what it found there
record Found (g : Over) (c : After-first_not_less_near-offset g) : Type 0 where
  pub offset : c.first_not_less_near-offset.result.0 ≡ less_count (g.P.Probe.answer c.args.probe.now) (node_at c.args.self.now.nodes c.node_by-node.result)
  pub here : equal_at (g.P.Probe.answer c.args.probe.now) (node_at c.args.self.now.nodes c.node_by-node.result) c.first_not_less_near-offset.result.0 ≡ c.first_not_less_near-offset.result.1
  pub before : items_before c.args.self.now.nodes (c.node_by-node.result, c.first_not_less_near-offset.result.0) ≡ less_count (g.P.Probe.answer c.args.probe.now) (concat c.args.self.now.nodes)
  pub told : equal_at (g.P.Probe.answer c.args.probe.now) (concat c.args.self.now.nodes)
      (less_count (g.P.Probe.answer c.args.probe.now) (concat c.args.self.now.nodes))
      ≡ c.first_not_less_near-offset.result.1
  pub fixed : g.P.Probe.answer c.first_not_less_near-offset.new.probe ≡ g.P.Probe.answer c.args.probe.now
  pub comparisons : g.P.Probe.asked c.first_not_less_near-offset.new.probe ≤ g.P.Probe.asked c.args.probe.now + (digits (length c.args.self.now.nodes) + digits c.args.self.now.size)

found : (g : Over) (c : After-first_not_less_near-offset g) → Read (g.P.Probe.answer c.args.probe.now) c.args.self.now.nodes c.node_by-node.result c.as_slice-2.result.now → Found g c
found g c r =
    let t = held g.Node.NodeLike.list c.self.inside.nodes.items c.self.view_is c.self.invariant in
    let answer = g.P.Probe.answer c.args.probe.now in
    let ns = c.args.self.now.nodes in
    let filled = lawful_filled g.T.Ord.cmp c.args.self.now.size ns t.rule.lawful in
    let near = c.first_not_less_near-offset.ensures in
    let offset = rw (c.node_by-node.ensures.fixed, r.is) at near.count in
    let here = sym (rw (c.node_by-node.ensures.fixed, r.is) at near.found) in
    let small : length (node_at ns c.node_by-node.result) ≤ c.args.self.now.size = lawful_small g.T.Ord.cmp c.args.self.now.size ns t.rule.lawful c.node_by-node.result r.inside in
    record {
      offset = offset;
      here = here;
      before = rw (offset, r.named) (place_for answer ns r.some (λ _. filled) c.requires);
      told = equal_joined answer ns r.some filled c.requires ∙ rw (offset, r.named) at here;
      fixed = near.fixed ∙ c.node_by-node.ensures.fixed;
      comparisons = omega (
        arith,
        c.node_by-node.ensures.comparisons,
        near.comparisons,
        ap (λ l. digits (length l)) r.is,
        digits-mono _ _ small,
        ap (λ l. digits (length l)) c.as_slice.ensures.value,
        ap digits t.many,
      );
    }

pub node_by-node-requires-clause-filled : goal.node_by-node-requires-clause-filled
node_by-node-requires-clause-filled g c = rw c.as_slice.ensures.value (λ _. lawful_filled g.T.Ord.cmp c.self.inside.size _ c.self.invariant.tree.lawful)

pub node_by-node-requires-clause-parted : goal.node_by-node-requires-clause-parted
node_by-node-requires-clause-parted g c =
    let t = held g.Node.NodeLike.list c.self.inside.nodes.items c.self.view_is c.self.invariant in
    rw (c.as_slice.ensures.value, t.same) c.requires

pub first_not_less_near-offset-requires : goal.first_not_less_near-offset-requires
first_not_less_near-offset-requires g c =
    let r = read g (goal.at.first_not_less_near-offset-requires g c).After-as_slice-2 in
    rw (c.node_by-node.ensures.fixed, r.is) (parted_node (g.P.Probe.answer c.args.probe.now) c.args.self.now.nodes c.node_by-node.result r.inside c.requires)

pub end_from-requires-clause-offset : goal.end_from-requires-clause-offset
end_from-requires-clause-offset g c =
    let at = goal.at.end_from-requires-clause-offset g c in
    let f = found g at.After-first_not_less_near-offset (read g at.After-as_slice-2) in
    equal_inside (g.P.Probe.answer c.args.probe.now) (node_at c.args.self.now.nodes c.node_by-node.result) c.first_not_less_near-offset.result.0 (f.here ∙ c.if-found.true)

pub end_from-requires-clause-started : goal.end_from-requires-clause-started
end_from-requires-clause-started g c =
    let at = goal.at.end_from-requires-clause-started g c in
    let f = found g at.After-first_not_less_near-offset (read g at.After-as_slice-2) in
    rw f.fixed (omega (arith, f.before, equal_goes_on (g.P.Probe.answer c.args.probe.now) (concat c.args.self.now.nodes) c.requires (f.told ∙ c.if-found.true)))

pub returns-then-found-clause-before : goal.returns-then-found-clause-before
returns-then-found-clause-before g c =
    let at = goal.at.returns-then-found-clause-before g c in
    let f = found g at.After-first_not_less_near-offset (read g at.After-as_slice-2) in
    f.before

pub returns-then-found-clause-comparisons : goal.returns-then-found-clause-comparisons
returns-then-found-clause-comparisons g c =
    let at = goal.at.returns-then-found-clause-comparisons g c in
    let f = found g at.After-first_not_less_near-offset (read g at.After-as_slice-2) in
    omega (arith, f.comparisons, c.end_from.ensures.comparisons)

pub returns-else-found-clause-before : goal.returns-else-found-clause-before
returns-else-found-clause-before g c =
    let at = goal.at.returns-else-found-clause-before g c in
    let f = found g at.After-first_not_less_near-offset (read g at.After-as_slice-2) in
    f.before

pub returns-else-found-clause-past : goal.returns-else-found-clause-past
returns-else-found-clause-past g c =
    let at = goal.at.returns-else-found-clause-past g c in
    let f = found g at.After-first_not_less_near-offset (read g at.After-as_slice-2) in
    f.before ∙ none_equal (g.P.Probe.answer c.args.probe.now) (concat c.args.self.now.nodes) c.requires (f.told ∙ c.if-found.false)

pub returns-else-found-clause-comparisons : goal.returns-else-found-clause-comparisons
returns-else-found-clause-comparisons g c =
    let at = goal.at.returns-else-found-clause-comparisons g c in
    let f = found g at.After-first_not_less_near-offset (read g at.After-as_slice-2) in
    omega (arith, f.comparisons)

pub end_from-requires-clause-parted : goal.end_from-requires-clause-parted
end_from-requires-clause-parted g c = rw (c.first_not_less_near-offset.ensures.fixed, c.node_by-node.ensures.fixed) c.requires

pub end_from-requires-clause-node : goal.end_from-requires-clause-node
end_from-requires-clause-node g c = (read g (goal.at.end_from-requires-clause-node g c).After-as_slice-2).inside

pub returns-then-found-clause-to : goal.returns-then-found-clause-to
returns-then-found-clause-to g c = c.end_from.ensures.place

pub returns-then-found-clause-past : goal.returns-then-found-clause-past
returns-then-found-clause-past g c =
    c.end_from.ensures.before ∙ ap (λ answer. not_greater_count answer (concat c.args.self.now.nodes)) (c.first_not_less_near-offset.ensures.fixed ∙ c.node_by-node.ensures.fixed)

pub returns-then-found-clause-fixed : goal.returns-then-found-clause-fixed
returns-then-found-clause-fixed g c =
    c.end_from.ensures.fixed ∙ (c.first_not_less_near-offset.ensures.fixed ∙ c.node_by-node.ensures.fixed)

pub returns-else-found-clause-fixed : goal.returns-else-found-clause-fixed
returns-else-found-clause-fixed g c = c.first_not_less_near-offset.ensures.fixed ∙ c.node_by-node.ensures.fixed

no_nodes : {T : Type 0} (ns : List (List T)) → length ns ≡ 0 → ns ≡ []
no_nodes [] none = refl
no_nodes (n ∷ ns) none = absurd (omega arith)

empty : (g : Over) (c : Then-is_empty g) → c.args.self.now.nodes ≡ []
empty g c =
    let t = held g.Node.NodeLike.list c.self.inside.nodes.items c.self.view_is c.self.invariant in
    let none : vec_len c.self.inside.nodes ≡ 0 = eqb-true _ _ (sym c.is_empty.ensures ∙ c.if-is_empty.true) in
    no_nodes c.args.self.now.nodes (omega (arith, t.many, none, c.self.inside.nodes.ok.0))

pub returns-then-is_empty : goal.returns-then-is_empty
returns-then-is_empty g c =
    let none = empty g c in
    record {
      from = record { node_in = omega arith; offset_in = omega arith };
      to = record { node_in = omega arith; offset_in = omega arith };
      before = rw none refl;
      past = rw none refl;
      fixed = refl;
      comparisons = omega arith;
    }

-- the place before the items that are found
here : (g : Over) (c : After-first_not_less_near-offset g)
    → Read (g.P.Probe.answer c.args.probe.now) c.args.self.now.nodes c.node_by-node.result c.as_slice-2.result.now
    → Found g c → IsPlace c.args.self.now.nodes (c.node_by-node.result, c.first_not_less_near-offset.result.0)
here g c r f = record {
  node_in = omega (arith, r.inside);
  offset_in = omega (arith, f.offset, count_by-le-length (λ x. is_lt (g.P.Probe.answer c.args.probe.now x)) (node_at c.args.self.now.nodes c.node_by-node.result));
}

pub returns-then-found-clause-from : goal.returns-then-found-clause-from
returns-then-found-clause-from g c =
    let at = goal.at.returns-then-found-clause-from g c in
    let r = read g at.After-as_slice-2 in
    here g at.After-first_not_less_near-offset r (found g at.After-first_not_less_near-offset r)

pub returns-else-found-clause-from : goal.returns-else-found-clause-from
returns-else-found-clause-from g c =
    let at = goal.at.returns-else-found-clause-from g c in
    let r = read g at.After-as_slice-2 in
    here g at.After-first_not_less_near-offset r (found g at.After-first_not_less_near-offset r)

pub returns-else-found-clause-to : goal.returns-else-found-clause-to
returns-else-found-clause-to g c =
    let at = goal.at.returns-else-found-clause-to g c in
    let r = read g at.After-as_slice-2 in
    here g at.After-first_not_less_near-offset r (found g at.After-first_not_less_near-offset r)
