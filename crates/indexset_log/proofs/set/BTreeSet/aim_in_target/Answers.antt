use Rattle.std.proofs.Common.{◌≡◌, ◌≤◌, ◌<◌, ◌-◌, ◌/◌, ◌&&◌, suc, true, false, Bool, length, take, eqb, nat_eq, get_or, arith, ap, subst, refl, ◌∙◌, IfOk, IfErr}
use Rattle.std.proofs.lemmas.Bool.{eq-eqb, ne_eqb}
use Rattle.std.specs.Ordering.{is_gt}
use Rattle.indexset_core.specs.Nodes.{node_at, node_for}
use Rattle.indexset_core.specs.Order.{IsFoundAt, IsGapFor}
use Rattle.indexset_events.specs.Nodes.{last_of}
use Rattle.indexset_events.specs.Table.{part_for, is_after_last}
use Rattle.indexset_events.proofs.CallerLemmas.{ascends, half_and, half_up, last_of_take, lawful_filled, lawful_parted, lawful_ruled, up_node}
use Rattle.indexset_log.proofs.set.BTreeSet.aim_in_target.Goals as goal
use Rattle.indexset_log.proofs.TreeViewLemmas.{held, node_held}
use Rattle.indexset_log.proofs.set.BTreeSet.aim_in_target.Given.{Over}
use Rattle.indexset_log.proofs.set.BTreeSet.aim_in_target.Goals.{After-as_slice-items, then-full, else-full}

pub node_by-node-requires-clause-filled : goal.node_by-node-requires-clause-filled
node_by-node-requires-clause-filled g c = rw c.as_slice.ensures.value (λ _. lawful_filled g.T.Ord.cmp c.self.inside.size _ c.self.invariant.tree.lawful)

pub node_by-node-requires-clause-parted : goal.node_by-node-requires-clause-parted
node_by-node-requires-clause-parted g c = rw (c.new.ensures, c.as_slice.ensures.value) (lawful_parted g.T.Ord.cmp c.self.inside.size _ c.self.invariant.tree.lawful g.met.T.Ord.total c.args.value.now)

-- the target, as the code reads it
read : (g : Over) (c : After-as_slice-items g)
    → (c.node_by-node.result ≡ node_for (λ x. g.T.Ord.cmp x c.args.value.now) c.args.self.now.nodes)
    × (c.node_by-node.result < length c.args.self.now.nodes)
    × (c.as_slice-items.result.now ≡ node_at c.args.self.now.nodes c.node_by-node.result)
read g c =
    let t = held g.Node.NodeLike.list c.self.inside.nodes.items c.self.view_is c.self.invariant in
    let at : c.node_by-node.result ≡ node_for (λ x. g.T.Ord.cmp x c.args.value.now) c.args.self.now.nodes = rw (c.new.ensures, c.as_slice.ensures.value, t.same) at c.node_by-node.ensures.node in
    let inside : c.node_by-node.result < length c.args.self.now.nodes = omega (arith, at, c.requires) in
    (at, inside, c.as_slice-items.ensures.value ∙ (c.iter.ensures ∙ node_held t c.node_by-node.result inside c.index.ensures))

pub find_in-requires : goal.find_in-requires
find_in-requires g c =
    let t = held g.Node.NodeLike.list c.self.inside.nodes.items c.self.view_is c.self.invariant in
    let cmp = g.T.Ord.cmp in
    let r = read g (goal.at.find_in-requires g c).After-as_slice-items in
    rw (c.part_of.ensures, r.2) (ascends cmp _ (half_up cmp _ c.if-full.right _ (up_node cmp c.args.self.now.nodes c.node_by-node.result (lawful_ruled cmp _ c.args.self.now.nodes t.rule.lawful))))

pub returns : goal.returns
returns g c =
    let cmp = g.T.Ord.cmp in
    let t = held g.Node.NodeLike.list c.self.inside.nodes.items c.self.view_is c.self.invariant in
    let v = c.args.value.now in
    let size = t.sized in
    let r = read g (goal.at.returns g c).After-as_slice-items in
    let n = node_at c.args.self.now.nodes c.node_by-node.result in
    let held = r.2 in
    let past : Bool = is_after_last cmp (take (length n / 2) n) v in
    let full : nat_eq (length c.as_slice-items.result.now) c.self.inside.size ≡ eqb (length n) c.args.self.now.size = rw (held, size) refl in
    let right : c.if-full.right ≡ (eqb (length n) c.args.self.now.size && past) =
    elim c.if-full.branch [
      | then-full w ↦
          let full : eqb (length n) c.args.self.now.size ≡ true = eq-eqb _ _ (rw (held, size) at w.if-full.true) in
          let x = w.index-items-items.result in
          let two : 2 ≤ length n = omega (arith, rw (held, size) at w.if-full.true, size, c.self.invariant.tree.two) in
          let some : 1 ≤ length n / 2 = omega arith in
          let read : x ≡ get_or n (length n / 2 - 1) x = rw held at w.index-items-items.is in
          let last : last_of (take (length n / 2) n) v ≡ x =
          subst (λ j. last_of (take j n) v ≡ x) {x = suc (length n / 2 - 1)} {y = length n / 2} (omega arith)
          (last_of_take n (length n / 2 - 1) x v (omega arith) read) in
          rw (full, last) (w.right-is ∙ (w.is_gt-right.ensures ∙ ap is_gt w.cmp.ensures))
      | else-full w ↦
          let not_full : eqb (length n) c.args.self.now.size ≡ false = ne_eqb _ _ (rw (held, size) at w.if-full.false) in
          rw not_full (w.right-is ∙ (full ∙ not_full))
    ] in
    let half : c.part_of.result.now ≡ part_for cmp c.args.self.now.size n v = c.part_of.ensures ∙ rw (held, size, right) (half_and (eqb (length n) c.args.self.now.size) past n) in
    record {
      node_in = r.1;
      node_is = r.0;
      full_is = full;
      right_is = right;
      found = subst (λ q. IfOk c.find_in.result (IsFoundAt cmp q v)) half c.find_in.ensures.found;
      gap = subst (λ q. IfErr c.find_in.result (IsGapFor cmp q v)) half c.find_in.ensures.absent;
    }
