use Rattle.std.proofs.Common.{◌≡◌, Vec, Global, Bool, not, length, filter, get_or, Bor, rules, arith, ap, ◌∙◌}
use Rattle.std.proofs.lemmas.Fn.{filter_same}
use Rattle.std.proofs.lemmas.List.{get_or_default}
use Rattle.std.specs.Range.Bound.{bound_map}
use Rattle.indexset_core.specs.KeyRange.{is_within}
use Rattle.indexset_core.specs.Nodes.{concat}
use Rattle.indexset_log.specs.RangeRemoval.{outside}
use Rattle.indexset_log.proofs.RangeLemmas.{Turned, turned, all_turned, turned_take}
use Rattle.indexset_log.proofs.set.remove_range.remove_within.Given.{Over}
use Rattle.indexset_log.proofs.set.remove_range.remove_within.Goals.{After-retain}
use Rattle.indexset_log.proofs.set.remove_range.remove_within.Goals as goal

-- an iteration of the loop
turn : (g : Over) (c : After-retain g)
    → Turned (λ (v : Vec g.row.T.Denot Global). v.items) (λ x.
    not
    (is_within g.Q.LookupKey.order (bound_map (λ (v : Bor g.row.Q.Denot). v.now) c.args.range.0)
    (bound_map (λ (v : Bor g.row.Q.Denot). v.now) c.args.range.1) x))
    c.args.nodes.now c.loop-node.nodes c.loop-node.node-index c.retain.new.self
turn g c =
    let at = c.loop-node in
    let keep : g.row.T.Denot → Bool =
    λ x.
    not
    (is_within g.Q.LookupKey.order (bound_map (λ (v : Bor g.row.Q.Denot). v.now) c.args.range.0)
    (bound_map (λ (v : Bor g.row.Q.Denot). v.now) c.args.range.1) x) in
    let was = get_or at.nodes at.node-index c.node-item.result in
    let read : was ≡ get_or at.nodes at.node-index was = get_or_default at.nodes at.node-index c.node-item.result was (omega arith) in
    let made : c.retain.new.self.items ≡ filter keep was.items = filter_same _ keep _ (λ x b f2 k. search rules) _ _ c.retain.ensures.filtered in
    turned (λ v. v.items) keep c.args.nodes.now at.nodes at.node-index was c.retain.new.self c.loop-node-test.true at.auto.nodes at.invariant.nodes read made

pub overflow_add-left : goal.overflow_add-left
overflow_add-left g c =
    let t = turn g (goal.at.overflow_add-left g c).After-retain in
    record { fits = omega (arith, t.fits, c.loop-node.invariant.count, c.len-left.ensures, c.retain.new.self.ok, c.requires) }

pub loop-node-preserved : goal.loop-node-preserved
loop-node-preserved g c =
    let t = turn g (goal.at.loop-node-preserved g c).After-retain in
    record { nodes = t.nodes_are; count = omega (arith, t.count, c.loop-node.invariant.count, c.len-left.ensures, c.retain.new.self.ok) }

pub returns-clause-nodes : goal.returns-clause-nodes
returns-clause-nodes g c =
    let at = c.loop-node in
    at.invariant.nodes
    ∙ all_turned (λ v. v.items)
    (outside g.Q.LookupKey.order (bound_map (λ v. v.now) c.args.range.0) (bound_map (λ v. v.now) c.args.range.1))
    c.args.nodes.now at.node-index c.loop-node-test.false

pub returns-clause-count : goal.returns-clause-count
returns-clause-count g c =
    let at = c.loop-node in
    rw (returns-clause-nodes g c)
    (at.invariant.count
    ∙ ap (λ q. length (concat q))
    (turned_take (λ v. v.items)
    (outside g.Q.LookupKey.order (bound_map (λ v. v.now) c.args.range.0) (bound_map (λ v. v.now) c.args.range.1))
    c.args.nodes.now at.node-index c.loop-node-test.false))
