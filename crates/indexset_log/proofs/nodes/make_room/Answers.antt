use Rattle.std.proofs.Common.{◌≡◌, map, set, refl, ap, ◌∙◌}
use Rattle.std.proofs.Math.Seq.{map-set_same}
use Rattle.indexset_core.proofs.CallerLemmas.{on_err}
use Rattle.indexset_log.proofs.nodes.make_room.Given.{Over}
use Rattle.indexset_log.proofs.nodes.make_room.Goals.{After-from_residual-in_err-reserve_one, then-is_err+in_ok-reserve_one, else-is_err}
use Rattle.indexset_log.proofs.nodes.make_room.Goals as goal

-- a node whose reservation failed is unchanged
kept : (g : Over) (c : After-from_residual-in_err-reserve_one g)
    → map g.Node.NodeLike.list (set c.args.nodes.now.items c.args.aim.now.node c.reserve_one.new.self)
    ≡ map g.Node.NodeLike.list c.args.nodes.now.items
kept g c =
    let list = g.Node.NodeLike.list in
    map-set_same list c.args.nodes.now.items c.args.aim.now.node c.reserve_one.new.self c.index_mut-node.result.now (c.in_err-reserve_one.ensures.list ∙ ap list c.index_mut-node.ensures.value)

pub returns-in_err-reserve_one-clause-unchanged : goal.returns-in_err-reserve_one-clause-unchanged
returns-in_err-reserve_one-clause-unchanged g c = on_err _ (kept g c)

pub returns-in_err-reserve_one-clause-index : goal.returns-in_err-reserve_one-clause-index
returns-in_err-reserve_one-clause-index g c = rw (kept g c) c.requires.index

pub returns-clause-nodes : goal.returns-clause-nodes
returns-clause-nodes g c =
    let list = g.Node.NodeLike.list in
    let old = c.args.nodes.now.items in
    elim c.if-is_err.branch [
      | then-is_err+in_ok-reserve_one w ↦
          rw (c.if-aim.false, w.nodes-is)
          (map-set_same list old c.args.aim.now.node w.reserve_one.new.self w.index_mut-node.result.now
          (w.in_ok-reserve_one.ensures.list ∙ ap list w.index_mut-node.ensures.value))
      | else-is_err w ↦ rw (c.if-aim.false, w.nodes-is) refl
    ]

pub returns-clause-index : goal.returns-clause-index
returns-clause-index g c =
    let list = g.Node.NodeLike.list in
    let old = c.args.nodes.now.items in
    elim c.if-is_err.branch [
      | then-is_err+in_ok-reserve_one w ↦
          rw (
            w.nodes-is,
            map-set_same list old c.args.aim.now.node w.reserve_one.new.self w.index_mut-node.result.now (w.in_ok-reserve_one.ensures.list ∙ ap list w.index_mut-node.ensures.value),
          )
          c.requires.index
      | else-is_err w ↦ rw w.nodes-is c.requires.index
    ]
