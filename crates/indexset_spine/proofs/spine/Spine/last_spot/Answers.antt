use Rattle.std.proofs.Common.{◌≡◌, ◌+◌, ◌-◌, ◌<◌, [], refl, arith, ap, length}
use Rattle.indexset_core.specs.Nodes.{concat, vec_items}
use Rattle.indexset_core.proofs.CallerLemmas.{length-concat}
use Rattle.indexset_spine.proofs.NodeListLemmas.{spine_len}
use Rattle.indexset_spine.proofs.PartLemmas.{last_filled, last_spot_in}
use Rattle.indexset_spine.proofs.VecNodes.{length-vec_items, node_read}
use Rattle.indexset_index.proofs.CallerLemmas.{count-lengths}
use Rattle.indexset_spine.proofs.spine.Spine.last_spot.Goals as goal

pub returns-then-self-eq0 : goal.returns-then-self-eq0
returns-then-self-eq0 g c = omega (arith, spine_len _ _ _ c.args.self.now c.self.view_is c.self.invariant.is_spine)

pub overflow_sub-result : goal.overflow_sub-result
overflow_sub-result g c =
    let vs = c.self.inside.nodes.items in
    let is = c.self.invariant.is_spine in
    let k = c.len-node.result - 1 in
    let last : k + 1 ≡ length vs = omega (arith, c.len-node.ensures, is.is_cut.some, count-lengths (vec_items vs), length-vec_items vs) in
    let some : 0 < length (concat (vec_items vs)) = omega (arith, is.total_is, length-concat (vec_items vs)) in
    let node = node_read vs k c.index.result.now (omega arith) c.index.ensures [] in
    omega (arith, last_filled (vec_items vs) _ k is.is_cut some (omega (arith, length-vec_items vs)), ap (λ l. length l) node, c.len.ensures, c.index.result.now.ok)

pub returns : goal.returns
returns g c =
    let vs = c.self.inside.nodes.items in
    let is = c.self.invariant.is_spine in
    let k = c.len-node.result - 1 in
    let last : k + 1 ≡ length vs = omega (arith, c.len-node.ensures, is.is_cut.some, count-lengths (vec_items vs), length-vec_items vs) in
    let some : 0 < length (concat (vec_items vs)) = omega (arith, is.total_is, length-concat (vec_items vs)) in
    let node = node_read vs k c.index.result.now (omega arith) c.index.ensures [] in
    let at =
    last_spot_in (vec_items vs) _ (record { node = k; offset = c.len.result - 1; found = _ }) is.is_cut some
    (omega (arith, length-vec_items vs))
    (omega (arith, ap (λ l. length l) node, c.len.ensures, c.index.result.now.ok)) in
    rw (← c.self.view_is) (at.0, at.1, refl)
