use Rattle.std.proofs.Common.{arith, ap, length}
use Rattle.indexset_core.proofs.CallerLemmas.{offset-le}
use Rattle.indexset_spine.specs.NodeList.{position_of}
use Rattle.indexset_core.specs.Nodes.{vec_items}
use Rattle.indexset_spine.proofs.NodeListLemmas.{spine_len}
use Rattle.indexset_index.proofs.CallerLemmas.{count-lengths, prefix-concat}
use Rattle.indexset_spine.proofs.spine.Spine.position.Goals as goal

pub prefix-requires : goal.prefix-requires
prefix-requires g c =
    omega (arith, c.requires.node_in, ap (λ l. length l) c.self.invariant.index_is, count-lengths (vec_items c.self.inside.nodes.items), ap (λ t. length t.nodes) c.self.view_is)

pub overflow_add-result : goal.overflow_add-result
overflow_add-result g c =
    let s = c.args.self.now in
    let k = c.args.spot.now.node in
    let e = rw c.self.invariant.index_is at c.prefix.ensures in
    record {
      fits = omega (
        arith,
        e,
        c.recall_lengths.ensures.fits,
        prefix-concat (vec_items c.self.inside.nodes.items) k,
        spine_len _ _ _ s c.self.view_is c.self.invariant.is_spine,
        offset-le s.nodes k c.args.spot.now.offset c.requires.node_in c.requires.offset_in,
        ap (λ t. position_of t.nodes c.args.spot.now) c.self.view_is,
      );
    }

pub returns : goal.returns
returns g c =
    let e = rw c.self.invariant.index_is at c.prefix.ensures in
    omega (arith, e, prefix-concat (vec_items c.self.inside.nodes.items) c.args.spot.now.node, ap (λ t. position_of t.nodes c.args.spot.now) c.self.view_is)
