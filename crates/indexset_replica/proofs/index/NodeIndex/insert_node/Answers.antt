use Rattle.std.proofs.Common.{◌<◌, [], length, sum, ap, remove, ◌∙◌, arith}
use Rattle.std.proofs.lemmas.List.{length-map}
use Rattle.std.proofs.lemmas.List.Sums.{sum_by-remove}
use Rattle.indexset_core.specs.Nodes.{node_lengths, vec_items}
use Rattle.indexset_core.proofs.CallerLemmas.{node_read}
use Rattle.indexset_index.proofs.CallerLemmas.{count-lengths, length-at, sum-blocks}
use Rattle.indexset_replica.proofs.index.NodeIndex.insert_node.Goals as goal

pub overflow_add-self : goal.overflow_add-self
overflow_add-self g c =
    let vs = c.args.nodes.now in
    let ns = vec_items vs in
    let ls = node_lengths ns in
    let k = c.args.place in
    let v = c.index-nodes-place.result in
    let here = node_read (λ v. v.items) vs k v c.requires.inside c.index-nodes-place.is [] in
    let before = ap (λ t. t.sums) c.self.view_is ∙ c.requires.before in
    let inside : k < length ns = omega (arith, c.requires.inside, length-map vs (λ v. v.items)) in
    record {
      fits = omega (
        arith,
        c.self.invariant,
        ap sum before,
        sum-blocks (remove ls k),
        sum_by-remove (λ x. x) ls k 0 (omega (arith, inside, count-lengths ns)),
        length-at ns k inside,
        ap (λ l. length l) here,
        v.ok.0,
        c.len.ensures,
        c.requires.fits,
      );
    }

pub invariant_of-self : goal.invariant_of-self
invariant_of-self g c =
    let vs = c.args.nodes.now in
    let ns = vec_items vs in
    let ls = node_lengths ns in
    let k = c.args.place in
    let v = c.index-nodes-place.result in
    let here = node_read (λ v. v.items) vs k v c.requires.inside c.index-nodes-place.is [] in
    let before = ap (λ t. t.sums) c.self.view_is ∙ c.requires.before in
    let inside : k < length ns = omega (arith, c.requires.inside, length-map vs (λ v. v.items)) in
    omega (
      arith,
      c.self.invariant,
      ap sum before,
      sum-blocks (remove ls k),
      sum_by-remove (λ x. x) ls k 0 (omega (arith, inside, count-lengths ns)),
      length-at ns k inside,
      ap (λ l. length l) here,
      v.ok.0,
      c.len.ensures,
      ap sum c.insert.ensures.sums,
      sum-blocks ls,
    )
