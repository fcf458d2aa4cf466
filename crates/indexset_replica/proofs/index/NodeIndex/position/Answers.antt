use Rattle.std.proofs.Common.{ap, sum, arith, ◌∙◌}
use Rattle.std.proofs.lemmas.List.{length-map}
use Rattle.indexset_core.specs.Nodes.{node_lengths, vec_items}
use Rattle.indexset_index.proofs.CallerLemmas.{count-lengths, node-le, place-fits, prefix-concat, sum-blocks}
use Rattle.indexset_replica.proofs.index.NodeIndex.position.Goals as goal

pub prefix-requires-clause-sums : goal.prefix-requires-clause-sums
prefix-requires-clause-sums g c = ap (λ t. t.sums) c.self.view_is ∙ c.requires.sums

pub prefix-requires-clause-within : goal.prefix-requires-clause-within
prefix-requires-clause-within g c =
    let ns = vec_items c.args.nodes.now in
    omega (arith, node-le ns c.args.place c.requires.place, count-lengths ns, length-map c.args.nodes.now (λ v. v.items))

pub overflow_add-result : goal.overflow_add-result
overflow_add-result g c =
    let ns = vec_items c.args.nodes.now in
    let same = ap (λ t. t.sums) c.self.view_is ∙ c.requires.sums in
    record { fits = omega (arith, c.prefix.ensures, prefix-concat ns c.args.place.0, c.len-count.ensures.fits, ap sum same, sum-blocks (node_lengths ns), place-fits ns c.args.place c.requires.place) }

pub returns : goal.returns
returns g c =
    let ns = vec_items c.args.nodes.now in
    omega (arith, c.prefix.ensures, prefix-concat ns c.args.place.0)
