use Rattle.std.proofs.Common.{◌≡◌, length, map, sum, take, ap, arith}
use Rattle.std.proofs.lemmas.List.Sums.{sum_by_more_le}
use Rattle.indexset_core.specs.Nodes.{node_lengths}
use Rattle.indexset_index.proofs.LengthLemmas.{length-lengths, four_fit}
use Rattle.indexset_index.proofs.fenwick.Fenwick.push_next.Goals as goal

pub push_four-requires-clause-fits : goal.push_four-requires-clause-fits
push_four-requires-clause-fits g c =
    let xs = node_lengths (map g.R.NodeItems.list c.args.nodes.now) in
    let count = length-lengths g.R.NodeItems.list c.args.nodes.now in
    let n : c.len-i.result ≡ length c.args.self.now.lengths = omega (arith, ap (λ l. length l.lengths) c.self.view_is) in
    let fit = four_fit xs c.len-i.result (omega arith) in
    omega (arith, fit, ap sum c.requires.same, ap (λ i. sum (take i xs)) n)

pub push-requires-clause-fits : goal.push-requires-clause-fits
push-requires-clause-fits g c =
    let xs = node_lengths (map g.R.NodeItems.list c.args.nodes.now) in
    let count = length-lengths g.R.NodeItems.list c.args.nodes.now in
    let n : c.len-i.result ≡ length c.args.self.now.lengths = omega (arith, ap (λ l. length l.lengths) c.self.view_is) in
    let fit = sum_by_more_le (λ x. x) xs c.len-i.result 0 (omega arith) in
    omega (arith, fit, ap sum c.requires.same, ap (λ i. sum (take i xs)) n)
