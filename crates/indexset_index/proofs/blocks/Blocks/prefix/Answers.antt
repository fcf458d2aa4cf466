use Rattle.std.proofs.Common.{◌≡◌, ◌+◌, ◌/◌, length, map, sum, ap, ◌∙◌, arith}
use Rattle.indexset_core.specs.Nodes.{node_lengths}
use Rattle.indexset_index.specs.Fenwick.{prefix_sum}
use Rattle.indexset_index.proofs.BlockLemmas.{count-blocks, prefix-blocks, sum-blocks}
use Rattle.indexset_index.proofs.LengthLemmas.{length-lengths}
use Rattle.indexset_index.proofs.PrefixLemmas.{prefix-le}
use Rattle.indexset_index.proofs.blocks.Blocks.prefix.Given.{Over}
use Rattle.indexset_index.proofs.blocks.Blocks.prefix.Goals as goal

pub prefix-requires : goal.prefix-requires
prefix-requires g c =
    let ls = node_lengths (map g.R.NodeItems.list c.args.nodes.now) in
    omega (arith, ap (λ l. length l) (ap (λ v. v.sums) c.self.view_is ∙ c.requires.sums), count-blocks ls, length-lengths g.R.NodeItems.list c.args.nodes.now, c.requires.within)

pub sum_between-requires-clause-fits : goal.sum_between-requires-clause-fits
sum_between-requires-clause-fits g c =
    let ls = node_lengths (map g.R.NodeItems.list c.args.nodes.now) in
    omega (arith, ap sum (ap (λ v. v.sums) c.self.view_is ∙ c.requires.sums), sum-blocks ls, c.recall_bounds.ensures.fits)

-- the two parts are the sum
whole : (g : Over) (c : goal.After-sum_between g) → c.prefix.result + c.sum_between.result ≡ prefix_sum (node_lengths (map g.R.NodeItems.list c.args.nodes.now)) c.args.k
whole g c =
    let ls = node_lengths (map g.R.NodeItems.list c.args.nodes.now) in
    let seen = ap (λ v. v.sums) c.self.view_is ∙ c.requires.sums in
    let b = c.args.k / 32 in
    omega (arith, c.prefix.ensures, ap (λ l. prefix_sum l b) seen, prefix-blocks ls b (omega (arith, length-lengths g.R.NodeItems.list c.args.nodes.now, c.requires.within)), c.sum_between.ensures)

pub overflow_add-result : goal.overflow_add-result
overflow_add-result g c =
    let ls = node_lengths (map g.R.NodeItems.list c.args.nodes.now) in
    record { fits = omega (arith, whole g c, prefix-le ls c.args.k, ap sum (ap (λ v. v.sums) c.self.view_is ∙ c.requires.sums), sum-blocks ls, c.recall_bounds.ensures.fits) }

pub returns : goal.returns
returns g c = whole g c
