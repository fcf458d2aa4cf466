use Rattle.std.proofs.Common.{◌≡◌, ◌≤◌, length, map, sum, take, insert, refl, ap, ◌∙◌, arith}
use Rattle.std.proofs.lemmas.List.{length-take-le, take-take}
use Rattle.std.proofs.lemmas.List.Edits.{length-insert}
use Rattle.std.proofs.lemmas.List.Sums.{sum_by-insert}
use Rattle.indexset_core.specs.Nodes.{node_lengths}
use Rattle.indexset_index.specs.Blocks.{block_count, block_sums}
use Rattle.indexset_index.proofs.BlockLemmas.{count-blocks, div_ceil-is, prefix-blocks, sum-blocks}
use Rattle.indexset_index.proofs.LengthLemmas.{length-lengths}
use Rattle.indexset_index.proofs.blocks.Blocks.remove.Given.{Over}
use Rattle.indexset_index.proofs.blocks.Blocks.remove.Goals as goal

-- the sums of the remaining blocks are those from before
kept : (g : Over) (c : goal.After-shift_down-arg-1 g)
    → c.truncate.new.self.lengths
    ≡ take (block_count (length c.args.nodes.now))
    (block_sums (insert (node_lengths (map g.R.NodeItems.list c.args.nodes.now)) c.args.k c.args.n))
kept g c =
    let seen = ap (λ v. v.sums) c.self.view_is ∙ c.requires.before in
    rw (c.truncate.ensures.lengths, seen, c.div_ceil.ensures, div_ceil-is (length c.args.nodes.now)) refl

pub shift_down-requires-clause-count : goal.shift_down-requires-clause-count
shift_down-requires-clause-count g c =
    let ls = node_lengths (map g.R.NodeItems.list c.args.nodes.now) in
    let count = length-lengths g.R.NodeItems.list c.args.nodes.now in
    let all = insert ls c.args.k c.args.n in
    let more = length-insert ls c.args.k c.args.n (omega (arith, count, c.requires.inside)) in
    ap (λ l. length l) (kept g c) ∙ length-take-le (block_count (length c.args.nodes.now)) (block_sums all) (omega (arith, count-blocks all, more, count))

pub shift_down-requires-clause-before : goal.shift_down-requires-clause-before
shift_down-requires-clause-before g c =
    let ls = node_lengths (map g.R.NodeItems.list c.args.nodes.now) in
    let count = length-lengths g.R.NodeItems.list c.args.nodes.now in
    let all = insert ls c.args.k c.args.n in
    let more = length-insert ls c.args.k c.args.n (omega (arith, count, c.requires.inside)) in
    let blocks = block_count (length c.args.nodes.now) in
    rw (kept g c) (λ i h.
    let below : i ≤ blocks = omega (arith, h, length-take-le blocks (block_sums all) (omega (arith, count-blocks all, more, count))) in
    ap sum (take-take i blocks (block_sums all) below) ∙ prefix-blocks all i (omega (arith, below, more, count)))

pub shift_down-requires-clause-fits : goal.shift_down-requires-clause-fits
shift_down-requires-clause-fits g c =
    let ls = node_lengths (map g.R.NodeItems.list c.args.nodes.now) in
    omega (arith, ap sum (ap (λ v. v.sums) c.self.view_is ∙ c.requires.before), sum-blocks (insert ls c.args.k c.args.n), sum_by-insert (λ x. x) ls c.args.k c.args.n, c.recall_bounds.ensures.fits)
