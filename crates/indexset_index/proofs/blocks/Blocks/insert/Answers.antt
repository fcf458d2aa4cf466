use Rattle.std.proofs.Common.{◌≡◌, ◌*◌, ◌≤◌, ℕ, [], ◌∷◌, ◌++◌, length, map, sum, remove, ap, ◌∙◌, length-append, arith}
use Rattle.std.proofs.lemmas.List.Edits.{length-remove}
use Rattle.std.proofs.lemmas.List.Sums.{sum_by-remove}
use Rattle.indexset_core.specs.Nodes.{node_lengths}
use Rattle.indexset_index.specs.Blocks.{block_count, block_sums}
use Rattle.indexset_index.specs.Fenwick.{prefix_sum}
use Rattle.indexset_index.proofs.BlockLemmas.{blocks-grown, count-blocks, prefix-blocks, sum-blocks}
use Rattle.indexset_index.proofs.LengthLemmas.{length-lengths}
use Rattle.indexset_index.proofs.blocks.Blocks.insert.Given.{Over}
use Rattle.indexset_index.proofs.blocks.Blocks.insert.Goals.{then-nodes-eq1, else-nodes-eq1}
use Rattle.indexset_index.proofs.blocks.Blocks.insert.Goals as goal

pub push-requires-clause-fits : goal.push-requires-clause-fits
push-requires-clause-fits g c =
    let ls = node_lengths (map g.R.NodeItems.list c.args.nodes.now) in
    let count = length-lengths g.R.NodeItems.list c.args.nodes.now in
    let seen = ap (λ v. v.sums) c.self.view_is ∙ c.requires.before in
    omega (arith, c.requires.fits, ap sum seen, sum-blocks (remove ls c.args.k), sum_by-remove (λ x. x) ls c.args.k 0 (omega (arith, count, c.requires.inside)))

-- the sums are of as many blocks as the nodes make, and still of the lengths before
grown : (g : Over) (c : goal.After-shift_up-arg-1 g)
    → (length c.if-nodes-eq1.self-inside.sums.lengths ≡ block_count (length c.args.nodes.now))
    × ((i : ℕ) → i ≤ length c.if-nodes-eq1.self-inside.sums.lengths
    → prefix_sum c.if-nodes-eq1.self-inside.sums.lengths i
    ≡ prefix_sum (remove (node_lengths (map g.R.NodeItems.list c.args.nodes.now)) c.args.k) (32 * i))
grown g c =
    let ls = node_lengths (map g.R.NodeItems.list c.args.nodes.now) in
    let count = length-lengths g.R.NodeItems.list c.args.nodes.now in
    let rest = remove ls c.args.k in
    let fewer = length-remove ls c.args.k (omega (arith, count, c.requires.inside)) in
    let blocks = count-blocks rest in
    let seen = ap (λ v. v.sums) c.self.view_is ∙ c.requires.before in
    elim c.if-nodes-eq1.branch [
      | then-nodes-eq1 w ↦
          let made : c.if-nodes-eq1.self-inside.sums.lengths ≡ block_sums rest ++ 0 ∷ [] = ap (λ s. s.sums.lengths) w.self-inside-is ∙ (w.push.ensures.lengths ∙ ap (λ s. s ++ 0 ∷ []) seen) in
          let one = length-append (block_sums rest) (0 ∷ []) in
          rw made (omega (arith, fewer, count, blocks, one, w.if-nodes-eq1.true), λ i h. blocks-grown rest i (omega (arith, blocks, one)))
      | else-nodes-eq1 w ↦
          let made : c.if-nodes-eq1.self-inside.sums.lengths ≡ block_sums rest = ap (λ s. s.sums.lengths) w.self-inside-is ∙ seen in
          rw made (omega (arith, fewer, count, blocks, w.if-nodes-eq1.false), λ i h. prefix-blocks rest i (omega (arith, blocks)))
    ]

pub shift_up-requires-clause-count : goal.shift_up-requires-clause-count
shift_up-requires-clause-count g c = (grown g c).0

pub shift_up-requires-clause-before : goal.shift_up-requires-clause-before
shift_up-requires-clause-before g c = (grown g c).1
