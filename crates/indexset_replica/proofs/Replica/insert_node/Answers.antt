use Rattle.std.proofs.Common.{◌≡◌, ◌≤◌, insert, length, ap, refl, ◌∙◌, arith}
use Rattle.indexset_core.specs.Nodes.{node_lengths, vec_items}
use Rattle.indexset_events.proofs.CallerLemmas.{map_insert}
use Rattle.indexset_index.specs.Blocks.{block_sums}
use Rattle.indexset_index.proofs.CallerLemmas.{inserted}
use Rattle.indexset_replica.proofs.IndexLemmas.{insert_sum}
use Rattle.indexset_replica.proofs.Replica.insert_node.Given.{Over}
use Rattle.indexset_replica.proofs.Replica.insert_node.Goals.{After-as_slice}
use Rattle.indexset_replica.proofs.Replica.insert_node.Goals as goal

-- the nodes with the new one
added : (g : Over) (c : After-as_slice g) → vec_items c.as_slice.result.now ≡ insert (vec_items c.self.inside.nodes.items) c.args.place c.args.node.items
added g c = rw (c.as_slice.ensures.value, c.in-Ok.ensures.items) (map_insert (λ v. v.items) c.self.inside.nodes.items c.args.place c.args.node)

pub insert_node-requires-clause-before : goal.insert_node-requires-clause-before
insert_node-requires-clause-before g c =
    let ns = vec_items c.self.inside.nodes.items in
    let inside : c.args.place ≤ length ns = omega (arith, c.requires.within, ap (λ r. length r.nodes) c.self.view_is) in
    inserted ns c.args.place c.args.node.items (added g c) (c.reserve_node.ensures.sums ∙ c.self.invariant.index) inside

pub insert_node-requires-clause-fits : goal.insert_node-requires-clause-fits
insert_node-requires-clause-fits g c =
    let ns = vec_items c.self.inside.nodes.items in
    rw (added g c) (omega (arith, insert_sum ns c.args.place c.args.node.items (c.reserve_node.ensures.sums ∙ c.self.invariant.index), c.in_default.ensures.fits, c.len.ensures, c.args.node.ok.0))

pub invariant_of-self-in-Ok : goal.invariant_of-self-in-Ok
invariant_of-self-in-Ok g c =
    record {
      nodes = rw (c.in-Ok.ensures.items, map_insert (λ v. v.items) c.self.inside.nodes.items c.args.place c.args.node, ap (λ r. r.nodes) c.self.view_is) c.requires.nodes;
      index = c.insert_node.ensures ∙ ap (λ l. block_sums (node_lengths (vec_items l))) c.as_slice.ensures.value;
    }

pub returns-in-Ok-clause-nodes : goal.returns-in-Ok-clause-nodes
returns-in-Ok-clause-nodes g c =
    rw (c.in-Ok.ensures.items, map_insert (λ v. v.items) c.self.inside.nodes.items c.args.place c.args.node, ap (λ r. r.nodes) c.self.view_is) refl
