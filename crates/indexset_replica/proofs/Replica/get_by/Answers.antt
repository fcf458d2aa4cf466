use Rattle.std.specs.List.{All}
use Rattle.std.proofs.lemmas.Option.{slice_get_read}
use Rattle.indexset_replica.proofs.Replica.get_by.Given.{Over}
use Rattle.indexset_replica.proofs.Replica.get_by.Goals as goal
use Rattle.std.proofs.Common.{◌≡◌, ◌<◌, ◌≤◌, ◌∙◌, [], length, slice_get, refl, ap, sym, arith}
use Rattle.indexset_core.specs.Nodes.{node_at, node_lengths, vec_items}
use Rattle.indexset_core.specs.Places.{located}
use Rattle.indexset_core.proofs.CallerLemmas.{end_found, end_node, end_offset, gap_found, length-held, node_read}
use Rattle.indexset_replica.proofs.Replica.get_by.Goals.{After-as_slice-items}

-- the item that the code reads if the search found one
module _ (g : Over) (c : After-as_slice-items g) where
  same : vec_items c.self.inside.nodes.items ≡ c.args.self.now.nodes
  same = ap (λ t. t.nodes) c.self.view_is

  filled : All (λ n. 1 ≤ n) (node_lengths c.args.self.now.nodes)
  filled = rw same at c.self.invariant.nodes.filled

  is : c.locate_by.result ≡ located (g.P.Probe.answer c.args.probe.now) c.args.self.now.nodes
  is = rw (c.as_slice.ensures.value, same) at c.locate_by.ensures.place

  inside : c.in-Ok.node < length c.args.self.now.nodes
  inside = end_node (g.P.Probe.answer c.args.probe.now) c.args.self.now.nodes filled c.requires c.locate_by.result is (c.in-Ok.node, c.in-Ok.offset) c.in-Ok.is

  node : c.as_slice-items.result.now ≡ node_at c.args.self.now.nodes c.in-Ok.node
  node =
      let held : c.in-Ok.node < length c.self.inside.nodes.items = omega (arith, inside, ap (λ l. length l) same, length-held (λ v. v.items) c.self.inside.nodes.items) in
      c.as_slice-items.ensures.value
      ∙ (sym (node_read (λ v. v.items) c.self.inside.nodes.items c.in-Ok.node c.index.result.now held c.index.ensures []) ∙ ap (λ ns. node_at ns c.in-Ok.node) same)

  within : c.in-Ok.offset < length c.as_slice-items.result.now
  within = rw node (end_offset (g.P.Probe.answer c.args.probe.now) c.args.self.now.nodes filled c.requires c.locate_by.result is (c.in-Ok.node, c.in-Ok.offset) c.in-Ok.is)

pub bounds-items-offset : goal.bounds-items-offset
bounds-items-offset g c = within g c

pub returns-in-Ok-clause-value : goal.returns-in-Ok-clause-value
returns-in-Ok-clause-value g c =
    let r = (goal.at.returns-in-Ok-clause-value g c).After-as_slice-items in
    sym (slice_get_read _ _ _ _ refl (within g r) c.index-items-offset.is)
    ∙ (ap (λ l. slice_get l c.in-Ok.offset) (node g r)
    ∙ sym (end_found (g.P.Probe.answer c.args.probe.now) c.args.self.now.nodes (filled g r) c.requires c.locate_by.result (is g r) (c.in-Ok.node, c.in-Ok.offset) c.in-Ok.is))

pub returns-in-Err-clause-value : goal.returns-in-Err-clause-value
returns-in-Err-clause-value g c =
    let same : vec_items c.self.inside.nodes.items ≡ c.args.self.now.nodes = ap (λ t. t.nodes) c.self.view_is in
    sym
    (gap_found (g.P.Probe.answer c.args.probe.now) c.args.self.now.nodes (rw same at c.self.invariant.nodes.filled)
    c.requires c.locate_by.result (rw (c.as_slice.ensures.value, same) at c.locate_by.ensures.place)
    c.in-Err.field-0 c.in-Err.is)
