use Rattle.std.proofs.Common.{◌≡◌, ◌≤◌, [], ◌∷◌, length, map, insert, refl, ap, sym, ◌∙◌, arith}
use Rattle.std.proofs.lemmas.List.{length-map}
use Rattle.std.proofs.lemmas.Result.{err_from_is_err_and}
use Rattle.indexset_events.specs.declared.change.ChangeEventUnassigned.TheVariants.{CreateNode}
use Rattle.indexset_events.proofs.CallerLemmas.{map_insert, nodes_ruled}
use Rattle.indexset_replica.proofs.CloneLemmas.{created_same, reaching_same}
use Rattle.indexset_replica.specs.Replica.{IsEdit}
use Rattle.indexset_index.proofs.CallerLemmas.{inserted}
use Rattle.indexset_replica.proofs.IndexLemmas.{insert_sum}
use Rattle.indexset_replica.proofs.EditLemmas.{create_disorder, create_edit}
use Rattle.indexset_replica.proofs.edits.create_node.Given.{Over}
use Rattle.indexset_replica.proofs.edits.create_node.Goals as goal
use Rattle.indexset_replica.proofs.edits.create_node.Goals.{After-as_slice-3, Else-not-fits_before}

-- the nodes after the insertion of the new node
created : (g : Over) (c : Else-not-fits_before g) → let ns = map (λ v. v.items) c.args.nodes.now.items in
    let v = c.args.value.now in IsEdit g.T.Ord.cmp ns (CreateNode v) (insert ns c.first_reaching-place.result (v ∷ []))
created g c =
    let place = rw c.as_slice.ensures.value at c.first_reaching-place.ensures.place in
    let good = rw c.as_slice-2.ensures.value at (sym c.fits_before.ensures ∙ c.if-not-fits_before.false) in
    create_edit g.T.Ord.cmp _ c.args.value.now c.first_reaching-place.result place good

pub returns-then-not-fits_before-clause-refusal : goal.returns-then-not-fits_before-clause-refusal
returns-then-not-fits_before-clause-refusal g c =
    let place = rw c.as_slice.ensures.value at c.first_reaching-place.ensures.place in
    let bad = rw c.as_slice-2.ensures.value at (sym c.fits_before.ensures ∙ c.if-not-fits_before.true) in
    rw (create_disorder g.T.Ord.cmp _ c.args.value.now c.first_reaching-place.result place bad) refl

pub returns-in_err-reserve_node-clause-refusal : goal.returns-in_err-reserve_node-clause-refusal
returns-in_err-reserve_node-clause-refusal g c =
    let p = err_from_is_err_and c.from_residual.result c.from_residual.ensures.1 in
    rw (p.1, (created g (goal.at.returns-in_err-reserve_node-clause-refusal g c).Else-not-fits_before).fits) (p.2 ∙ c.in_err-reserve_node.ensures.refusal)

pub returns-in_err-node-clause-refusal : goal.returns-in_err-node-clause-refusal
returns-in_err-node-clause-refusal g c =
    let p = err_from_is_err_and c.from_residual-in_err-node.result c.from_residual-in_err-node.ensures.1 in
    rw (p.1, (created g (goal.at.returns-in_err-node-clause-refusal g c).Else-not-fits_before).fits) (p.2 ∙ c.in_err-node.ensures.refusal)

pub returns-clause-done : goal.returns-clause-done
returns-clause-done g c =
    let cmp = g.T.Ord.cmp in
    let ns = map (λ v. v.items) c.args.nodes.now.items in
    let p = c.first_reaching-place.result in
    let place = rw c.as_slice.ensures.value at c.first_reaching-place.ensures.place in
    let good = rw c.as_slice-2.ensures.value at (sym c.fits_before.ensures ∙ c.if-not-fits_before.false) in
    let node = c.in_ok-node.ensures.node in
    let w = node.0 in
    let reach = place ∙ sym (reaching_same cmp g.met.T.Ord.total c.args.value.now w node.1.1 ns) in
    let fine = created_same cmp g.met.T.Ord.total c.args.value.now w node.1.1 ns (nodes_ruled cmp ns c.requires.nodes) p ∙ good in
    rw (c.insert_item.ensures.items, c.room_for_node_of.ensures.nodes, map_insert (λ v. v.items) c.args.nodes.now.items p c.in_ok-node.node, node.2)
    (record { fits = (created g (goal.at.returns-clause-done g c).Else-not-fits_before).fits; event = CreateNode w; adds = (w, node.1, refl); done = create_edit cmp ns w p reach fine })

-- the nodes with the new one
added : (g : Over) (c : After-as_slice-3 g) → map (λ v. v.items) c.as_slice-3.result.now ≡ insert (map (λ v. v.items) c.args.nodes.now.items) c.first_reaching-place.result c.in_ok-node.node.items
added g c =
    rw (c.as_slice-3.ensures.value, c.insert_item.ensures.items, c.room_for_node_of.ensures.nodes)
    (map_insert (λ v. v.items) c.args.nodes.now.items c.first_reaching-place.result c.in_ok-node.node)

pub insert_node-requires-clause-before : goal.insert_node-requires-clause-before
insert_node-requires-clause-before g c =
    let vs = c.args.nodes.now.items in
    let ns = map (λ v. v.items) vs in
    let p = c.first_reaching-place.result in
    let inside : p ≤ length ns = omega (arith, c.first_reaching-place.ensures.within, ap (λ l. length l) c.as_slice.ensures.value, length-map vs (λ v. v.items)) in
    inserted ns p c.in_ok-node.node.items (added g c) (c.reserve_node.ensures.sums ∙ c.requires.lengths) inside

pub insert_node-requires-clause-fits : goal.insert_node-requires-clause-fits
insert_node-requires-clause-fits g c =
    let ns = map (λ v. v.items) c.args.nodes.now.items in
    rw (added g c)
    (omega (
      arith,
      insert_sum ns c.first_reaching-place.result c.in_ok-node.node.items (c.reserve_node.ensures.sums ∙ c.requires.lengths),
      c.in_ok-reserve_node.ensures.fits,
      ap (λ l. length l) c.in_ok-node.ensures.node.2,
    ))
