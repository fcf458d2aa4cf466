use Rattle.std.proofs.Common.{◌≡◌, ◌+◌, [], ◌∷◌, length, map, sum, take, drop, ap, arith, sym, ◌∙◌, refl, length-append}
use Rattle.std.proofs.lemmas.List.{take-append-drop}
use Rattle.indexset_core.specs.Nodes.{node_at, node_lengths}
use Rattle.std.specs.List.{splice}
use Rattle.std.proofs.lemmas.Result.{err_from_is_err_and}
use Rattle.indexset_events.specs.declared.change.ChangeEventUnassigned.TheVariants.{SplitNode}
use Rattle.indexset_events.proofs.CallerLemmas.{halved_view}
use Rattle.indexset_replica.specs.Replica.{IsEdit}
use Rattle.indexset_index.proofs.CallerLemmas.{block_there, node_in_block, sum-blocks}
use Rattle.indexset_replica.proofs.IndexLemmas.{cut_in_two, cut_sum}
use Rattle.indexset_replica.proofs.EditLemmas.{absent_split, held, held_at, named_inside, split_edit, split_past, split_start}
use Rattle.indexset_replica.proofs.edits.split_node.Given.{Over}
use Rattle.indexset_replica.proofs.edits.split_node.Goals as goal
use Rattle.indexset_replica.proofs.edits.split_node.Goals.{
  After-as_slice-2,
  After-reserve,
  then-split_index-eq0-via-then-split_index-eq0,
  then-split_index-eq0-via-else-split_index-eq0+then-split_index-len,
}

-- the nodes after the split
split : (g : Over) (c : After-reserve g) → let ns = map (λ v. v.items) c.args.nodes.now.items in
    let p = c.in_ok-place.place in let k = c.args.split_index in let n = c.index.result.now.items in
    IsEdit g.T.Ord.cmp ns (SplitNode c.args.name.now k) (splice ns p (p + 1) (take k n ∷ drop k n ∷ []))
split g c =
    let named = rw c.as_slice.ensures.value at c.in_ok-place.ensures.named in
    let n = c.index.result.now in
    split_edit g.T.Ord.cmp (λ v. v.items) c.args.nodes.now.items c.args.name.now c.in_ok-place.place named n
    c.index.ensures c.args.split_index (λ none. c.if-split_index-eq0.false none) (omega (arith, n.ok.0))

pub returns-in_err-place-clause-refusal : goal.returns-in_err-place-clause-refusal
returns-in_err-place-clause-refusal g c =
    let p = err_from_is_err_and c.from_residual.result c.from_residual.ensures.1 in
    let absent = rw c.as_slice.ensures.value at c.in_err-place.ensures.absent in
    rw (p.1, absent_split g.T.Ord.cmp _ c.args.name.now absent c.args.split_index) (p.2 ∙ c.in_err-place.ensures.refusal)

pub returns-then-split_index-eq0-clause-refusal : goal.returns-then-split_index-eq0-clause-refusal
returns-then-split_index-eq0-clause-refusal g c =
    let cmp = g.T.Ord.cmp in
    let named = rw c.as_slice.ensures.value at c.in_ok-place.ensures.named in
    elim c.then-split_index-eq0.branch [
      | then-split_index-eq0-via-then-split_index-eq0 w ↦ rw (split_start cmp _ c.args.name.now c.in_ok-place.place named c.args.split_index w.if-split_index-eq0.true) refl
      | then-split_index-eq0-via-else-split_index-eq0+then-split_index-len w ↦
          let n = w.index.result.now in
          rw (split_past cmp (λ v. v.items) c.args.nodes.now.items c.args.name.now c.in_ok-place.place named n w.index.ensures c.args.split_index (omega (arith, n.ok.0))) refl
    ]

pub returns-in_err-reserve-clause-refusal : goal.returns-in_err-reserve-clause-refusal
returns-in_err-reserve-clause-refusal g c =
    let p = err_from_is_err_and c.from_residual-in_err-reserve.result c.from_residual-in_err-reserve.ensures.1 in
    rw (p.1, (split g (goal.at.returns-in_err-reserve-clause-refusal g c).After-reserve).fits) p.2

pub returns-in_err-reserve_node-clause-refusal : goal.returns-in_err-reserve_node-clause-refusal
returns-in_err-reserve_node-clause-refusal g c =
    let p = err_from_is_err_and c.from_residual-in_err-reserve_node.result c.from_residual-in_err-reserve_node.ensures.1 in
    rw (p.1, (split g (goal.at.returns-in_err-reserve_node-clause-refusal g c).After-reserve).fits) (p.2 ∙ c.in_err-reserve_node.ensures.refusal)

pub returns-in_err-rest-clause-refusal : goal.returns-in_err-rest-clause-refusal
returns-in_err-rest-clause-refusal g c =
    let p = err_from_is_err_and c.from_residual-in_err-rest.result c.from_residual-in_err-rest.ensures.1 in
    rw (p.1, (split g (goal.at.returns-in_err-rest-clause-refusal g c).After-reserve).fits) p.2

pub returns-clause-done : goal.returns-clause-done
returns-clause-done g c =
    let cmp = g.T.Ord.cmp in
    let vs = c.args.nodes.now.items in
    let named = rw c.as_slice.ensures.value at c.in_ok-place.ensures.named in
    let n = c.index.result.now in
    let m = c.index_mut-node.result.now in
    let read = rw c.in_ok-reserve.ensures.items at c.index_mut-node.ensures.value in
    let same : m.items ≡ n.items =
    sym (held cmp (λ v. v.items) vs c.args.name.now c.in_ok-place.place named m read)
    ∙ held cmp (λ v. v.items) vs c.args.name.now c.in_ok-place.place named n c.index.ensures in
    let here = held_at cmp (λ v. v.items) vs c.args.name.now c.in_ok-place.place named n c.index.ensures in
    rw (
      c.insert_item.ensures.items,
      c.in_ok-reserve.ensures.items,
      halved_view (λ v. v.items) vs c.in_ok-place.place n c.split_off.new.self c.in_ok-rest.rest here,
      c.in_ok-rest.ensures.items,
      c.in_ok-rest.ensures.tail,
      same,
    )
    (split g (goal.at.returns-clause-done g c).After-reserve)

pub take_items-requires-clause-inside : goal.take_items-requires-clause-inside
take_items-requires-clause-inside g c =
    let ns = map (λ v. v.items) c.args.nodes.now.items in
    let named = rw c.as_slice.ensures.value at c.in_ok-place.ensures.named in
    block_there ns c.in_ok-place.place (c.reserve_node.ensures.sums ∙ c.requires.lengths) (named_inside g.T.Ord.cmp ns c.args.name.now c.in_ok-place.place named)

pub take_items-requires-clause-enough : goal.take_items-requires-clause-enough
take_items-requires-clause-enough g c =
    let cmp = g.T.Ord.cmp in
    let vs = c.args.nodes.now.items in
    let ns = map (λ v. v.items) vs in
    let p = c.in_ok-place.place in
    let named = rw c.as_slice.ensures.value at c.in_ok-place.ensures.named in
    let m = c.index_mut-node.result.now in
    let read = rw c.in_ok-reserve.ensures.items at c.index_mut-node.ensures.value in
    let whole : node_at ns p ≡ m.items = held cmp (λ v. v.items) vs c.args.name.now p named m read in
    let k = c.args.split_index in
    let rest = c.in_ok-rest.rest in
    let cut : length c.split_off.new.self.items + length rest.items ≡ length (node_at ns p) = omega (
      arith,
      ap (λ l. length l) whole,
      ap (λ l. length l) c.in_ok-rest.ensures.items,
      ap (λ l. length l) c.in_ok-rest.ensures.tail,
      ap (λ l. length l) (take-append-drop k m.items),
      length-append (take k m.items) (drop k m.items),
    ) in
    let index = c.reserve_node.ensures.sums ∙ c.requires.lengths in
    omega (arith, cut, rest.ok.0, node_in_block ns p index (named_inside cmp ns c.args.name.now p named))

-- the nodes with the two
parted : (g : Over) (c : After-as_slice-2 g)
    → map (λ v. v.items) c.as_slice-2.result.now
    ≡ splice (map (λ v. v.items) c.args.nodes.now.items) c.in_ok-place.place (c.in_ok-place.place + 1)
    (c.split_off.new.self.items ∷ c.in_ok-rest.rest.items ∷ [])
parted g c =
    let named = rw c.as_slice.ensures.value at c.in_ok-place.ensures.named in
    let n = c.index.result.now in
    let here = held_at g.T.Ord.cmp (λ v. v.items) c.args.nodes.now.items c.args.name.now c.in_ok-place.place named n c.index.ensures in
    rw (c.as_slice-2.ensures.value, c.insert_item.ensures.items, c.in_ok-reserve.ensures.items)
    (halved_view (λ v. v.items) c.args.nodes.now.items c.in_ok-place.place n c.split_off.new.self c.in_ok-rest.rest
    here)

pub insert_node-requires-clause-before : goal.insert_node-requires-clause-before
insert_node-requires-clause-before g c =
    let cmp = g.T.Ord.cmp in
    let vs = c.args.nodes.now.items in
    let ns = map (λ v. v.items) vs in
    let p = c.in_ok-place.place in
    let named = rw c.as_slice.ensures.value at c.in_ok-place.ensures.named in
    let m = c.index_mut-node.result.now in
    let read = rw c.in_ok-reserve.ensures.items at c.index_mut-node.ensures.value in
    let whole : node_at ns p ≡ m.items = held cmp (λ v. v.items) vs c.args.name.now p named m read in
    let k = c.args.split_index in
    let rest = c.in_ok-rest.rest in
    let cut : length c.split_off.new.self.items + length rest.items ≡ length (node_at ns p) = omega (
      arith,
      ap (λ l. length l) whole,
      ap (λ l. length l) c.in_ok-rest.ensures.items,
      ap (λ l. length l) c.in_ok-rest.ensures.tail,
      ap (λ l. length l) (take-append-drop k m.items),
      length-append (take k m.items) (drop k m.items),
    ) in
    let index = c.reserve_node.ensures.sums ∙ c.requires.lengths in
    let moved : c.len-2.result ≡ length rest.items = omega (arith, c.len-2.ensures, rest.ok.0) in
    c.take_items.ensures.sums ∙ rw moved (cut_in_two ns p c.split_off.new.self.items rest.items (parted g c) index (named_inside cmp ns c.args.name.now p named) cut)

pub insert_node-requires-clause-fits : goal.insert_node-requires-clause-fits
insert_node-requires-clause-fits g c =
    let cmp = g.T.Ord.cmp in
    let vs = c.args.nodes.now.items in
    let ns = map (λ v. v.items) vs in
    let p = c.in_ok-place.place in
    let named = rw c.as_slice.ensures.value at c.in_ok-place.ensures.named in
    let m = c.index_mut-node.result.now in
    let read = rw c.in_ok-reserve.ensures.items at c.index_mut-node.ensures.value in
    let whole : node_at ns p ≡ m.items = held cmp (λ v. v.items) vs c.args.name.now p named m read in
    let k = c.args.split_index in
    let rest = c.in_ok-rest.rest in
    let cut : length c.split_off.new.self.items + length rest.items ≡ length (node_at ns p) = omega (
      arith,
      ap (λ l. length l) whole,
      ap (λ l. length l) c.in_ok-rest.ensures.items,
      ap (λ l. length l) c.in_ok-rest.ensures.tail,
      ap (λ l. length l) (take-append-drop k m.items),
      length-append (take k m.items) (drop k m.items),
    ) in
    let index = c.reserve_node.ensures.sums ∙ c.requires.lengths in
    rw (parted g c)
    (omega (
      arith,
      cut_sum ns p c.split_off.new.self.items rest.items (named_inside cmp ns c.args.name.now p named) cut,
      ap sum index,
      sum-blocks (node_lengths ns),
      c.in_ok-reserve_node.ensures.fits,
      ap sum c.reserve_node.ensures.sums,
    ))
