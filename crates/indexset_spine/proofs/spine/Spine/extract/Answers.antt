use Rattle.std.proofs.Common.{◌≡◌, ◌∙◌, ap, refl, sym, arith, of_calls, remove, slice_get, slice_set}
use Rattle.std.specs.Fn.{CalledAtMut}
use Rattle.std.proofs.RetainMut.{Called-Mut}
use Rattle.std.proofs.lemmas.List.{get_or-set_same}
use Rattle.std.proofs.lemmas.Option.{get_or_from_slice_get, slice_get_within}
use Rattle.indexset_core.specs.Nodes.{node_lengths}
use Rattle.indexset_spine.specs.NodeList.{items, position_of, set_joined, without_item}
use Rattle.indexset_spine.specs.Lengths.{lengths_without}
use Rattle.indexset_spine.proofs.NodeListLemmas.{concat-set}
use Rattle.indexset_spine.proofs.NodeLengthLemmas.{node_lengths-set_joined}
use Rattle.indexset_spine.proofs.ExtractSteps.{asked_at, asked_spot, lengths_gone, picked, stretch_after, stretch_without, turned_down}
use Rattle.indexset_spine.proofs.spine.Spine.extract.Given.{Over}
use Rattle.indexset_spine.proofs.spine.Spine.extract.Goals.{After-remove}
use Rattle.indexset_spine.proofs.spine.Spine.extract.Goals as goal

pub remove-requires : goal.remove-requires
remove-requires g c = asked_spot c.loop-at.self.nodes c.spot_near-spot.result _ c.f.new.arg2 c.spot_near-spot.ensures.spot refl

-- the closure returned true
module _ (g : Over) (c : After-remove g) where
  picked_is : c.remove.result ≡ c.f.new.arg2
  picked_is =
      let ns = c.loop-at.self.nodes in
      let spot = c.spot_near-spot.result in
      let i = position_of ns spot in
      let y = c.f.new.arg2 in
      let read =
      sym
      (ap (λ l. slice_get l (position_of (set_joined ns i y) spot)) (concat-set ns i y)
      ∙ ap (slice_get (slice_set (items c.loop-at.self) i y))
      (asked_at ns spot i y c.spot_near-spot.ensures.spot refl))
      ∙ c.remove.ensures.value in
      sym (get_or_from_slice_get (slice_set (items c.loop-at.self) i y) i c.remove.result y read)
      ∙ get_or-set_same (items c.loop-at.self) i y y
      (slice_get_within (items c.loop-at.self) i _ c.item_mut.ensures.value)

  taken : items c.remove.new.self ≡ remove (slice_set (items c.loop-at.self) c.loop-at.at.front c.f.new.arg2) c.loop-at.at.front
  taken =
      let ns = c.loop-at.self.nodes in
      let spot = c.spot_near-spot.result in
      let i = position_of ns spot in
      let y = c.f.new.arg2 in
      c.remove.ensures.items
      ∙ (ap (λ l. remove l (position_of (set_joined ns i y) spot)) (concat-set ns i y)
      ∙ (ap (remove (slice_set (items c.loop-at.self) i y)) (asked_at ns spot i y c.spot_near-spot.ensures.spot refl)
      ∙ ap (λ j. remove (slice_set (items c.loop-at.self) j y) j) c.spot_near-spot.ensures.position))

pub returns-then-f-clause-extracted : goal.returns-then-f-clause-extracted
returns-then-f-clause-extracted g c =
    let called : CalledAtMut g.F.FnMut c.loop-at.f c.item_mut.result.now c.f.result c.f.new.self c.f.new.arg2 = Called-Mut g.F.FnMut c.f.ensures in
    let read = rw c.spot_near-spot.ensures.position at c.item_mut.ensures.value in
    c.loop-at.invariant.extracted.run _ _ _
    (rw (taken g c, picked_is g c)
    (picked (CalledAtMut g.F.FnMut) c.loop-at.f (items c.loop-at.self) c.loop-at.at.front c.loop-at.at.back _ _ _
    c.loop-at-test.true read (rw c.if-f.true at called)))

pub returns-then-f-clause-lengths : goal.returns-then-f-clause-lengths
returns-then-f-clause-lengths g c =
    let p = c.loop-at.at.front in
    ap (λ ns. node_lengths ns) c.remove.ensures.nodes
    ∙ (ap (λ i. node_lengths (without_item (set_joined c.loop-at.self.nodes i c.f.new.arg2) c.spot_near-spot.result)) c.spot_near-spot.ensures.position
    ∙ (lengths_gone c.loop-at.self.nodes c.spot_near-spot.result p c.f.new.arg2 c.spot_near-spot.ensures.spot c.spot_near-spot.ensures.position
    ∙ ap (λ ls. lengths_without ls p) c.loop-at.invariant.lengths))

pub returns-then-f-clause-at : goal.returns-then-f-clause-at
returns-then-f-clause-at g c =
    rw (c.remove.ensures.nodes, c.spot_near-spot.ensures.position)
    (stretch_without c.loop-at.self.nodes c.spot_near-spot.result c.loop-at.at.front c.f.new.arg2
    c.spot_near-spot.ensures.spot c.spot_near-spot.ensures.position c.loop-at.at.back c.loop-at-test.true
    c.loop-at.invariant.stretch.inside)

pub overflow_add-at : goal.overflow_add-at
overflow_add-at g c = omega (arith, c.loop-at-test.true, c.loop-at.invariant.back, c.fits-at)

pub loop-at-preserved : goal.loop-at-preserved
loop-at-preserved g c =
    let ns = c.loop-at.self.nodes in
    let y = c.f.new.arg2 in
    let p = c.loop-at.at.front in
    let called : CalledAtMut g.F.FnMut c.loop-at.f c.item_mut.result.now c.f.result c.f.new.self c.f.new.arg2 = Called-Mut g.F.FnMut c.f.ensures in
    let read = rw c.spot_near-spot.ensures.position at c.item_mut.ensures.value in
    rw c.spot_near-spot.ensures.position (record {
      extracted =
          rw (concat-set ns p y)
          (turned_down (CalledAtMut g.F.FnMut) c.loop-at.f (items c.loop-at.self) p c.loop-at.at.back _ _ _ _ _
          c.loop-at-test.true read (rw c.if-f.false at called) c.loop-at.invariant.extracted);
      lengths = node_lengths-set_joined ns p y ∙ c.loop-at.invariant.lengths;
      stretch = stretch_after ns c.spot_near-spot.result p y c.spot_near-spot.ensures.spot c.spot_near-spot.ensures.position c.loop-at.at.back c.loop-at-test.true c.loop-at.invariant.stretch.inside;
      back = c.loop-at.invariant.back;
      callable = search of_calls;
      size = c.loop-at.invariant.size;
    })
