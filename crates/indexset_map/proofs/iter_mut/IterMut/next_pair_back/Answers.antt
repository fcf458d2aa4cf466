use Rattle.std.proofs.Common.{refl, ap, arith, slice_get, sym, ◌∙◌}
use Rattle.std.specs.Option.{option_map}
use Rattle.indexset_core.specs.Pairs.{entry_of}
use Rattle.indexset_spine.specs.Lengths.{place_of}
use Rattle.indexset_map.specs.Walk.{back_within}
use Rattle.indexset_map.proofs.WalkLemmas.{same_before}
use Rattle.indexset_map.proofs.iter_mut.IterMut.next_pair_back.Goals as goal

pub spot_near-spot-requires-clause-near : goal.spot_near-spot-requires-clause-near
spot_near-spot-requires-clause-near g c = c.args.self.now.start_is

pub spot_near-spot-requires-clause-inside : goal.spot_near-spot-requires-clause-inside
spot_near-spot-requires-clause-inside g c = let h = c.args.self.now.within in omega (arith, c.requires, h)

pub pair_in_mut-requires : goal.pair_in_mut-requires
pair_in_mut-requires g c = c.spot_near-spot.ensures.item

pub invariant_of-self-lent : goal.invariant_of-self-lent
invariant_of-self-lent g c = λ w.
    let at = c.spot_near-spot.ensures.position in
    (back_within c.args.self.now (place_of c.args.self.now.map.now.lengths c.spot_near-spot.result) w, (omega (arith, at), tt))

pub returns : goal.returns
returns g c =
    let at = c.spot_near-spot.ensures.position in (
      (refl, λ w. same_before c.args.self.now w c.spot_near-spot.result _ at c.spot_near-spot.ensures.node _ _),
      record { writes_back = tt; value = ap (λ i. option_map entry_of (slice_get c.args.self.now.map.now.pairs i)) (sym at) ∙ c.pair_in_mut.ensures.value },
    )
