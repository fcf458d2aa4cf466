use Rattle.std.proofs.Common.{refl, ap, arith, slice_get, sym, ◌∙◌}
use Rattle.std.specs.Option.{option_map}
use Rattle.indexset_spine.specs.Lengths.{place_of}
use Rattle.indexset_map.specs.ValuesWalk.{values_walk}
use Rattle.indexset_map.specs.Walk.{back_within}
use Rattle.indexset_map.proofs.WalkLemmas.{lent_before}
use Rattle.indexset_map.proofs.values_mut.ValuesMut.next_value_back.Goals as goal

pub spot_near-spot-requires-clause-near : goal.spot_near-spot-requires-clause-near
spot_near-spot-requires-clause-near g c = c.args.self.now.start_is

pub spot_near-spot-requires-clause-inside : goal.spot_near-spot-requires-clause-inside
spot_near-spot-requires-clause-inside g c = let h = c.args.self.now.within in omega (arith, c.requires, h)

pub value_in-requires : goal.value_in-requires
value_in-requires g c = c.spot_near-spot.ensures.item

pub invariant_of-self-lent : goal.invariant_of-self-lent
invariant_of-self-lent g c = λ w.
    let at = c.spot_near-spot.ensures.position in
    (back_within (values_walk c.args.self.now) (place_of c.args.self.now.map.now.lengths c.spot_near-spot.result) w, (omega (arith, at), tt))

pub returns : goal.returns
returns g c =
    let at = c.spot_near-spot.ensures.position in (
      (refl, λ w. lent_before c.args.self.now w c.spot_near-spot.result _ at c.spot_near-spot.ensures.node _ _),
      record { writes_back = tt; value = ap (λ i. option_map (λ p. p.value) (slice_get c.args.self.now.map.now.pairs i)) (sym at) ∙ c.value_in.ensures.value },
    )
