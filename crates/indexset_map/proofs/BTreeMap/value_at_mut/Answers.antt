use Rattle.std.proofs.Common.{rules, ◌≡◌, Some, slice_get, refl, sym, ap, ◌∙◌}
use Rattle.std.specs.Option.{option_map}
use Rattle.indexset_spine.specs.NodeList.{items}
use Rattle.indexset_map.specs.Contents.{Contents}
use Rattle.indexset_map.proofs.ContentsLemmas.{contents_written}
use Rattle.indexset_map.proofs.BTreeMap.value_at_mut.Goals as goal

pub returns : goal.returns
returns g c =
    let read : option_map (λ p. p.value) (slice_get (items c.self.inside.set) c.args.i) ≡ Some c.unwrap.result.now = search rules in (
      (refl, λ w. contents_written c.self.inside.set c.args.self.now c.args.i w c.self.view_is),
      record { writes_back = tt; value = ap (λ (m : Contents g.row.K.Denot g.row.V.Denot). option_map (λ p. p.value) (slice_get m.pairs c.args.i)) (sym c.self.view_is) ∙ read },
    )
