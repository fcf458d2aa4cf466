use Rattle.std.proofs.Common.{◌≡◌, ℕ, ap, subst}
use Rattle.std.specs.Option.{option_copied}
use Rattle.indexset_spine.specs.NodeList.{items}
use Rattle.indexset_core.specs.Pairs.{pair_of}
use Rattle.indexset_core.proofs.CallerLemmas.{parted_by_sought_key}
use Rattle.indexset_set.proofs.CallerLemmas.{in_order}
use Rattle.indexset_map.proofs.BTreeMap.pair.Goals as goal

pub get_by-requires : goal.get_by-requires
get_by-requires g c =
    let l = items c.self.inside.set in
    in_order (λ p. g.Q.LookupKey.order p.key c.new.result.0) l (parted_by_sought_key g.met.Q.LookupKey.acts_as_key l c.recall_order.ensures.ascending c.new.result.0)

pub returns : goal.returns
returns g c =
    rw (← c.self.view_is)
    (subst (λ k. option_copied c.get_by.result ≡ pair_of g.Q.LookupKey.order (items c.self.inside.set) k)
    (ap (λ (t : g.row.Q.Denot × ℕ). t.0) c.new.ensures) c.get_by.ensures.value)
