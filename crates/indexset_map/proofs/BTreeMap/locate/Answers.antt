use Rattle.std.proofs.Common.{◌≡◌, ℕ, None, IfErr, subst, ap}
use Rattle.std.specs.List.{position}
use Rattle.std.specs.Ordering.{is_eq}
use Rattle.indexset_spine.specs.NodeList.{items}
use Rattle.indexset_core.specs.Pairs.{key_rank}
use Rattle.indexset_core.proofs.CallerLemmas.{parted_by_sought_key}
use Rattle.indexset_set.proofs.CallerLemmas.{in_order}
use Rattle.indexset_map.proofs.BTreeMap.locate.Goals as goal

pub locate_by-requires : goal.locate_by-requires
locate_by-requires g c =
    let l = items c.self.inside.set in
    in_order (λ p. g.Q.LookupKey.order p.key c.new.result.0) l (parted_by_sought_key g.met.Q.LookupKey.acts_as_key l c.recall_order.ensures.ascending c.new.result.0)

pub returns-clause-absent : goal.returns-clause-absent
returns-clause-absent g c =
    rw (← c.self.view_is)
    (subst (λ k.
    IfErr c.locate_by.result
    (λ _. position (λ p. is_eq (g.Q.LookupKey.order p.key k)) (items c.self.inside.set) ≡ None))
    (ap (λ (t : g.row.Q.Denot × ℕ). t.0) c.new.ensures) c.locate_by.ensures.absent)

pub returns-clause-gap : goal.returns-clause-gap
returns-clause-gap g c =
    rw (← c.self.view_is)
    (subst (λ k. IfErr c.locate_by.result (λ i. i ≡ key_rank g.Q.LookupKey.order (items c.self.inside.set) k))
    (ap (λ (t : g.row.Q.Denot × ℕ). t.0) c.new.ensures) c.locate_by.ensures.gap)
