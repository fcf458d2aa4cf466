use Rattle.std.proofs.Common.{◌≡◌, ℕ, Some, ap, inl, subst}
use Rattle.indexset_spine.specs.NodeList.{items}
use Rattle.indexset_core.proofs.CallerLemmas.{parted_by_sought_key}
use Rattle.indexset_core.specs.Pairs.{value_of}
use Rattle.indexset_set.proofs.CallerLemmas.{in_order}
use Rattle.indexset_map.proofs.LentValueLemmas.{met_value}
use Rattle.indexset_map.proofs.BTreeMap.value_of_mut.Goals as goal

pub value_mut_by-requires : goal.value_mut_by-requires
value_mut_by-requires g c =
    let l = items c.self.inside.set in
    in_order (λ p. g.Q.LookupKey.order p.key c.new.result.0) l (parted_by_sought_key g.met.Q.LookupKey.acts_as_key l c.recall_order.ensures.ascending c.new.result.0)

pub returns-in-Some : goal.returns-in-Some
returns-in-Some g c =
    let l = items c.self.inside.set in
    let parted = parted_by_sought_key g.met.Q.LookupKey.acts_as_key l c.recall_order.ensures.ascending c.new.result.0 in
    let same = ap (λ (t : g.row.Q.Denot × ℕ). t.0) c.new.ensures in (
      (λ j.
          inl (
            c.in-Some.value.ghost_name,
            λ w. met_value g.Q.LookupKey.order c.self.inside.set c.args.self.now c.new.result.0 c.args.key.now c.in-Some.value.now w c.self.view_is same parted (c.in-Some.ensures {u = tt}).value j,
          )),
      record { writes_back = tt; value = rw (← c.self.view_is) (subst (λ k. Some c.in-Some.value.now ≡ value_of g.Q.LookupKey.order l k) same (c.in-Some.ensures {u = tt}).value) },
    )
