use Rattle.std.proofs.Common.{sym, ap, ◌∙◌}
use Rattle.std.specs.Option.{option_map}
use Rattle.indexset_core.specs.Pairs.{entry_of, has_key, value_of}
use Rattle.indexset_core.proofs.CallerLemmas.{key_absent, key_gone, key_no_pair, key_pair, no_value}
use Rattle.indexset_map.proofs.KeyLemmas.{without_found, without_absent}
use Rattle.indexset_map.proofs.PutKeyLemmas.{without_beside}
use Rattle.indexset_map.proofs.BTreeMap.remove_entry.Goals as goal

pub take_at-requires : goal.take_at-requires
take_at-requires g c = c.spot-spot.ensures.spot.item c.if-spot.true

pub returns-then-spot-clause-value : goal.returns-then-spot-clause-value
returns-then-spot-clause-value g c =
    sym (ap (option_map entry_of) (key_pair g.Q.LookupKey.order _ _ _ (c.spot-spot.ensures.spot.found c.if-spot.true)) ∙ c.take_at.ensures.value)

pub returns-then-spot-clause-rest : goal.returns-then-spot-clause-rest
returns-then-spot-clause-rest g c =
    c.take_at.ensures.rest
    ∙ without_found g.Q.LookupKey.order c.args.self.now c.args.key _ (c.spot-spot.ensures.spot.found c.if-spot.true)
    g.met.Q.LookupKey.acts_as_key c.spot-spot.ensures.ascending g.met.K.Ord.total
    g.met.Q.UniqueKey.equals_at_most_one

pub returns-then-spot-clause-gone : goal.returns-then-spot-clause-gone
returns-then-spot-clause-gone g c =
    ap (λ m. has_key g.Q.LookupKey.order m.pairs c.args.key) (returns-then-spot-clause-rest g c) ∙ key_gone g.Q.LookupKey.order c.args.self.now.pairs c.args.key

pub returns-then-spot-clause-no_value : goal.returns-then-spot-clause-no_value
returns-then-spot-clause-no_value g c = no_value g.Q.LookupKey.order _ c.args.key (returns-then-spot-clause-gone g c)

pub returns-then-spot-clause-others : goal.returns-then-spot-clause-others
returns-then-spot-clause-others g c = λ other apart.
    ap (λ m. value_of g.K.Ord.cmp m.pairs other) (returns-then-spot-clause-rest g c)
    ∙ without_beside g.Q.LookupKey.order g.met.K.Ord.total g.met.Q.UniqueKey.equals_at_most_one c.args.key other
    apart c.args.self.now.pairs

pub returns-else-spot-clause-value : goal.returns-else-spot-clause-value
returns-else-spot-clause-value g c = sym (ap (option_map entry_of) (key_no_pair g.Q.LookupKey.order _ _ (c.spot-spot.ensures.spot.absent c.if-spot.false)))

pub returns-else-spot-clause-rest : goal.returns-else-spot-clause-rest
returns-else-spot-clause-rest g c = sym (without_absent g.Q.LookupKey.order c.args.self.now c.args.key (key_absent g.Q.LookupKey.order _ _ (c.spot-spot.ensures.spot.absent c.if-spot.false)))

pub returns-else-spot-clause-gone : goal.returns-else-spot-clause-gone
returns-else-spot-clause-gone g c = key_absent g.Q.LookupKey.order _ _ (c.spot-spot.ensures.spot.absent c.if-spot.false)

pub returns-else-spot-clause-no_value : goal.returns-else-spot-clause-no_value
returns-else-spot-clause-no_value g c = no_value g.Q.LookupKey.order _ c.args.key (returns-else-spot-clause-gone g c)
