use Rattle.std.proofs.Common.{sym, ◌∙◌}
use Rattle.std.proofs.lemmas.Bool.{false≢true}
use Rattle.indexset_core.proofs.CallerLemmas.{key_absent, key_inside, key_pair}
use Rattle.indexset_map.proofs.KeyLemmas.{key_before, key_place}
use Rattle.indexset_map.proofs.BTreeMap.rank.Goals as goal

pub returns-in-Ok-clause-value : goal.returns-in-Ok-clause-value
returns-in-Ok-clause-value g c = sym (key_place g.Q.LookupKey.order c.args.self.now c.args.key c.in-Ok.i (c.in-Ok.ensures {u = tt}).found g.met.Q.LookupKey.acts_as_key c.locate.ensures.ascending)

pub returns-in-Ok-clause-at_rank : goal.returns-in-Ok-clause-at_rank
returns-in-Ok-clause-at_rank g c = λ _. sym (key_pair g.Q.LookupKey.order _ _ c.in-Ok.i (c.in-Ok.ensures {u = tt}).found)

pub returns-in-Ok-clause-inside : goal.returns-in-Ok-clause-inside
returns-in-Ok-clause-inside g c = λ _. key_inside g.Q.LookupKey.order _ _ c.in-Ok.i (c.in-Ok.ensures {u = tt}).found

pub returns-in-Ok-clause-before : goal.returns-in-Ok-clause-before
returns-in-Ok-clause-before g c = key_before g.Q.LookupKey.order g.met.Q.LookupKey.acts_as_key _ c.locate.ensures.ascending c.args.key c.in-Ok.i (returns-in-Ok-clause-value g c)

pub returns-in-Err-clause-at_rank : goal.returns-in-Err-clause-at_rank
returns-in-Err-clause-at_rank g c = λ has. absurd (false≢true (sym (key_absent g.Q.LookupKey.order _ _ (c.in-Err.ensures {u = tt}).absent) ∙ has))

pub returns-in-Err-clause-inside : goal.returns-in-Err-clause-inside
returns-in-Err-clause-inside g c = λ has. absurd (false≢true (sym (key_absent g.Q.LookupKey.order _ _ (c.in-Err.ensures {u = tt}).absent) ∙ has))

pub returns-in-Err-clause-before : goal.returns-in-Err-clause-before
returns-in-Err-clause-before g c = key_before g.Q.LookupKey.order g.met.Q.LookupKey.acts_as_key _ c.locate.ensures.ascending c.args.key c.in-Err.i (c.in-Err.ensures {u = tt}).gap
