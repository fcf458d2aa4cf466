use Rattle.std.proofs.Common.{Some, ap, sym}
use Rattle.indexset_core.proofs.CallerLemmas.{key_absent, key_inside, key_pair, key_there}
use Rattle.indexset_map.proofs.KeyLemmas.{key_place}
use Rattle.indexset_map.proofs.BTreeMap.index_of.Goals as goal

pub returns-in-Ok-clause-value : goal.returns-in-Ok-clause-value
returns-in-Ok-clause-value g c =
    let found = (c.in-Ok.ensures {u = tt}).found in
    rw (key_there g.Q.LookupKey.order _ _ c.in-Ok.i found)
    (ap Some
    (sym
    (key_place g.Q.LookupKey.order c.args.self.now c.args.key c.in-Ok.i found g.met.Q.LookupKey.acts_as_key
    c.locate.ensures.ascending)))

pub returns-in-Ok-clause-at_index : goal.returns-in-Ok-clause-at_index
returns-in-Ok-clause-at_index g c = sym (key_pair g.Q.LookupKey.order _ _ c.in-Ok.i (c.in-Ok.ensures {u = tt}).found)

pub returns-in-Ok-clause-inside : goal.returns-in-Ok-clause-inside
returns-in-Ok-clause-inside g c = key_inside g.Q.LookupKey.order _ _ c.in-Ok.i (c.in-Ok.ensures {u = tt}).found

pub returns-in-Err-clause-value : goal.returns-in-Err-clause-value
returns-in-Err-clause-value g c = rw (key_absent g.Q.LookupKey.order _ _ (c.in-Err.ensures {u = tt}).absent)
