use Rattle.indexset_map.proofs.MakeLemmas.{paired_ascending}
use Rattle.indexset_map.proofs.BTreeMap.from_ascending.Goals as goal

pub returns-in-Err-clause-refusal : goal.returns-in-Err-clause-refusal
returns-in-Err-clause-refusal g c =
    ((c.in-Err.ensures {u = tt}).memory (paired_ascending g.K.Ord.cmp c.in_ok-pairs.pairs.items c.args.entries.items (c.in_ok-pairs.ensures {u = tt}) c.requires)).1
