use Rattle.std.proofs.Common.{◌≡◌, length, sym, inr, true, is_lt, rules}
use Rattle.indexset_spine.specs.NodeList.{items}
use Rattle.indexset_set.proofs.SetAppendLemmas.{joins_none, joins_run}
use Rattle.indexset_set.proofs.inner.runs.is_above.Goals as goal

pub returns-in-Some : goal.returns-in-Some
returns-in-Some g c = λ less.
    let below : is_lt (g.T.Ord.cmp c.in-Some.last.now c.args.value.now) ≡ true = search rules in
    joins_run g.T.Ord.cmp g.met.T.Ord.total (items c.args.set.now) c.args.value.now c.args.run.now c.in-Some.last.now c.requires.order (sym c.in-Some.ensures.value) below

pub returns-in-Some-last_spot : goal.returns-in-Some-last_spot
returns-in-Some-last_spot g c = λ less.
    let last = rw (c.in-Some-last_spot.ensures {u = tt}).1 at c.item.ensures in
    let none : length c.args.run.now ≡ 0 = search rules in
    let below : is_lt (g.T.Ord.cmp c.item.result.now c.args.value.now) ≡ true = search rules in
    joins_none g.T.Ord.cmp g.met.T.Ord.total (items c.args.set.now) c.args.value.now c.args.run.now none (inr (c.item.result.now, rw (← c.set.view_is) last, below)) c.requires.order
