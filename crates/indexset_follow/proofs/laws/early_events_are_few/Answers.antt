use Rattle.std.proofs.Common.{◌+◌, arith}
use Rattle.indexset_follow.proofs.Near.{few, near}
use Rattle.indexset_follow.proofs.laws.early_events_are_few.Goals as goal

pub returns-clause-near : goal.returns-clause-near
returns-clause-near g c = near g.T.Ord.cmp g.T.Item.texts

pub returns-clause-few : goal.returns-clause-few
returns-clause-few g c = λ r h. let le = few (r.held.next + 1) (r.held.next + r.window) r.early (omega arith) h in omega (arith, le)
