use Rattle.std.proofs.Common.{arith}
use Rattle.indexset_follow.proofs.Leads.{leader_lines, led}
use Rattle.indexset_follow.proofs.takeover.led_events_lead_to_the_nodes.Goals as goal

pub returns-clause-numbered : goal.returns-clause-numbered
returns-clause-numbered g c = λ size lines two few. (led g.T.Ord.cmp g.T.Item.texts g.met.T.Ord.total g.met.T.Token.tokens size two few lines).numbered

pub returns-clause-replayed : goal.returns-clause-replayed
returns-clause-replayed g c = λ size lines two few. (led g.T.Ord.cmp g.T.Item.texts g.met.T.Ord.total g.met.T.Token.tokens size two few lines).replayed

pub returns-clause-count : goal.returns-clause-count
returns-clause-count g c = λ size lines two few. let ward = led g.T.Ord.cmp g.T.Item.texts g.met.T.Ord.total g.met.T.Token.tokens size two few lines in omega (arith, ward.next)

pub returns-clause-role : goal.returns-clause-role
returns-clause-role g c = leader_lines g.T.Ord.cmp g.T.Item.texts
