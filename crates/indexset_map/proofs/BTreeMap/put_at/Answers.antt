use Rattle.indexset_map.proofs.SpotLemmas.{gap_in, put_in, spot_in, stands_in}
use Rattle.indexset_map.proofs.BTreeMap.put_at.Goals as goal
use Rattle.indexset_map.proofs.BTreeMap.put_at.Goals.{in-Ok, in-Err}

pub insert_at-requires-clause-spot : goal.insert_at-requires-clause-spot
insert_at-requires-clause-spot g c = spot_in c.self.inside.set c.args.self.now c.args.spot c.self.view_is c.requires.place

pub insert_at-requires-clause-gap : goal.insert_at-requires-clause-gap
insert_at-requires-clause-gap g c =
    gap_in g.K.Ord.cmp g.met.K.Ord.total c.args.self.now c.args.key c.args.spot c.requires.absent
    (rw (← c.self.view_is) c.recall_order.ensures.ascending) c.requires.place c.requires.rank c.self.inside.set
    c.args.value c.self.view_is

pub returns-clause-ok : goal.returns-clause-ok
returns-clause-ok g c = elim c.match-insert_at.branch [
  | in-Ok w ↦
      let done = w.in-Ok.ensures {u = tt} in
      rw w.result-is
      (put_in g.K.Ord.cmp g.met.K.Ord.total c.args.self.now c.args.key c.args.spot c.requires.absent
      (rw (← c.self.view_is) c.recall_order.ensures.ascending) c.requires.place c.requires.rank c.self.inside.set
      c.insert_at.new.set c.args.value c.self.view_is done.items done.nodes c.insert_at.ensures.size)
  | in-Err w ↦ rw w.result-is tt
]

pub returns-clause-stands : goal.returns-clause-stands
returns-clause-stands g c = elim c.match-insert_at.branch [
  | in-Ok w ↦
      let done = w.in-Ok.ensures {u = tt} in
      rw w.result-is
      (stands_in g.K.Ord.cmp g.met.K.Ord.total c.args.self.now c.args.key c.args.spot c.requires.absent
      (rw (← c.self.view_is) c.recall_order.ensures.ascending) c.requires.place c.requires.rank c.self.inside.set
      c.insert_at.new.set _ c.self.view_is done.stands.0 done.stands.1)
  | in-Err w ↦ rw w.result-is tt
]
