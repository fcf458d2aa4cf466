use Rattle.std.proofs.Common.{◌≡◌, [], ◌∷◌, rules}
use Rattle.indexset_spine.specs.NodeList.{items}
use Rattle.indexset_set.proofs.SetCopyLemmas.{ascends_all, tells_first, tells_next}
use Rattle.indexset_set.proofs.make.is_ascending.Goals as goal

pub loop-item-init : goal.loop-item-init
loop-item-init g c =
    let first : items c.args.spine.now ≡ c.in-Some.last.now ∷ c.next.new.self = search rules in
    tells_first g.T.Ord.cmp (items c.args.spine.now) c.next.new.self c.in-Some.last.now first

pub loop-item-preserved : goal.loop-item-preserved
loop-item-preserved g c =
    let next : c.loop-item.rest ≡ c.in-Some-next.item.now ∷ c.next-in-loop-item.new.self = search rules in
    rw (c.is_lt-ascends.ensures, c.cmp.ensures)
    (tells_next g.T.Ord.cmp g.met.T.Ord.total c.loop-item.ascends (items c.args.spine.now) c.loop-item.rest
    c.next-in-loop-item.new.self c.loop-item.last.now c.in-Some-next.item.now c.loop-item.invariant next)

pub returns-clause-ascending : goal.returns-clause-ascending
returns-clause-ascending g c = λ told.
    let none : c.loop-item.rest ≡ [] = search rules in
    ascends_all g.T.Ord.cmp (items c.args.spine.now) c.loop-item.rest c.loop-item.last.now (c.loop-item.invariant.up told) none

pub returns-clause-other : goal.returns-clause-other
returns-clause-other g c = c.loop-item.invariant.other
