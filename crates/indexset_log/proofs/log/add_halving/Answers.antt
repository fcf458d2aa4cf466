use Rattle.std.proofs.Common.{◌-◌, length, arith, refl}
use Rattle.std.proofs.lemmas.Bool.{eq-eqb}
use Rattle.indexset_core.proofs.CallerLemmas.{read_item}
use Rattle.indexset_events.specs.Nodes.{last_of}
use Rattle.indexset_events.proofs.CallerLemmas.{last_some}
use Rattle.indexset_log.proofs.log.add_halving.Goals as goal

pub add-requires : goal.add-requires
add-requires g c =
    omega (arith, rw (eq-eqb (length c.args.items.now) c.args.size c.if-items-size.true) at c.requires.fits)

pub returns-in_ok-add-clause-clones : goal.returns-in_ok-add-clause-clones
returns-in_ok-add-clause-clones g c v =
    let n = c.args.items.now in
    let y = c.index-items-items.result in
    let last = read_item n (length n - 1) y (omega (arith, c.requires.some)) c.index-items-items.is in
    let name : g.T.Clone.is_clone (last_of n v) c.in_ok-clone.field-0 = rw (last_some n v y last) c.in_ok-clone.ensures.cases in
    rw (eq-eqb (length n) c.args.size c.if-items-size.true) (_, c.in_ok-add.ensures.events, ((refl, (name, tt)), tt))
