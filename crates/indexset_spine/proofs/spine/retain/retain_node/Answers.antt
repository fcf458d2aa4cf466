use Rattle.std.proofs.Common.{◌≡◌, ◌+◌, ◌-◌, ◌<◌, length, get_or, arith, of_calls}
use Rattle.std.specs.Fn.{CalledAtMut}
use Rattle.std.proofs.lemmas.List.{get_or_default, with_items_is}
use Rattle.std.proofs.RetainMut.{Called-Mut}
use Rattle.indexset_spine.proofs.RetainSteps.{sifted_all, sifted_out, sifted_stays, sifted_moves}
use Rattle.indexset_spine.proofs.spine.retain.retain_node.Goals.{then-not-f, else-not-f+then-gone-gt0, else-not-f+else-gone-gt0}
use Rattle.indexset_spine.proofs.spine.retain.retain_node.Goals as goal

pub loop-i-preserved : goal.loop-i-preserved
loop-i-preserved g c =
    let at = c.loop-i in
    let k = at.i - at.gone in
    let R = CalledAtMut g.F.FnMut in
    let called = Called-Mut g.F.FnMut c.f.ensures in
    let inside : at.i < length at.items = omega arith in
    let x = get_or at.items at.i c.index-items-i.result in
    let read = get_or_default at.items at.i c.index-items-i.result x inside in
    let more : at.i + 1 - at.gone ≡ k + 1 = omega arith in
    elim c.if-not-f.branch [
      | then-not-f w ↦ record {
        within = omega (arith, w.gone-is);
        callable = search of_calls;
        sifted =
            let same : at.i + 1 - (at.gone + 1) ≡ k = omega arith in
            rw (w.items-is, w.gone-is, same) (sifted_out R _ _ at.f _ at.items k at.i x _ (omega arith) inside read at.invariant.sifted (rw w.if-not-f.true at called));
      }
      | else-not-f+then-gone-gt0 w ↦ record {
        within = omega (arith, w.gone-is);
        callable = search of_calls;
        sifted =
            rw (w.items-is, w.gone-is, w.swap.ensures.after, more)
            (sifted_moves R _ _ at.f _ at.items k at.i x _ (omega arith) inside read at.invariant.sifted
            (omega (arith, w.if-gone-gt0.true)) (rw w.if-not-f.false at called));
      }
      | else-not-f+else-gone-gt0 w ↦ record {
        within = omega (arith, w.gone-is);
        callable = search of_calls;
        sifted =
            rw (w.items-is, w.gone-is, more)
            (sifted_stays R _ _ at.f _ at.items k at.i x _ (omega arith) inside read at.invariant.sifted
            (omega (arith, w.if-gone-gt0.false)) (rw w.if-not-f.false at called));
      }
    ]

pub returns-clause-kept : goal.returns-clause-kept
returns-clause-kept g c =
    let at = c.loop-i in
    let whole = with_items_is c.args.node.now at.items (omega (arith, c.as_mut_slice-items.ensures.len)) in
    let ended : length at.items ≡ at.i = omega arith in
    rw (c.truncate.ensures.items, whole, ended)
    (rw
    c.as_mut_slice-items.ensures.value at
    (sifted_all (CalledAtMut g.F.FnMut) _ _ at.f at.items (at.i - at.gone) at.i (omega arith) at.invariant.sifted))
