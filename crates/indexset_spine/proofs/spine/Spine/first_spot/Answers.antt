use Rattle.std.proofs.Common.{refl, arith}
use Rattle.indexset_spine.proofs.NodeListEdits.{first_in}
use Rattle.indexset_spine.proofs.NodeListLemmas.{spine_len}
use Rattle.indexset_spine.proofs.spine.Spine.first_spot.Goals as goal

pub returns-then-self-eq0 : goal.returns-then-self-eq0
returns-then-self-eq0 g c = omega (arith, spine_len _ _ _ c.args.self.now c.self.view_is c.self.invariant.is_spine)

pub returns : goal.returns
returns g c =
    let long = rw (← c.self.view_is) at (spine_len _ _ _ c.args.self.now c.self.view_is c.self.invariant.is_spine) in
    rw (← c.self.view_is) (first_in _ _ c.self.invariant.is_spine.is_cut (omega (arith, long)), refl, refl)
