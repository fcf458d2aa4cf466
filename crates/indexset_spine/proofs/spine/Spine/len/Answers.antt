use Rattle.indexset_spine.proofs.NodeListLemmas.{spine_len}
use Rattle.indexset_spine.proofs.spine.Spine.len.Goals as goal

pub returns : goal.returns
returns g c = spine_len _ _ _ c.args.self.now c.self.view_is c.self.invariant.is_spine
