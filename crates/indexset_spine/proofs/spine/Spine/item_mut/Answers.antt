use Rattle.std.proofs.Common.{refl}
use Rattle.indexset_spine.proofs.NodeListLemmas.{spot_keeps, spot_writes, spot_reads}
use Rattle.indexset_spine.proofs.spine.Spine.item_mut.Goals as goal

pub invariant_of-self-lent : goal.invariant_of-self-lent
invariant_of-self-lent g c =
    λ w. spot_keeps _ _ c.args.self.now c.args.spot _ w c.self.view_is c.requires c.index_mut-items.ensures.value _ _ c.self.invariant

pub returns : goal.returns
returns g c = (
  (refl, λ w. spot_writes _ _ c.args.self.now c.args.spot _ w c.self.view_is c.requires c.index_mut-items.ensures.value _ refl),
  record {
    writes_back = tt;
    value = spot_reads _ _ c.args.self.now c.args.spot _ _ c.self.view_is c.requires c.index_mut-items.ensures.value c.index_mut.ensures.value;
  },
)
