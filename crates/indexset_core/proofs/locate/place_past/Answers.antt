use Rattle.std.proofs.Common.{map}
use Rattle.indexset_core.specs.Nodes.{concat}
use Rattle.indexset_core.proofs.LocateLemmas.{only_node}
use Rattle.indexset_core.proofs.PartedLemmas.{parted_past}
use Rattle.indexset_core.proofs.locate.place_past.Goals as goal

pub not_greater_len-requires : goal.not_greater_len-requires
not_greater_len-requires g c = rw (c.items_of-items.ensures, ← (only_node g.R.NodeItems.list c.args.nodes.now c.index-nodes-0.result c.if-nodes-eq1.true c.index-nodes-0.is).0) c.requires.parted

pub place_by-requires-clause-parted : goal.place_by-requires-clause-parted
place_by-requires-clause-parted g c =
    rw c.new.ensures (parted_past (g.P.Probe.answer c.args.probe) (concat (map g.R.NodeItems.list c.args.nodes.now)) c.requires.parted)
