use Rattle.std.proofs.Common.{length, ap, ◌∙◌, sym}
use Rattle.indexset_index.proofs.LengthLemmas.{length-read}
use Rattle.indexset_index.proofs.fenwick.length_at.Goals as goal

pub returns : goal.returns
returns g c = ap length c.items_of.ensures ∙ sym (length-read g.R.NodeItems.list c.args.nodes.now c.args.i c.index-nodes-i.result c.requires c.index-nodes-i.is)
