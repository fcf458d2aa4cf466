use Rattle.std.proofs.Common.{Some, sym, ap, ◌∙◌}
use Rattle.std.specs.Cmp.Lexicographic.{lists_agrees}
use Rattle.indexset_spine.specs.NodeList.{items}
use Rattle.indexset_set.proofs.compare.BTreeSetPartialOrd.partial_cmp.Goals as goal

pub returns : goal.returns
returns g c = ap Some c.cmp.ensures ∙ sym (lists_agrees g.met.T.Ord.matches_partial_cmp (items c.args.self.now) (items c.args.other.now))
