use Rattle.std.proofs.Common.{◌∙◌, subst}
use Rattle.std.specs.List.{AllZip}
use Rattle.indexset_core.specs.Order.{IsAscending}
use Rattle.indexset_core.specs.declared.refusal.Refusal.TheVariants.{Memory}
use Rattle.indexset_spine.specs.NodeList.{items}
use Rattle.indexset_set.specs.SetAlgebra.{symmetric_difference}
use Rattle.indexset_set.proofs.SetAlgebraLaws.{apart_ascending}
use Rattle.indexset_set.proofs.SetOfLemmas.{made_set, shown}
use Rattle.indexset_set.proofs.algebra.operators.RefBTreeSetBitXor.bitxor.Goals as goal

pub returns : goal.returns
returns g c =
    let cmp = g.T.Ord.cmp in
    let xs = symmetric_difference cmp (items c.args.self.now) (items c.args.other.now) in
    let came = c.in_ok-clones.ensures in
    let clones = c.in_ok-clones.clones.items in
    let cloned : AllZip g.T.Clone.is_clone xs clones =
    subst (λ l. AllZip g.T.Clone.is_clone l clones)
    (shown c.symmetric_difference.result came.0 came.1 ∙ c.symmetric_difference.ensures.rest) came.2 in
    let first : IsAscending cmp (items c.args.self.now) = rw (← c.self.view_is) c.self.invariant in
    let up : IsAscending cmp xs = apart_ascending cmp g.met.T.Ord.total (items c.args.self.now) (items c.args.other.now) first in
    let made = c.made_like.ensures in
    made_set cmp g.T.Clone.is_clone xs up clones cloned Memory c.args.self.now.size c.made_like.result made.kept made.nodes made.size made.refusal
