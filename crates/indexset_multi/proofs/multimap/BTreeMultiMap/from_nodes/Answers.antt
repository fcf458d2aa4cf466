use Rattle.std.proofs.Common.{◌≡◌, IfErr, Some, false, true, ap, map, refl, rules}
use Rattle.indexset_core.specs.declared.refusal.Refusal.TheVariants.{PairNumber}
use Rattle.indexset_core.specs.Nodes.{concat}
use Rattle.indexset_multi.specs.Attach.{free_number, has_greatest, pair_nodes_refusal}
use Rattle.indexset_multi.proofs.PairNumberLemmas.{below_free}
use Rattle.indexset_multi.proofs.multimap.BTreeMultiMap.from_nodes.Goals as goal

pub returns-in_err-set-clause-refusal : goal.returns-in_err-set-clause-refusal
returns-in_err-set-clause-refusal g c =
    let pairs = concat (map g.Node.NodeLike.list c.args.nodes.items) in
    let none : has_greatest pairs ≡ false = rw c.as_slice.ensures.value at c.in-Some.ensures.0 in
    let told : IfErr c.from_residual.result (λ e. e.cause ≡ c.in_err-set.field-0.0.cause) = search rules in
    rw (none, ← c.in_err-set.ensures.refusal) told

pub returns-in_default : goal.returns-in_default
returns-in_default g c =
    let ns = map g.Node.NodeLike.list c.args.nodes.items in
    let greatest : has_greatest (concat ns) ≡ true = rw c.as_slice.ensures.value at c.in_default.ensures in
    let refused : pair_nodes_refusal g.K.Ord.cmp c.args.size ns ≡ Some PairNumber = rw greatest refl in
    record {
      tree = tt;
      good = tt;
      refusal = rw refused refl;
      given_back = refl;
    }

pub invariant_of-result : goal.invariant_of-result
invariant_of-result g c =
    let pairs = concat (map g.Node.NodeLike.list c.args.nodes.items) in
    let same : concat c.in_ok-set.set.nodes ≡ pairs = ap (λ t. concat t.nodes) c.in_ok-set.ensures.tree in
    let free : c.in-Some.pair_next ≡ free_number pairs = rw c.as_slice.ensures.value at c.in-Some.ensures.1 in
    rw (same, free) (below_free pairs)
