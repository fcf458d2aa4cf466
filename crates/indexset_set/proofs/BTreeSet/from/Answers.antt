use Rattle.std.proofs.Common.{◌≡◌, IfOk, [], refl, sym, ap, ◌∙◌, subst}
use Rattle.std.specs.List.{fold}
use Rattle.indexset_core.specs.Order.{IsAscending, keep}
use Rattle.indexset_spine.specs.NodeList.{items}
use Rattle.indexset_set.proofs.SetCopyLemmas.{kept_all_behind}
use Rattle.indexset_set.proofs.BTreeSet.from.Goals as goal

pub returns-then-is_sorted-clause-kept : goal.returns-then-is_sorted-clause-kept
returns-then-is_sorted-clause-kept g c =
    let cmp = g.T.Ord.cmp in
    let xs = c.in_ok-values.values.items in
    let up : IsAscending cmp xs = subst (IsAscending cmp) c.as_slice.ensures.value (c.if-is_sorted.ensures.ascending refl) in
    subst (λ l. IfOk c.of_ascending.result (λ s. items s ≡ l)) (sym (kept_all_behind cmp [] xs up) ∙ ap (fold (keep cmp) []) c.in_ok-values.ensures) c.of_ascending.ensures.elements
