use Rattle.std.proofs.Common.{◌≡◌, IfOk, ◌∙◌, subst, rules}
use Rattle.std.specs.List.{dedup}
use Rattle.std.proofs.lemmas.Fn.{dedup_same}
use Rattle.indexset_spine.specs.NodeList.{items}
use Rattle.indexset_set.proofs.SetSortLemmas.{dedup_ascending, nodes_of_items, same, sorted_kept}
use Rattle.indexset_set.proofs.BTreeSet.from_unsorted.Goals as goal

pub of_ascending-requires : goal.of_ascending-requires
of_ascending-requires g c =
    let cmp = g.T.Ord.cmp in let o = g.met.T.Ord.total in
    let left : c.dedup_by.new.self.items ≡ dedup (same cmp o) c.sort.new.self.items = dedup_same _ (same cmp o) _ (λ x y b f' x' y' k. search rules) _ _ c.dedup_by.ensures.filtered in
    record { order = rw left (dedup_ascending cmp o c.args.values.items c.sort.new.self.items c.in_ok-sort.ensures.sorted) }

pub returns-clause-kept : goal.returns-clause-kept
returns-clause-kept g c =
    let cmp = g.T.Ord.cmp in let o = g.met.T.Ord.total in
    let left : c.dedup_by.new.self.items ≡ dedup (same cmp o) c.sort.new.self.items = dedup_same _ (same cmp o) _ (λ x y b f' x' y' k. search rules) _ _ c.dedup_by.ensures.filtered in
    subst (λ l. IfOk c.of_ascending.result (λ s. items s ≡ l))
    (left
    ∙ sorted_kept cmp o c.args.values.items c.sort.new.self.items c.in_ok-sort.ensures.sorted c.sort.ensures.stable)
    c.of_ascending.ensures.elements

pub returns-clause-nodes : goal.returns-clause-nodes
returns-clause-nodes g c =
    nodes_of_items g.T.Ord.cmp _ c.dedup_by.new.self.items c.of_ascending.result c.of_ascending.ensures.elements c.of_ascending.ensures.nodes
