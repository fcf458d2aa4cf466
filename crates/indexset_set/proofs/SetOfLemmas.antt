-- A set of clones of the elements that an iterator yields.
use Rattle.std.proofs.Common.{◌≡◌, ℕ, List, [], ◌∷◌, ◌++◌, map, Ordering, Result, Ok, Err, IfErr, IfOk, MatchResult, sym, ap, ◌∙◌}
use Rattle.std.specs.Borrow.{Bor}
use Rattle.std.specs.Iterator.{Drains}
use Rattle.std.specs.List.{AllZip, fold}
use Rattle.std.specs.Map.Iter.{TakesFirst, deref}
use Rattle.std.proofs.lemmas.List.{append-nil}
use Rattle.std.proofs.lemmas.List.Elements.{same_from_all_zip}
use Rattle.std.proofs.lemmas.Map.Iter.{rest_so_far}
use Rattle.indexset_core.specs.Order.{IsAscending, keep}
use Rattle.indexset_spine.specs.NodeList.{NodeList, node_list, items}
use Rattle.indexset_set.specs.SetCopy.{IsSetOf}
use Rattle.indexset_set.specs.SetNodes.{nodes_kept_all}
use Rattle.indexset_set.proofs.SetCopyLemmas.{kept_all_behind}

-- the elements yielded up to the end are the remaining ones
pub shown : {T : Type 0} (s : List T) (given : List (Bor T)) → Drains (TakesFirst (deref {X = T})) s given → map deref given ≡ s
shown s given (u, (t, came, last)) = sym (rest_so_far deref given s t came ∙ ap (λ rest. map deref given ++ rest) last.0 ∙ append-nil (map deref given))

module _ {T : Type 0} (cmp : T → T → Ordering) (C : T → T → Type 0) (xs : List T) (up : IsAscending cmp xs) (clones : List T) (cloned : AllZip C xs clones) where
  pub set_of : (size : ℕ) (s : NodeList T) → items s ≡ fold (keep cmp) [] clones → s.nodes ≡ nodes_kept_all cmp (node_list ([] ∷ []) size) clones → s.size ≡ size → IsSetOf cmp C xs size s
  set_of size s elements nodes same_size = record {
    clones = clones;
    cloned = cloned;
    elements = elements;
    nodes = nodes;
    same = λ identical.
        let is : clones ≡ xs = same_from_all_zip C xs clones cloned identical in
        elements ∙ ap (fold (keep cmp) []) is ∙ kept_all_behind cmp [] xs up;
    size = same_size;
  }

  -- the result of a call for the clones
  pub made_set : {E : Type 0} (cause : E) (size : ℕ) (r : Result (NodeList T) E)
      → IfOk r (λ s. items s ≡ fold (keep cmp) [] clones)
      → IfOk r (λ s. s.nodes ≡ nodes_kept_all cmp (node_list ([] ∷ []) size) clones)
      → IfOk r (λ s. s.size ≡ size) → IfErr r (λ e. e ≡ cause) → MatchResult r (IsSetOf cmp C xs size) (λ e. e ≡ cause)
  made_set cause size (Ok s) elements nodes same_size refused = set_of size s elements nodes same_size
  made_set cause size (Err e) elements nodes same_size refused = refused
