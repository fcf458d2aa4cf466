-- The item at a spot of a list that is partitioned into nodes, and the one after the end of a node.
use Rattle.std.proofs.Common.{◌≡◌, ℕ, zero, suc, ◌+◌, ◌<◌, ◌≤◌, List, [], ◌∷◌, ◌++◌, length, take, slice_get, Some, None, refl, sym, ap, ◌∙◌, arith, length-append}
use Rattle.std.specs.List.{All}
use Rattle.std.proofs.lemmas.List.{length-map}
use Rattle.std.proofs.lemmas.Option.{slice_get_within, none-some}
use Rattle.indexset_core.proofs.CallerLemmas.{slice_get-left, slice_get-right}
use Rattle.indexset_core.specs.Nodes.{concat, node_lengths, node_at}
use Rattle.indexset_spine.specs.NodeList.{AreNodeLengths}

module _ {X : Type 0} where
  -- an item of a node, in the whole list
  pub joined_at : (ns : List (List X)) (k o : ℕ) (x : X) → slice_get (node_at ns k) o ≡ Some x → slice_get (concat ns) (length (concat (take k ns)) + o) ≡ Some x
  joined_at [] k o x h = absurd (none-some x h)
  joined_at (n ∷ ns) zero o x h =
      let at : 0 + o ≡ o = omega arith in let lt : o < length n = slice_get_within n o x h in
      ap (slice_get (n ++ concat ns)) at ∙ slice_get-left n (concat ns) o lt ∙ h
  joined_at (n ∷ ns) (suc k) o x h =
      let at : length (n ++ concat (take k ns)) + o ≡ length n + (length (concat (take k ns)) + o) = omega (arith, length-append n (concat (take k ns))) in
      slice_get-right n (concat ns) _ _ at ∙ joined_at ns k o x h

  none_end : (n : List X) (o : ℕ) → o ≤ length n → slice_get n o ≡ None → o ≡ length n
  none_end [] o le h = omega arith
  none_end (x ∷ xs) zero le h = absurd (none-some x (sym h))
  none_end (x ∷ xs) (suc o) le h = omega (arith, none_end xs o (omega arith) h)

  first_of : (ns : List (List X)) → (0 < length ns → 1 ≤ length (node_at ns 0)) → slice_get (concat ns) 0 ≡ slice_get (node_at ns 0) 0
  first_of [] filled = refl
  first_of ([] ∷ ns) filled = absurd (omega (arith, filled (omega arith)))
  first_of ((x ∷ xs) ∷ ns) filled = refl

  -- after the end of a node comes the first item of the next
  pub joined_next : (ns : List (List X)) (k o : ℕ) → k < length ns → o ≤ length (node_at ns k)
      → (suc k < length ns → 1 ≤ length (node_at ns (suc k))) → slice_get (node_at ns k) o ≡ None
      → slice_get (concat ns) (length (concat (take k ns)) + o) ≡ slice_get (node_at ns (suc k)) 0
  joined_next [] k o lt le filled h = absurd (omega arith)
  joined_next (n ∷ ns) zero o lt le filled h =
      let at : 0 + o ≡ length n + 0 = omega (arith, none_end n o le h) in
      slice_get-right n (concat ns) _ _ at ∙ first_of ns (λ more. filled (omega arith))
  joined_next (n ∷ ns) (suc k) o lt le filled h =
      let at : length (n ++ concat (take k ns)) + o ≡ length n + (length (concat (take k ns)) + o) = omega (arith, length-append n (concat (take k ns))) in
      slice_get-right n (concat ns) _ _ at ∙ joined_next ns k o (omega arith) le (λ more. filled (omega arith)) h

  node_filled : (ns : List (List X)) (k : ℕ) → k < length ns → All (λ n. 1 ≤ n) (node_lengths ns) → 1 ≤ length (node_at ns k)
  node_filled [] k lt all = absurd (omega arith)
  node_filled (n ∷ ns) zero lt all = all 0 0 (omega arith)
  node_filled (n ∷ ns) (suc k) lt all = node_filled ns k (omega arith) (λ i d low. all (suc i) d (omega arith))

  -- a node that is not the first has an item
  pub later_filled : (ns : List (List X)) (size k : ℕ) → AreNodeLengths (node_lengths ns) size → suc k < length ns → 1 ≤ length (node_at ns (suc k))
  later_filled ns size k cut lt =
      let all = cut.filled (omega (arith, length-map ns (λ (n : List X). length n))) in
      node_filled ns (suc k) lt all
