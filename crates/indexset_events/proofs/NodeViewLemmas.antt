-- Lawful nodes, and the nodes as the code holds them.
use Rattle.std.specs.Cmp.{IsTotalOrder}
use Rattle.std.specs.List.{All}
use Rattle.std.specs.Ordering.{is_lt}
use Rattle.std.proofs.lemmas.List.{get_or-map, length-map}
use Rattle.indexset_core.specs.Order.{IsAscending}
use Rattle.indexset_events.specs.Nodes.{is_filled}
use Rattle.indexset_events.proofs.AscendingListLemmas.{each_all, lawful_ruled, filled_length, length_filled, lawful_bounded}
use Rattle.indexset_events.proofs.ReplayTheorem.{no_last}
use Rattle.std.proofs.Common.{◌≡◌, ℕ, ◌-◌, ◌<◌, ◌≤◌, true, List, [], length, map, get_or, slice_get, Some, None, Ordering, refl, ap, sym, ◌∙◌, arith}
use Rattle.indexset_core.specs.Nodes.{concat, node_lengths, node_at, ends_less, IsLawful, IsNodeList}
use Rattle.indexset_core.specs.Parted.{IsParted}
use Rattle.indexset_core.proofs.CallerLemmas.{parted_by_item}

-- the nodes as the code holds them, where f gives the list of each
module _ {T N : Type 0} (f : N → List T) (ns : List N) (k : ℕ) (n : N) (lt : k < length ns) (is : n ≡ get_or ns k n) where
  pub view_at : (d : List T) → get_or (map f ns) k d ≡ f n
  view_at d = get_or-map f ns k n d lt ∙ ap f (sym is)

  pub ends_at : (answer : T → Ordering) (x : T) → slice_get (f n) (length (f n) - 1) ≡ Some x → (d : List T) → ends_less answer (get_or (map f ns) k d) ≡ is_lt (answer x)
  ends_at answer x e d = ap (λ n. ends_less answer n) (view_at d) ∙ rw e refl

  pub filled_here : All (λ n. 1 ≤ n) (node_lengths (map f ns)) → 1 ≤ length (f n)
  filled_here filled =
      let len : List T → ℕ = λ n. length n in
      let within : k < length (map f ns) = rw (length-map ns f) lt in
      let here : get_or (node_lengths (map f ns)) k 0 ≡ length (f n) = get_or-map len (map f ns) k [] 0 within ∙ ap len (view_at []) in
      omega (arith, here, filled k 0 (rw (length-map (map f ns) len) within))

  pub never_none : All (λ n. 1 ≤ n) (node_lengths (map f ns)) → slice_get (f n) (length (f n) - 1) ≡ None → ⊥
  never_none filled none = no_last (f n) (length_filled (f n) (filled_here filled)) none

-- the node at an index that the code reads
pub node_is : {T N : Type 0} (f : N → List T) (items : List N) (nodes : List (List T)) (k : ℕ) (n : N) → map f items ≡ nodes → k < length items → n ≡ get_or items k n → f n ≡ node_at nodes k
node_is f items nodes k n same lt is = sym (view_at f items k n lt is []) ∙ ap (λ q. node_at q k) same

pub length_view : {T N : Type 0} (f : N → List T) (items : List N) (nodes : List (List T)) → map f items ≡ nodes → length nodes ≡ length items
length_view f items nodes same = ap (λ q. length q) (sym same) ∙ length-map items f

module _ {T : Type 0} (cmp : T → T → Ordering) where
  module _ (size : ℕ) (ns : List (List T)) (law : IsLawful cmp size ns) where
    pub lawful_filled : All (λ n. 1 ≤ n) (node_lengths ns)
    lawful_filled = let nodes : IsNodeList cmp ns = law.nodes in nodes.filled

    pub lawful_small : (k : ℕ) → k < length ns → length (node_at ns k) ≤ size
    lawful_small k lt = each_all _ ns (lawful_bounded cmp size ns law) k [] lt

    pub node_some : (k : ℕ) → k < length ns → 1 ≤ length (node_at ns k)
    node_some k lt = let rule = lawful_ruled cmp size ns law in filled_length _ (each_all (λ n. is_filled n ≡ true) ns rule.filled k [] lt)

    pub lawful_ascends : IsAscending cmp (concat ns)
    lawful_ascends = let nodes : IsNodeList cmp ns = law.nodes in nodes.ascending

    pub lawful_parted : IsTotalOrder cmp → (v : T) → IsParted (λ x. cmp x v) (concat ns)
    lawful_parted o v = parted_by_item cmp o (concat ns) lawful_ascends v
