-- The result of a search for an item.
use Rattle.std.specs.Cmp.{IsTotalOrder}
use Rattle.std.specs.Result.{result_ok}
use Rattle.std.specs.Prelude.{MatchOption}
use Rattle.indexset_core.specs.Order.{has_equal, equal_element}
use Rattle.indexset_events.specs.Located.{IsFoundIn}
use Rattle.indexset_events.proofs.RemovalLemmas.{some_read}
use Rattle.indexset_events.proofs.NodeViewLemmas.{lawful_ascends, lawful_filled}
use Rattle.std.proofs.Common.{◌≡◌, ℕ, suc, ◌≤◌, List, [], ◌∷◌, length, Result, Ok, Err, Ordering, Option, Some, None, is_some, ap, sym, ◌∙◌, arith, length-append, refl}
use Rattle.std.specs.List.{All}
use Rattle.std.specs.Ordering.{is_eq}
use Rattle.indexset_core.specs.Nodes.{concat, node_lengths, node_at, IsLawful}
use Rattle.indexset_core.specs.Places.{located}
use Rattle.indexset_core.proofs.CallerLemmas.{end_at, end_found, end_node, end_read, gap_found, is_some-find, located_found, parted_by_sought, parted_node}
use Rattle.indexset_core.specs.Parted.{IsParted}
use Rattle.indexset_core.specs.LookupKey.{OrdersAsItem, acts_as_itself}

-- as the code returns it
module _ {T Q : Type 0} {cmp : T → T → Ordering} {order : T → Q → Ordering} {among : Q → Q → Ordering}
    (acts : OrdersAsItem cmp order among) (v : Q) (size : ℕ) (ns : List (List T)) (law : IsLawful cmp size ns) where
  abbrev answer : T → Ordering
  answer x = order x v

  parted : IsParted answer (concat ns)
  parted = parted_by_sought acts (concat ns) (lawful_ascends cmp size ns law) v

  pub sought_at : (r : Result (ℕ × ℕ) (ℕ × ℕ)) → r ≡ located answer ns → (p : ℕ × ℕ) → r ≡ Ok p → IsFoundIn order ns v p.0 p.1
  sought_at r e p is =
      let filled = lawful_filled cmp size ns law in
      let end = end_at answer ns filled parted r e p is in
      let inside = end_node answer ns filled parted r e p is in
      record {
        node_in = inside;
        node_is = end.node_is;
        here = located_found order (node_at ns p.0) v p.1 (parted_node answer ns p.0 inside parted) end.offset_is (rw (end_read answer ns filled parted r e p is) at end.equal);
        item = sym (end_found answer ns filled parted r e p is);
      }

  pub sought_told : (r : Result (ℕ × ℕ) (ℕ × ℕ)) → r ≡ located answer ns → MatchOption (result_ok r) (equal_element order (concat ns) v ≡ None) (λ p. IsFoundIn order ns v p.0 p.1)
  sought_told (Ok p) e = sought_at (Ok p) e p refl
  sought_told (Err p) e = gap_found answer ns (lawful_filled cmp size ns law) parted (Err p) e p refl

-- the same for an item
pub found_at : {T : Type 0} (cmp : T → T → Ordering) → IsTotalOrder cmp → (v : T) (size : ℕ) (ns : List (List T))
    → IsLawful cmp size ns → (r : Result (ℕ × ℕ) (ℕ × ℕ)) → r ≡ located (λ x. cmp x v) ns → (p : ℕ × ℕ) → r ≡ Ok p
    → IsFoundIn cmp ns v p.0 p.1
found_at cmp o v size ns law = sought_at (acts_as_itself o) v size ns law

pub found_is : {T Q : Type 0} (cmp : T → Q → Ordering) (v : Q) (ns : List (List T)) (s : Option (ℕ × ℕ))
    → MatchOption s (equal_element cmp (concat ns) v ≡ None) (λ p. IsFoundIn cmp ns v p.0 p.1)
    → is_some s ≡ has_equal cmp (concat ns) v
found_is cmp v ns None h = ap is_some (sym h) ∙ is_some-find (λ x. is_eq (cmp x v)) (concat ns)
found_is cmp v ns (Some p) h = ap is_some (sym (some_read (node_at ns p.0) p.1 h.here.inside).1 ∙ h.item) ∙ is_some-find (λ x. is_eq (cmp x v)) (concat ns)

-- no more nodes than items
pub nodes_at_most : {T : Type 0} (ns : List (List T)) → All (λ n. 1 ≤ n) (node_lengths ns) → length ns ≤ length (concat ns)
nodes_at_most [] filled = omega arith
nodes_at_most (n ∷ ns) filled =
    let rest = nodes_at_most ns (λ k d lt. filled (suc k) d (omega arith)) in
    omega (arith, rest, length-append n (concat ns), filled 0 0 (omega arith))
