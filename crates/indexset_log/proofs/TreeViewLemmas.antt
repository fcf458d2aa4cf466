-- A tree in its contract, and as the code holds it.
use Rattle.std.proofs.Common.{◌≡◌, ℕ, ◌+◌, ◌-◌, ◌<◌, ◌≤◌, Option, Some, None, List, cond, map, length, get_or, slice_get, take, Ordering, ap, refl, subst, sym, ◌∙◌, arith}
use Rattle.std.specs.Cmp.{IsTotalOrder}
use Rattle.std.specs.Iterator.Runs.{ItemsAre, Run}
use Rattle.std.proofs.lemmas.List.{get_or-take, length-take-le, same_lists}
use Rattle.std.proofs.lemmas.Option.{same_Some}
use Rattle.indexset_core.specs.Nodes.{IsLawful, concat, node_at, node_lengths}
use Rattle.indexset_core.specs.Order.{has_equal}
use Rattle.indexset_events.specs.Attach.{attach_refusal, attached}
use Rattle.indexset_events.specs.Edits.{with_put, with_removed}
use Rattle.std.proofs.lemmas.Bool.Decides.{nat_tests}
use Rattle.std.below.core.specs.declared.int.u64.TheConstants.{MAX}
use Rattle.indexset_core.specs.declared.refusal.Refusal.TheVariants.{Numbers}
use Rattle.indexset_index.specs.Blocks.{block_sums}
use Rattle.indexset_log.specs.Tree.{Tree, IsIndexedTree, IsTree, refusal_for}
use Rattle.indexset_events.proofs.CallerLemmas.{added, length_view, node_is, put_counted, put_lawful, taken_counted, taken_lawful}

-- a call fails with `Numbers` only if its events do not fit the counter
pub ran_out : (next count : ℕ) → Numbers ≡ refusal_for next count → MAX < next + count
ran_out next count refused = grind (arith, nat_tests)

-- a run that reads a list yields a prefix of it
pub front_of_run : {S A : Type 0} {steps : S → Option A → S → Type 0} (p : Run steps) (xs : List A) → ItemsAre p xs → p.items ≡ take p.len xs
front_of_run p xs are =
    same_lists p.items (take p.len xs) (sym p.long ∙ sym (length-take-le p.len xs are.0)) (λ k d inside.
    let here : k < p.len = omega (arith, p.long, inside) in
    same_Some _ _ (sym (p.reads k d here) ∙ are.2 k d here) ∙ sym (get_or-take p.len xs k d here))

-- the premises of the lemmas, from the facts that a caller has
pub tree_of : {T : Type 0} {cmp : T → T → Ordering} {size : ℕ} {ns : List (List T)} → IsLawful cmp size ns → 2 ≤ size → IsTree cmp size ns size (length (concat ns))
tree_of law two = record { lawful = law; two = two; within = omega arith; counted = refl }

-- the tree as the code holds it, where f gives the list of a node
pub record Held {T N : Type 0} (cmp : T → T → Ordering) (most : ℕ) (f : N → List T) (items : List N) (size len next : ℕ) (index : List ℕ) (t : Tree T) : Type 0 where
  pub same : map f items ≡ t.nodes
  pub many : length t.nodes ≡ length items
  pub sized : size ≡ t.size
  pub numbered : next ≡ t.next
  pub rule : IsTree cmp most t.nodes t.size len
  pub indexed : index ≡ block_sums (node_lengths t.nodes)

module _ {T N : Type 0} {cmp : T → T → Ordering} {most size len next : ℕ} {index : List ℕ} {t : Tree T} where
  pub held : (f : N → List T) (items : List N)
      → (let seen : Tree T = record { nodes = map f items; size = size; next = next } in seen) ≡ t
      → IsIndexedTree cmp most (map f items) size len index → Held cmp most f items size len next index t
  held f items seen rule = record {
    same = ap (λ t. t.nodes) seen;
    many = length_view f items t.nodes (ap (λ t. t.nodes) seen);
    sized = ap (λ t. t.size) seen;
    numbered = ap (λ t. t.next) seen;
    rule = subst (λ t. IsTree cmp most t.nodes t.size len) seen rule.tree;
    indexed = subst (λ t. index ≡ block_sums (node_lengths t.nodes)) seen rule.index_is;
  }

  -- the node at a place, as the code reads it
  pub node_held : {f : N → List T} {items : List N} {n : N} → Held cmp most f items size len next index t → (k : ℕ) → k < length t.nodes → n ≡ get_or items k n → f n ≡ node_at t.nodes k
  node_held {f = f} {items = items} {n = n} h k lt is = node_is f items t.nodes k n h.same (omega (arith, lt, h.many)) is

-- the invariant of a tree after a put, after a removal, and after the insertion of a node
pub put_tree : {T : Type 0} {cmp : T → T → Ordering} {most size len : ℕ} {ns : List (List T)} (o : IsTotalOrder cmp)
    → IsTree cmp most ns size len → (v : T)
    → IsTree cmp most (with_put cmp size ns v) size (len + cond (has_equal cmp (concat ns) v) 0 1)
put_tree o t v = record { lawful = put_lawful o t.two t.lawful v; two = t.two; within = t.within; counted = omega (arith, t.counted, put_counted o t.two t.lawful v) }

pub taken_tree : {T : Type 0} {cmp : T → T → Ordering} {size : ℕ} {ns : List (List T)} (o : IsTotalOrder cmp)
    (law : IsLawful cmp size ns) (k i : ℕ) {x : T}
    → k < length ns → slice_get (node_at ns k) i ≡ Some x → {most len : ℕ} → IsTree cmp most ns size len
    → IsTree cmp most (with_removed size ns k i) size (len - 1)
taken_tree o law k i inside here t = record { lawful = taken_lawful o law k i inside here; two = t.two; within = t.within; counted = omega (arith, t.counted, taken_counted o law k i inside here) }

pub attached_tree : {T : Type 0} (cmp : T → T → Ordering) (o : IsTotalOrder cmp) (size : ℕ) (ns : List (List T))
    {most len : ℕ} (n : List T)
    → IsTree cmp most ns size len → attach_refusal cmp size ns n ≡ None
    → IsTree cmp most (attached cmp ns n) size (len + length n)
attached_tree cmp o size ns n t h =
    let d = added cmp o size ns n t.lawful h in
    record { lawful = d.lawful; two = t.two; within = t.within; counted = omega (arith, t.counted, d.counted) }
