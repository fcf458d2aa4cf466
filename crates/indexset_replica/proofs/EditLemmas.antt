-- The nodes of a replica after an event, and when an event does not apply.
use Rattle.std.proofs.Common.{◌≡◌, ℕ, ◌+◌, ◌<◌, ◌≤◌, true, false, not, cond, List, [], ◌∷◌, length}
use Rattle.std.proofs.Common.{map, get_or, slice_get, take, drop, set, insert, remove, ltb, leb}
use Rattle.std.proofs.Common.{eqb, Option, Some, None, Ordering, refl, ap, sym, ◌∙◌, add-one, arith}
use Rattle.std.proofs.lemmas.Option.{slice_get-get_or}
use Rattle.std.proofs.lemmas.List.{get_or_read, length-map, set_split}
use Rattle.std.specs.List.{position_or_len, splice}
use Rattle.std.specs.Ordering.{is_eq, is_ne}
use Rattle.std.specs.declared.cmp.Ordering.TheVariants.{Less, Equal, Greater}
use Rattle.std.proofs.lemmas.Bool.{lt-ltb, le-ltb, le-leb, lt-leb, eq-eqb, ne_eqb, ltb-true, or_right}
use Rattle.indexset_core.specs.Nodes.{concat, node_at}
use Rattle.indexset_core.specs.declared.refusal.Refusal.TheVariants.{NoSuchNode, IndexOutside, ValueDiffers, WouldBeEmpty, OutOfOrder, BadSplit, NotNeighbours}
use Rattle.indexset_events.specs.Merging.{with_merged}
use Rattle.indexset_events.specs.Nodes.{is_ascending}
use Rattle.indexset_events.specs.Replay.{has_name, node_named, reaches}
use Rattle.indexset_events.specs.declared.change.ChangeEventUnassigned.TheVariants.{InsertAt, RemoveAt, CreateNode, RemoveNode, SplitNode, MergeNodes}
use Rattle.indexset_events.proofs.CallerLemmas.{node_is}
use Rattle.indexset_replica.specs.Replica.{IsEdit, misfit}

pub some_inj : {X : Type 0} {x y : X} → Some x ≡ Some y → x ≡ y
some_inj e = cc

ne_eq : (a : Ordering) → is_eq a ≡ not (is_ne a)
ne_eq Less = refl
ne_eq Equal = refl
ne_eq Greater = refl

remove_splice : {X : Type 0} (xs : List X) (p : ℕ) → remove xs p ≡ splice xs p (p + 1) []
remove_splice xs p = rw add-one refl

set_splice : {X : Type 0} (xs : List X) (p : ℕ) (x : X) → p < length xs → set xs p x ≡ splice xs p (p + 1) (x ∷ [])
set_splice xs p x lt = rw add-one (set_split xs p x lt)

module _ {T : Type 0} (cmp : T → T → Ordering) (ns : List (List T)) (m : T) where
  -- no node has that name
  module _ (none : node_named cmp ns m ≡ None) where
    pub absent_insert : (v : T) (i : ℕ) → misfit cmp ns (InsertAt m v i) ≡ Some NoSuchNode
    unfolding misfit
    absent_insert v i = rw none refl

    pub absent_remove : (v : T) (i : ℕ) → misfit cmp ns (RemoveAt m v i) ≡ Some NoSuchNode
    unfolding misfit
    absent_remove v i = rw none refl

    pub absent_remove_node : misfit cmp ns (RemoveNode m) ≡ Some NoSuchNode
    unfolding misfit
    absent_remove_node = rw none refl

    pub absent_split : (k : ℕ) → misfit cmp ns (SplitNode m k) ≡ Some NoSuchNode
    unfolding misfit
    absent_split k = rw none refl

    pub absent_first : (w : T) → misfit cmp ns (MergeNodes m w) ≡ Some NoSuchNode
    unfolding misfit
    absent_first w = rw none refl

  -- the node at place p has that name
  module _ (p : ℕ) (named : node_named cmp ns m ≡ Some p) where
    pub named_inside : p < length ns
    named_inside =
        let place = position_or_len (has_name cmp m) ns in
        elim (ltb place (length ns)) as (λ t. ltb place (length ns) ≡ t → cond t (Some place) None ≡ Some p → p < length ns) [
          | true ↦ λ e h. let same : place ≡ p = some_inj h in omega (arith, ltb-true place (length ns) e, same)
          | false ↦ λ e h. absurd (none_some h)
        ] refl named
      where
        none_some : {x : ℕ} → (let n : Option ℕ = None in n) ≡ Some x → ⊥
        none_some e = cc

    pub remove_node_edit : IsEdit cmp ns (RemoveNode m) (remove ns p)
    unfolding misfit
    remove_node_edit = record { fits = rw named refl; edited = rw named (ap Some (sym (remove_splice ns p))) }

    pub split_start : (k : ℕ) → k ≡ 0 → misfit cmp ns (SplitNode m k) ≡ Some BadSplit
    unfolding misfit
    split_start k none = rw (named, eq-eqb k 0 none) refl

    -- the node that must follow it
    module _ (w : T) where
      pub absent_next : node_named cmp ns w ≡ None → misfit cmp ns (MergeNodes m w) ≡ Some NoSuchNode
      unfolding misfit
      absent_next none = rw (named, none) refl

      module _ (q : ℕ) (next : node_named cmp ns w ≡ Some q) where
        pub merge_apart : (q ≡ p + 1 → ⊥) → misfit cmp ns (MergeNodes m w) ≡ Some NotNeighbours
        unfolding misfit
        merge_apart apart = rw (named, next, ne_eqb q (p + 1) apart) refl

        pub merge_edit : q ≡ p + 1 → IsEdit cmp ns (MergeNodes m w) (with_merged ns p)
        unfolding misfit
        merge_edit follows = record { fits = rw (named, next, eq-eqb q (p + 1) follows) refl; edited = rw (named, next, eq-eqb q (p + 1) follows) refl }

-- the node of that name, as the code holds it
module _ {T N : Type 0} (cmp : T → T → Ordering) (f : N → List T) (items : List N) (m : T) (p : ℕ) (named : node_named cmp (map f items) m ≡ Some p) where
  pub held_inside : p < length items
  held_inside = omega (arith, named_inside cmp (map f items) m p named, length-map items f)

  module _ (n : N) (read : n ≡ get_or items p n) where
    pub held : node_at (map f items) p ≡ f n
    held = sym (node_is f items (map f items) p n refl held_inside read)

    pub held_at : slice_get items p ≡ Some n
    held_at = slice_get-get_or items p n held_inside ∙ ap Some (sym read)

    module _ (v : T) (i : ℕ) where
      pub insert_outside : length (f n) < i → misfit cmp (map f items) (InsertAt m v i) ≡ Some IndexOutside
      unfolding misfit
      insert_outside out = rw (named, held, lt-ltb (length (f n)) i out) refl

      module _ (inside : i ≤ length (f n)) where
        pub insert_disorder : is_ascending cmp
            (concat (splice (map f items) p (p + 1) (insert (node_at (map f items) p) i v ∷ [])))
            ≡ false
            → misfit cmp (map f items) (InsertAt m v i) ≡ Some OutOfOrder
        unfolding misfit
        insert_disorder bad = rw (named, held, le-ltb (length (f n)) i inside, le-leb i (length (f n)) inside, rw held at bad) refl

        pub insert_edit : is_ascending cmp
            (concat (splice (map f items) p (p + 1) (insert (node_at (map f items) p) i v ∷ [])))
            ≡ true
            → IsEdit cmp (map f items) (InsertAt m v i) (set (map f items) p (insert (f n) i v))
        unfolding misfit
        insert_edit good = record {
          fits = rw (named, held, le-ltb (length (f n)) i inside, le-leb i (length (f n)) inside, rw held at good) refl;
          edited = rw (named, held, le-leb i (length (f n)) inside) (ap Some (sym (set_splice (map f items) p (insert (f n) i v) (named_inside cmp (map f items) m p named))));
        }

      pub remove_outside : length (f n) ≤ i → misfit cmp (map f items) (RemoveAt m v i) ≡ Some IndexOutside
      unfolding misfit
      remove_outside out = rw (named, held, le-leb (length (f n)) i out) refl

      -- the item at the index is x
      module _ (inside : i < length (f n)) (x : T) (item_is : x ≡ get_or (f n) i x) where
        item : get_or (f n) i v ≡ x
        item = sym (get_or_read (f n) i x inside item_is v)

        pub remove_differs : is_ne (cmp x v) ≡ true → misfit cmp (map f items) (RemoveAt m v i) ≡ Some ValueDiffers
        unfolding misfit
        remove_differs other = rw (named, held, lt-leb (length (f n)) i inside, item, ne_eq (cmp x v) ∙ ap not other) refl

        module _ (same : is_ne (cmp x v) ≡ false) where
          equal : is_eq (cmp x v) ≡ true
          equal = ne_eq (cmp x v) ∙ ap not same

          pub remove_empty : length (f n) ≡ 1 → misfit cmp (map f items) (RemoveAt m v i) ≡ Some WouldBeEmpty
          unfolding misfit
          remove_empty one = rw (named, held, lt-leb (length (f n)) i inside, item, equal, eq-eqb (length (f n)) 1 one) refl

          pub remove_edit : (length (f n) ≡ 1 → ⊥) → IsEdit cmp (map f items) (RemoveAt m v i) (set (map f items) p (remove (f n) i))
          unfolding misfit
          remove_edit more = record {
            fits = rw (named, held, lt-leb (length (f n)) i inside, item, equal, ne_eqb (length (f n)) 1 more) refl;
            edited =
                rw (named, held, le-leb 2 (length (f n)) (omega arith), lt-ltb i (length (f n)) inside, item, equal)
                (ap Some
                (sym (set_splice (map f items) p (remove (f n) i) (named_inside cmp (map f items) m p named))));
          }

    module _ (k : ℕ) where
      pub split_past : length (f n) ≤ k → misfit cmp (map f items) (SplitNode m k) ≡ Some BadSplit
      unfolding misfit
      split_past past = rw (named, held, or_right (eqb k 0) (leb (length (f n)) k) (le-leb (length (f n)) k past)) refl

      pub split_edit : (k ≡ 0 → ⊥) → k < length (f n) → IsEdit cmp (map f items) (SplitNode m k) (splice (map f items) p (p + 1) (take k (f n) ∷ drop k (f n) ∷ []))
      unfolding misfit
      split_edit some inside = record {
        fits = rw (named, held, ne_eqb k 0 some, lt-leb (length (f n)) k inside) refl;
        edited = rw (named, held, lt-ltb 0 k (omega arith), lt-ltb k (length (f n)) inside) refl;
      }

-- a node of one item
module _ {T : Type 0} (cmp : T → T → Ordering) (ns : List (List T)) (v : T) (p : ℕ) (is : p ≡ position_or_len (reaches cmp v) ns) where
  pub create_disorder : is_ascending cmp (concat (insert ns p (v ∷ []))) ≡ false → misfit cmp ns (CreateNode v) ≡ Some OutOfOrder
  unfolding misfit
  create_disorder bad = rw (sym is, bad) refl

  pub create_edit : is_ascending cmp (concat (insert ns p (v ∷ []))) ≡ true → IsEdit cmp ns (CreateNode v) (insert ns p (v ∷ []))
  unfolding misfit
  create_edit good = record { fits = rw (sym is, good) refl; edited = rw (sym is) refl }
