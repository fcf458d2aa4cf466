-- An event that applies is a step, and a step applies.
use Rattle.std.proofs.Common.{◌≡◌, ◌≢◌, ◌==◌, ◌↔◌, is_some, ℕ, ◌+◌, ◌<◌, ◌≤◌, ◌||◌, Bool, true, false}
use Rattle.std.proofs.Common.{not, if◌then◌else◌, ◌&&◌, List, [], ◌∷◌, ◌++◌, length, get_or}
use Rattle.std.proofs.Common.{slice_get, take, drop, insert, remove, nat_lt, nat_le, ltb, leb, Option}
use Rattle.std.proofs.Common.{Some, None, Ordering, option_and_then, refl, ap, sym, ◌∙◌, subst, arith}
use Rattle.std.below.core.specs.declared.int.u64.TheConstants.{MAX}
use Rattle.std.specs.Cmp.{IsTotalOrder}
use Rattle.std.specs.List.{position_or_len, splice}
use Rattle.std.specs.Option.{option_map, option_map_or}
use Rattle.std.specs.Ordering.{is_eq}
use Rattle.std.proofs.lemmas.Bool.{false≢true, and_parts, eqb-true, leb-true, ltb-true, le-ltb, lt-leb, eq-eqb, le-leb, lt-ltb, ne_eqb, not-false, ltb-false, leb-false, eqb-false, or_parts}
use Rattle.std.proofs.lemmas.List.{take-append-drop, length-append, length-take, length-drop}
use Rattle.std.proofs.lemmas.Option.{slice_get-get_or}
use Rattle.indexset_core.proofs.CallerLemmas.{some_held}
use Rattle.indexset_core.specs.Nodes.{concat, node_at}
use Rattle.indexset_core.specs.declared.refusal.Refusal.{Refusal}
use Rattle.indexset_core.specs.declared.refusal.Refusal.TheVariants.{BadSplit, Gap, IndexOutside, NoSuchNode, NotNeighbours, Numbers, OutOfOrder, ValueDiffers, WouldBeEmpty}
use Rattle.indexset_events.specs.Merging.{with_merged}
use Rattle.indexset_events.specs.Nodes.{is_filled, is_ascending, are_nodes}
use Rattle.indexset_events.specs.Replay.{at_named, edit, event_number, node_named, reaches, step, step_plain, unassigned}
use Rattle.indexset_events.specs.declared.change.ChangeEvent.{ChangeEvent}
use Rattle.indexset_events.specs.declared.change.ChangeEventUnassigned.{ChangeEventUnassigned}
use Rattle.indexset_events.specs.declared.change.ChangeEventUnassigned.TheVariants.{InsertAt, RemoveAt, CreateNode, RemoveNode, SplitNode, MergeNodes}
use Rattle.indexset_events.proofs.CallerLemmas.{At, Ruled, Each, at_ruled, at_pair, at_place, ruled_at, each-append}
use Rattle.indexset_events.proofs.CallerLemmas.{each-left, each-right, edit_step, filled-append, joined_seam}
use Rattle.indexset_events.proofs.CallerLemmas.{length_filled, merge_step, remove_at, remove_node_step, remove_step}
use Rattle.indexset_events.proofs.CallerLemmas.{splice_at, split_step, tested_ruled, true_up, up_true}
use Rattle.indexset_replica.proofs.EditLemmas.{named_inside, some_inj}
use Rattle.indexset_replica.specs.Replica.{IsEdit, apply_refusal, disorder, in_named, misfit}

-- ---- values of a chain

pub none_some : {X P : Type 0} {x : X} → (let n : Option X = None in n) ≡ Some x → P
none_some e = absurd (cc)

some_none : {X P : Type 0} {x : X} → Some x ≡ None → P
some_none e = absurd (cc)

pub then_some : {X Y : Type 0} (o : Option X) (f : X → Option Y) (y : Y) → option_and_then f o ≡ Some y → (x : X) × (o ≡ Some x) × (f x ≡ Some y)
then_some None f y e = none_some e
then_some (Some x) f y e = (x, refl, e)

pub map_some : {X Y : Type 0} (o : Option X) (f : X → Y) (y : Y) → option_map f o ≡ Some y → (x : X) × (o ≡ Some x) × (f x ≡ y)
map_some None f y e = none_some e
map_some (Some x) f y e = (x, refl, some_inj e)

if_some : {X : Type 0} (b : Bool) (x y : X) → (if b then Some x else None) ≡ Some y → (b ≡ true) × (x ≡ y)
if_some true x y e = (refl, some_inj e)
if_some false x y e = none_some e

pub else_none : {X : Type 0} (b : Bool) (x : X) (o : Option X) → (if b then Some x else o) ≡ None → (b ≡ false) × (o ≡ None)
else_none true x o e = some_none e
else_none false x o e = (refl, e)

none_then : {X : Type 0} (b : Bool) (x : X) → (if b then None else Some x) ≡ None → b ≡ true
none_then true x e = refl
none_then false x e = some_none e

named_none : (o : Option ℕ) (f : ℕ → Option Refusal) → option_map_or f o (Some NoSuchNode) ≡ None → (p : ℕ) × (o ≡ Some p) × (f p ≡ None)
named_none None f e = some_none e
named_none (Some p) f e = (p, refl, e)

ne_from : (a b : ℕ) → (a ≡ b → ⊥) → a ≤ b → a < b
ne_from a b h le = grind arith

with_item : {X P : Type 0} (n : List X) → is_filled n ≡ true → (X → P) → P
with_item [] full f = absurd (false≢true full)
with_item (x ∷ n) full f = f x

module _ {T : Type 0} (cmp : T → T → Ordering) where
  -- the result of an edit of a named node
  named_parts : (ns : List (List T)) (m : T) (f : List T → Option (List (List T))) (r : List (List T)) → at_named cmp ns m f ≡ Some r
      → (p : ℕ) × (parts : List (List T)) × (node_named cmp ns m ≡ Some p) × (f (node_at ns p) ≡ Some parts) × (splice ns p (p + 1) parts ≡ r)
  named_parts ns m f r e =
      let at = then_some (node_named cmp ns m) (λ p. option_map (splice ns p (p + 1)) (f (node_at ns p))) r e in
      let made = map_some (f (node_at ns at.0)) (splice ns at.0 (at.0 + 1)) r at.2 in
      (at.0, made.0, at.1, made.1, made.2)

  -- the result of an edit that merges two nodes
  merge_parts : (ns : List (List T)) (m w : T) (r : List (List T)) → edit cmp ns (MergeNodes m w) ≡ Some r
      → (p : ℕ) × (node_named cmp ns m ≡ Some p) × (node_named cmp ns w ≡ Some (p + 1)) × (with_merged ns p ≡ r)
  merge_parts ns m w r e =
      let at = then_some (node_named cmp ns m) (λ p. option_and_then (λ q. if q == p + 1 then Some (with_merged ns p) else None) (node_named cmp ns w)) r e in
      let next = then_some (node_named cmp ns w) (λ q. if q == at.0 + 1 then Some (with_merged ns at.0) else None) r at.2 in
      let made = if_some (next.0 == at.0 + 1) (with_merged ns at.0) r next.2 in
      (at.0, at.1, next.1 ∙ ap Some (eqb-true next.0 (at.0 + 1) made.0), made.1)

  -- ---- nodes after an edit

  ordered_ruled : (r : List (List T)) → Each (λ n. is_filled n ≡ true) r → is_ascending cmp (concat r) ≡ true → Ruled cmp r
  ordered_ruled r full asc = record { filled = full; up = true_up cmp (concat r) asc }

  in_order : (r : List (List T)) → disorder cmp (Some r) ≡ None → is_ascending cmp (concat r) ≡ true
  in_order r = none_then (is_ascending cmp (concat r)) OutOfOrder

  full_around : (ns : List (List T)) (i j : ℕ) (parts : List (List T)) → Each (λ n. is_filled n ≡ true) ns → Each (λ n. is_filled n ≡ true) parts → Each (λ n. is_filled n ≡ true) (splice ns i j parts)
  full_around ns i j parts full new =
      let P : List T → Type 0 = λ n. is_filled n ≡ true in
      let front : Each P (take i ns) = each-left P (take i ns) (drop i ns) (rw (take-append-drop i ns) full) in
      let back : Each P (drop j ns) = each-right P (take j ns) (drop j ns) (rw (take-append-drop j ns) full) in
      each-append P (take i ns) (parts ++ drop j ns) front (each-append P parts (drop j ns) new back)

  in_named_none : (ns : List (List T)) (m : T) (f : List T → Option Refusal) → in_named cmp ns m f ≡ None → (p : ℕ) × (node_named cmp ns m ≡ Some p) × (f (node_at ns p) ≡ None)
  in_named_none ns m f = named_none (node_named cmp ns m) (λ p. f (node_at ns p))

  merge_none : (ns : List (List T)) (m w : T) → misfit cmp ns (MergeNodes m w) ≡ None → (p : ℕ) × (node_named cmp ns m ≡ Some p) × (node_named cmp ns w ≡ Some (p + 1))
  unfolding misfit
  merge_none ns m w fits =
      let found = named_none (node_named cmp ns m) (λ p. option_map_or (λ q. if q == p + 1 then None else Some NotNeighbours) (node_named cmp ns w) (Some NoSuchNode)) fits in
      let next = named_none (node_named cmp ns w) (λ q. if q == found.0 + 1 then None else Some NotNeighbours) found.2 in
      (found.0, found.1, next.1 ∙ ap Some (eqb-true next.0 (found.0 + 1) (none_then (next.0 == found.0 + 1) NotNeighbours next.2)))

  insert_order : (ns : List (List T)) (m v : T) (i : ℕ) (r : List (List T)) → misfit cmp ns (InsertAt m v i) ≡ None → edit cmp ns (InsertAt m v i) ≡ Some r → is_ascending cmp (concat r) ≡ true
  unfolding misfit
  insert_order ns m v i r fits edited =
      let found = in_named_none ns m (λ n. if nat_lt (length n) i then Some IndexOutside else disorder cmp (edit cmp ns (InsertAt m v i))) fits in
      elim (nat_lt (length (node_at ns found.0)) i) as (λ b. (if b then Some IndexOutside else disorder cmp (edit cmp ns (InsertAt m v i))) ≡ None → is_ascending cmp (concat r) ≡ true) [
        | true ↦ λ e. some_none e
        | false ↦ λ e. in_order r (sym (ap (disorder cmp) edited) ∙ e)
      ] found.2

  named_read : (ns : List (List T)) (m : T) (p : ℕ) → node_named cmp ns m ≡ Some p → slice_get ns p ≡ Some (node_at ns p)
  named_read ns m p named = slice_get-get_or ns p [] (named_inside cmp ns m p named)

  module _ (o : IsTotalOrder cmp) where
    -- a node replaced by parts, for any neighbours
    parts_ruled : (parts : List (List T)) (ns : List (List T)) (p : ℕ) (n : List T) → slice_get ns p ≡ Some n
        → ((b a : List (List T)) → At cmp o b n a → Ruled cmp (b ++ (parts ++ a))) → Ruled cmp ns
        → Ruled cmp (splice ns p (p + 1) parts)
    parts_ruled parts =
        at_place (λ q j m. ((b a : List (List T)) → At cmp o b m a → Ruled cmp (b ++ (parts ++ a))) → Ruled cmp q → Ruled cmp (splice q j (j + 1) parts))
        (λ b m a f rule. rw (splice_at b m a parts) (f b a (ruled_at cmp o b m a rule)))

    removed_ruled : (n : List T) (i : ℕ) (x : T) → slice_get n i ≡ Some x → 2 ≤ length n → (b a : List (List T)) → At cmp o b n a → Ruled cmp (b ++ remove n i ∷ a)
    removed_ruled =
        at_place (λ q j y. 2 ≤ length q → (b a : List (List T)) → At cmp o b q a → Ruled cmp (b ++ remove q j ∷ a))
        (λ l x r two b a at.
        let some : is_filled (l ++ r) ≡ true = length_filled (l ++ r) (omega (arith, length-append l (x ∷ r), length-append l r)) in
        rw (remove_at l x r) (at_ruled cmp o b (l ++ r) a (remove_step cmp o b a l x r x at some).0))

    split_ruled : (n : List T) (k : ℕ) → 0 < k → k < length n → (b a : List (List T)) → At cmp o b n a → Ruled cmp (b ++ take k n ∷ drop k n ∷ a)
    split_ruled n k some inside b a at =
        let whole : take k n ++ drop k n ≡ n = take-append-drop k n in
        let left : is_filled (take k n) ≡ true = length_filled (take k n) (rw (length-take k n) (omega arith)) in
        let right : is_filled (drop k n) ≡ true = length_filled (drop k n) (rw (length-drop k n) (omega arith)) in
        with_item n at.here (λ d. (split_step cmp o b a (take k n) (drop k n) d (subst (λ q. At cmp o b q a) (sym whole) at) left right).0)

    merged_ruled : (ns : List (List T)) (p : ℕ) → p + 1 < length ns → Ruled cmp ns → Ruled cmp (with_merged ns p)
    merged_ruled =
        at_pair (λ q j. Ruled cmp q → Ruled cmp (with_merged q j))
        (λ b l r a rule.
        let first = ruled_at cmp o b l (r ∷ a) rule in
        rw (joined_seam b l r a) (with_item l first.here (λ d. at_ruled cmp o b (l ++ r) a (merge_step cmp o b a l r d d rule).0)))

    pub edited_ruled : (ns : List (List T)) (e : ChangeEventUnassigned T) (r : List (List T)) → Ruled cmp ns → IsEdit cmp ns e r → Ruled cmp r
    unfolding misfit
    edited_ruled ns (CreateNode m) r rule h =
        let same : insert ns (position_or_len (reaches cmp m) ns) (m ∷ []) ≡ r = some_inj h.edited in
        let p = position_or_len (reaches cmp m) ns in
        subst (Ruled cmp) same (ordered_ruled (insert ns p (m ∷ [])) (full_around ns p p ((m ∷ []) ∷ []) rule.filled (refl, tt)) (in_order (insert ns p (m ∷ [])) h.fits))
    edited_ruled ns (RemoveNode m) r rule h =
        let at = named_parts ns m (λ n. Some []) r h.edited in
        let none : [] ≡ at.1 = some_inj at.3 in
        let p = at.0 in
        let made = parts_ruled [] ns p (node_at ns p) (named_read ns m p at.2)
        (λ b a here. with_item (node_at ns p) here.here (λ d. (remove_node_step cmp o b a (node_at ns p) d here).0))
        rule in
        subst (Ruled cmp) (ap (splice ns p (p + 1)) none ∙ at.4) made
    edited_ruled ns (InsertAt m v i) r rule h =
        let at = named_parts ns m (λ n. if leb i (length n) then Some (insert n i v ∷ []) else None) r h.edited in
        let p = at.0 in
        let made = if_some (leb i (length (node_at ns p))) (insert (node_at ns p) i v ∷ []) at.1 at.3 in
        let same : splice ns p (p + 1) (insert (node_at ns p) i v ∷ []) ≡ r = ap (splice ns p (p + 1)) made.1 ∙ at.4 in
        let full = full_around ns p (p + 1) (insert (node_at ns p) i v ∷ []) rule.filled (filled-append (take i (node_at ns p)) v (drop i (node_at ns p)), tt) in
        ordered_ruled r (subst (Each (λ n. is_filled n ≡ true)) same full) (insert_order ns m v i r h.fits h.edited)
    edited_ruled ns (RemoveAt m v i) r rule h =
        let at = named_parts ns m (λ n. if (leb 2 (length n) && ltb i (length n)) && is_eq (cmp (get_or n i v) v) then Some (remove n i ∷ []) else None) r h.edited in
        let p = at.0 in
        let n = node_at ns p in
        let made = if_some ((leb 2 (length n) && ltb i (length n)) && is_eq (cmp (get_or n i v) v)) (remove n i ∷ []) at.1 at.3 in
        let tests = and_parts (leb 2 (length n) && ltb i (length n)) (is_eq (cmp (get_or n i v) v)) made.0 in
        let sizes = and_parts (leb 2 (length n)) (ltb i (length n)) tests.0 in
        let inside = ltb-true i (length n) sizes.1 in
        let done = parts_ruled (remove n i ∷ []) ns p n (named_read ns m p at.2) (removed_ruled n i (get_or n i v) (slice_get-get_or n i v inside) (leb-true 2 (length n) sizes.0)) rule in
        subst (Ruled cmp) (ap (splice ns p (p + 1)) made.1 ∙ at.4) done
    edited_ruled ns (SplitNode m k) r rule h =
        let at = named_parts ns m (λ n. if ltb 0 k && ltb k (length n) then Some (take k n ∷ drop k n ∷ []) else None) r h.edited in
        let p = at.0 in
        let n = node_at ns p in
        let made = if_some (ltb 0 k && ltb k (length n)) (take k n ∷ drop k n ∷ []) at.1 at.3 in
        let tests = and_parts (ltb 0 k) (ltb k (length n)) made.0 in
        let done = parts_ruled (take k n ∷ drop k n ∷ []) ns p n (named_read ns m p at.2) (split_ruled n k (ltb-true 0 k tests.0) (ltb-true k (length n) tests.1)) rule in
        subst (Ruled cmp) (ap (splice ns p (p + 1)) made.1 ∙ at.4) done
    edited_ruled ns (MergeNodes m w) r rule h =
        let at = merge_parts ns m w r h.edited in
        subst (Ruled cmp) at.3 (merged_ruled ns at.0 (named_inside cmp ns w (at.0 + 1) at.2) rule)

    pub edited_step : (ns : List (List T)) (e : ChangeEventUnassigned T) (r : List (List T)) → Ruled cmp ns → IsEdit cmp ns e r → step_plain cmp ns e ≡ Some r
    edited_step ns e r rule h = edit_step cmp o ns e r h.edited (edited_ruled ns e r rule h)

  -- ---- an event that fits has an edit, and a step fits

  in_named_is : (ns : List (List T)) (m : T) (f : List T → Option Refusal) (p : ℕ) → node_named cmp ns m ≡ Some p → in_named cmp ns m f ≡ f (node_at ns p)
  in_named_is ns m f p named = rw named refl

  at_named_is : (ns : List (List T)) (m : T) (f : List T → Option (List (List T))) (p : ℕ) (parts : List (List T))
      → node_named cmp ns m ≡ Some p → f (node_at ns p) ≡ Some parts
      → at_named cmp ns m f ≡ Some (splice ns p (p + 1) parts)
  at_named_is ns m f p parts named made = rw (named, made) refl

  edit_some : (ns : List (List T)) (e : ChangeEventUnassigned T) → misfit cmp ns e ≡ None → (r : List (List T)) × (edit cmp ns e ≡ Some r)
  unfolding misfit
  edit_some ns (CreateNode m) fits = (insert ns (position_or_len (reaches cmp m) ns) (m ∷ []), refl)
  edit_some ns (RemoveNode m) fits =
      let found = in_named_none ns m (λ n. None) fits in
      (splice ns found.0 (found.0 + 1) [], at_named_is ns m (λ n. Some []) found.0 [] found.1 refl)
  edit_some ns (InsertAt m v i) fits =
      let found = in_named_none ns m (λ n. if nat_lt (length n) i then Some IndexOutside else disorder cmp (edit cmp ns (InsertAt m v i))) fits in
      let n = node_at ns found.0 in
      let tests = else_none (nat_lt (length n) i) IndexOutside (disorder cmp (edit cmp ns (InsertAt m v i))) found.2 in
      let inside = le-leb i (length n) (ltb-false (length n) i tests.0) in
      (splice ns found.0 (found.0 + 1) (insert n i v ∷ []), at_named_is ns m (λ n. if leb i (length n) then Some (insert n i v ∷ []) else None) found.0 (insert n i v ∷ []) found.1 (rw inside refl))
  edit_some ns (RemoveAt m v i) fits =
      let found =
      in_named_none ns m
      (λ n. if nat_le (length n) i then Some IndexOutside else if not (is_eq (cmp (get_or n i v) v))
      then Some ValueDiffers else if length n == 1 then Some WouldBeEmpty else None)
      fits in
      let n = node_at ns found.0 in
      let index = else_none (nat_le (length n) i) IndexOutside (if not (is_eq (cmp (get_or n i v) v)) then Some ValueDiffers else if length n == 1 then Some WouldBeEmpty else None) found.2 in
      let value = else_none (not (is_eq (cmp (get_or n i v) v))) ValueDiffers (if length n == 1 then Some WouldBeEmpty else None) index.1 in
      let count = else_none (length n == 1) WouldBeEmpty None value.1 in
      let inside = leb-false (length n) i index.0 in
      let two : 2 ≤ length n = ne_from 1 (length n) (λ one. eqb-false (length n) 1 count.0 (sym one)) (omega arith) in (
        splice ns found.0 (found.0 + 1) (remove n i ∷ []),
        at_named_is ns m
            (λ n. if (leb 2 (length n) && ltb i (length n)) && is_eq (cmp (get_or n i v) v) then Some (remove n i ∷ [])
            else None)
            found.0 (remove n i ∷ []) found.1
            (rw (le-leb 2 (length n) two, lt-ltb i (length n) inside, not-false _ value.0) refl),
      )
  edit_some ns (SplitNode m k) fits =
      let found = in_named_none ns m (λ n. if k == 0 || nat_le (length n) k then Some BadSplit else None) fits in
      let n = node_at ns found.0 in
      let tests = else_none (k == 0 || nat_le (length n) k) BadSplit None found.2 in
      let both = or_parts (k == 0) (nat_le (length n) k) tests.0 in
      let some : 0 < k = ne_from 0 k (λ none. eqb-false k 0 both.0 (sym none)) (omega arith) in (
        splice ns found.0 (found.0 + 1) (take k n ∷ drop k n ∷ []),
        at_named_is ns m (λ n. if ltb 0 k && ltb k (length n) then Some (take k n ∷ drop k n ∷ []) else None)
            found.0 (take k n ∷ drop k n ∷ []) found.1
            (rw (lt-ltb 0 k some, lt-ltb k (length n) (leb-false (length n) k both.1)) refl),
      )
  edit_some ns (MergeNodes m w) fits =
      let at = merge_none ns m w fits in
      (with_merged ns at.0, rw (at.1, at.2, eq-eqb (at.0 + 1) (at.0 + 1) refl) refl)

  fits_by : (ns : List (List T)) (e : ChangeEventUnassigned T) (q : List (List T)) → edit cmp ns e ≡ Some q → is_ascending cmp (concat q) ≡ true → misfit cmp ns e ≡ None
  unfolding misfit
  fits_by ns (CreateNode m) q edited asc = ap (disorder cmp) edited ∙ rw asc refl
  fits_by ns (RemoveNode m) q edited asc =
      let at = named_parts ns m (λ n. Some []) q edited in
      in_named_is ns m (λ n. None) at.0 at.2
  fits_by ns (InsertAt m v i) q edited asc =
      let at = named_parts ns m (λ n. if leb i (length n) then Some (insert n i v ∷ []) else None) q edited in
      let n = node_at ns at.0 in
      let made = if_some (leb i (length n)) (insert n i v ∷ []) at.1 at.3 in
      in_named_is ns m (λ n. if nat_lt (length n) i then Some IndexOutside else disorder cmp (edit cmp ns (InsertAt m v i))) at.0 at.2
      ∙ rw (le-ltb (length n) i (leb-true i (length n) made.0)) (ap (disorder cmp) edited ∙ rw asc refl)
  fits_by ns (RemoveAt m v i) q edited asc =
      let at = named_parts ns m (λ n. if (leb 2 (length n) && ltb i (length n)) && is_eq (cmp (get_or n i v) v) then Some (remove n i ∷ []) else None) q edited in
      let n = node_at ns at.0 in
      let made = if_some ((leb 2 (length n) && ltb i (length n)) && is_eq (cmp (get_or n i v) v)) (remove n i ∷ []) at.1 at.3 in
      let tests = and_parts (leb 2 (length n) && ltb i (length n)) (is_eq (cmp (get_or n i v) v)) made.0 in
      let sizes = and_parts (leb 2 (length n)) (ltb i (length n)) tests.0 in
      let two = leb-true 2 (length n) sizes.0 in
      rw (at.2, lt-leb (length n) i (ltb-true i (length n) sizes.1), tests.1, ne_eqb (length n) 1 (λ one. omega (arith, one, two))) refl
  fits_by ns (SplitNode m k) q edited asc =
      let at = named_parts ns m (λ n. if ltb 0 k && ltb k (length n) then Some (take k n ∷ drop k n ∷ []) else None) q edited in
      let n = node_at ns at.0 in
      let made = if_some (ltb 0 k && ltb k (length n)) (take k n ∷ drop k n ∷ []) at.1 at.3 in
      let tests = and_parts (ltb 0 k) (ltb k (length n)) made.0 in
      let some = ltb-true 0 k tests.0 in
      rw (at.2, ne_eqb k 0 (λ none. omega (arith, none, some)), lt-leb (length n) k (ltb-true k (length n) tests.1)) refl
  fits_by ns (MergeNodes m w) q edited asc =
      let at = merge_parts ns m w q edited in
      rw (at.1, at.2, eq-eqb (at.0 + 1) (at.0 + 1) refl) refl

  pub step_fits : (ns : List (List T)) (e : ChangeEventUnassigned T) (r : List (List T)) → step_plain cmp ns e ≡ Some r → misfit cmp ns e ≡ None
  unfolding step_plain
  step_fits ns e r h =
      let made = then_some (edit cmp ns e) (λ r. if are_nodes cmp r then Some r else None) r h in
      let nodes = if_some (are_nodes cmp made.0) made.0 r made.2 in
      let rule = tested_ruled cmp made.0 nodes.0 in
      fits_by ns e made.0 made.1 (up_true cmp (concat made.0) rule.up)

-- ---- the number of an event, and what it does

module _ {T : Type 0} (cmp : T → T → Ordering) (ns : List (List T)) (next : ℕ) (e : ChangeEvent T) where
  pub gap_refused : (event_number e ≡ next → ⊥) → apply_refusal cmp ns next e ≡ Some Gap
  unfolding apply_refusal
  gap_refused gap = rw (ne_eqb (event_number e) next gap) refl

  pub last_refused : event_number e ≡ next → next ≡ MAX → apply_refusal cmp ns next e ≡ Some Numbers
  unfolding apply_refusal
  last_refused is last = rw (eq-eqb (event_number e) next is, eq-eqb next MAX last) refl

  pub misfit_refused : event_number e ≡ next → (next ≡ MAX → ⊥) → apply_refusal cmp ns next e ≡ misfit cmp ns (unassigned e)
  unfolding apply_refusal
  misfit_refused is more = rw (eq-eqb (event_number e) next is, ne_eqb next MAX more) refl

  pub refusal_law : IsTotalOrder cmp → Ruled cmp ns → (apply_refusal cmp ns next e ≡ None) ↔ ((event_number e ≡ next) × (next ≢ MAX) × (is_some (step cmp ns e) ≡ true))
  unfolding apply_refusal
  refusal_law o rule = (
    λ none.
        let number = else_none (not (event_number e == next)) Gap (if next == MAX then Some Numbers else misfit cmp ns (unassigned e)) none in
        let last = else_none (next == MAX) Numbers (misfit cmp ns (unassigned e)) number.1 in
        let made = edit_some cmp ns (unassigned e) last.1 in
        let stepped = edited_step cmp o ns (unassigned e) made.0 rule (record { fits = last.1; edited = made.1 }) in
        (eqb-true (event_number e) next (not-false _ number.0), eqb-false next MAX last.0, rw stepped refl),
    λ h.
        let made = some_held (step cmp ns e) h.2 in
        misfit_refused h.0 h.1 ∙ step_fits cmp ns (unassigned e) made.0 made.1,
  )
