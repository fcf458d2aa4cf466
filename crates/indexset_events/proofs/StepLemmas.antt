-- The effect of one event on one node.
use Rattle.std.proofs.Common.{◌≡◌, suc, ◌+◌, ◌≤◌, Bool, true, false, if◌then◌else◌, List, [], ◌∷◌, ◌++◌}
use Rattle.std.proofs.Common.{◌&&◌, length, get_or, take, drop, set, insert, remove, ltb, leb, Option, Some}
use Rattle.std.proofs.Common.{None, Ordering, refl, ap, sym, ◌∙◌, subst, arith, append_assoc, length-append}
use Rattle.std.specs.declared.cmp.Ordering.TheVariants.{Less}
use Rattle.std.specs.List.{position, position_or_len, splice}
use Rattle.std.specs.Ordering.{is_eq}
use Rattle.std.specs.Cmp.{IsTotalOrder}
use Rattle.std.proofs.lemmas.Cmp.{tied_itself}
use Rattle.std.proofs.lemmas.Bool.{eq-eqb, lt-ltb, le-leb}
use Rattle.std.proofs.lemmas.List.{append-nil}
use Rattle.std.proofs.Math.Seq.{take-append_seam, drop-append_seam, drop-append-add, get_or-append_seam}
use Rattle.indexset_events.specs.declared.change.ChangeEventUnassigned.{ChangeEventUnassigned}
use Rattle.indexset_events.specs.declared.change.ChangeEventUnassigned.TheVariants.{InsertAt, RemoveAt, CreateNode, RemoveNode, SplitNode, MergeNodes}
use Rattle.indexset_core.specs.Nodes.{concat, node_at}
use Rattle.indexset_core.proofs.CallerLemmas.{concat-append}
use Rattle.indexset_events.specs.Merging.{with_merged}
use Rattle.indexset_events.specs.Nodes.{last_of, is_filled}
use Rattle.indexset_events.specs.Replay.{has_name, node_named, at_named, reaches, edit, step_plain}
use Rattle.indexset_events.proofs.AscendingListLemmas.{Each, each-append, each-left, each-right, each-map}
use Rattle.indexset_events.proofs.AscendingListLemmas.{each_last, ends_by, last_any, filled-append, Up}
use Rattle.indexset_events.proofs.AscendingListLemmas.{up-between, up_drop, up_cross, up_put, Ruled}
use Rattle.indexset_events.proofs.AscendingListLemmas.{greater, filled_length, length_filled, ruled_tested}

-- the first index that passes, by the parts around it
pub place_at : {X : Type 0} (p : X → Bool) (b : List X) (n : X) (a : List X) → Each (λ x. p x ≡ false) b → p n ≡ true → position_or_len p (b ++ n ∷ a) ≡ length b
place_at p [] n a hb hn = rw hn refl
place_at p (x ∷ b) n a hb hn = rw hb.0 (omega (arith, place_at p b n a hb.1 hn))

pub place_none : {X : Type 0} (p : X → Bool) (b : List X) → Each (λ x. p x ≡ false) b → position_or_len p b ≡ length b
place_none p [] hb = refl
place_none p (x ∷ b) hb = rw hb.0 (omega (arith, place_none p b hb.1))

pub place_seam : {X : Type 0} (p : X → Bool) (b a : List X) → Each (λ x. p x ≡ false) b → Each (λ x. p x ≡ true) a → position_or_len p (b ++ a) ≡ length b
place_seam p b [] hb ha = rw (append-nil b) (place_none p b hb)
place_seam p b (n ∷ a) hb ha = place_at p b n a hb ha.0

pub position_at : {X : Type 0} (p : X → Bool) (b : List X) (n : X) (a : List X) → Each (λ x. p x ≡ false) b → p n ≡ true → position p (b ++ n ∷ a) ≡ Some (length b)
position_at p b n a hb hn =
    let inside : ltb (length b) (length (b ++ n ∷ a)) ≡ true = lt-ltb _ _ (rw (length-append b (n ∷ a)) (omega arith)) in
    rw (place_at p b n a hb hn, inside) refl

pub splice_at : {T : Type 0} (b : List T) (n : T) (a parts : List T) → splice (b ++ n ∷ a) (length b) (length b + 1) parts ≡ b ++ (parts ++ a)
splice_at b n a parts = rw (take-append_seam b (n ∷ a), drop-append-add b (n ∷ a) 1) refl

-- a node and the next one, by the parts around them
pub second_at : {T : Type 0} (b : List (List T)) (l r : List T) (a : List (List T)) → node_at (b ++ l ∷ r ∷ a) (length b + 1) ≡ r
second_at b l r a = subst (λ q. node_at q (length b + 1) ≡ r) (append_assoc b (l ∷ []) (r ∷ a)) (rw (← length-append b (l ∷ [])) (get_or-append_seam (b ++ l ∷ []) r a []))

pub set_second : {X : Type 0} (b : List X) (l r : X) (a : List X) (m : X) → set (b ++ l ∷ r ∷ a) (length b + 1) m ≡ b ++ l ∷ m ∷ a
set_second {X = X} b l r a m = subst (λ k. set (b ++ l ∷ r ∷ a) k m ≡ b ++ l ∷ m ∷ a) {x = suc (length b)} {y = length b + 1} (omega arith) (after b)
  where
    after : (b : List X) → set (b ++ l ∷ r ∷ a) (suc (length b)) m ≡ b ++ l ∷ m ∷ a
    after [] = refl
    after (c ∷ b) = rw (after b) refl

pub joined_seam : {T : Type 0} (b : List (List T)) (l r : List T) (a : List (List T)) → with_merged (b ++ l ∷ r ∷ a) (length b) ≡ b ++ (l ++ r) ∷ a
joined_seam b l r a = rw (get_or-append_seam b l (r ∷ a) [], second_at b l r a, take-append_seam b (l ∷ r ∷ a), drop-append-add b (l ∷ r ∷ a) 2) refl

-- an edit in a node, by the parts around it
pub insert_at : {T : Type 0} (l r : List T) (v : T) → insert (l ++ r) (length l) v ≡ l ++ v ∷ r
insert_at l r v = rw (take-append_seam l r, drop-append_seam l r) refl

pub remove_at : {T : Type 0} (l : List T) (x : T) (r : List T) → remove (l ++ x ∷ r) (length l) ≡ l ++ r
remove_at l x r = rw (take-append_seam l (x ∷ r)) (ap (λ q. l ++ q) (subst (λ k. drop k (l ++ x ∷ r) ≡ r) {x = length l + 1} {y = suc (length l)} (omega arith) (drop-append-add l (x ∷ r) 1)))

module _ {T : Type 0} (cmp : T → T → Ordering) (o : IsTotalOrder cmp) where
  -- the nodes before and after a node
  pub record At (b : List (List T)) (n : List T) (a : List (List T)) : Type 0 where
    pub before : Each (λ c. is_filled c ≡ true) b
    pub here : is_filled n ≡ true
    pub after : Each (λ c. is_filled c ≡ true) a
    pub up : Up cmp (concat b ++ (n ++ concat a))

  pub at_ruled : (b : List (List T)) (n : List T) (a : List (List T)) → At b n a → Ruled cmp (b ++ n ∷ a)
  at_ruled b n a h = record {
    filled = each-append _ b (n ∷ a) h.before (h.here, h.after);
    up = rw (concat-append b (n ∷ a)) h.up;
  }

  pub ruled_at : (b : List (List T)) (n : List T) (a : List (List T)) → Ruled cmp (b ++ n ∷ a) → At b n a
  ruled_at b n a h =
      let rest : Each (λ c. is_filled c ≡ true) (n ∷ a) = each-right _ b (n ∷ a) h.filled in
      record {
        before = each-left _ b (n ∷ a) h.filled;
        here = rest.0;
        after = rest.1;
        up = subst (Up cmp) (concat-append b (n ∷ a)) h.up;
      }

  -- nodes of items below v have other names, and do not reach v
  pub unnamed : (v : T) (b : List (List T)) → Each (λ c. is_filled c ≡ true) b → Each (λ x. cmp x v ≡ Less) (concat b) → Each (λ c. has_name cmp v c ≡ false) b
  unnamed v [] full low = tt
  unnamed v (c ∷ b) full low =
      let last : cmp (last_of c v) v ≡ Less = each_last (λ x. cmp x v ≡ Less) c v full.0 (each-left _ c (concat b) low) in
      (rw (full.0, last) refl, unnamed v b full.1 (each-right _ c (concat b) low))

  pub unreached : (v : T) (b : List (List T)) → Each (λ c. is_filled c ≡ true) b → Each (λ x. cmp x v ≡ Less) (concat b) → Each (λ c. reaches cmp v c ≡ false) b
  unreached v [] full low = tt
  unreached v (c ∷ b) full low =
      let last : cmp (last_of c v) v ≡ Less = each_last (λ x. cmp x v ≡ Less) c v full.0 (each-left _ c (concat b) low) in
      (rw (ends_by (λ x. cmp x v) c v full.0, last) refl, unreached v b full.1 (each-right _ c (concat b) low))

  pub reached : (v : T) (a : List (List T)) → Each (λ c. is_filled c ≡ true) a → Each (λ x. cmp v x ≡ Less) (concat a) → Each (λ c. reaches cmp v c ≡ true) a
  reached v [] full high = tt
  reached v (c ∷ a) full high =
      let last : cmp v (last_of c v) ≡ Less = each_last (λ x. cmp v x ≡ Less) c v full.0 (each-left _ c (concat a) high) in
      (rw (ends_by (λ x. cmp x v) c v full.0, greater cmp o _ v last) refl, reached v a full.1 (each-right _ c (concat a) high))

  -- a node is found by its name
  pub named_at : (b : List (List T)) (n : List T) (a : List (List T)) (d : T) → At b n a → node_named cmp (b ++ n ∷ a) (last_of n d) ≡ Some (length b)
  named_at b n a d h =
      let m = last_of n d in
      let low : Each (λ x. cmp x m ≡ Less) (concat b) =
      each-map _ _ (λ x k. each_last (λ y. cmp x y ≡ Less) n d h.here (each-left _ n (concat a) k)) (concat b)
      (up-between cmp (concat b) (n ++ concat a) h.up) in
      let own : has_name cmp m n ≡ true = rw (h.here, last_any n m d h.here, tied_itself o m) refl in
      position_at (has_name cmp m) b n a (unnamed m b h.before low) own

  pub named_parts : (b : List (List T)) (n : List T) (a : List (List T)) (d : T)
      (f : List T → Option (List (List T))) (parts : List (List T))
      → At b n a → f n ≡ Some parts → at_named cmp (b ++ n ∷ a) (last_of n d) f ≡ Some (b ++ (parts ++ a))
  named_parts b n a d f parts h e = rw (named_at b n a d h, get_or-append_seam b n a [], e, splice_at b n a parts) refl

  -- an edit that gives a node list is a step
  pub edit_step : (ns : List (List T)) (e : ChangeEventUnassigned T) (r : List (List T)) → edit cmp ns e ≡ Some r → Ruled cmp r → step_plain cmp ns e ≡ Some r
  unfolding step_plain
  edit_step ns e r h c = rw (h, ruled_tested cmp r c) refl

  module _ (b : List (List T)) (a : List (List T)) where
    -- the concatenation, regrouped around a place in the node
    regroup : (l r : List T) → concat b ++ ((l ++ r) ++ concat a) ≡ (concat b ++ l) ++ (r ++ concat a)
    regroup l r = simp append_assoc

    pub remove_node_step : (n : List T) (d : T) → At b n a → Ruled cmp (b ++ a) × (step_plain cmp (b ++ n ∷ a) (RemoveNode (last_of n d)) ≡ Some (b ++ a))
    remove_node_step n d h =
        let now : Ruled cmp (b ++ a) = record {
          filled = each-append _ b a h.before h.after;
          up = rw (concat-append b a) (up_cross cmp (concat b) n (concat a) h.up);
        } in
        (now, edit_step _ _ _ (named_parts b n a d (λ n. Some []) [] h refl) now)

    pub create_step : (v : T) → Ruled cmp (b ++ a) → Each (λ x. cmp x v ≡ Less) (concat b)
        → Each (λ x. cmp v x ≡ Less) (concat a)
        → At b (v ∷ []) a × (step_plain cmp (b ++ a) (CreateNode v) ≡ Some (b ++ (v ∷ []) ∷ a))
    create_step v h low high =
        let before = each-left _ b a h.filled in
        let after = each-right _ b a h.filled in
        let now : At b (v ∷ []) a = record {
          before = before;
          here = refl;
          after = after;
          up = up_put cmp (concat b) v (concat a) low high (subst (Up cmp) (concat-append b a) h.up);
        } in
        let place : position_or_len (reaches cmp v) (b ++ a) ≡ length b = place_seam (reaches cmp v) b a (unreached v b before low) (reached v a after high) in
        (now, edit_step _ _ _ (rw place (ap Some (insert_at b a (v ∷ [])))) (at_ruled b (v ∷ []) a now))

    pub insert_step : (l r : List T) (v d : T) → At b (l ++ r) a → Each (λ x. cmp x v ≡ Less) (concat b ++ l)
        → Each (λ x. cmp v x ≡ Less) (r ++ concat a)
        → At b (l ++ v ∷ r) a
        × (step_plain cmp (b ++ (l ++ r) ∷ a) (InsertAt (last_of (l ++ r) d) v (length l))
        ≡ Some (b ++ (l ++ v ∷ r) ∷ a))
    insert_step l r v d h low high =
        let now : At b (l ++ v ∷ r) a = record {
          before = h.before;
          here = filled-append l v r;
          after = h.after;
          up = rw (regroup l (v ∷ r)) (up_put cmp (concat b ++ l) v (r ++ concat a) low high (subst (Up cmp) (regroup l r) h.up));
        } in
        let fits : leb (length l) (length (l ++ r)) ≡ true = le-leb _ _ (rw (length-append l r) (omega arith)) in (
          now,
          edit_step _ _ _
              (named_parts b (l ++ r) a d
              (λ n. if leb (length l) (length n) then Some (insert n (length l) v ∷ []) else None) ((l ++ v ∷ r) ∷ []) h
              (rw (fits, insert_at l r v) refl))
              (at_ruled b (l ++ v ∷ r) a now),
        )

    pub remove_step : (l : List T) (x : T) (r : List T) (d : T) → At b (l ++ x ∷ r) a → is_filled (l ++ r) ≡ true
        → At b (l ++ r) a
        × (step_plain cmp (b ++ (l ++ x ∷ r) ∷ a) (RemoveAt (last_of (l ++ x ∷ r) d) x (length l))
        ≡ Some (b ++ (l ++ r) ∷ a))
    remove_step l x r d h full =
        let now : At b (l ++ r) a = record {
          before = h.before;
          here = full;
          after = h.after;
          up = rw (regroup l r) (up_drop cmp (concat b ++ l) x (r ++ concat a) (subst (Up cmp) (regroup l (x ∷ r)) h.up));
        } in
        let some : 1 ≤ length l + length r = omega (arith, filled_length (l ++ r) full, length-append l r) in
        let long : leb 2 (length (l ++ x ∷ r)) ≡ true = le-leb _ _ (rw (length-append l (x ∷ r)) (omega arith)) in
        let inside : ltb (length l) (length (l ++ x ∷ r)) ≡ true = lt-ltb _ _ (rw (length-append l (x ∷ r)) (omega arith)) in (
          now,
          edit_step _ _ _
              (named_parts b (l ++ x ∷ r) a d
              (λ n. if (leb 2 (length n) && ltb (length l) (length n)) && is_eq (cmp (get_or n (length l) x) x)
              then Some (remove n (length l) ∷ []) else None)
              ((l ++ r) ∷ []) h (rw (long, inside, get_or-append_seam l x r x, tied_itself o x, remove_at l x r) refl))
              (at_ruled b (l ++ r) a now),
        )

    pub split_step : (l r : List T) (d : T) → At b (l ++ r) a → is_filled l ≡ true → is_filled r ≡ true
        → Ruled cmp (b ++ l ∷ r ∷ a)
        × (step_plain cmp (b ++ (l ++ r) ∷ a) (SplitNode (last_of (l ++ r) d) (length l)) ≡ Some (b ++ l ∷ r ∷ a))
    split_step l r d h left right =
        let now : Ruled cmp (b ++ l ∷ r ∷ a) = record {
          filled = each-append _ b (l ∷ r ∷ a) h.before (left, (right, h.after));
          up = rw (concat-append b (l ∷ r ∷ a), sym (append_assoc l r (concat a))) h.up;
        } in
        let some : 1 ≤ length l = filled_length l left in
        let more : 1 ≤ length r = filled_length r right in
        let low : ltb 0 (length l) ≡ true = lt-ltb _ _ (omega arith) in
        let high : ltb (length l) (length (l ++ r)) ≡ true = lt-ltb _ _ (rw (length-append l r) (omega arith)) in (
          now,
          edit_step _ _ _
              (named_parts b (l ++ r) a d
              (λ n. if ltb 0 (length l) && ltb (length l) (length n)
              then Some (take (length l) n ∷ drop (length l) n ∷ []) else None)
              (l ∷ r ∷ []) h (rw (low, high, take-append_seam l r, drop-append_seam l r) refl))
              now,
        )

    -- the merge of a node with the next one
    pub merge_step : (l r : List T) (d e : T) → Ruled cmp (b ++ l ∷ r ∷ a) → At b (l ++ r) a × (step_plain cmp (b ++ l ∷ r ∷ a) (MergeNodes (last_of l d) (last_of r e)) ≡ Some (b ++ (l ++ r) ∷ a))
    merge_step l r d e h =
        let first = ruled_at b l (r ∷ a) h in
        let after : Each (λ c. is_filled c ≡ true) (r ∷ a) = first.after in
        let now : At b (l ++ r) a = record {
          before = first.before;
          here = length_filled (l ++ r) (omega (arith, length-append l r, filled_length l first.here));
          after = after.1;
          up = rw (append_assoc l r (concat a)) first.up;
        } in
        let regrouped : (b ++ l ∷ []) ++ r ∷ a ≡ b ++ l ∷ r ∷ a = append_assoc b (l ∷ []) (r ∷ a) in
        let second = ruled_at (b ++ l ∷ []) r a (subst (Ruled cmp) (sym regrouped) h) in
        let next : node_named cmp (b ++ l ∷ r ∷ a) (last_of r e) ≡ Some (length b + 1) =
        subst (λ q. node_named cmp q (last_of r e) ≡ Some (length b + 1)) regrouped
        (named_at (b ++ l ∷ []) r a e second ∙ ap Some (length-append b (l ∷ []))) in
        (now, edit_step _ _ _ (rw (named_at b l (r ∷ a) d first, next, eq-eqb (length b + 1) (length b + 1) refl, joined_seam b l r a) refl) (at_ruled b (l ++ r) a now))
