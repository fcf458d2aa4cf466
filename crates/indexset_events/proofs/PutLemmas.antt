-- Lawful nodes after a put.
use Rattle.std.proofs.Common.{◌≡◌, ℕ, zero, suc, ◌+◌, ◌-◌, ◌/◌, ◌<◌, ◌≤◌, Bool, true, false, cond, if◌then◌else◌, ◌&&◌}
use Rattle.std.proofs.Common.{List, [], ◌∷◌, ◌++◌, length, map, get_or, set, insert, take, drop, slice_get, Option}
use Rattle.std.proofs.Common.{Some, None, Ordering, refl, ap, sym, ◌∙◌, subst, arith, append_assoc, length-append}
use Rattle.std.specs.Cmp.{IsTotalOrder}
use Rattle.std.specs.List.{find, splice}
use Rattle.std.specs.Option.{option_or}
use Rattle.std.specs.Ordering.{is_eq}
use Rattle.std.proofs.lemmas.Bool.{false≢true, eq-eqb, ne_eqb}
use Rattle.std.proofs.lemmas.List.{length-map, map-append, take-append-drop}
use Rattle.std.proofs.lemmas.List.Folds.{find-append}
use Rattle.std.proofs.lemmas.Option.{get_or_from_slice_get}
use Rattle.std.proofs.Math.Seq.{get_or-append_seam, set-append_seam}
use Rattle.indexset_core.specs.Nodes.{concat, node_at, IsLawful}
use Rattle.indexset_core.specs.Order.{IsAscending, put, has_equal, equal_element, rank, IsFoundAt, IsGapFor}
use Rattle.indexset_core.proofs.CallerLemmas.{concat-append, found_has_equal, gap_has_equal, found_rank, gap_rank, parted_by_item}
use Rattle.indexset_events.specs.declared.change.ChangeEventUnassigned.TheVariants.{InsertAt, RemoveAt, CreateNode, RemoveNode}
use Rattle.indexset_events.specs.Edits.{with_put}
use Rattle.indexset_events.specs.Nodes.{is_filled, last_of}
use Rattle.indexset_events.specs.Replay.{replay, numbered_from}
use Rattle.indexset_events.specs.Table.{target, half_of, node_events, replace_events, put_events}
use Rattle.indexset_events.proofs.AscendingListLemmas.{Each, each-map, Up, up-left, up-right, Ruled, greater, around, parts-put, parts-has_equal, lawful_from, lawful_ruled, lawful_bounded}
use Rattle.indexset_events.proofs.StepLemmas.{ruled_at, insert_at, splice_at}
use Rattle.indexset_events.proofs.ReplayLemmas.{aim, target_at}
use Rattle.indexset_events.proofs.ReplayTheorem.{numbered_replay}
use Rattle.indexset_events.proofs.HalvingLemmas.{Makes, put_makes}
use Rattle.indexset_events.proofs.RemovalLemmas.{at_place}

-- a node halved, as the code does it
halved_seam : {X : Type 0} (b : List X) (n : X) (a : List X) (l r : X) → insert (set (b ++ n ∷ a) (length b) l) (length b + 1) r ≡ b ++ l ∷ r ∷ a
halved_seam b n a l r =
    let made : insert ((b ++ l ∷ []) ++ a) (length (b ++ l ∷ [])) r ≡ (b ++ l ∷ []) ++ r ∷ a = insert_at (b ++ l ∷ []) a r in
    let long : length (b ++ l ∷ []) ≡ length b + 1 = length-append b (l ∷ []) in
    rw (set-append_seam b n a l)
    (subst (λ k. insert (b ++ l ∷ a) k r ≡ b ++ l ∷ r ∷ a) long
    (subst (λ q. insert q (length (b ++ l ∷ [])) r ≡ b ++ l ∷ r ∷ a) (append_assoc b (l ∷ []) a)
    (made ∙ append_assoc b (l ∷ []) (r ∷ a))))

pub halved_view : {X Y : Type 0} (f : X → Y) (xs : List X) (k : ℕ) (n l r : X) → slice_get xs k ≡ Some n → map f (insert (set xs k l) (k + 1) r) ≡ splice (map f xs) k (k + 1) (f l ∷ f r ∷ [])
halved_view f xs k n l r at = at_place (λ q j n. map f (insert (set q j l) (j + 1) r) ≡ splice (map f q) j (j + 1) (f l ∷ f r ∷ []))
    (λ b n a.
    rw (halved_seam b n a l r, map-append f b (l ∷ r ∷ a), map-append f b (n ∷ a))
    (sym (subst (λ j. splice (map f b ++ f n ∷ map f a) j (j + 1) (f l ∷ f r ∷ []) ≡ map f b ++ f l ∷ f r ∷ map f a) (length-map b f) (splice_at (map f b) (f n) (map f a) (f l ∷ f r ∷ [])))))
    xs k n at

pub half_and : {T : Type 0} (full past : Bool) (n : List T) → half_of full (full && past) n ≡ half_of full past n
half_and true past n = refl
half_and false past n = refl

module _ {T : Type 0} (cmp : T → T → Ordering) (o : IsTotalOrder cmp) (v : T) where
  -- the events of a put into a part, by the index that a search returns
  pub gap_written : (n : List T) (i : ℕ) → IsGapFor cmp n v i → node_events cmp n v ≡ InsertAt (last_of n v) v i ∷ []
  unfolding node_events
  gap_written n i gap = rw (gap_has_equal cmp n v i gap, gap_rank cmp n v i gap) refl

  module _ (n : List T) (i : ℕ) (x : T) (up : IsAscending cmp n) (f : IsFoundAt cmp n v i) (here : slice_get n i ≡ Some x) where
    place : rank cmp n v ≡ i
    place = found_rank cmp n v i f (parted_by_item cmp o n up v)

    item : get_or n i v ≡ x
    item = get_or_from_slice_get n i x v here

    pub only_replaced : length n ≡ 1 → node_events cmp n v ≡ RemoveNode x ∷ CreateNode v ∷ []
    unfolding node_events replace_events
    only_replaced one = rw (found_has_equal cmp n v i f, place, item, eq-eqb (length n) 1 one) refl

    pub last_replaced : (length n ≡ 1 → ⊥) → i + 1 ≡ length n → node_events cmp n v ≡ RemoveAt (last_of n v) x i ∷ InsertAt (get_or n (i - 1) v) v i ∷ []
    unfolding node_events replace_events
    last_replaced more end = rw (found_has_equal cmp n v i f, place, item, ne_eqb (length n) 1 more, eq-eqb (i + 1) (length n) end) refl

    pub inner_replaced : (length n ≡ 1 → ⊥) → (i + 1 ≡ length n → ⊥) → node_events cmp n v ≡ RemoveAt (last_of n v) x i ∷ InsertAt (last_of n v) v i ∷ []
    unfolding node_events replace_events
    inner_replaced more inner = rw (found_has_equal cmp n v i f, place, item, ne_eqb (length n) 1 more, ne_eqb (i + 1) (length n) inner) refl

  replace_count : (n : List T) → length (replace_events cmp n v) ≡ 2
  unfolding replace_events
  replace_count n = grind arith

  pub node_count : (n : List T) → length (node_events cmp n v) ≡ cond (has_equal cmp n v) 2 1
  unfolding node_events
  node_count n =
      elim (has_equal cmp n v) as (λ t. length (if t then replace_events cmp n v else InsertAt (last_of n v) v (rank cmp n v) ∷ []) ≡ cond t 2 1) [
        | true ↦ replace_count n
        | false ↦ refl
      ]

  -- the length of a list after a put
  pub put_length_is : (l : List T) → Up cmp l → length (put cmp l v) ≡ length l + cond (has_equal cmp l v) 0 1
  put_length_is = around cmp o v (λ n. length (put cmp n v) ≡ length n + cond (has_equal cmp n v) 0 1)
      (λ l r low high. rw (parts-put cmp o l [] r v low tt high, parts-has_equal cmp o l [] r v low tt high) (omega (arith, length-append l (v ∷ r), length-append l r)))
      (λ l x r low same high.
      rw (
        parts-put cmp o l (x ∷ []) r v low (same, tt) high,
        parts-has_equal cmp o l (x ∷ []) r v low (same, tt) high,
      )
      (omega (arith, length-append l (v ∷ r), length-append l (x ∷ r))))

  find_no : (l : List T) → Each (λ x. is_eq (cmp x v) ≡ false) l → find (λ x. is_eq (cmp x v)) l ≡ None
  find_no [] h = refl
  find_no (x ∷ l) h = rw h.0 (find_no l h.1)

  or_none : (s : Option T) → option_or s None ≡ s
  or_none None = refl
  or_none (Some x) = refl

  -- the equal item is in the target
  pub equal_in_target : (ns : List (List T)) → Ruled cmp ns → is_filled ns ≡ true → equal_element cmp (concat ns) v ≡ equal_element cmp (node_at ns (target cmp ns v)) v
  equal_in_target [] ruled some = absurd (false≢true some)
  equal_in_target (n ∷ ns) ruled some =
      let p : T → Bool = λ x. is_eq (cmp x v) in
      aim cmp o v (λ q. Ruled cmp q → equal_element cmp (concat q) v ≡ equal_element cmp (node_at q (target cmp q v)) v)
      (λ b n a low high stop ruled.
      let at = ruled_at cmp o b n a ruled in
      let before : find p (concat b) ≡ None = find_no (concat b) (each-map _ _ (λ x e. ap is_eq e) (concat b) low) in
      let after : find p (concat a) ≡ None = find_no (concat a) (each-map _ _ (λ x e. ap is_eq (greater cmp o x v e)) (concat a) high) in
      rw (target_at cmp o v b n a at low stop, get_or-append_seam b n a [], concat-append b (n ∷ a))
      (find-append p (concat b) (n ++ concat a) ∙ rw before (find-append p n (concat a) ∙ rw after (or_none (find p n)))))
      n ns ruled ruled

-- a put into lawful nodes
module _ {T : Type 0} {cmp : T → T → Ordering} {size : ℕ} {ns : List (List T)} (o : IsTotalOrder cmp) (two : 2 ≤ size) (law : IsLawful cmp size ns) (v : T) where
  after : Makes cmp o v size ns (put_events cmp size ns v) (with_put cmp size ns v) (put cmp (concat ns) v)
  after = put_makes cmp o v size two ns (lawful_ruled cmp size ns law) (lawful_bounded cmp size ns law)

  pub put_contents : concat (with_put cmp size ns v) ≡ put cmp (concat ns) v
  put_contents = let d = after in d.holds

  pub put_replayed : (s : ℕ) → replay cmp ns (numbered_from s (put_events cmp size ns v)) ≡ Some (with_put cmp size ns v)
  put_replayed s = let d = after in numbered_replay cmp ns s (put_events cmp size ns v) ∙ d.replayed

  pub put_lawful : IsLawful cmp size (with_put cmp size ns v)
  put_lawful = let d = after in lawful_from cmp size _ d.ruled d.small

  pub put_counted : length (concat (with_put cmp size ns v)) ≡ length (concat ns) + cond (has_equal cmp (concat ns) v) 0 1
  put_counted =
      let r : Ruled cmp ns = lawful_ruled cmp size ns law in
      ap (λ q. length q) put_contents ∙ put_length_is cmp o v (concat ns) r.up

-- the half of an ascending node is ascending
pub half_up : {T : Type 0} (cmp : T → T → Ordering) (full right : Bool) (n : List T) → Up cmp n → Up cmp (half_of full right n)
half_up cmp false right n up = up
half_up cmp true true n up = up-right cmp (take (length n / 2) n) (drop (length n / 2) n) (subst (Up cmp) (sym (take-append-drop (length n / 2) n)) up)
half_up cmp true false n up = up-left cmp (take (length n / 2) n) (drop (length n / 2) n) (subst (Up cmp) (sym (take-append-drop (length n / 2) n)) up)

-- the last item of a prefix
pub last_of_take : {T : Type 0} (n : List T) (i : ℕ) (x v : T) → i < length n → x ≡ get_or n i x → last_of (take (suc i) n) v ≡ x
last_of_take [] i x v lt e = absurd (omega arith)
last_of_take (y ∷ []) zero x v lt e = sym e
last_of_take (y ∷ z ∷ n) zero x v lt e = sym e
last_of_take (y ∷ n) (suc i) x v lt e = last_of_take n i x y (omega arith) e
