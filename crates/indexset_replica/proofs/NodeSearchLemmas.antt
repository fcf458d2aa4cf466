-- The place of a value in the nodes of a replica.
use Rattle.std.proofs.Common.{◌≡◌, ℕ, zero, suc, ◌+◌, ◌-◌, ◌<◌, ◌≤◌, ◌==◌, Bool, true, false, List, [], ◌∷◌, ◌++◌}
use Rattle.std.proofs.Common.{length, map, get_or, slice_get, take, drop, insert, Option, Some, None, Ordering}
use Rattle.std.proofs.Common.{All, inl, inr, refl, ap, sym, ◌∙◌, subst, arith, append_assoc, length-append}
use Rattle.std.specs.Borrow.{Bor}
use Rattle.std.specs.Cmp.{IsTotalOrder}
use Rattle.std.specs.List.{position_or_len, splice, take-map}
use Rattle.std.specs.Option.{option_copied, option_map_or, option_or}
use Rattle.std.specs.Ordering.{is_lt, is_eq}
use Rattle.std.specs.declared.cmp.Ordering.TheVariants.{Less}
use Rattle.std.proofs.lemmas.Bool.{false≢true, and_from, and_parts, cases_lt, le-ltb, ne_eqb}
use Rattle.std.proofs.lemmas.List.{append-nil, take-append-drop, get_or_default, length-map, nil_from_length}
use Rattle.std.proofs.lemmas.Option.{slice_get-map, slice_get_read, slice_get_within}
use Rattle.std.proofs.Math.Seq.{drop-append_seam, get_or-append_seam}
use Rattle.indexset_core.specs.Nodes.{concat, node_at, node_for, node_lengths}
use Rattle.indexset_core.proofs.CallerLemmas.{equal_from, concat-append, concat-splice, joined_around, less_from, node_read, slice_get-right}
use Rattle.indexset_events.specs.Nodes.{is_filled, last_of, is_ascending}
use Rattle.indexset_events.specs.Replay.{has_name, node_named, reaches}
use Rattle.indexset_events.proofs.CallerLemmas.{Ruled, Each, Up, at_place, each-append, each-left, each-map}
use Rattle.indexset_events.proofs.CallerLemmas.{each-right, each_last, greater, last_some, min_place_here}
use Rattle.indexset_events.proofs.CallerLemmas.{min_place_past, node_is, length_filled, not_reaching, over_rest}
use Rattle.indexset_events.proofs.CallerLemmas.{place_none, position_at, reaching, true_up, unnamed, up-between}
use Rattle.indexset_events.proofs.CallerLemmas.{up-left, up-right, up_put, up_true, upto_last, nodes_each}
use Rattle.indexset_replica.specs.Replica.{first_item, is_between, last_item}

pub filled_each : {T : Type 0} (ns : List (List T)) → All (λ n. 1 ≤ n) (node_lengths ns) → Each (λ n. is_filled n ≡ true) ns
filled_each ns h = each-map _ _ (λ n. length_filled n) ns (nodes_each (λ n. 1 ≤ n) ns h)

-- the first item from a place on is that of the node at the place
pub next_is : {T : Type 0} (ns : List (List T)) → Each (λ n. is_filled n ≡ true) ns → (k : ℕ) → first_item (concat (drop k ns)) ≡ first_item (node_at ns k)
next_is [] full zero = refl
next_is [] full (suc k) = refl
next_is ([] ∷ ns) full zero = absurd (false≢true full.0)
next_is ((x ∷ n) ∷ ns) full zero = refl
next_is (n ∷ ns) full (suc k) = next_is ns full.1 k

-- the list has no node if and only if it has no item
pub empty_is : {T : Type 0} (ns : List (List T)) → Each (λ n. is_filled n ≡ true) ns → (length ns == 0) ≡ (length (concat ns) == 0)
empty_is [] full = refl
empty_is ([] ∷ ns) full = absurd (false≢true full.0)
empty_is ((x ∷ n) ∷ ns) full = ne_eqb _ 0 (λ z. omega (arith, z)) ∙ sym (ne_eqb _ 0 (λ z. omega (arith, z)))

bool_same : (a b : Bool) → (a ≡ true → b ≡ true) → (b ≡ true → a ≡ true) → a ≡ b
bool_same true b f g = sym (f refl)
bool_same false true f g = g refl
bool_same false false f g = refl

-- the test of a node's name, as the code makes it
pub named_by : {T : Type 0} (cmp : T → T → Ordering) (n : List T) (m x : T) → slice_get n (length n - 1) ≡ Some x → has_name cmp m n ≡ is_eq (cmp x m)
named_by cmp n m x e =
    let inside = slice_get_within n (length n - 1) x e in
    rw (length_filled n (omega arith), last_some n m x e) refl

-- the last item of a list that is not empty
last_get : {X : Type 0} (x : X) (xs : List X) → last_item (x ∷ xs) ≡ Some (last_of xs x)
last_get x xs = subst (λ k. slice_get (x ∷ xs) k ≡ Some (last_of xs x)) {x = length xs} {y = length (x ∷ xs) - 1} (omega arith) (at_end x xs)
  where
    at_end : {X : Type 0} (x : X) (xs : List X) → slice_get (x ∷ xs) (length xs) ≡ Some (last_of xs x)
    at_end x [] = refl
    at_end x (y ∷ ys) = at_end y ys

pub copied-or : {X : Type 0} (a b : Option (Bor X)) → option_copied (option_or a b) ≡ option_or (option_copied a) (option_copied b)
copied-or None b = refl
copied-or (Some x) b = refl

-- the last item of two lists, and the first
last_item-append : {X : Type 0} (xs ys : List X) → last_item (xs ++ ys) ≡ option_or (last_item ys) (last_item xs)
last_item-append xs [] = rw (append-nil xs) refl
last_item-append xs (y ∷ ys) =
    slice_get-right xs (y ∷ ys) (length (xs ++ y ∷ ys) - 1) (length (y ∷ ys) - 1) (omega (arith, length-append xs (y ∷ ys))) ∙ rw (last_get y ys) refl

first_item-append : {X : Type 0} (xs ys : List X) → first_item (xs ++ ys) ≡ option_or (first_item xs) (first_item ys)
first_item-append [] ys = refl
first_item-append (x ∷ xs) ys = refl

-- the last item of the last node is the last item of the list
last_item-concat : {T : Type 0} (ns : List (List T)) (k : ℕ) (n : List T) → slice_get ns k ≡ Some n → k ≡ length ns - 1 → Each (λ n. is_filled n ≡ true) ns → last_item (concat ns) ≡ last_item n
last_item-concat ns k n =
    at_place (λ q j m. j ≡ length q - 1 → Each (λ n. is_filled n ≡ true) q → last_item (concat q) ≡ last_item m)
    (λ b m a last full.
    let none : a ≡ [] = nil_from_length a (omega (arith, last, length-append b (m ∷ a))) in
    rw (none, concat-append b (m ∷ []), append-nil m) (last_item-append (concat b) m ∙ filled_or m (last_item (concat b)) (each-right _ b (m ∷ a) full).0))
    ns k n
  where
    filled_or : {X : Type 0} (m : List X) (o : Option X) → is_filled m ≡ true → option_or (last_item m) o ≡ last_item m
    filled_or [] o full = absurd (false≢true full)
    filled_or (x ∷ xs) o full = rw (last_get x xs) refl

-- the neighbours of a place, as the code reads them
module _ {T N : Type 0} (f : N → List T) (items : List N) (filled : All (λ n. 1 ≤ n) (node_lengths (map f items))) (k : ℕ) (n : N) where
  pub item_before_is : last_item (take k items) ≡ Some n → last_item (concat (take k (map f items))) ≡ last_item (f n)
  item_before_is e =
      let front = take k (map f items) in
      let same : front ≡ map f (take k items) = take-map f k items in
      let full : Each (λ n. is_filled n ≡ true) front = each-left _ front (drop k (map f items)) (rw (take-append-drop k (map f items)) (filled_each (map f items) filled)) in
      let read : last_item front ≡ Some (f n) = rw (same, length-map (take k items) f) (slice_get-map f (take k items) (length (take k items) - 1) ∙ rw e refl) in
      last_item-concat front (length front - 1) (f n) read refl full

  pub item_from_is : slice_get items k ≡ Some n → first_item (concat (drop k (map f items))) ≡ first_item (f n)
  item_from_is e =
      at_place (λ q j m. Each (λ n. is_filled n ≡ true) q → first_item (concat (drop j q)) ≡ first_item m)
      (λ b m a full. rw (drop-append_seam b (m ∷ a)) (first_item-append m (concat a) ∙ filled_or m (first_item (concat a)) (each-right _ b (m ∷ a) full).0))
      (map f items) k (f n) (slice_get-map f items k ∙ rw e refl) (filled_each (map f items) filled)
    where
      filled_or : {X : Type 0} (m : List X) (o : Option X) → is_filled m ≡ true → option_or (first_item m) o ≡ first_item m
      filled_or [] o full = absurd (false≢true full)
      filled_or (x ∷ xs) o full = refl

-- ---- the nodes before a value and those from it on

module _ {T : Type 0} (cmp : T → T → Ordering) (o : IsTotalOrder cmp) (v : T) where
  -- the first of the nodes reaches v, and the items of the later nodes are above v
  abbrev pub Reached : List (List T) → Type 0
  Reached [] = Unit {0}
  Reached (n ∷ a) = (reaches cmp v n ≡ true) × (is_lt (cmp (last_of n v) v) ≡ false) × Each (λ y. cmp v y ≡ Less) (concat a)

  pub parted : (P : List (List T) → ℕ → Type 0)
      → ((b a : List (List T)) → Each (λ x. cmp x v ≡ Less) (concat b) → Reached a → P (b ++ a) (length b))
      → (ns : List (List T)) → Ruled cmp ns → P ns (position_or_len (reaches cmp v) ns)
  parted P hit [] rule = hit [] [] tt tt
  parted P hit (n ∷ ns) rule =
      elim (reaches cmp v n) as (λ t. reaches cmp v n ≡ t → P (n ∷ ns) (position_or_len (reaches cmp v) (n ∷ ns))) [
        | true ↦ λ e.
            let stop = reaching cmp o v n rule.filled.0 e in
            let here : position_or_len (reaches cmp v) (n ∷ ns) ≡ 0 = rw e refl in
            subst (λ k. P (n ∷ ns) k) (sym here) (hit [] (n ∷ ns) tt (e, stop, over_rest cmp o v n (concat ns) rule.filled.0 rule.up stop))
        | false ↦ λ e.
            let low = upto_last cmp o n v v (up-left cmp n (concat ns) rule.up) (not_reaching cmp o v n rule.filled.0 e) in
            let more : position_or_len (reaches cmp v) (n ∷ ns) ≡ suc (position_or_len (reaches cmp v) ns) = rw e (omega arith) in
            subst (λ k. P (n ∷ ns) k) (sym more)
            (parted (λ q k. P (n ∷ q) (suc k))
            (λ b a below on. hit (n ∷ b) a (each-append _ n (concat b) low below) on)
            ns (record { filled = rule.filled.1; up = up-right cmp n (concat ns) rule.up }))
      ] refl

  -- ---- the node of that name

  -- nodes above v have other names
  unnamed_above : (a : List (List T)) → Each (λ n. is_filled n ≡ true) a → Each (λ x. cmp v x ≡ Less) (concat a) → Each (λ n. has_name cmp v n ≡ false) a
  unnamed_above [] full high = tt
  unnamed_above (n ∷ a) full high =
      let last : cmp v (last_of n v) ≡ Less = each_last (λ x. cmp v x ≡ Less) n v full.0 (each-left _ n (concat a) high) in
      (rw (full.0, greater cmp o _ v last) refl, unnamed_above a full.1 (each-right _ n (concat a) high))

  named_here : (ns : List (List T)) → Ruled cmp ns → let k = position_or_len (reaches cmp v) ns in k < length ns → has_name cmp v (node_at ns k) ≡ true → node_named cmp ns v ≡ Some k
  named_here ns rule =
      parted (λ q k. Each (λ n. is_filled n ≡ true) q → k < length q → has_name cmp v (node_at q k) ≡ true → node_named cmp q v ≡ Some k)
      (λ b a low on. here b a low)
      ns rule rule.filled
    where
      here : (b a : List (List T)) → Each (λ x. cmp x v ≡ Less) (concat b) → Each (λ n. is_filled n ≡ true) (b ++ a)
          → length b < length (b ++ a) → has_name cmp v (node_at (b ++ a) (length b)) ≡ true
          → node_named cmp (b ++ a) v ≡ Some (length b)
      here b [] low full inside own = absurd (omega (arith, length-append b []))
      here b (n ∷ a) low full inside own = position_at (has_name cmp v) b n a (unnamed cmp o v b (each-left _ b (n ∷ a) full) low) (rw get_or-append_seam at own)

  named_not : (ns : List (List T)) → Ruled cmp ns → let k = position_or_len (reaches cmp v) ns in (k < length ns → has_name cmp v (node_at ns k) ≡ false) → node_named cmp ns v ≡ None
  named_not ns rule =
      parted (λ q k. Each (λ n. is_filled n ≡ true) q → (k < length q → has_name cmp v (node_at q k) ≡ false) → node_named cmp q v ≡ None)
      (λ b a low on. none b a low on)
      ns rule rule.filled
    where
      nowhere : (q : List (List T)) → Each (λ n. has_name cmp v n ≡ false) q → node_named cmp q v ≡ None
      nowhere q h = rw (place_none (has_name cmp v) q h, le-ltb (length q) (length q) (omega arith)) refl

      none : (b a : List (List T)) → Each (λ x. cmp x v ≡ Less) (concat b) → Reached a
          → Each (λ n. is_filled n ≡ true) (b ++ a)
          → (length b < length (b ++ a) → has_name cmp v (node_at (b ++ a) (length b)) ≡ false)
          → node_named cmp (b ++ a) v ≡ None
      none b [] low on full other = nowhere (b ++ []) (each-append _ b [] (unnamed cmp o v b (each-left _ b [] full) low) tt)
      none b (n ∷ a) low on full other =
          let rest : Each (λ n. is_filled n ≡ true) (n ∷ a) = each-right _ b (n ∷ a) full in
          let size = length-append b (n ∷ a) in
          let here = rw get_or-append_seam at (other (omega arith)) in
          nowhere (b ++ n ∷ a) (each-append _ b (n ∷ a) (unnamed cmp o v b (each-left _ b (n ∷ a) full) low) (here, unnamed_above a rest.1 on.2))

  -- the same, as the code holds the nodes
  module _ {N : Type 0} (f : N → List T) (items : List N) (rule : Ruled cmp (map f items)) (k : ℕ) (is : k ≡ position_or_len (reaches cmp v) (map f items)) where
    node_here : (n : N) → k < length items → n ≡ get_or items k n → node_at (map f items) (position_or_len (reaches cmp v) (map f items)) ≡ f n
    node_here n lt read = sym (node_is f items (map f items) k n refl lt read ∙ ap (λ j. node_at (map f items) j) is)

    pub named_when : (n : N) → k < length items → n ≡ get_or items k n → has_name cmp v (f n) ≡ true → node_named cmp (map f items) v ≡ Some k
    named_when n lt read own =
        rw is (named_here (map f items) rule (omega (arith, is, length-map items f)) (rw (node_here n lt read) own))

    pub unnamed_when : (n : N) → k < length items → n ≡ get_or items k n → has_name cmp v (f n) ≡ false → node_named cmp (map f items) v ≡ None
    unnamed_when n lt read other = named_not (map f items) rule (λ _. rw (node_here n lt read) other)

    pub unnamed_past : length items ≤ k → node_named cmp (map f items) v ≡ None
    unnamed_past past = named_not (map f items) rule (λ inside. absurd (omega (arith, inside, is, length-map items f)))

  -- the same for the node in which a search by the last items ends
  module _ {N : Type 0} (f : N → List T) (items : List N) (rule : Ruled cmp (map f items)) (k : ℕ)
      (is : k ≡ node_for (λ x. cmp x v) (map f items)) (n : N) (some : 1 ≤ length items)
      (read : n ≡ get_or items k n) where
    inside : k < length items
    inside = omega (arith, some, is, length-map items f)

    node_it : node_at (map f items) k ≡ f n
    node_it = node_read f items k n inside read []

    named_reaches : (m : List T) → has_name cmp v m ≡ true → reaches cmp v m ≡ true
    named_reaches [] own = absurd (false≢true own)
    named_reaches (x ∷ xs) own =
        let m = x ∷ xs in
        let end = get_or m (length m - 1) v in
        let read : slice_get m (length m - 1) ≡ Some end = slice_get_read m (length m) (length m - 1) end refl (omega arith) (get_or_default m (length m - 1) v end (omega arith)) in
        let equal : is_eq (cmp end v) ≡ true = rw (last_some m v end read) at own in
        rw read (rw (equal_from (cmp end v) equal) refl)

    some_lists : 1 ≤ length (map f items)
    some_lists = omega (arith, some, length-map items f)

    pub place_here : reaches cmp v (f n) ≡ true → k ≡ position_or_len (reaches cmp v) (map f items)
    place_here on = is ∙ min_place_here (reaches cmp v) (map f items) [] some_lists (rw (← is, node_it) on)

    pub place_past : reaches cmp v (f n) ≡ false → k + 1 ≡ position_or_len (reaches cmp v) (map f items)
    place_past below = ap (λ j. j + 1) is ∙ min_place_past (reaches cmp v) (map f items) [] some_lists (rw (← is, node_it) below)

    pub named_there : has_name cmp v (f n) ≡ true → node_named cmp (map f items) v ≡ Some k
    named_there own = named_when f items rule k (place_here (named_reaches (f n) own)) n inside read own

    pub unnamed_there : has_name cmp v (f n) ≡ false → node_named cmp (map f items) v ≡ None
    unnamed_there other =
        elim (cases_lt (position_or_len (reaches cmp v) (map f items)) (length items)) [
          | inl within ↦ unnamed_when f items rule k (omega (arith, is, within, length-map items f)) n inside read other
          | inr past ↦ unnamed_past f items rule (position_or_len (reaches cmp v) (map f items)) refl past
        ]

  -- ---- the items before a place and after it

  low_test : List T → Bool
  low_test l = option_map_or (λ x. is_lt (cmp x v)) (last_item l) true

  high_test : List T → Bool
  high_test r = option_map_or (λ x. is_lt (cmp v x)) (first_item r) true

  low_is : (l : List T) → Up cmp l → (low_test l ≡ true → Each (λ x. cmp x v ≡ Less) l) × (Each (λ x. cmp x v ≡ Less) l → low_test l ≡ true)
  unfolding low_test
  low_is [] up = (λ _. tt, λ _. refl)
  low_is (x ∷ xs) up =
      rw (last_get x xs)
      (λ e. upto_last cmp o (x ∷ xs) v v up (less_from (cmp (last_of xs x) v) e), λ low. ap is_lt (each_last (λ y. cmp y v ≡ Less) (x ∷ xs) v refl low))

  high_is : (r : List T) → Up cmp r → (high_test r ≡ true → Each (λ x. cmp v x ≡ Less) r) × (Each (λ x. cmp v x ≡ Less) r → high_test r ≡ true)
  unfolding high_test
  high_is [] up = (λ _. tt, λ _. refl)
  high_is (x ∷ xs) up = (λ e. let first = less_from (cmp v x) e in (first, each-map _ _ (λ y. o.trans v x y first) xs up.0), λ high. ap is_lt high.0)

  -- a value fits if it is between its neighbours
  pub between : (l r : List T) → Up cmp (l ++ r) → is_ascending cmp (l ++ v ∷ r) ≡ is_between cmp (last_item l) v (first_item r)
  unfolding low_test high_test
  between l r up =
      let low = low_is l (up-left cmp l r up) in
      let high = high_is r (up-right cmp l r up) in
      bool_same _ _
      (λ asc.
      let all = true_up cmp (l ++ v ∷ r) asc in
      let apart = up-between cmp l (v ∷ r) all in
      and_from (low_test l) (high_test r) (low.1 (each-map _ _ (λ x h. h.0) l apart)) (high.1 (up-right cmp l (v ∷ r) all).0))
      (λ test.
      let both = and_parts (low_test l) (high_test r) test in
      up_true cmp (l ++ v ∷ r) (up_put cmp l v r (low.0 both.0) (high.0 both.1) up))

  -- a value inserted into a node, or as a new node
  pub fits_node : (ns : List (List T)) → Ruled cmp ns → (p : ℕ) → p < length ns → (i : ℕ) → let n = node_at ns p in
      is_ascending cmp (concat (splice ns p (p + 1) (insert n i v ∷ [])))
      ≡ is_between cmp (option_or (last_item (take i n)) (last_item (concat (take p ns)))) v
      (option_or (first_item (drop i n)) (first_item (concat (drop (p + 1) ns))))
  fits_node ns rule p inside i =
      let n = node_at ns p in
      let b = concat (take p ns) in
      let a = concat (drop (p + 1) ns) in
      let whole : (b ++ take i n) ++ (drop i n ++ a) ≡ concat ns =
      append_assoc b (take i n) (drop i n ++ a)
      ∙ (ap (λ q. b ++ q) (sym (append_assoc (take i n) (drop i n) a) ∙ ap (λ q. q ++ a) (take-append-drop i n))
      ∙ sym (joined_around ns p inside)) in
      let made : concat (splice ns p (p + 1) (insert n i v ∷ [])) ≡ (b ++ take i n) ++ v ∷ (drop i n ++ a) = concat-splice ns (insert n i v ∷ []) p (p + 1) ∙ simp (append_assoc, append-nil) in
      rw made (between (b ++ take i n) (drop i n ++ a) (subst (Up cmp) (sym whole) rule.up) ∙ rw (last_item-append b (take i n), first_item-append (drop i n) a) refl)

  pub fits_alone : (ns : List (List T)) → Ruled cmp ns → (p : ℕ)
      → is_ascending cmp (concat (insert ns p (v ∷ [])))
      ≡ is_between cmp (last_item (concat (take p ns))) v (first_item (concat (drop p ns)))
  fits_alone ns rule p =
      let b = concat (take p ns) in
      let a = concat (drop p ns) in
      let whole : b ++ a ≡ concat ns = sym (concat-append (take p ns) (drop p ns)) ∙ ap concat (take-append-drop p ns) in
      rw (concat-append (take p ns) ((v ∷ []) ∷ drop p ns)) (between b a (subst (Up cmp) (sym whole) rule.up))
