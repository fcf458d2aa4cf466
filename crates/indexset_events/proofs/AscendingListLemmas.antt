-- Ascending lists, item by item.
use Rattle.std.proofs.Common.{◌≡◌, ℕ, zero, suc, ◌≤◌, All, Bool, true, false, not, cond, List, [], ◌∷◌, ◌++◌, ◌&&◌, length, Ordering, refl, ap, sym, ◌∙◌, subst, arith, append_assoc, ◌-◌, get_or}
use Rattle.std.specs.declared.cmp.Ordering.TheVariants.{Less, Equal, Greater}
use Rattle.std.specs.List.{list_all, list_any, filter, count_by}
use Rattle.std.proofs.lemmas.List.Sums.{sum_by-cons}
use Rattle.std.proofs.lemmas.List.Elements.{filter-append}
use Rattle.std.proofs.lemmas.List.{append-nil}
use Rattle.std.specs.Ordering.{ordering_reverse, is_lt, is_eq, is_gt}
use Rattle.std.specs.Cmp.{IsTotalOrder}
use Rattle.std.proofs.lemmas.Bool.{false≢true}
use Rattle.indexset_core.specs.Order.{IsAscending, below, above, put, without, has_equal, rank, unequal}
use Rattle.indexset_core.proofs.CallerLemmas.{less_from, ends_last}
use Rattle.indexset_core.specs.Nodes.{concat, node_lengths, ends_less, IsNodeList, IsLawful}
use Rattle.indexset_events.specs.Nodes.{last_of, is_filled, is_ascending, are_nodes}

abbrev pub Each : {T : Type 0} → (T → Type 0) → List T → Type 0
Each P [] = Unit {0}
Each P (x ∷ xs) = P x × Each P xs

pub all_each : {X : Type 0} (P : X → Type 0) (xs : List X) → All P xs → Each P xs
all_each P [] h = tt
all_each P (x ∷ xs) h = (h 0 x (omega arith), all_each P xs (λ k d lt. h (suc k) d (omega arith)))

pub each_all : {X : Type 0} (P : X → Type 0) (xs : List X) → Each P xs → All P xs
each_all P [] h k d lt = absurd (omega arith)
each_all P (x ∷ xs) h zero d lt = h.0
each_all P (x ∷ xs) h (suc k) d lt = each_all P xs h.1 k d (omega arith)

pub filled_length : {X : Type 0} (xs : List X) → is_filled xs ≡ true → 1 ≤ length xs
filled_length [] full = absurd (false≢true full)
filled_length (x ∷ xs) full = omega arith

pub length_filled : {X : Type 0} (xs : List X) → 1 ≤ length xs → is_filled xs ≡ true
length_filled [] h = absurd (omega arith)
length_filled (x ∷ xs) h = refl

-- a property of the lengths of nodes, as one of the nodes
pub nodes_each : {T : Type 0} (P : ℕ → Type 0) (ns : List (List T)) → All P (node_lengths ns) → Each (λ n. P (length n)) ns
nodes_each P [] h = tt
nodes_each P (n ∷ ns) h = (h 0 0 (omega arith), nodes_each P ns (λ k d lt. h (suc k) d (omega arith)))

pub each_nodes : {T : Type 0} (P : ℕ → Type 0) (ns : List (List T)) → Each (λ n. P (length n)) ns → All P (node_lengths ns)
each_nodes P [] h k d lt = absurd (omega arith)
each_nodes P (n ∷ ns) h zero d lt = h.0
each_nodes P (n ∷ ns) h (suc k) d lt = each_nodes P ns h.1 k d (omega arith)

module _ {T : Type 0} (P : T → Type 0) where
  pub each-append : (xs ys : List T) → Each P xs → Each P ys → Each P (xs ++ ys)
  each-append [] ys h k = k
  each-append (x ∷ xs) ys h k = (h.0, each-append xs ys h.1 k)

  pub each-left : (xs ys : List T) → Each P (xs ++ ys) → Each P xs
  each-left [] ys h = tt
  each-left (x ∷ xs) ys h = (h.0, each-left xs ys h.1)

  pub each-right : (xs ys : List T) → Each P (xs ++ ys) → Each P ys
  each-right [] ys h = h
  each-right (x ∷ xs) ys h = each-right xs ys h.1

  pub each_last : (xs : List T) (d : T) → is_filled xs ≡ true → Each P xs → P (last_of xs d)
  each_last [] d full h = absurd (false≢true full)
  each_last (x ∷ []) d full h = h.0
  each_last (x ∷ y ∷ ys) d full h = each_last (y ∷ ys) x refl h.1

pub each-map : {T : Type 0} (P Q : T → Type 0) → ((x : T) → P x → Q x) → (xs : List T) → Each P xs → Each Q xs
each-map P Q f [] h = tt
each-map P Q f (x ∷ xs) h = (f x h.0, each-map P Q f xs h.1)

-- a test and its meaning
pub each_from_all : {T : Type 0} (p : T → Bool) (xs : List T) → list_all p xs ≡ true → Each (λ x. p x ≡ true) xs
each_from_all p [] h = tt
each_from_all p (x ∷ xs) h =
    elim (p x) as (λ b. (b && list_all p xs) ≡ true → (b ≡ true) × Each (λ x. p x ≡ true) xs) [
      | true ↦ λ k. (refl, each_from_all p xs k)
      | false ↦ λ k. absurd (false≢true k)
    ] h

pub all_from_each : {T : Type 0} (p : T → Bool) (xs : List T) → Each (λ x. p x ≡ true) xs → list_all p xs ≡ true
all_from_each p [] h = refl
all_from_each p (x ∷ xs) h = rw h.0 (all_from_each p xs h.1)

pub filter_every : {T : Type 0} (p : T → Bool) (xs : List T) → Each (λ x. p x ≡ true) xs → filter p xs ≡ xs
filter_every p [] h = refl
filter_every p (x ∷ xs) h = rw h.0 (ap (λ l. x ∷ l) (filter_every p xs h.1))

pub filter_no : {T : Type 0} (p : T → Bool) (xs : List T) → Each (λ x. p x ≡ false) xs → filter p xs ≡ []
filter_no p [] h = refl
filter_no p (x ∷ xs) h = rw h.0 (filter_no p xs h.1)

pub any_none : {T : Type 0} (p : T → Bool) (xs : List T) → Each (λ x. p x ≡ false) xs → list_any p xs ≡ false
any_none p [] h = refl
any_none p (x ∷ xs) h = rw h.0 (any_none p xs h.1)

pub any_parts : {T : Type 0} (p : T → Bool) (l m r : List T) → Each (λ x. p x ≡ false) l → Each (λ x. p x ≡ true) m → Each (λ x. p x ≡ false) r → list_any p (l ++ (m ++ r)) ≡ is_filled m
any_parts p [] [] r hl hm hr = any_none p r hr
any_parts p [] (x ∷ m) r hl hm hr = rw hm.0 refl
any_parts p (x ∷ l) m r hl hm hr = rw hl.0 (any_parts p l m r hl.1 hm hr)

pub count_no : {T : Type 0} (p : T → Bool) (xs : List T) → Each (λ x. p x ≡ false) xs → count_by p xs ≡ 0
count_no p [] h = refl
count_no p (x ∷ xs) h = sum_by-cons (λ x. cond (p x) 1 0) x xs ∙ rw h.0 (omega (arith, count_no p xs h.1))

pub count_front : {T : Type 0} (p : T → Bool) (l r : List T) → Each (λ x. p x ≡ true) l → Each (λ x. p x ≡ false) r → count_by p (l ++ r) ≡ length l
count_front p [] r hl hr = count_no p r hr
count_front p (x ∷ l) r hl hr = sum_by-cons (λ x. cond (p x) 1 0) x (l ++ r) ∙ rw hl.0 (omega (arith, count_front p l r hl.1 hr))

-- the last item of a list that is not empty
pub last_any : {T : Type 0} (xs : List T) (d e : T) → is_filled xs ≡ true → last_of xs d ≡ last_of xs e
last_any [] d e full = absurd (false≢true full)
last_any (x ∷ xs) d e full = refl

pub last-append : {T : Type 0} (xs ys : List T) (d e : T) → is_filled ys ≡ true → last_of (xs ++ ys) d ≡ last_of ys e
last-append [] ys d e full = last_any ys d e full
last-append (x ∷ xs) ys d e full = last-append xs ys x e full

pub filled-append : {T : Type 0} (xs : List T) (y : T) (ys : List T) → is_filled (xs ++ y ∷ ys) ≡ true
filled-append [] y ys = refl
filled-append (x ∷ xs) y ys = refl

last_get : {T : Type 0} (x : T) (xs : List T) (d : T) → last_of xs x ≡ get_or (x ∷ xs) (length xs) d
last_get x [] d = refl
last_get x (y ∷ ys) d = last_get y ys d

pub last_answer : {T : Type 0} (n : List T) (v : T) → last_of n v ≡ get_or n (length n - 1) v
last_answer [] v = refl
last_answer (x ∷ xs) v = subst (λ k. last_of xs x ≡ get_or (x ∷ xs) k v) {x = length xs} {y = length (x ∷ xs) - 1} (omega arith) (last_get x xs v)

-- whether a node ends below, by the answer for its last item
pub ends_by : {T : Type 0} (answer : T → Ordering) (n : List T) (d : T) → is_filled n ≡ true → ends_less answer n ≡ is_lt (answer (last_of n d))
ends_by answer [] d full = absurd (false≢true full)
ends_by answer (x ∷ xs) d full = ends_last answer (x ∷ xs) d (omega arith) ∙ ap (λ y. is_lt (answer y)) (sym (last_answer (x ∷ xs) d))

module _ {T : Type 0} (cmp : T → T → Ordering) where
  -- each item is below every later one
  abbrev pub Up : List T → Type 0
  Up [] = Unit {0}
  Up (x ∷ xs) = Each (λ y. cmp x y ≡ Less) xs × Up xs

  pub up_true : (xs : List T) → Up xs → is_ascending cmp xs ≡ true
  up_true [] h = refl
  up_true (x ∷ xs) h = rw (all_from_each (λ y. is_lt (cmp x y)) xs (each-map _ _ (λ y e. ap is_lt e) xs h.0)) (up_true xs h.1)

  pub true_up : (xs : List T) → is_ascending cmp xs ≡ true → Up xs
  true_up [] h = tt
  true_up (x ∷ xs) h =
      elim (list_all (λ y. is_lt (cmp x y)) xs) as (λ b. list_all (λ y. is_lt (cmp x y)) xs ≡ b → (b && is_ascending cmp xs) ≡ true → Up (x ∷ xs)) [
        | true ↦ λ e k. (each-map _ _ (λ y. less_from (cmp x y)) xs (each_from_all _ xs e), true_up xs k)
        | false ↦ λ e k. absurd (false≢true k)
      ] refl h

  pub ascends : (l : List T) → Up l → IsAscending cmp l
  ascends [] h a b d lt inside = absurd (omega arith)
  ascends (x ∷ xs) h a zero d lt inside = absurd (omega arith)
  ascends (x ∷ xs) h zero (suc b) d lt inside = each_all _ xs h.0 b d (omega arith)
  ascends (x ∷ xs) h (suc a) (suc b) d lt inside = ascends xs h.1 a b d (omega arith) (omega arith)

  pub rises : (l : List T) → IsAscending cmp l → Up l
  rises [] h = tt
  rises (x ∷ xs) h = (all_each (λ y. cmp x y ≡ Less) xs (λ k d lt. h 0 (suc k) d (omega arith) (omega arith)), rises xs (λ a b d lt inside. h (suc a) (suc b) d (omega arith) (omega arith)))

  pub up-left : (xs ys : List T) → Up (xs ++ ys) → Up xs
  up-left [] ys h = tt
  up-left (x ∷ xs) ys h = (each-left _ xs ys h.0, up-left xs ys h.1)

  pub up-right : (xs ys : List T) → Up (xs ++ ys) → Up ys
  up-right [] ys h = h
  up-right (x ∷ xs) ys h = up-right xs ys h.1

  pub up-between : (xs ys : List T) → Up (xs ++ ys) → Each (λ x. Each (λ y. cmp x y ≡ Less) ys) xs
  up-between [] ys h = tt
  up-between (x ∷ xs) ys h = (each-right _ xs ys h.0, up-between xs ys h.1)

  -- with one item less
  pub up_drop : (xs : List T) (y : T) (ys : List T) → Up (xs ++ y ∷ ys) → Up (xs ++ ys)
  up_drop [] y ys h = h.1
  up_drop (x ∷ xs) y ys h = (each-append _ xs ys (each-left _ xs (y ∷ ys) h.0) (each-right _ xs (y ∷ ys) h.0).1, up_drop xs y ys h.1)

  pub up_cross : (xs m ys : List T) → Up (xs ++ (m ++ ys)) → Up (xs ++ ys)
  up_cross xs [] ys h = h
  up_cross xs (y ∷ m) ys h = up_cross xs m ys (up_drop xs y (m ++ ys) h)

  -- with one item more
  pub up_put : (xs : List T) (v : T) (ys : List T) → Each (λ x. cmp x v ≡ Less) xs → Each (λ x. cmp v x ≡ Less) ys → Up (xs ++ ys) → Up (xs ++ v ∷ ys)
  up_put [] v ys low high h = (high, h)
  up_put (x ∷ xs) v ys low high h = (each-append _ xs (v ∷ ys) (each-left _ xs ys h.0) (low.0, each-right _ xs ys h.0), up_put xs v ys low.1 high h.1)

  -- the rule of node lists, item by item
  pub record Ruled (ns : List (List T)) : Type 0 where
    pub filled : Each (λ n. is_filled n ≡ true) ns
    pub up : Up (concat ns)

  pub ruled_nodes : (ns : List (List T)) → Ruled ns → IsNodeList cmp ns
  ruled_nodes ns h = record {
    filled = each_nodes (λ n. 1 ≤ n) ns (each-map _ _ filled_length ns h.filled);
    ascending = ascends (concat ns) h.up;
  }

  pub nodes_ruled : (ns : List (List T)) → IsNodeList cmp ns → Ruled ns
  nodes_ruled ns h = record {
    filled = each-map _ _ length_filled ns (nodes_each (λ n. 1 ≤ n) ns h.filled);
    up = rises (concat ns) h.ascending;
  }

  -- the test of node lists
  pub ruled_tested : (ns : List (List T)) → Ruled ns → are_nodes cmp ns ≡ true
  unfolding are_nodes
  ruled_tested ns h = rw (all_from_each is_filled ns h.filled) (up_true (concat ns) h.up)

  pub tested_ruled : (ns : List (List T)) → are_nodes cmp ns ≡ true → Ruled ns
  unfolding are_nodes
  tested_ruled ns h =
      elim (list_all is_filled ns) as (λ b. list_all is_filled ns ≡ b → (b && is_ascending cmp (concat ns)) ≡ true → Ruled ns) [
        | true ↦ λ e k. record { filled = each_from_all is_filled ns e; up = true_up (concat ns) k }
        | false ↦ λ e k. absurd (false≢true k)
      ] refl h

  pub nodes_tested : (ns : List (List T)) → IsNodeList cmp ns → are_nodes cmp ns ≡ true
  nodes_tested ns h = ruled_tested ns (nodes_ruled ns h)

  pub tested_nodes : (ns : List (List T)) → are_nodes cmp ns ≡ true → IsNodeList cmp ns
  tested_nodes ns h = ruled_nodes ns (tested_ruled ns h)

  module _ (size : ℕ) (ns : List (List T)) where
    pub lawful_from : Ruled ns → Each (λ n. length n ≤ size) ns → IsLawful cmp size ns
    lawful_from rule small = record { nodes = ruled_nodes ns rule; bounded = each_nodes (λ n. n ≤ size) ns small }

    pub lawful_ruled : IsLawful cmp size ns → Ruled ns
    lawful_ruled law = nodes_ruled ns law.nodes

    pub lawful_bounded : IsLawful cmp size ns → Each (λ n. length n ≤ size) ns
    lawful_bounded law = nodes_each (λ n. n ≤ size) ns law.bounded

  module _ (o : IsTotalOrder cmp) where
    pub greater : (x v : T) → cmp v x ≡ Less → cmp x v ≡ Greater
    greater x v h = o.antisymm x v ∙ ap ordering_reverse h

    pub lesser : (x v : T) → cmp x v ≡ Greater → cmp v x ≡ Less
    lesser x v h = o.antisymm v x ∙ ap ordering_reverse h

    -- an item equal to v is below the same items
    pub equal_below : (x v y : T) → cmp x v ≡ Equal → cmp x y ≡ Less → cmp v y ≡ Less
    equal_below x v y e h = sym (o.congr x v y e) ∙ h

    -- all items are below an item above the last
    pub upto_last : (xs : List T) (d v : T) → Up xs → cmp (last_of xs d) v ≡ Less → Each (λ x. cmp x v ≡ Less) xs
    upto_last [] d v up h = tt
    upto_last (x ∷ []) d v up h = (h, tt)
    upto_last (x ∷ y ∷ ys) d v up h = (o.trans x _ v (each_last (λ z. cmp x z ≡ Less) (y ∷ ys) x refl up.0) h, upto_last (y ∷ ys) x v up.1 h)

    module _ (p n q : List T) (v : T) (low : Each (λ x. cmp x v ≡ Less) p) (high : Each (λ x. cmp v x ≡ Less) q) where
      within-filter : (t : T → Bool) → filter t (p ++ (n ++ q)) ≡ filter t p ++ (filter t n ++ filter t q)
      within-filter t = filter-append t p (n ++ q) ∙ ap (λ z. filter t p ++ z) (filter-append t n q)

      -- a change between the items below v and the items above v
      pub put-within : put cmp (p ++ (n ++ q)) v ≡ p ++ (put cmp n v ++ q)
      unfolding put
      put-within =
          let front : below cmp (p ++ (n ++ q)) v ≡ p ++ below cmp n v =
          within-filter (λ x. is_lt (cmp x v))
          ∙ rw (
            filter_every (λ x. is_lt (cmp x v)) p (each-map _ _ (λ x e. ap is_lt e) p low),
            filter_no (λ x. is_lt (cmp x v)) q (each-map _ _ (λ x e. ap is_lt (greater x v e)) q high),
            append-nil (below cmp n v),
          )
          refl in
          let back : above cmp (p ++ (n ++ q)) v ≡ above cmp n v ++ q =
          within-filter (λ x. is_gt (cmp x v))
          ∙ rw (
            filter_no (λ x. is_gt (cmp x v)) p (each-map _ _ (λ x e. ap is_gt e) p low),
            filter_every (λ x. is_gt (cmp x v)) q (each-map _ _ (λ x e. ap is_gt (greater x v e)) q high),
          )
          refl in
          rw (front, back) (simp append_assoc)

    module _ (l m r : List T) (v : T) (low : Each (λ x. cmp x v ≡ Less) l) (same : Each (λ x. cmp x v ≡ Equal) m) (high : Each (λ x. cmp v x ≡ Less) r) where
      -- a test of the three parts
      test-low : (t : Ordering → Bool) (b : Bool) → t Less ≡ b → Each (λ x. t (cmp x v) ≡ b) l
      test-low t b h = each-map _ _ (λ x e. ap t e ∙ h) l low

      test-same : (t : Ordering → Bool) (b : Bool) → t Equal ≡ b → Each (λ x. t (cmp x v) ≡ b) m
      test-same t b h = each-map _ _ (λ x e. ap t e ∙ h) m same

      test-high : (t : Ordering → Bool) (b : Bool) → t Greater ≡ b → Each (λ x. t (cmp x v) ≡ b) r
      test-high t b h = each-map _ _ (λ x e. ap t (greater x v e) ∙ h) r high

      parts-filter : (p : T → Bool) → filter p (l ++ (m ++ r)) ≡ filter p l ++ (filter p m ++ filter p r)
      parts-filter p = filter-append p l (m ++ r) ∙ ap (λ q. filter p l ++ q) (filter-append p m r)

      put-same : put cmp m v ≡ v ∷ []
      unfolding put
      put-same = rw (filter_no (λ x. is_lt (cmp x v)) m (test-same is_lt false refl), filter_no (λ x. is_gt (cmp x v)) m (test-same is_gt false refl)) refl

      pub parts-put : put cmp (l ++ (m ++ r)) v ≡ l ++ v ∷ r
      parts-put = put-within l m r v low high ∙ ap (λ q. l ++ (q ++ r)) put-same

      pub parts-without : without cmp (l ++ (m ++ r)) v ≡ l ++ r
      unfolding unequal
      parts-without =
          parts-filter (λ x. not (is_eq (cmp x v)))
          ∙ rw (
            filter_every (λ x. not (is_eq (cmp x v))) l (test-low (λ a. not (is_eq a)) true refl),
            filter_no (λ x. not (is_eq (cmp x v))) m (test-same (λ a. not (is_eq a)) false refl),
            filter_every (λ x. not (is_eq (cmp x v))) r (test-high (λ a. not (is_eq a)) true refl),
          )
          refl

      pub parts-rank : rank cmp (l ++ (m ++ r)) v ≡ length l
      parts-rank = count_front (λ x. is_lt (cmp x v)) l (m ++ r) (test-low is_lt true refl) (each-append _ m r (test-same is_lt false refl) (test-high is_lt false refl))

      pub parts-has_equal : has_equal cmp (l ++ (m ++ r)) v ≡ is_filled m
      parts-has_equal = any_parts (λ x. is_eq (cmp x v)) l m r (test-low is_eq false refl) (test-same is_eq true refl) (test-high is_eq false refl)

    -- a list split around v
    pub around : (v : T) (P : List T → Type 0)
        → ((l r : List T) → Each (λ x. cmp x v ≡ Less) l → Each (λ x. cmp v x ≡ Less) r → P (l ++ r))
        → ((l : List T) (x : T) (r : List T) → Each (λ x. cmp x v ≡ Less) l → cmp x v ≡ Equal → Each (λ x. cmp v x ≡ Less) r → P (l ++ x ∷ r))
        → (n : List T) → Up n → P n
    around v P absent present [] up = absent [] [] tt tt
    around v P absent present (x ∷ n) up =
        elim (cmp x v) as (λ a. cmp x v ≡ a → P (x ∷ n)) [
          | Less ↦ λ e. around v (λ m. P (x ∷ m)) (λ l r low high. absent (x ∷ l) r (e, low) high) (λ l y r low same high. present (x ∷ l) y r (e, low) same high) n up.1
          | Equal ↦ λ e. present [] x n tt e (each-map _ _ (λ y. equal_below x v y e) n up.0)
          | Greater ↦ λ e. absent [] (x ∷ n) tt (lesser x v e, each-map _ _ (λ y. o.trans v x y (lesser x v e)) n up.0)
        ] refl
