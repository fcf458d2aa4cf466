-- Nodes that follow one another.
use Rattle.std.proofs.Common.{◌≡◌, ℕ, ◌<◌, ◌≤◌, ◌-◌, ◌+◌, Bool, true, false, not, ◌&&◌, nat_lt}
use Rattle.std.proofs.Common.{if◌then◌else◌, List, [], ◌∷◌, ◌++◌, length, map, drop, get_or, slice_get}
use Rattle.std.proofs.Common.{Option, Some, None, Ordering, refl, ap, sym, ◌∙◌, subst, arith}
use Rattle.std.specs.declared.cmp.Ordering.TheVariants.{Less}
use Rattle.std.specs.List.{list_all}
use Rattle.std.specs.Option.{option_map_or, option_or}
use Rattle.std.specs.Ordering.{is_lt}
use Rattle.std.specs.Cmp.{IsTotalOrder}
use Rattle.std.proofs.lemmas.Bool.{false≢true}
use Rattle.std.proofs.lemmas.Bool.Decides.{nat_tests}
use Rattle.std.proofs.lemmas.List.{drop_more, drop_all}
use Rattle.indexset_core.specs.declared.refusal.Refusal.{Refusal}
use Rattle.indexset_core.specs.declared.refusal.Refusal.TheVariants.{Overlaps, TooLarge}
use Rattle.indexset_core.specs.Nodes.{concat, IsNodeList, IsLawful}
use Rattle.indexset_core.proofs.CallerLemmas.{less_from}
use Rattle.indexset_events.specs.Attach.{lies_below, lies_apart, attach_refusal, follow_refusal, refusal_after, nodes_refusal}
use Rattle.indexset_events.specs.Nodes.{last_of, is_filled, is_ascending}
use Rattle.indexset_events.proofs.AscendingListLemmas.{Each, all_from_each, each-left, each-map, each_last, true_up}
use Rattle.indexset_events.proofs.AscendingListLemmas.{Up, up-between, up-left, up-right, up_true, upto_last}
use Rattle.indexset_events.proofs.AscendingListLemmas.{lawful_bounded, lawful_from, lawful_ruled, nodes_ruled}
use Rattle.indexset_events.proofs.AttachLemmas.{false_unless, up_join, below_each, each_below, both, good, not_refused}

last_there : {T : Type 0} (x : T) (xs : List T) → slice_get (x ∷ xs) (length xs) ≡ Some (last_of xs x)
last_there x [] = refl
last_there x (y ∷ ys) = last_there y ys

last_some : {T : Type 0} (x : T) (xs : List T) → slice_get (x ∷ xs) (length (x ∷ xs) - 1) ≡ Some (last_of xs x)
last_some x xs = subst (λ k. slice_get (x ∷ xs) k ≡ Some (last_of xs x)) {x = length xs} {y = length (x ∷ xs) - 1} (omega arith) (last_there x xs)

module _ {T : Type 0} (cmp : T → T → Ordering) (o : IsTotalOrder cmp) where
  -- a list lies below another if its last item is below the first item of the other
  pub below_by_ends : (m n : List T) (f : T) → is_ascending cmp m ≡ true → is_ascending cmp n ≡ true
      → slice_get n 0 ≡ Some f
      → lies_below cmp m n ≡ option_map_or (λ x. is_lt (cmp x f)) (slice_get m (length m - 1)) true
  below_by_ends [] n f um un e = refl
  below_by_ends (x ∷ xs) [] f um un e = let none : (let n : Option T = None in n) ≡ Some f = e in cc
  below_by_ends (x ∷ xs) (h ∷ t) f um un e =
      let same : h ≡ f = cc in
      subst
      (λ z. lies_below cmp (x ∷ xs) (h ∷ t)
      ≡ option_map_or (λ x. is_lt (cmp x z)) (slice_get (x ∷ xs) (length (x ∷ xs) - 1)) true)
      same (rw (last_some x xs) (decide (is_lt (cmp (last_of xs x) h)) refl))
    where
      up : Up cmp (h ∷ t)
      up = true_up cmp (h ∷ t) un

      decide : (b : Bool) → is_lt (cmp (last_of xs x) h) ≡ b → lies_below cmp (x ∷ xs) (h ∷ t) ≡ b
      decide true k =
          each_below cmp (x ∷ xs) (h ∷ t)
          (each-map _ _
          (λ y (l : cmp y h ≡ Less). (l, each-map _ _ (λ z (r : cmp h z ≡ Less). o.trans y h z l r) t up.0)) (x ∷ xs)
          (upto_last cmp o (x ∷ xs) x h (true_up cmp (x ∷ xs) um) (less_from _ k)))
      decide false k =
          false_unless _ (λ b.
          false≢true
          (sym k
          ∙ ap is_lt
          (each_last (λ y. cmp y h ≡ Less) (x ∷ xs) x refl
          (each-map _ _ (λ y (u : Each (λ z. cmp y z ≡ Less) (h ∷ t)). u.0) (x ∷ xs)
          (below_each cmp (x ∷ xs) (h ∷ t) b)))))

  -- the nodes that follow m
  record Follow (size : ℕ) (m : List T) (ns : List (List T)) : Type 0 where
    pub filled : Each (λ n. is_filled n ≡ true) ns
    pub small : Each (λ n. length n ≤ size) ns
    pub up : Up cmp (concat ns)
    pub above : Each (λ x. Each (λ y. cmp x y ≡ Less) (concat ns)) m

  none_left : (a b : Option Refusal) → option_or a b ≡ None → a ≡ None
  none_left None b h = refl
  none_left (Some e) b h = h

  none_right : (a b : Option Refusal) → option_or a b ≡ None → b ≡ None
  none_right None b h = h
  none_right (Some e) b h = let some : Some e ≡ (let n : Option Refusal = None in n) = h in cc

  is_so : (b : Bool) → (if b then None else Some Overlaps) ≡ None → b ≡ true
  is_so true h = refl
  is_so false h = let some : Some Overlaps ≡ None = h in cc

  nothing_above : (m : List T) → Each (λ x. Each (λ y. cmp x y ≡ Less) []) m
  nothing_above [] = tt
  nothing_above (x ∷ m) = (tt, nothing_above m)

  follow : (size : ℕ) (m : List T) (ns : List (List T)) → refusal_after cmp size m ns ≡ None → Follow size m ns
  follow size m [] h = record { filled = tt; small = tt; up = tt; above = nothing_above m }
  follow size m ([] ∷ ns) h =
      let k = good cmp o size [] [] (none_left _ _ (none_left _ _ h)) in
      absurd (false≢true k.full)
  follow size m ((f ∷ t) ∷ ns) h =
      let first = none_left (follow_refusal cmp size m (f ∷ t)) _ h in
      let k = good cmp o size [] (f ∷ t) (none_left _ _ first) in
      let fits = k.fits in
      let under = below_each cmp m (f ∷ t) (is_so _ (none_right (attach_refusal cmp size [] (f ∷ t)) _ first)) in
      let rest = follow size (f ∷ t) ns (none_right (follow_refusal cmp size m (f ∷ t)) _ h) in
      let within : length (f ∷ t) ≤ size = grind (arith, nat_tests) in
      record {
        filled = (refl, rest.filled);
        small = (within, rest.small);
        up = up_join cmp (f ∷ t) (concat ns) (true_up cmp (f ∷ t) k.up) rest.up rest.above;
        above =
            both cmp (f ∷ t) (concat ns) m under
            (each-map _ _
            (λ x (u : Each (λ y. cmp x y ≡ Less) (f ∷ t)). each-map _ _ (λ z (r : cmp f z ≡ Less). o.trans x f z u.0 r)
            (concat ns) rest.above.0)
            m under);
      }

  pub follow_lawful : (size : ℕ) (ns : List (List T)) → nodes_refusal cmp size ns ≡ None → IsLawful cmp size ns
  follow_lawful size ns h = let r = follow size [] ns h in lawful_from cmp size ns (record { filled = r.filled; up = r.up }) r.small

  -- a single node
  alone : (size : ℕ) (n : List T) → is_filled n ≡ true → length n ≤ size → is_ascending cmp n ≡ true → attach_refusal cmp size [] n ≡ None
  unfolding lies_apart
  alone size n full fits up = not_refused cmp size [] n full fits up refl

  -- the error of a node that follows another, if it has none by itself
  pub follow_told : (size : ℕ) (m n : List T) (f : T) (b : Bool) → is_filled n ≡ true → length n ≤ size
      → is_ascending cmp m ≡ true → is_ascending cmp n ≡ true → slice_get n 0 ≡ Some f
      → b ≡ option_map_or (λ x. is_lt (cmp x f)) (slice_get m (length m - 1)) true
      → follow_refusal cmp size m n ≡ (if b then None else Some Overlaps)
  follow_told size m n f b full fits um un first e =
      let apart : lies_below cmp m n ≡ b = below_by_ends m n f um un first ∙ sym e in
      rw (alone size n full fits un, apart) refl

-- an error is none or some, not both
pub not_both : {P : Type 0} {o : Option Refusal} {e : Refusal} → o ≡ None → o ≡ Some e → P
not_both {P} {o} {e} none some = let both : (let n : Option Refusal = None in n) ≡ Some e = sym none ∙ some in cc

-- nodes whose items ascend fail only for their sizes
module _ {T : Type 0} (cmp : T → T → Ordering) (size : ℕ) where
  abbrev fits : List T → Bool
  fits n = not (nat_lt size (length n))

  size_alone : (m n rest : List T) → is_filled n ≡ true → Up cmp (m ++ (n ++ rest)) → follow_refusal cmp size m n ≡ (if fits n then None else Some TooLarge)
  unfolding attach_refusal lies_apart
  size_alone m n rest full up =
      let rise : is_ascending cmp n ≡ true = up_true cmp n (up-left cmp n rest (up-right cmp m (n ++ rest) up)) in
      let under : lies_below cmp m n ≡ true = each_below cmp m n (each-map _ _ (λ x h. each-left _ n rest h) m (up-between cmp m (n ++ rest) up)) in
      rw (full, rise, under) (elim (nat_lt size (length n)) as (λ b. option_or (if b then Some TooLarge else None) None ≡ (if not b then None else Some TooLarge)) [ true ↦ refl | false ↦ refl ])

  sizes_alone : (m : List T) (ns : List (List T)) → Each (λ n. is_filled n ≡ true) ns → Up cmp (m ++ concat ns) → refusal_after cmp size m ns ≡ (if list_all fits ns then None else Some TooLarge)
  sizes_alone m [] full up = refl
  sizes_alone m (n ∷ ns) full up =
      rw (size_alone m n (concat ns) full.0 up, sizes_alone n ns full.1 (up-right cmp m (n ++ concat ns) up))
      (elim (fits n)
      as (λ b. option_or (if b then None else Some TooLarge) (if list_all fits ns then None else Some TooLarge)
      ≡ (if b && list_all fits ns then None else Some TooLarge)) [ true ↦ refl | false ↦ refl ])

  within_fits : (n : List T) → length n ≤ size → fits n ≡ true
  within_fits n h = let small : nat_lt size (length n) ≡ false = grind (arith, nat_tests) in rw small refl

  pub lawful_taken : (ns : List (List T)) → IsLawful cmp size ns → nodes_refusal cmp size ns ≡ None
  lawful_taken ns law =
      let rule = lawful_ruled cmp size ns law in
      sizes_alone [] ns rule.filled rule.up ∙ rw (all_from_each fits ns (each-map _ _ within_fits ns (lawful_bounded cmp size ns law))) refl

  large_alone : (b : Bool) (e : Refusal) → (if b then None else Some TooLarge) ≡ Some e → e ≡ TooLarge
  large_alone true e h = not_both refl h
  large_alone false e h = let some : Some TooLarge ≡ Some e = h in cc

  pub only_large : (ns : List (List T)) (e : Refusal) → IsNodeList cmp ns → nodes_refusal cmp size ns ≡ Some e → e ≡ TooLarge
  only_large ns e law h =
      let rule = nodes_ruled cmp ns law in
      large_alone (list_all fits ns) e (sym (sizes_alone [] ns rule.filled rule.up) ∙ h)

module _ {T N : Type 0} (cmp : T → T → Ordering) (f : N → List T) (ns : List N) (i size : ℕ) (m : List T) where
  -- the nodes from an index on
  pub follow_step : (v : N) (l : List T) → i < length ns → v ≡ get_or ns i v → l ≡ f v
      → refusal_after cmp size m (map f (drop i ns))
      ≡ option_or (follow_refusal cmp size m l) (refusal_after cmp size l (map f (drop (i + 1) ns)))
  follow_step v l lt is e = rw e (ap (λ q. refusal_after cmp size m (map f q)) (drop_more ns i v lt ∙ ap (λ w. w ∷ drop (i + 1) ns) (sym is)))

  pub follow_end : length ns ≤ i → refusal_after cmp size m (map f (drop i ns)) ≡ None
  follow_end le = ap (λ q. refusal_after cmp size m (map f q)) (drop_all i ns le)
