-- Lawful nodes after a node was attached.
use Rattle.std.proofs.Common.{◌≡◌, ℕ, suc, min, ◌<◌, get_or, nat_lt, map, take, drop, not}
use Rattle.std.proofs.Common.{if◌then◌else◌, inl, inr, ◌+◌, ◌-◌, ◌≤◌, Bool, true, false, ◌||◌, ◌&&◌}
use Rattle.std.proofs.Common.{List, [], ◌∷◌, ◌++◌, length, insert, slice_get, Some, None, Option}
use Rattle.std.proofs.Common.{Ordering, refl, ap, sym, ◌∙◌, subst, arith, append_assoc, length-append}
use Rattle.std.specs.declared.cmp.Ordering.TheVariants.{Less, Equal, Greater}
use Rattle.std.specs.List.{list_all, position_or_len, IsAllAdjacentAnswer}
use Rattle.std.specs.Option.{option_map_or}
use Rattle.std.specs.Ordering.{is_lt}
use Rattle.std.specs.Cmp.{IsTotalOrder}
use Rattle.std.proofs.lemmas.Bool.{false≢true, cases_lt, lt-ltb}
use Rattle.std.proofs.lemmas.Bool.Decides.{nat_tests}
use Rattle.std.proofs.lemmas.List.Sums.{count_by-le-length, fails_before_first, passes_at_first}
use Rattle.indexset_core.specs.declared.refusal.Refusal.TheVariants.{Empty, TooLarge, Unsorted, Overlaps}
use Rattle.std.proofs.lemmas.List.{map-append, take-map, drop-map}
use Rattle.indexset_core.specs.Nodes.{concat, node_at, IsLawful}
use Rattle.indexset_core.proofs.CallerLemmas.{concat-append, less_from}
use Rattle.indexset_events.specs.Attach.{lies_below, lies_apart, attach_index, attached, attach_refusal}
use Rattle.indexset_events.specs.Nodes.{last_of, is_filled, is_ascending}
use Rattle.indexset_events.specs.Replay.{reaches}
use Rattle.indexset_events.proofs.AscendingListLemmas.{Each, each-append, each-left, each-right, each-map, each_last}
use Rattle.indexset_events.proofs.AscendingListLemmas.{each_from_all, all_from_each, count_front, last_answer}
use Rattle.indexset_events.proofs.AscendingListLemmas.{true_up, up_true, ascends, Up, up-left, up-right, up-between}
use Rattle.indexset_events.proofs.AscendingListLemmas.{Ruled, upto_last, lawful_from, lawful_ruled, lawful_bounded}
use Rattle.indexset_events.proofs.StepLemmas.{place_seam, insert_at, reached}
use Rattle.indexset_events.proofs.ReplayLemmas.{over_rest, reaching, not_reaching}

all_front : {X : Type 0} (p : X → Bool) (b a : List X) → Each (λ x. p x ≡ true) b → list_all p (b ++ a) ≡ list_all p a
all_front p [] a h = refl
all_front p (x ∷ b) a h = rw h.0 (all_front p b a h.1)

or_left : (a b : Bool) → a ≡ true → (a || b) ≡ true
or_left a b h = rw h refl

or_right : (a b : Bool) → a ≡ false → (a || b) ≡ b
or_right a b h = rw h refl

-- the tests of two lists that agree at each item
all_same : {X : Type 0} (p q : X → Bool) (l : List X) → Each (λ x. p x ≡ q x) l → list_all p l ≡ list_all q l
all_same p q [] h = refl
all_same p q (x ∷ l) h = rw (h.0, all_same p q l h.1) refl

pub position_le : {X : Type 0} (q : X → Bool) (xs : List X) → position_or_len q xs ≤ length xs
position_le q [] = omega arith
position_le q (x ∷ xs) = elim (q x) as (λ b. q x ≡ b → position_or_len q (x ∷ xs) ≤ length (x ∷ xs)) [
  | true ↦ λ e. rw e (omega arith)
  | false ↦ λ e. rw e (omega (arith, position_le q xs))
] refl

pub false_unless : (b : Bool) → (b ≡ true → ⊥) → b ≡ false
false_unless true h = absurd (h refl)
false_unless false h = refl

node_past : {X : Type 0} (b a : List (List X)) → node_at (b ++ a) (length b) ≡ node_at a 0
node_past [] a = refl
node_past (m ∷ b) a = node_past b a

module _ {T : Type 0} (cmp : T → T → Ordering) where
  -- two ascending lists, one below the other
  pub up_join : (xs ys : List T) → Up cmp xs → Up cmp ys → Each (λ x. Each (λ y. cmp x y ≡ Less) ys) xs → Up cmp (xs ++ ys)
  up_join [] ys left right between = right
  up_join (x ∷ xs) ys left right between = (each-append _ xs ys left.0 between.0, up_join xs ys left.1 right between.1)

  pub below_each : (l r : List T) → lies_below cmp l r ≡ true → Each (λ x. Each (λ y. cmp x y ≡ Less) r) l
  below_each l r h = each-map _ _ (λ x e. each-map _ _ (λ y k. less_from (cmp x y) k) r (each_from_all _ r e)) l (each_from_all _ l h)

  pub each_below : (l r : List T) → Each (λ x. Each (λ y. cmp x y ≡ Less) r) l → lies_below cmp l r ≡ true
  each_below l r h = all_from_each _ l (each-map _ _ (λ x e. all_from_each (λ y. is_lt (cmp x y)) r (each-map _ _ (λ y k. ap is_lt k) r e)) l h)

  pub both : (ys zs l : List T) → Each (λ x. Each (λ y. cmp x y ≡ Less) ys) l → Each (λ x. Each (λ y. cmp x y ≡ Less) zs) l → Each (λ x. Each (λ y. cmp x y ≡ Less) (ys ++ zs)) l
  both ys zs [] h k = tt
  both ys zs (x ∷ l) h k = (each-append _ ys zs h.0 k.0, both ys zs l h.1 k.1)

  -- nodes below a list, joined
  joined_below : (n : List T) (b : List (List T)) → Each (λ m. lies_below cmp m n ≡ true) b → Each (λ x. Each (λ y. cmp x y ≡ Less) n) (concat b)
  joined_below n [] h = tt
  joined_below n (m ∷ b) h = each-append _ m (concat b) (below_each m n h.0) (joined_below n b h.1)

  -- items that satisfy P, joined
  each_join : (P : T → Type 0) (a : List (List T)) → Each (λ m. Each P m) a → Each P (concat a)
  each_join P [] h = tt
  each_join P (m ∷ a) h = each-append P m (concat a) h.0 (each_join P a h.1)

  each_split : (P : T → Type 0) (a : List (List T)) → Each P (concat a) → Each (λ m. Each P m) a
  each_split P [] h = tt
  each_split P (m ∷ a) h = (each-left P m (concat a) h, each_split P a (each-right P m (concat a) h))

  -- each item of a list that lies below nodes is below all items of the nodes
  one_below : (n : List T) (a : List (List T)) → Each (λ m. lies_below cmp n m ≡ true) a → Each (λ y. Each (λ z. cmp y z ≡ Less) (concat a)) n
  one_below n a h = turn n a (each-map _ _ (λ m e. below_each n m e) a h)
    where
      turn : (n : List T) (a : List (List T)) → Each (λ m. Each (λ y. Each (λ z. cmp y z ≡ Less) m) n) a → Each (λ y. Each (λ z. cmp y z ≡ Less) (concat a)) n
      turn [] a h = tt
      turn (y ∷ n) a h = (each_join (λ z. cmp y z ≡ Less) a (each-map _ _ (λ m e. e.0) a h), turn n a (each-map _ _ (λ m e. e.1) a h))

  -- the facts that a call needs to attach the node n, from its first item to its last
  pub record Attaches (ns : List (List T)) (n : List T) (first last : T) : Type 0 where
    pub index : attach_index cmp ns n ≡ position_or_len (reaches cmp first) ns
    pub apart : lies_apart cmp ns n ≡ option_map_or (λ x. is_lt (cmp last x)) (slice_get (node_at ns (position_or_len (reaches cmp first) ns)) 0) true
    pub rule : lies_apart cmp ns n ≡ true → Ruled cmp (attached cmp ns n)
    pub small : (size : ℕ) → length n ≤ size → Each (λ m. length m ≤ size) ns → Each (λ m. length m ≤ size) (attached cmp ns n)
    pub count : length (concat (attached cmp ns n)) ≡ length (concat ns) + length n

  module _ (o : IsTotalOrder cmp) where
    -- an item above the last item is above all
    under_last : (n : List T) (d : T) → Up cmp n → Each (λ y. (z : T) → cmp (last_of n d) z ≡ Less → cmp y z ≡ Less) n
    under_last [] d up = tt
    under_last (x ∷ []) d up = ((λ z h. h), tt)
    under_last (x ∷ y ∷ ys) d up = ((λ z h. o.trans x (last_of (y ∷ ys) x) z (each_last (λ w. cmp x w ≡ Less) (y ∷ ys) x refl up.0) h), under_last (y ∷ ys) x up.1)

    -- the node f ∷ t, whose last item is last_of t f
    module _ (f : T) (t : List T) (up : Up cmp (f ∷ t)) where
      -- an item below the first item is below all
      over_first : (x : T) → cmp x f ≡ Less → Each (λ y. cmp x y ≡ Less) (f ∷ t)
      over_first x h = (h, each-map _ _ (λ y e. o.trans x f y h e) t up.0)

      before_it : (m : List T) → is_filled m ≡ true → Up cmp m → reaches cmp f m ≡ false → lies_below cmp m (f ∷ t) ≡ true
      before_it m full rise h = each_below m (f ∷ t) (each-map _ _ over_first m (upto_last cmp o m f f rise (not_reaching cmp o f m full h)))

      not_before : (m : List T) → is_filled m ≡ true → reaches cmp f m ≡ true → lies_below cmp m (f ∷ t) ≡ false
      not_before m full h =
          false_unless _ (λ e.
          false≢true
          (sym (reaching cmp o f m full h)
          ∙ ap is_lt
          (each_last (λ x. cmp x f ≡ Less) m f full
          (each-map _ _ (λ x (k : Each (λ y. cmp x y ≡ Less) (f ∷ t)). k.0) m (below_each m (f ∷ t) e)))))

      all_not_before : (a : List (List T)) → Each (λ m. is_filled m ≡ true) a → Each (λ m. reaches cmp f m ≡ true) a → Each (λ m. lies_below cmp m (f ∷ t) ≡ false) a
      all_not_before [] full h = tt
      all_not_before (m ∷ a) full h = (not_before m full.0 h.0, all_not_before a full.1 h.1)

      -- the nodes before the place of the node and those after it
      parts : (P : List (List T) → Type 0)
          → ((b a : List (List T)) → Ruled cmp (b ++ a) → Each (λ m. lies_below cmp m (f ∷ t) ≡ true) b
          → Each (λ m. reaches cmp f m ≡ false) b → Each (λ m. lies_below cmp m (f ∷ t) ≡ false) a
          → Each (λ m. reaches cmp f m ≡ true) a → P (b ++ a))
          → (ns : List (List T)) → Ruled cmp ns → P ns
      parts P hit ns rule = go P hit [] ns rule rule tt tt
        where
          go : (P : List (List T) → Type 0)
              → ((b a : List (List T)) → Ruled cmp (b ++ a) → Each (λ m. lies_below cmp m (f ∷ t) ≡ true) b
              → Each (λ m. reaches cmp f m ≡ false) b → Each (λ m. lies_below cmp m (f ∷ t) ≡ false) a
              → Each (λ m. reaches cmp f m ≡ true) a → P (b ++ a))
              → (b ns : List (List T)) → Ruled cmp (b ++ ns) → Ruled cmp ns → Each (λ m. lies_below cmp m (f ∷ t) ≡ true) b → Each (λ m. reaches cmp f m ≡ false) b → P (b ++ ns)
          go P hit b [] whole rule below past = hit b [] whole below past tt tt
          go P hit b (m ∷ ns) whole rule below past =
              let filled = rule.filled in
              elim (reaches cmp f m) as (λ r. reaches cmp f m ≡ r → P (b ++ m ∷ ns)) [
                | true ↦ λ e.
                    let rest = reached cmp o f ns filled.1 (over_rest cmp o f m (concat ns) filled.0 rule.up (reaching cmp o f m filled.0 e)) in
                    hit b (m ∷ ns) whole below past (all_not_before (m ∷ ns) filled (e, rest)) (e, rest)
                | false ↦ λ e.
                    let more : (b ++ m ∷ []) ++ ns ≡ b ++ m ∷ ns = append_assoc b (m ∷ []) ns in
                    let under : lies_below cmp m (f ∷ t) ≡ true = before_it m filled.0 (up-left cmp m (concat ns) rule.up) e in
                    subst P more
                    (go P hit (b ++ m ∷ []) ns (subst (Ruled cmp) (sym more) whole)
                    (record { filled = filled.1; up = up-right cmp m (concat ns) rule.up })
                    (each-append _ b (m ∷ []) below (under, tt)) (each-append _ b (m ∷ []) past (e, tt)))
              ] refl

      apart_rest : (b a : List (List T)) → Each (λ m. lies_below cmp m (f ∷ t) ≡ true) b
          → Each (λ m. lies_below cmp m (f ∷ t) ≡ false) a
          → lies_apart cmp (b ++ a) (f ∷ t) ≡ list_all (λ m. lies_below cmp (f ∷ t) m) a
      unfolding lies_apart
      apart_rest b a below above =
          all_front _ b a (each-map _ _ (λ m e. or_left (lies_below cmp m (f ∷ t)) (lies_below cmp (f ∷ t) m) e) b below)
          ∙ all_same _ _ a (each-map _ _ (λ m e. or_right (lies_below cmp m (f ∷ t)) (lies_below cmp (f ∷ t) m) e) a above)

      first_clear : (x : T) (m : List T) (a : List (List T)) → Up cmp ((x ∷ m) ++ concat a) → list_all (λ m. lies_below cmp (f ∷ t) m) ((x ∷ m) ∷ a) ≡ is_lt (cmp (last_of t f) x)
      first_clear x m a rise =
          elim (cmp (last_of t f) x) as (λ r. cmp (last_of t f) x ≡ r → list_all (λ m. lies_below cmp (f ∷ t) m) ((x ∷ m) ∷ a) ≡ is_lt r) [
            | Less ↦ λ e. clear e
            | Equal ↦ λ e. blocked (ap is_lt e)
            | Greater ↦ λ e. blocked (ap is_lt e)
          ] refl
        where
          clear : cmp (last_of t f) x ≡ Less → list_all (λ m. lies_below cmp (f ∷ t) m) ((x ∷ m) ∷ a) ≡ true
          clear e =
              let rest : Each (λ z. cmp (last_of t f) z ≡ Less) (concat ((x ∷ m) ∷ a)) = (e, each-map _ _ (λ z k. o.trans (last_of t f) x z e k) (m ++ concat a) rise.0) in
              all_from_each (λ m. lies_below cmp (f ∷ t) m) ((x ∷ m) ∷ a)
              (each-map _ _
              (λ q (k : Each (λ z. cmp (last_of t f) z ≡ Less) q). each_below (f ∷ t) q
              (each-map _ _ (λ y (u : (z : T) → cmp (last_of t f) z ≡ Less → cmp y z ≡ Less). each-map _ _ u q k)
              (f ∷ t) (under_last (f ∷ t) f up)))
              ((x ∷ m) ∷ a) (each_split _ ((x ∷ m) ∷ a) rest))

          blocked : is_lt (cmp (last_of t f) x) ≡ false → list_all (λ m. lies_below cmp (f ∷ t) m) ((x ∷ m) ∷ a) ≡ false
          blocked e =
              elim (lies_below cmp (f ∷ t) (x ∷ m)) as (λ b. lies_below cmp (f ∷ t) (x ∷ m) ≡ b → (b && list_all (λ m. lies_below cmp (f ∷ t) m) a) ≡ false) [
                | true ↦
                    λ k.
                    absurd
                    (false≢true
                    (sym e
                    ∙ ap is_lt
                    (each_last (λ y. cmp y x ≡ Less) (f ∷ t) f refl
                    (each-map _ _ (λ y (u : Each (λ z. cmp y z ≡ Less) (x ∷ m)). u.0) (f ∷ t)
                    (below_each (f ∷ t) (x ∷ m) k)))))
                | false ↦ λ k. refl
              ] refl

      after : (a : List (List T)) → Each (λ m. is_filled m ≡ true) a → Up cmp (concat a)
          → list_all (λ m. lies_below cmp (f ∷ t) m) a
          ≡ option_map_or (λ x. is_lt (cmp (last_of t f) x)) (slice_get (node_at a 0) 0) true
      after [] full rise = refl
      after ([] ∷ a) full rise = absurd (false≢true full.0)
      after ((x ∷ m) ∷ a) full rise = first_clear x m a rise

      attaches : (ns : List (List T)) → Ruled cmp ns → Attaches ns (f ∷ t) f (last_of t f)
      unfolding attach_index
      attaches = parts (λ ns. Attaches ns (f ∷ t) f (last_of t f)) (λ b a rule below past above far.
          let at : position_or_len (reaches cmp f) (b ++ a) ≡ length b = place_seam (reaches cmp f) b a past far in
          let index = count_front (λ m. lies_below cmp m (f ∷ t)) b a below above in
          let apart = apart_rest b a below above in
          let made : insert (b ++ a) (length b) (f ∷ t) ≡ b ++ (f ∷ t) ∷ a = insert_at b a (f ∷ t) in
          let long = length-append b a in
          let first : Each (λ m. is_filled m ≡ true) b = each-left _ b a rule.filled in
          let second : Each (λ m. is_filled m ≡ true) a = each-right _ b a rule.filled in
          let rise : Up cmp (concat b ++ concat a) = subst (Up cmp) (concat-append b a) rule.up in
          record {
            index = index ∙ sym at;
            apart = rw (at, node_past b a) (apart ∙ after a second (up-right cmp (concat b) (concat a) rise));
            rule = λ e.
                let over : Each (λ m. lies_below cmp (f ∷ t) m ≡ true) a = each_from_all _ a (sym apart ∙ e) in
                rw (index, made) (record {
                  filled = each-append _ b ((f ∷ t) ∷ a) first (refl, second);
                  up = rw (concat-append b ((f ∷ t) ∷ a))
                      (up_join (concat b) ((f ∷ t) ++ concat a) (up-left cmp (concat b) (concat a) rise)
                      (up_join (f ∷ t) (concat a) up (up-right cmp (concat b) (concat a) rise) (one_below (f ∷ t) a over))
                      (both (f ∷ t) (concat a) (concat b) (joined_below (f ∷ t) b below) (up-between cmp (concat b) (concat a) rise)));
                });
            small = λ size fits small. rw (index, made) (each-append _ b ((f ∷ t) ∷ a) (each-left _ b a small) (fits, each-right _ b a small));
            count =
                rw (index, made, concat-append b ((f ∷ t) ∷ a), concat-append b a)
                (omega (
                  arith,
                  length-append (concat b) ((f ∷ t) ++ concat a),
                  length-append (concat b) (concat a),
                  length-append (f ∷ t) (concat a),
                ));
          })

    -- the same for a node as the code reads it
    pub attaches_node : (ns : List (List T)) → Ruled cmp ns → (n : List T) (first last : T)
        → slice_get n 0 ≡ Some first → last ≡ get_or n (length n - 1) last → is_ascending cmp n ≡ true
        → Attaches ns n first last
    attaches_node ns rule [] first last e l up = let none : (let n : Option T = None in n) ≡ Some first = e in cc
    attaches_node ns rule (f ∷ t) first last e l up =
        let same : f ≡ first = cc in
        let end : last_of t f ≡ last = last_answer (f ∷ t) last ∙ sym l in
        subst (λ z. Attaches ns (f ∷ t) z last) same (subst (λ z. Attaches ns (f ∷ t) f z) end (attaches f t (true_up cmp (f ∷ t) up) ns rule))

pub filled_first : {X : Type 0} (n : List X) (x : X) → slice_get n 0 ≡ Some x → is_filled n ≡ true
filled_first {X} [] x h = let none : (let n : Option X = None in n) ≡ Some x = h in cc
filled_first (y ∷ n) x h = refl

-- the error of a node, test by test
module _ {T : Type 0} (cmp : T → T → Ordering) (size : ℕ) (ns : List (List T)) (n : List T) where
  pub refused_empty : slice_get n 0 ≡ None → attach_refusal cmp size ns n ≡ Some Empty
  unfolding attach_refusal
  refused_empty h = rw (not_filled n h) refl
    where
      not_filled : (n : List T) → slice_get n 0 ≡ None → is_filled n ≡ false
      not_filled [] h = refl
      not_filled (x ∷ n) h = let some : Some x ≡ None = h in cc

  module _ (full : is_filled n ≡ true) where
    pub refused_large : size < length n → attach_refusal cmp size ns n ≡ Some TooLarge
    unfolding attach_refusal
    refused_large h = rw (full, lt-ltb size (length n) h) refl

    module _ (fits : length n ≤ size) where
      small : nat_lt size (length n) ≡ false
      small = grind (arith, nat_tests)

      pub refused_unsorted : is_ascending cmp n ≡ false → attach_refusal cmp size ns n ≡ Some Unsorted
      unfolding attach_refusal
      refused_unsorted h = rw (full, small, h) refl

      pub refused_overlap : is_ascending cmp n ≡ true → lies_apart cmp ns n ≡ false → attach_refusal cmp size ns n ≡ Some Overlaps
      unfolding attach_refusal
      refused_overlap up h = rw (full, small, up, h) refl

      -- by the place of the node, and whether the next node, if any, begins above it
      pub attach_told : (o : IsTotalOrder cmp) → Ruled cmp ns → is_ascending cmp n ≡ true
          → (p : ℕ) (f l : T) (b : Bool) → slice_get n 0 ≡ Some f → l ≡ get_or n (length n - 1) l
          → p ≡ position_or_len (reaches cmp f) ns
          → b ≡ option_map_or (λ x. is_lt (cmp l x)) (slice_get (node_at ns p) 0) true
          → (p ≡ attach_index cmp ns n) × (attach_refusal cmp size ns n ≡ (if not b then Some Overlaps else None))
      unfolding attach_refusal
      attach_told o rule up p f l b first last place above =
          let d = attaches_node cmp o ns rule n f l first last up in
          let apart : lies_apart cmp ns n ≡ b = d.apart ∙ sym (rw place at above) in
          (place ∙ sym d.index, rw (full, small, up, apart) refl)

      pub not_refused : is_ascending cmp n ≡ true → lies_apart cmp ns n ≡ true → attach_refusal cmp size ns n ≡ None
      unfolding attach_refusal
      not_refused up h = rw (full, small, up, h) refl

-- lawful nodes after the insertion of a node without an error
module _ {T : Type 0} (cmp : T → T → Ordering) (o : IsTotalOrder cmp) (size : ℕ) (ns : List (List T)) where
  pub record Good (n : List T) : Type 0 where
    pub full : is_filled n ≡ true
    pub fits : nat_lt size (length n) ≡ false
    pub up : is_ascending cmp n ≡ true
    pub apart : lies_apart cmp ns n ≡ true

  pub good : (n : List T) → attach_refusal cmp size ns n ≡ None → Good n
  unfolding attach_refusal
  good n h = record { full = grind arith; fits = grind arith; up = grind arith; apart = grind arith }

  -- the node is inserted, and the nodes stay lawful
  pub record Added (n : List T) : Type 0 where
    pub lawful : IsLawful cmp size (attached cmp ns n)
    pub counted : length (concat (attached cmp ns n)) ≡ length (concat ns) + length n

  pub added : (n : List T) → IsLawful cmp size ns → attach_refusal cmp size ns n ≡ None → Added n
  added [] law h = let k = good [] h in absurd (false≢true k.full)
  added (f ∷ t) law h =
      let k = good (f ∷ t) h in
      let fits = k.fits in
      let d = attaches cmp o f t (true_up cmp (f ∷ t) k.up) ns (lawful_ruled cmp size ns law) in
      let within : length (f ∷ t) ≤ size = grind (arith, nat_tests) in
      record { lawful = lawful_from cmp size _ (d.rule k.apart) (d.small size within (lawful_bounded cmp size ns law)); counted = omega (arith, d.count) }

-- the test of an ascending list by neighbours
module _ {T : Type 0} (cmp : T → T → Ordering) (o : IsTotalOrder cmp) where
  pub ascending_by_steps : (xs : List T) → ((k : ℕ) (d : T) → suc k < length xs → cmp (get_or xs k d) (get_or xs (suc k) d) ≡ Less) → is_ascending cmp xs ≡ true
  ascending_by_steps xs h = up_true cmp xs (climbs xs h)
    where
      climbs : (xs : List T) → ((k : ℕ) (d : T) → suc k < length xs → cmp (get_or xs k d) (get_or xs (suc k) d) ≡ Less) → Up cmp xs
      climbs [] h = tt
      climbs (x ∷ []) h = (tt, tt)
      climbs (x ∷ y ∷ ys) h =
          let rest : Up cmp (y ∷ ys) = climbs (y ∷ ys) (λ k d lt. h (suc k) d (omega arith)) in
          let step : cmp x y ≡ Less = h 0 x (omega arith) in
          ((step, each-map _ _ (λ z e. o.trans x y z step e) ys rest.0), rest)

  pub falls_at : (xs : List T) (k : ℕ) (d : T) → suc k < length xs → is_lt (cmp (get_or xs k d) (get_or xs (suc k) d)) ≡ false → is_ascending cmp xs ≡ false
  falls_at xs k d lt h = false_unless _ (λ e. false≢true (sym h ∙ ap is_lt (ascends cmp xs (true_up cmp xs e) k (suc k) d (omega arith) lt)))

  -- the result of a test of all neighbours
  pub ascending_answer : (xs : List T) (r : Bool) → IsAllAdjacentAnswer (λ x y b. b ≡ is_lt (cmp x y)) xs r → r ≡ is_ascending cmp xs
  ascending_answer xs true h =
      sym (ascending_by_steps xs (λ k d lt. subst (λ j. cmp (get_or xs k d) (get_or xs j d) ≡ Less) {x = k + 1} {y = suc k} (omega arith) (less_from _ (sym (h k d (omega arith))))))
  ascending_answer [] false h = let past = h.1 in absurd (omega arith)
  ascending_answer (x ∷ xs) false h =
      let k = h.0 in
      sym (falls_at (x ∷ xs) k x (omega (arith, h.1)) (subst (λ j. is_lt (cmp (get_or (x ∷ xs) k x) (get_or (x ∷ xs) j x)) ≡ false) {x = k + 1} {y = suc k} (omega arith) (sym (h.2 x))))

-- how many nodes end below a value, from where the search for a node ends
module _ {X : Type 0} (q : X → Bool) where
  pub min_place_past : (xs : List X) (d : X) → 1 ≤ length xs
      → q (get_or xs (min (position_or_len q xs) (length xs - 1)) d) ≡ false
      → min (position_or_len q xs) (length xs - 1) + 1 ≡ position_or_len q xs
  min_place_past xs d some h =
      elim (cases_lt (position_or_len q xs) (length xs)) [
        | inl lt ↦
            let here : min (position_or_len q xs) (length xs - 1) ≡ position_or_len q xs = omega arith in
            absurd (false≢true (sym (rw here at h) ∙ passes_at_first q xs d lt))
        | inr ge ↦ let most = position_le q xs in omega arith
      ]

  pub min_place_here : (xs : List X) (d : X) → 1 ≤ length xs → q (get_or xs (min (position_or_len q xs) (length xs - 1)) d) ≡ true → min (position_or_len q xs) (length xs - 1) ≡ position_or_len q xs
  min_place_here xs d some h =
      elim (cases_lt (position_or_len q xs) (length xs)) [
        | inl lt ↦ omega arith
        | inr ge ↦
            let k = min (position_or_len q xs) (length xs - 1) in
            let before : k < position_or_len q xs = omega arith in
            absurd (false≢true (sym (fails_before_first q xs k d before) ∙ h))
      ]

pub attach_index_le : {T : Type 0} (cmp : T → T → Ordering) (ns : List (List T)) (n : List T) → attach_index cmp ns n ≤ length ns
unfolding attach_index
attach_index_le cmp ns n = count_by-le-length (λ m. lies_below cmp m n) ns

pub map_insert : {X Y : Type 0} (f : X → Y) (xs : List X) (k : ℕ) (x : X) → map f (insert xs k x) ≡ insert (map f xs) k (f x)
map_insert f xs k x = map-append f (take k xs) (x ∷ drop k xs) ∙ rw (take-map f k xs, drop-map f k xs) refl
