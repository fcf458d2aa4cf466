-- A step of an event keeps a relation between the items of two lists of nodes, if related items are
-- equal.
use Rattle.std.proofs.Common.{◌≡◌, ◌==◌, ◌&&◌, ℕ, zero, suc, ◌+◌, ◌-◌, Bool, true, false, not, if◌then◌else◌, List}
use Rattle.std.proofs.Common.{[], ◌∷◌, ◌++◌, length, get_or, slice_get, take, drop, insert, remove, nat_lt, ltb}
use Rattle.std.proofs.Common.{leb, Option, Some, None, Ordering, cond, option_and_then, refl, ap, sym, ◌∙◌, subst}
use Rattle.std.specs.Cmp.{IsTotalOrder}
use Rattle.std.specs.List.{AllZip, list_all, position, position_or_len, splice}
use Rattle.std.specs.Option.{option_map, option_map_or}
use Rattle.std.specs.Ordering.{is_eq, is_lt}
use Rattle.std.specs.declared.cmp.Ordering.TheVariants.{Equal}
use Rattle.std.proofs.lemmas.Bool.{false≢true}
use Rattle.std.proofs.lemmas.Cmp.{alike_right}
use Rattle.std.proofs.lemmas.List.Elements.{length_all_zip}
use Rattle.indexset_core.specs.Nodes.{concat, node_at}
use Rattle.indexset_events.specs.Merging.{with_merged}
use Rattle.indexset_events.specs.Nodes.{are_nodes, is_ascending, is_filled, last_of}
use Rattle.indexset_events.specs.Replay.{edit, has_name, node_named, reaches, step_plain}
use Rattle.indexset_events.specs.declared.change.ChangeEventUnassigned.{ChangeEventUnassigned}
use Rattle.indexset_events.specs.declared.change.ChangeEventUnassigned.TheVariants.{InsertAt, RemoveAt, CreateNode, RemoveNode, SplitNode, MergeNodes}
use Rattle.indexset_events.proofs.CallerLemmas.{zip_on}
use Rattle.indexset_replica.specs.Replica.{AddsClone, IsEqualClone}

-- ---- lists and options, place by place

module _ {X : Type 0} (R : X → X → Type 0) where
  zip_take : (k : ℕ) (xs ys : List X) → AllZip R xs ys → AllZip R (take k xs) (take k ys)
  zip_take zero xs ys h = tt
  zip_take (suc k) [] [] h = tt
  zip_take (suc k) [] (y ∷ ys) h = absurd h
  zip_take (suc k) (x ∷ xs) [] h = absurd h
  zip_take (suc k) (x ∷ xs) (y ∷ ys) h = (h.0, zip_take k xs ys h.1)

  zip_drop : (k : ℕ) (xs ys : List X) → AllZip R xs ys → AllZip R (drop k xs) (drop k ys)
  zip_drop zero xs ys h = h
  zip_drop (suc k) [] [] h = tt
  zip_drop (suc k) [] (y ∷ ys) h = absurd h
  zip_drop (suc k) (x ∷ xs) [] h = absurd h
  zip_drop (suc k) (x ∷ xs) (y ∷ ys) h = zip_drop k xs ys h.1

  zip_insert : (i : ℕ) (xs ys : List X) (x y : X) → AllZip R xs ys → R x y → AllZip R (insert xs i x) (insert ys i y)
  zip_insert i xs ys x y h r = zip_on R (take i xs) (x ∷ drop i xs) (take i ys) (y ∷ drop i ys) (zip_take i xs ys h) (r, zip_drop i xs ys h)

  zip_remove : (i : ℕ) (xs ys : List X) → AllZip R xs ys → AllZip R (remove xs i) (remove ys i)
  zip_remove i xs ys h = zip_on R (take i xs) (drop (suc i) xs) (take i ys) (drop (suc i) ys) (zip_take i xs ys h) (zip_drop (suc i) xs ys h)

  zip_splice : (i j : ℕ) (xs ys ps qs : List X) → AllZip R xs ys → AllZip R ps qs → AllZip R (splice xs i j ps) (splice ys i j qs)
  zip_splice i j xs ys ps qs h k = zip_on R (take i xs) (ps ++ drop j xs) (take i ys) (qs ++ drop j ys) (zip_take i xs ys h) (zip_on R ps (drop j xs) qs (drop j ys) k (zip_drop j xs ys h))

  zip_get : (xs ys : List X) (i : ℕ) (d e : X) → AllZip R xs ys → R d e → R (get_or xs i d) (get_or ys i e)
  zip_get [] [] i d e h r = r
  zip_get [] (y ∷ ys) i d e h r = absurd h
  zip_get (x ∷ xs) [] i d e h r = absurd h
  zip_get (x ∷ xs) (y ∷ ys) zero d e h r = h.0
  zip_get (x ∷ xs) (y ∷ ys) (suc i) d e h r = zip_get xs ys i d e h.1 r

  pub zip_itself : ((x : X) → R x x) → (xs : List X) → AllZip R xs xs
  zip_itself r [] = tt
  zip_itself r (x ∷ xs) = (r x, zip_itself r xs)

  -- both are `None`, or items that R relates
  abbrev pub AreAlike : Option X → Option X → Type 0
  AreAlike None None = Unit {0}
  AreAlike None (Some y) = ⊥
  AreAlike (Some x) None = ⊥
  AreAlike (Some x) (Some y) = R x y

  zip_read : (xs ys : List X) (i : ℕ) → AllZip R xs ys → AreAlike (slice_get xs i) (slice_get ys i)
  zip_read [] [] i h = tt
  zip_read [] (y ∷ ys) i h = absurd h
  zip_read (x ∷ xs) [] i h = absurd h
  zip_read (x ∷ xs) (y ∷ ys) zero h = h.0
  zip_read (x ∷ xs) (y ∷ ys) (suc i) h = zip_read xs ys i h.1

  if_alike : (a b : Bool) → a ≡ b → (x y : X) → R x y → AreAlike (if a then Some x else None) (if b then Some y else None)
  if_alike true true e x y r = r
  if_alike false false e x y r = tt
  if_alike true false e x y r = absurd (false≢true (sym e))
  if_alike false true e x y r = absurd (false≢true e)

pub zip_weaker : {X : Type 0} {R S : X → X → Type 0} (xs ys : List X) → AllZip R xs ys → ((x y : X) → R x y → S x y) → AllZip S xs ys
zip_weaker [] [] h f = tt
zip_weaker [] (y ∷ ys) h f = absurd h
zip_weaker (x ∷ xs) [] h f = absurd h
zip_weaker (x ∷ xs) (y ∷ ys) h f = (f x y h.0, zip_weaker xs ys h.1 f)

module _ {X : Type 0} (t u : X → Bool) where
  abbrev Same : X → X → Type 0
  Same x y = t x ≡ u y

  count_alike : (xs ys : List X) → AllZip Same xs ys → position_or_len t xs ≡ position_or_len u ys
  count_alike [] [] h = refl
  count_alike [] (y ∷ ys) h = absurd h
  count_alike (x ∷ xs) [] h = absurd h
  count_alike (x ∷ xs) (y ∷ ys) h = λ i. cond (not (h.0 i)) (1 + count_alike xs ys h.1 i) 0

  first_alike : (xs ys : List X) → AllZip Same xs ys → position t xs ≡ position u ys
  first_alike xs ys h = λ i. cond (nat_lt (count_alike xs ys h i) (length_all_zip Same xs ys h i)) (Some (count_alike xs ys h i)) None

-- ---- nodes

module _ {T : Type 0} (cmp : T → T → Ordering) (o : IsTotalOrder cmp) (E : T → T → Type 0) (equal : (x y : T) → E x y → cmp x y ≡ Equal) where
  abbrev N : List T → List T → Type 0
  N = AllZip E

  abbrev NN : List (List T) → List (List T) → Type 0
  NN = AllZip N

  answer_alike : (x y a b : T) → E x y → E a b → cmp x a ≡ cmp y b
  answer_alike x y a b e f = o.congr x y a (equal x y e) ∙ alike_right o a b y (equal a b f)

  last_alike : (n m : List T) (d e : T) → N n m → E d e → E (last_of n d) (last_of m e)
  last_alike [] [] d e h r = r
  last_alike [] (y ∷ m) d e h r = absurd h
  last_alike (x ∷ n) [] d e h r = absurd h
  last_alike (x ∷ n) (y ∷ m) d e h r = last_alike n m x y h.1 h.0

  filled_alike : (n m : List T) → N n m → is_filled n ≡ is_filled m
  filled_alike [] [] h = refl
  filled_alike [] (y ∷ m) h = absurd h
  filled_alike (x ∷ n) [] h = absurd h
  filled_alike (x ∷ n) (y ∷ m) h = refl

  all_filled_alike : (ns ms : List (List T)) → NN ns ms → list_all is_filled ns ≡ list_all is_filled ms
  all_filled_alike [] [] h = refl
  all_filled_alike [] (m ∷ ms) h = absurd h
  all_filled_alike (n ∷ ns) [] h = absurd h
  all_filled_alike (n ∷ ns) (m ∷ ms) h = λ i. filled_alike n m h.0 i && all_filled_alike ns ms h.1 i

  below_alike : (x y : T) → E x y → (l k : List T) → N l k → list_all (λ z. is_lt (cmp x z)) l ≡ list_all (λ z. is_lt (cmp y z)) k
  below_alike x y e [] [] h = refl
  below_alike x y e [] (b ∷ k) h = absurd h
  below_alike x y e (a ∷ l) [] h = absurd h
  below_alike x y e (a ∷ l) (b ∷ k) h = λ i. is_lt (answer_alike x y a b e h.0 i) && below_alike x y e l k h.1 i

  up_alike : (l k : List T) → N l k → is_ascending cmp l ≡ is_ascending cmp k
  up_alike [] [] h = refl
  up_alike [] (b ∷ k) h = absurd h
  up_alike (a ∷ l) [] h = absurd h
  up_alike (a ∷ l) (b ∷ k) h = λ i. below_alike a b h.0 l k h.1 i && up_alike l k h.1 i

  joined_alike : (ns ms : List (List T)) → NN ns ms → N (concat ns) (concat ms)
  joined_alike [] [] h = tt
  joined_alike [] (m ∷ ms) h = absurd h
  joined_alike (n ∷ ns) [] h = absurd h
  joined_alike (n ∷ ns) (m ∷ ms) h = zip_on E n (concat ns) m (concat ms) h.0 (joined_alike ns ms h.1)

  nodes_alike : (ns ms : List (List T)) → NN ns ms → are_nodes cmp ns ≡ are_nodes cmp ms
  unfolding are_nodes
  nodes_alike ns ms h = λ i. all_filled_alike ns ms h i && up_alike (concat ns) (concat ms) (joined_alike ns ms h) i

  module _ (a b : T) (r : E a b) where
    name_alike : (n m : List T) → N n m → has_name cmp a n ≡ has_name cmp b m
    name_alike [] [] h = refl
    name_alike [] (y ∷ m) h = absurd h
    name_alike (x ∷ n) [] h = absurd h
    name_alike (x ∷ n) (y ∷ m) h = ap is_eq (answer_alike (last_of n x) (last_of m y) a b (last_alike n m x y h.1 h.0) r)

    named_alike : (ns ms : List (List T)) → NN ns ms → node_named cmp ns a ≡ node_named cmp ms b
    named_alike ns ms h = first_alike (has_name cmp a) (has_name cmp b) ns ms (zip_weaker ns ms h name_alike)

    end_alike : (p q : Option T) → AreAlike E p q → option_map_or (λ x. is_lt (cmp x a)) p false ≡ option_map_or (λ x. is_lt (cmp x b)) q false
    end_alike None None h = refl
    end_alike None (Some y) h = absurd h
    end_alike (Some x) None h = absurd h
    end_alike (Some x) (Some y) h = ap is_lt (answer_alike x y a b h r)

    reach_alike : (n m : List T) → N n m → reaches cmp a n ≡ reaches cmp b m
    reach_alike n m h =
        let read = subst (λ k. AreAlike E (slice_get n (length n - 1)) (slice_get m (k - 1))) (length_all_zip E n m h) (zip_read E n m (length n - 1) h) in
        ap not (end_alike (slice_get n (length n - 1)) (slice_get m (length m - 1)) read)

  -- ---- edits

  module _ (ns ms : List (List T)) (h : NN ns ms) where
    node_alike : (p : ℕ) → N (node_at ns p) (node_at ms p)
    node_alike p = zip_get N ns ms p [] [] h tt

    spliced_alike : (p : ℕ) (x y : Option (List (List T))) → AreAlike NN x y → AreAlike NN (option_map (splice ns p (p + 1)) x) (option_map (splice ms p (p + 1)) y)
    spliced_alike p None None k = tt
    spliced_alike p None (Some y) k = absurd k
    spliced_alike p (Some x) None k = absurd k
    spliced_alike p (Some x) (Some y) k = zip_splice N p (p + 1) ns ms x y h k

    at_alike : (f g : List T → Option (List (List T))) → ((n m : List T) → N n m → AreAlike NN (f n) (g m)) → (p q : Option ℕ) → p ≡ q
        → AreAlike NN (option_and_then (λ p. option_map (splice ns p (p + 1)) (f (node_at ns p))) p) (option_and_then (λ p. option_map (splice ms p (p + 1)) (g (node_at ms p))) q)
    at_alike f g k p q e =
        subst (λ q.
        AreAlike NN (option_and_then (λ p. option_map (splice ns p (p + 1)) (f (node_at ns p))) p)
        (option_and_then (λ p. option_map (splice ms p (p + 1)) (g (node_at ms p))) q))
        e (here p)
      where
        here : (p : Option ℕ)
            → AreAlike NN (option_and_then (λ p. option_map (splice ns p (p + 1)) (f (node_at ns p))) p)
            (option_and_then (λ p. option_map (splice ms p (p + 1)) (g (node_at ms p))) p)
        here None = tt
        here (Some p) = spliced_alike p (f (node_at ns p)) (g (node_at ms p)) (k (node_at ns p) (node_at ms p) (node_alike p))

    joined_pair : (p q : Option ℕ)
        → AreAlike NN
        (option_and_then (λ p. option_and_then (λ q. if q == p + 1 then Some (with_merged ns p) else None) q) p)
        (option_and_then (λ p. option_and_then (λ q. if q == p + 1 then Some (with_merged ms p) else None) q) p)
    joined_pair None q = tt
    joined_pair (Some p) None = tt
    joined_pair (Some p) (Some q) =
        let pair = zip_on E (node_at ns p) (node_at ns (p + 1)) (node_at ms p) (node_at ms (p + 1)) (node_alike p) (node_alike (p + 1)) in
        if_alike NN (q == p + 1) (q == p + 1) refl (with_merged ns p) (with_merged ms p)
        (zip_splice N p (p + 2) ns ms ((node_at ns p ++ node_at ns (p + 1)) ∷ [])
        ((node_at ms p ++ node_at ms (p + 1)) ∷ []) h (pair, tt))

  -- f is e, with related items in the place of its items
  abbrev pub IsEventAlike : ChangeEventUnassigned T → ChangeEventUnassigned T → Type 0
  IsEventAlike (InsertAt m v i) f = (n : T) × (w : T) × (f ≡ InsertAt n w i) × E m n × E v w
  IsEventAlike (RemoveAt m v i) f = (n : T) × (w : T) × (f ≡ RemoveAt n w i) × E m n × E v w
  IsEventAlike (CreateNode m) f = (n : T) × (f ≡ CreateNode n) × E m n
  IsEventAlike (RemoveNode m) f = (n : T) × (f ≡ RemoveNode n) × E m n
  IsEventAlike (SplitNode m k) f = (n : T) × (f ≡ SplitNode n k) × E m n
  IsEventAlike (MergeNodes m w) f = (n : T) × (x : T) × (f ≡ MergeNodes n x) × E m n × E w x

  edit_alike : (ns ms : List (List T)) → NN ns ms → (e f : ChangeEventUnassigned T) → IsEventAlike e f → AreAlike NN (edit cmp ns e) (edit cmp ms f)
  edit_alike ns ms h (InsertAt a v i) f s =
      subst (λ f. AreAlike NN (edit cmp ns (InsertAt a v i)) (edit cmp ms f)) (sym s.2)
      (at_alike ns ms h (λ n. if leb i (length n) then Some (insert n i v ∷ []) else None) (λ n. if leb i (length n) then Some (insert n i s.1 ∷ []) else None)
      (λ n m r. if_alike NN (leb i (length n)) (leb i (length m)) (ap (leb i) (length_all_zip E n m r)) (insert n i v ∷ []) (insert m i s.1 ∷ []) (zip_insert E i n m v s.1 r s.4, tt))
      (node_named cmp ns a) (node_named cmp ms s.0) (named_alike a s.0 s.3 ns ms h))
  edit_alike ns ms h (RemoveAt a v i) f s =
      subst (λ f. AreAlike NN (edit cmp ns (RemoveAt a v i)) (edit cmp ms f)) (sym s.2)
      (at_alike ns ms h
      (λ n. if (leb 2 (length n) && ltb i (length n)) && is_eq (cmp (get_or n i v) v) then Some (remove n i ∷ [])
      else None)
      (λ n. if (leb 2 (length n) && ltb i (length n)) && is_eq (cmp (get_or n i s.1) s.1)
      then Some (remove n i ∷ []) else None)
      (λ n m r. if_alike NN ((leb 2 (length n) && ltb i (length n)) && is_eq (cmp (get_or n i v) v)) ((leb 2 (length m) && ltb i (length m)) && is_eq (cmp (get_or m i s.1) s.1))
      (λ j. (leb 2 (length_all_zip E n m r j) && ltb i (length_all_zip E n m r j)) && is_eq (answer_alike (get_or n i v) (get_or m i s.1) v s.1 (zip_get E n m i v s.1 r s.4) s.4 j))
      (remove n i ∷ []) (remove m i ∷ []) (zip_remove E i n m r, tt))
      (node_named cmp ns a) (node_named cmp ms s.0) (named_alike a s.0 s.3 ns ms h))
  edit_alike ns ms h (CreateNode a) f s =
      subst (λ f. AreAlike NN (edit cmp ns (CreateNode a)) (edit cmp ms f)) (sym s.1)
      (subst (λ q. NN (insert ns (position_or_len (reaches cmp a) ns) (a ∷ [])) (insert ms q (s.0 ∷ [])))
      (count_alike (reaches cmp a) (reaches cmp s.0) ns ms (zip_weaker ns ms h (reach_alike a s.0 s.2)))
      (zip_insert N (position_or_len (reaches cmp a) ns) ns ms (a ∷ []) (s.0 ∷ []) h (s.2, tt)))
  edit_alike ns ms h (RemoveNode a) f s =
      subst (λ f. AreAlike NN (edit cmp ns (RemoveNode a)) (edit cmp ms f)) (sym s.1)
      (at_alike ns ms h (λ n. Some []) (λ n. Some []) (λ n m r. tt) (node_named cmp ns a) (node_named cmp ms s.0) (named_alike a s.0 s.2 ns ms h))
  edit_alike ns ms h (SplitNode a k) f s =
      subst (λ f. AreAlike NN (edit cmp ns (SplitNode a k)) (edit cmp ms f)) (sym s.1)
      (at_alike ns ms h (λ n. if ltb 0 k && ltb k (length n) then Some (take k n ∷ drop k n ∷ []) else None) (λ n. if ltb 0 k && ltb k (length n) then Some (take k n ∷ drop k n ∷ []) else None)
      (λ n m r.
      if_alike NN (ltb 0 k && ltb k (length n)) (ltb 0 k && ltb k (length m))
      (λ j. ltb 0 k && ltb k (length_all_zip E n m r j)) (take k n ∷ drop k n ∷ []) (take k m ∷ drop k m ∷ [])
      (zip_take E k n m r, (zip_drop E k n m r, tt)))
      (node_named cmp ns a) (node_named cmp ms s.0) (named_alike a s.0 s.2 ns ms h))
  edit_alike ns ms h (MergeNodes a w) f s =
      let here = joined_pair ns ms h (node_named cmp ns a) (node_named cmp ns w) in
      let next =
      subst (λ q.
      AreAlike NN (edit cmp ns (MergeNodes a w))
      (option_and_then (λ p. option_and_then (λ q. if q == p + 1 then Some (with_merged ms p) else None) q)
      (node_named cmp ns a)))
      (named_alike w s.1 s.4 ns ms h) here in
      subst (λ f. AreAlike NN (edit cmp ns (MergeNodes a w)) (edit cmp ms f)) (sym s.2)
      (subst (λ p.
      AreAlike NN (edit cmp ns (MergeNodes a w))
      (option_and_then
      (λ p. option_and_then (λ q. if q == p + 1 then Some (with_merged ms p) else None) (node_named cmp ms s.1)) p))
      (named_alike a s.0 s.3 ns ms h) next)

  pub step_alike : (ns ms : List (List T)) → NN ns ms → (e f : ChangeEventUnassigned T) → IsEventAlike e f → AreAlike NN (step_plain cmp ns e) (step_plain cmp ms f)
  unfolding step_plain
  step_alike ns ms h e f s = kept (edit cmp ns e) (edit cmp ms f) (edit_alike ns ms h e f s)
    where
      kept : (x y : Option (List (List T))) → AreAlike NN x y
          → AreAlike NN (option_and_then (λ r. if are_nodes cmp r then Some r else None) x)
          (option_and_then (λ r. if are_nodes cmp r then Some r else None) y)
      kept None None k = tt
      kept None (Some y) k = absurd k
      kept (Some x) None k = absurd k
      kept (Some x) (Some y) k = if_alike NN (are_nodes cmp x) (are_nodes cmp y) (nodes_alike x y k) x y k

  -- an event whose item is replaced by an equal clone
  module _ (C : T → T → Type 0) (on : (x y z : T) → E x y → IsEqualClone cmp C y z → E x z) where
    pub adds_alike : (e f g : ChangeEventUnassigned T) → IsEventAlike e f → AddsClone cmp C f g → IsEventAlike e g
    adds_alike (InsertAt m v i) f g s a = let t = subst (λ q. AddsClone cmp C q g) s.2 a in (s.0, t.0, t.2, s.3, on v s.1 t.0 s.4 t.1)
    adds_alike (CreateNode m) f g s a = let t = subst (λ q. AddsClone cmp C q g) s.1 a in (t.0, t.2, on m s.0 t.0 s.2 t.1)
    adds_alike (RemoveAt m v i) f g s a = (s.0, s.1, subst (λ q. AddsClone cmp C q g) s.2 a, s.3, s.4)
    adds_alike (RemoveNode m) f g s a = (s.0, subst (λ q. AddsClone cmp C q g) s.1 a, s.2)
    adds_alike (SplitNode m k) f g s a = (s.0, subst (λ q. AddsClone cmp C q g) s.1 a, s.2)
    adds_alike (MergeNodes m w) f g s a = (s.0, s.1, subst (λ q. AddsClone cmp C q g) s.2 a, s.3, s.4)

  module _ (itself : (x : T) → E x x) where
    pub event_itself : (e : ChangeEventUnassigned T) → IsEventAlike e e
    event_itself (InsertAt m v i) = (m, v, refl, itself m, itself v)
    event_itself (RemoveAt m v i) = (m, v, refl, itself m, itself v)
    event_itself (CreateNode m) = (m, refl, itself m)
    event_itself (RemoveNode m) = (m, refl, itself m)
    event_itself (SplitNode m k) = (m, refl, itself m)
    event_itself (MergeNodes m w) = (m, w, refl, itself m, itself w)
