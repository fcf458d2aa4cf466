-- A closure that is called for each item in order, in one node after another.
use Rattle.std.proofs.Common.{◌≡◌, ℕ, suc, ◌+◌, ◌<◌, ◌≤◌, Bool, true, false, not, cond, filter, ◌==◌}
use Rattle.std.proofs.Common.{List, [], ◌∷◌, ◌++◌, length, take, drop, get_or, set, swap, refl, sym}
use Rattle.std.proofs.Common.{ap, ◌∙◌, subst, arith, append_assoc, append-nil, length-append}
use Rattle.std.proofs.lemmas.List.{length-set, get_or-set_same, take-set-le, take_more_set, drop-set-lt, drop_more, drop_all}
use Rattle.std.proofs.lemmas.List.Elements.{All-cons}
use Rattle.std.proofs.lemmas.Grind.{drop_more_same}
use Rattle.std.proofs.lemmas.List.Edits.{swap_is}
use Rattle.std.specs.List.{All}
use Rattle.std.specs.List.Retain.{RetainsInTurn}
use Rattle.std.specs.declared.vec.Vec.{Vec}
use Rattle.indexset_core.specs.Nodes.{concat, node_lengths, vec_items}
use Rattle.indexset_spine.specs.NodeList.{AreNodeLengths, IsSpine}
use Rattle.indexset_spine.specs.Edits.{RetainsTo, RetainsEach, RetainsNodes, or_one_empty, without_all_emptied}
use Rattle.indexset_spine.proofs.NodeListEdits.{spine_of}
use Rattle.indexset_spine.proofs.NodeListSplits.{joined_all_emptied, cut_all_emptied}

-- y is swapped with the first removed item, the k-th
module _ {X : Type 0} (ys : List X) (k i : ℕ) (y : X) (below : k < i) (lt : i < length ys) where
  abbrev zs : List X
  zs = set ys i y

  swapped : set (set zs k (get_or zs i y)) i (get_or zs k y) ≡ swap zs k i
  swapped = swap_is zs k i y (omega (arith, length-set ys i y)) (omega (arith, length-set ys i y))

  take-swapped : take (k + 1) (swap zs k i) ≡ take k ys ++ y ∷ []
  take-swapped =
      rw (← swapped)
      (take-set-le (k + 1) (set zs k (get_or zs i y)) i (get_or zs k y) (omega arith)
      ∙ (take_more_set zs k (get_or zs i y) (omega (arith, length-set ys i y))
      ∙ (ap (λ l. l ++ get_or zs i y ∷ []) (take-set-le k ys i y (omega arith)) ∙ ap (λ x. take k ys ++ x ∷ []) (get_or-set_same ys i y y lt))))

  drop-swapped : drop (i + 1) (swap zs k i) ≡ drop (i + 1) ys
  drop-swapped =
      rw (← swapped)
      (drop-set-lt (i + 1) (set zs k (get_or zs i y)) i (get_or zs k y) (omega arith)
      ∙ (drop-set-lt (i + 1) zs k (get_or zs i y) (omega arith) ∙ drop-set-lt (i + 1) ys i y (omega arith)))

module _ {S X : Type 0} (R : S → X → Bool → S → X → Type 0) where
  -- the closure was called for the first i items of xs, from `first` to s, and the first k of ys
  -- are those that stay
  pub record SiftedTo (first : S) (xs : List X) (s : S) (ys : List X) (k i : ℕ) : Type 0 where
    pub rest : drop i ys ≡ drop i xs
    pub run : (left : List X) (t : S) → RetainsTo R s (drop i xs) left t → RetainsTo R first xs (take k ys ++ left) t

  pub sifted_all : (first : S) (xs : List X) (s : S) (ys : List X) (k i : ℕ) → length xs ≤ i → SiftedTo first xs s ys k i → RetainsTo R first xs (take k ys) s
  sifted_all first xs s ys k i ended h =
      subst (λ l. RetainsTo R first xs l s) (append-nil (take k ys)) (h.run [] s (subst (λ l. RetainsTo R s l [] s) (sym (drop_all i xs ended)) (refl, refl)))

  -- a call at i that left y and t
  module _ (first : S) (xs : List X) (s t : S) (ys : List X) (k i : ℕ) (x y : X) (le : k ≤ i) (lt : i < length ys) (is : x ≡ get_or ys i x) (h : SiftedTo first xs s ys k i) where
    here : drop i xs ≡ x ∷ drop (i + 1) xs
    here = sym h.rest ∙ (drop_more ys i x lt ∙ (ap (λ z. z ∷ drop (i + 1) ys) (sym is) ∙ ap (λ l. x ∷ l) (drop_more_same ys xs i h.rest)))

    sifted_more : (b : Bool) → R s x b t y → (us : List X) (j : ℕ) → drop (i + 1) us ≡ drop (i + 1) ys → take j us ≡ take k ys ++ cond b (y ∷ []) [] → SiftedTo first xs t us j (i + 1)
    sifted_more b called us j behind front =
        let shape : (b : Bool) (left : List X) → cond b (y ∷ []) [] ++ left ≡ cond b (y ∷ left) left = elim [ true ↦ λ _. refl | false ↦ λ _. refl ] in
        record {
          rest = behind ∙ drop_more_same ys xs i h.rest;
          run = λ left last next.
              let whole = h.run (cond b (y ∷ []) [] ++ left) last (subst (λ l. RetainsTo R s l (cond b (y ∷ []) [] ++ left) last) (sym here) (b, t, y, called, left, next, shape b left)) in
              subst (λ l. RetainsTo R first xs l last) (sym (ap (λ l. l ++ left) front ∙ append_assoc (take k ys) (cond b (y ∷ []) []) left)) whole;
        }

    pub sifted_out : R s x false t y → SiftedTo first xs t (set ys i y) k (i + 1)
    sifted_out called = sifted_more false called (set ys i y) k (drop-set-lt (i + 1) ys i y (omega arith)) (take-set-le k ys i y le ∙ sym (append-nil (take k ys)))

    pub sifted_stays : k ≡ i → R s x true t y → SiftedTo first xs t (set ys i y) (k + 1) (i + 1)
    sifted_stays none called =
        let front : take (i + 1) (set ys i y) ≡ take i ys ++ y ∷ [] = take_more_set ys i y lt in
        sifted_more true called (set ys i y) (k + 1) (drop-set-lt (i + 1) ys i y (omega arith)) (subst (λ j. take (j + 1) (set ys i y) ≡ take j ys ++ y ∷ []) (sym none) front)

    pub sifted_moves : k < i → R s x true t y → SiftedTo first xs t (swap (set ys i y) k i) (k + 1) (i + 1)
    sifted_moves below called = sifted_more true called (swap (set ys i y) k i) (k + 1) (drop-swapped ys k i y below lt) (take-swapped ys k i y below lt)

  shorter : (s t : S) (xs ys : List X) → RetainsTo R s xs ys t → length ys ≤ length xs
  shorter s t [] ys h = omega (arith, ap (λ (l : List X). length l) h.0)
  shorter s t (x ∷ xs) ys (b, u, y, called, us, more, is) =
      let tail = shorter u t xs us more in
      let few : (b : Bool) → length (cond b (y ∷ us) us) ≤ suc (length xs) = elim [ true ↦ omega arith | false ↦ omega arith ] in
      omega (arith, few b, ap (λ (l : List X). length l) is)

  joins : (s t : S) (xs ys more left : List X) → RetainsTo R s xs ys t → RetainsInTurn R t more left → RetainsInTurn R s (xs ++ more) (ys ++ left)
  joins s t [] ys more left h next = subst (λ l. RetainsInTurn R s more (l ++ left)) (sym h.0) (subst (λ u. RetainsInTurn R u more left) h.1 next)
  joins s t (x ∷ xs) ys more left (b, u, y, called, us, tail, is) next =
      let split : (b : Bool) → cond b (y ∷ us) us ++ left ≡ cond b (y ∷ (us ++ left)) (us ++ left) = elim [ true ↦ refl | false ↦ refl ] in
      (b, u, y, called, us ++ left, joins u t xs us more left tail next, ap (λ l. l ++ left) is ∙ split b)

  -- the items that each node keeps, joined, are those that the joined list keeps
  each_joined : (s : S) (ns ms : List (List X)) → RetainsEach R s ns ms → RetainsInTurn R s (concat ns) (concat ms)
  each_joined s [] ms h = ap concat h
  each_joined s (n ∷ ns) ms (m, t, here, ls, more, is) =
      subst (λ l. RetainsInTurn R s (n ++ concat ns) (concat l)) (sym is) (joins s t n m (concat ns) (concat ls) here (each_joined t ns ls more))

  each_shorter : (s : S) (ns ms : List (List X)) → RetainsEach R s ns ms → length (concat ms) ≤ length (concat ns)
  each_shorter s [] ms h = omega (arith, ap (λ l. length (concat l)) h)
  each_shorter s (n ∷ ns) ms (m, t, here, ls, more, is) =
      omega (arith, shorter s t n m here, each_shorter t ns ls more, ap (λ l. length (concat l)) is, length-append n (concat ns), length-append m (concat ls))

  each_low : (size : ℕ) (s : S) (ns ms : List (List X)) → RetainsEach R s ns ms → All (λ n. n ≤ size) (node_lengths ns) → All (λ n. n ≤ size) (node_lengths ms)
  each_low size s [] ms h low = rw h low
  each_low size s (n ∷ ns) ms (m, t, here, ls, more, is) low =
      let first : length n ≤ size = low 0 0 (omega arith) in
      rw is (All-cons (λ n. n ≤ size) (length m) (node_lengths ls) (omega (arith, first, shorter s t n m here)) (each_low size t ns ls more (λ i d lt. low (suc i) d (omega arith))))

-- the nodes as the code stores them
module _ {S X Z C : Type 0} (R : S → X → Bool → S → X → Type 0) (G : C → Vec X Z → Bool → C → Vec X Z → Type 0) (state : C → S) where
  abbrev some_in : List X → Bool
  some_in n = not (length n == 0)

  -- a call for a node calls the closure for each of its items, and returns whether one is left
  abbrev AsksNode : Type 0
  AsksNode = (c : C) (v : Vec X Z) (b : Bool) (d : C) (w : Vec X Z) → G c v b d w → RetainsTo R (state c) v.items w.items (state d) × (b ≡ some_in w.items)

  record KeepsSome (s : S) (vs ws : List (Vec X Z)) : Type 0 where
    each : List (List X)
    run : RetainsEach R s (vec_items vs) each
    left : vec_items ws ≡ filter some_in each

  keeps_some : AsksNode → (c : C) (vs ws : List (Vec X Z)) → RetainsInTurn G c vs ws → KeepsSome (state c) vs ws
  keeps_some asks c [] ws h = record { each = []; run = refl; left = ap vec_items h }
  keeps_some asks c (v ∷ vs) ws (b, d, w, called, us, more, is) =
      let said = asks c v b d w called in
      let later = keeps_some asks d vs us more in
      let parts : (b : Bool) → vec_items (cond b (w ∷ us) us) ≡ cond b (w.items ∷ filter some_in later.each) (filter some_in later.each) =
      elim [ true ↦ ap (λ l. w.items ∷ l) later.left | false ↦ later.left ] in
      record {
        each = w.items ∷ later.each;
        run = (w.items, state d, said.0, later.each, later.run, refl);
        left = ap vec_items is ∙ (parts b ∙ ap (λ b. cond b (w.items ∷ filter some_in later.each) (filter some_in later.each)) said.1);
      }

  pub all_emptied : AsksNode → (c : C) (vs ws : List (Vec X Z)) → RetainsInTurn G c vs ws → length ws ≡ 0
      → (v : Vec X Z) → v.items ≡ [] → RetainsNodes R (state c) (vec_items vs) (vec_items (ws ++ v ∷ []))
  unfolding without_all_emptied
  all_emptied asks c vs [] h none v empty =
      let ask = keeps_some asks c vs [] h in
      record { each = ask.each; run = ask.run; left = ap (λ n. n ∷ []) empty ∙ ap or_one_empty ask.left }
  all_emptied asks c vs (w ∷ ws) h none v empty = absurd (omega arith)

  pub some_kept : AsksNode → (c : C) (vs ws : List (Vec X Z)) → RetainsInTurn G c vs ws → 0 < length ws → RetainsNodes R (state c) (vec_items vs) (vec_items ws)
  unfolding without_all_emptied
  some_kept asks c vs [] h some = absurd (omega arith)
  some_kept asks c vs (w ∷ ws) h some =
      let ask = keeps_some asks c vs (w ∷ ws) h in
      record { each = ask.each; run = ask.run; left = ap or_one_empty ask.left }

-- the nodes of a spine after each kept its own items
module _ {S X : Type 0} (R : S → X → Bool → S → X → Type 0) (s : S) (ns ms : List (List X)) (h : RetainsNodes R s ns ms) where
  pub nodes_joined : RetainsInTurn R s (concat ns) (concat ms)
  nodes_joined = rw (h.left, joined_all_emptied h.each) (each_joined R s ns h.each h.run)

  pub nodes_shorter : length (concat ms) ≤ length (concat ns)
  nodes_shorter = rw (h.left, joined_all_emptied h.each) (each_shorter R s ns h.each h.run)

  pub nodes_spine : (size total : ℕ) → AreNodeLengths (node_lengths ns) size → total ≡ length (concat ms) → IsSpine (node_lengths ms) size total
  nodes_spine size total is e =
      let low = each_low R size s ns h.each h.run is.bounded in
      spine_of ms size total (rw h.left (cut_all_emptied h.each size is.two low)) e
