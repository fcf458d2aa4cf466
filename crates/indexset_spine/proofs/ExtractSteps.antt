-- A closure that is called for one item after another, up to the first that it selects.
use Rattle.std.proofs.Common.{◌≡◌, ℕ, suc, ◌+◌, ◌-◌, ◌<◌, ◌≤◌, Bool, true, false, cond, List, [], ◌∷◌, ◌++◌, length}
use Rattle.std.proofs.Common.{take, drop, get_or, slice_set, slice_get, remove, sum, Option, Some, None, IfSome}
use Rattle.std.proofs.Common.{is_some, true≢false, refl, sym, ap, ◌∙◌, subst, arith, append_assoc, append-nil}
use Rattle.std.proofs.lemmas.List.{drop-drop, drop-set-lt, drop_at, drop_more, length-take-le, length-set, take-set, take_at, take_more_set}
use Rattle.std.proofs.lemmas.Option.{get_or_from_slice_get, slice_get_within}
use Rattle.std.proofs.lemmas.List.Edits.{length-remove, split_between}
use Rattle.std.specs.Bool.{MatchBool}
use Rattle.std.specs.Iterator.{MakesProgress, at_most}
use Rattle.std.specs.List.{between}
use Rattle.std.specs.List.Retain.{ExtractsNext, RetainsInTurn}
use Rattle.indexset_core.specs.Nodes.{concat, node_at, node_lengths}
use Rattle.indexset_spine.specs.declared.spot.Spot.{Spot}
use Rattle.indexset_spine.specs.NodeList.{IsItemSpot, position_of, set_joined, without_item}
use Rattle.indexset_spine.specs.Extract.{Extracts, ExtractState, IsExtractRange, extract_state}
use Rattle.indexset_spine.specs.Lengths.{lengths_without}
use Rattle.indexset_spine.proofs.NodeListLemmas.{concat-set}
use Rattle.indexset_spine.proofs.NodeListEdits.{joined_without}
use Rattle.indexset_spine.proofs.IndexLemmas.{emptied_keeps, lengths-less}
use Rattle.indexset_spine.proofs.NodeLengthLemmas.{node_lengths-set_joined, node_lengths-without}
use Rattle.indexset_spine.proofs.PlaceLemmas.{item_place, item_spot, place_position}
use Rattle.indexset_spine.proofs.RemoveSteps.{item_goes}

module _ {X : Type 0} where
  abbrev three : List X → List X → List X → ExtractState X
  three a b c = record { stay = a; unasked = b; after = c }

  module _ (l : List X) (p j : ℕ) (x : X) (below : p < j) (is : slice_get l p ≡ Some x) where
    inside : p < length l
    inside = slice_get_within l p x is

    -- the item at p is the first for which the closure was not called
    pub unasked_first : between p j l ≡ x ∷ between (p + 1) j l
    unasked_first =
        let one : j - p ≡ suc (j - (p + 1)) = omega arith in
        let here : drop p l ≡ x ∷ drop (p + 1) l = drop_more l p x inside ∙ ap (λ z. z ∷ drop (p + 1) l) (get_or_from_slice_get l p x x is) in
        ap (take (j - p)) here ∙ ap (λ n. take n (x ∷ drop (p + 1) l)) one

    -- it stays as y
    pub stays_here : (y : X) → extract_state (slice_set l p y) (p + 1) j ≡ three (take p l ++ y ∷ []) (between (p + 1) j l) (drop j l)
    stays_here y =
        ap (λ a. three a (between (p + 1) j (slice_set l p y)) (drop j (slice_set l p y))) (take_more_set l p y inside)
        ∙ (ap (λ d. three (take p l ++ y ∷ []) (take (j - (p + 1)) d) (drop j (slice_set l p y))) (drop-set-lt (p + 1) l p y (omega arith))
        ∙ ap (λ d. three (take p l ++ y ∷ []) (between (p + 1) j l) d) (drop-set-lt j l p y below))

    -- it is removed as y
    pub goes_here : (y : X) → extract_state (remove (slice_set l p y) p) p (j - 1) ≡ three (take p l) (between (p + 1) j l) (drop j l)
    goes_here y =
        let left : remove (slice_set l p y) p ≡ take p l ++ drop (p + 1) l =
        ap (λ a. a ++ drop (suc p) (slice_set l p y)) (take-set l p y) ∙ ap (λ d. take p l ++ d) (drop-set-lt (suc p) l p y (omega arith) ∙ ap (λ n. drop n l) {x = suc p} {y = p + 1} (omega arith)) in
        let long : length (take p l) ≡ p = length-take-le p l (omega (arith, inside)) in
        let rest : drop p (take p l ++ drop (p + 1) l) ≡ drop (p + 1) l = drop_at (take p l) (drop (p + 1) l) p long in
        let past : drop (j - 1) (take p l ++ drop (p + 1) l) ≡ drop j l =
        ap (λ n. drop n (take p l ++ drop (p + 1) l)) {x = j - 1} {y = p + (j - 1 - p)} (omega arith)
        ∙ (sym (drop-drop (j - 1 - p) p (take p l ++ drop (p + 1) l))
        ∙ (ap (drop (j - 1 - p)) rest
        ∙ (drop-drop (j - 1 - p) (p + 1) l ∙ ap (λ n. drop n l) {x = p + 1 + (j - 1 - p)} {y = j} (omega arith)))) in
        ap (λ m. extract_state m p (j - 1)) left
        ∙ (ap (λ a. three a (between p (j - 1) (take p l ++ drop (p + 1) l)) (drop (j - 1) (take p l ++ drop (p + 1) l))) (take_at (take p l) (drop (p + 1) l) p long)
        ∙ (ap (λ d. three (take p l) (take (j - 1 - p) d) (drop (j - 1) (take p l ++ drop (p + 1) l))) rest
        ∙ (ap (λ n. three (take p l) (take n (drop (p + 1) l)) (drop (j - 1) (take p l ++ drop (p + 1) l))) {x = j - 1 - p} {y = j - (p + 1)} (omega arith)
        ∙ ap (λ d. three (take p l) (between (p + 1) j l) d) past)))

  module _ {S : Type 0} (R : S → X → Bool → S → X → Type 0) where
    -- an item that is removed from here is removed from the start
    pub record ExtractedTo (s : S) (a : ExtractState X) (t : S) (b : ExtractState X) : Type 0 where
      pub run : (r : Option X) (u : S) (c : ExtractState X) → Extracts R t b r u c → Extracts R s a r u c

    pub none_asked : (s : S) (a : ExtractState X) → ExtractedTo s a s a
    none_asked s a = record { run = λ r u c h. h }

    -- the closure returned false
    pub turned_down : (t : S) (l : List X) (p j : ℕ) (x y : X) (u : S) (first : S) (a : ExtractState X) → p < j → slice_get l p ≡ Some x → R t x false u y
        → ExtractedTo first a t (extract_state l p j) → ExtractedTo first a u (extract_state (slice_set l p y) (p + 1) j)
    turned_down t l p j x y u first a below is called h = record {
      run = λ r v c next.
          let from : Extracts R u (three (take p l ++ y ∷ []) (between (p + 1) j l) (drop j l)) r v c = subst (λ b. Extracts R u b r v c) (stays_here l p j x below is y) next in
          h.run r v c (record {
            kept = y ∷ from.kept;
            step = rw (unasked_first l p j x below is) (false, u, y, called, (from.kept, from.step, refl));
            stays = from.stays ∙ append_assoc (take p l) (y ∷ []) from.kept;
            after = from.after;
          });
    }

    -- the closure returned true
    pub picked : (t : S) (l : List X) (p j : ℕ) (x y : X) (u : S) → p < j → slice_get l p ≡ Some x → R t x true u y
        → Extracts R t (extract_state l p j) (Some y) u (extract_state (remove (slice_set l p y) p) p (j - 1))
    picked t l p j x y u below is called =
        rw (goes_here l p j x below is y) (record {
          kept = [];
          step = rw (unasked_first l p j x below is) (true, u, y, called, (refl, refl, refl, refl));
          stays = sym (append-nil (take p l));
          after = refl;
        })

    -- no item remained
    pub none_left : (t : S) (l : List X) (p j : ℕ) → j ≤ p → Extracts R t (extract_state l p j) None t (extract_state l p j)
    none_left t l p j past =
        let none : between p j l ≡ [] = ap (λ n. take n (drop p l)) {x = j - p} {y = 0} (omega arith) in
        record {
          kept = [];
          step = rw none (refl, refl, refl, refl);
          stays = sym (append-nil (take p l));
          after = refl;
        }

-- the nodes after the call for the item at a spot
module _ {X : Type 0} where
  -- the nodes before the one of a removed item keep their lengths
  pub starts_without : (ns : List (List X)) (s : Spot) → IsItemSpot ns s → take s.node (node_lengths (without_item ns s)) ≡ take s.node (node_lengths ns)
  starts_without ns s h =
      let ms = slice_set ns s.node (remove (node_at ns s.node) s.offset) in
      let keeps = emptied_keeps ms s.node (omega (arith, h.node_in, length-set ns s.node (remove (node_at ns s.node) s.offset))) in
      ap (λ (ls : List (List X)). take s.node (node_lengths ls)) (sym (item_goes ns s h))
      ∙ (sym keeps.front
      ∙ (ap (take s.node) (lengths-less ns s h) ∙ take-set (node_lengths ns) s.node (get_or (node_lengths ns) s.node 0 - 1)))

  module _ (ns : List (List X)) (s : Spot) (p : ℕ) (y : X) (is : IsItemSpot ns s) (at : position_of ns s ≡ p) where
    abbrev asked : List (List X)
    asked = set_joined ns p y

    same : node_lengths asked ≡ node_lengths ns
    same = node_lengths-set_joined ns p y

    pub asked_spot : IsItemSpot asked s
    asked_spot = item_spot asked s (rw same (item_place ns s is))

    pub asked_at : position_of asked s ≡ p
    asked_at = sym (place_position asked s) ∙ (rw same (place_position ns s) ∙ at)

    start_is : p - s.offset ≡ sum (take s.node (node_lengths ns))
    start_is = omega (arith, place_position ns s, at)

    module _ (j : ℕ) (below : p < j) (inside : j ≤ length (concat ns)) where
      asked_inside : j ≤ length (concat asked)
      asked_inside = omega (arith, inside, ap (λ (l : List X). length l) (concat-set ns p y), length-set (concat ns) p y)

      pub stretch_after : IsExtractRange (node_lengths asked) (length (concat asked)) record { front = p + 1; back = j; node = s.node; start = p - s.offset }
      stretch_after = record { order = omega arith; inside = asked_inside; start = rw same start_is }

      pub stretch_without : IsExtractRange (node_lengths (without_item asked s)) (length (concat (without_item asked s))) record { front = p; back = j - 1; node = s.node; start = p - s.offset }
      stretch_without = record {
        order = omega arith;
        inside = omega (
          arith,
          asked_inside,
          asked_at,
          ap (λ (l : List X). length l) (joined_without asked s asked_spot),
          length-remove (concat asked) (position_of asked s) (omega (arith, asked_inside, asked_at)),
        );
        start = start_is ∙ ap sum (sym (starts_without asked s asked_spot ∙ ap (take s.node) same));
      }

    pub lengths_gone : node_lengths (without_item asked s) ≡ lengths_without (node_lengths ns) p
    lengths_gone = node_lengths-without asked s p asked_spot asked_at ∙ ap (λ ls. lengths_without ls p) same

match_both : {A B C D : Type 0} → (A → C) → (B → D) → (b : Bool) → MatchBool b A B → MatchBool b C D
match_both f g = elim [ true ↦ f | false ↦ g ]

-- a closure that was called through another
module _ {S F X : Type 0} (now : S → F) (R : S → X → Bool → S → X → Type 0) (Q : F → X → Bool → F → X → Type 0)
    (says : (s : S) (x : X) (b : Bool) (t : S) (y : X) → R s x b t y → Q (now s) x b (now t) y) where
  next_through : (s : S) (xs : List X) (r : Option X) (t : S) (kept rest : List X) → ExtractsNext R s xs r t kept rest → ExtractsNext Q (now s) xs r (now t) kept rest
  next_through s [] r t kept rest h = (h.0, ap now h.1, h.2, h.3)
  next_through s (x ∷ xs) r t kept rest (b, u, y, called, out) =
      (b, now u, y, says s x b u y called, match_both (λ h. (h.0, ap now h.1, h.2, h.3)) (λ h. (h.0, next_through u xs r t h.0 rest h.1, h.2)) b out)

  pub extracts_through : (s : S) (a : ExtractState X) (r : Option X) (t : S) (b : ExtractState X) → Extracts R s a r t b → Extracts Q (now s) a r (now t) b
  extracts_through s a r t b h = record { kept = h.kept; step = next_through s a.unasked r t h.kept b.unasked h.step; stays = h.stays; after = h.after }

-- the closure is not called again for a removed item
module _ {S X : Type 0} (R : S → X → Bool → S → X → Type 0) where
  next_fewer : (s : S) (xs : List X) (y : X) (t : S) (kept rest : List X) → ExtractsNext R s xs (Some y) t kept rest → length rest < length xs
  next_fewer s [] y t kept rest h = absurd (true≢false (ap is_some h.0))
  next_fewer s (x ∷ xs) y t kept rest (b, u, z, called, out) =
      elim b
      as (λ b.
      MatchBool b ((Some y ≡ Some z) × (t ≡ u) × (kept ≡ []) × (rest ≡ xs))
      ((ks : List X) × ExtractsNext R u xs (Some y) t ks rest × (kept ≡ z ∷ ks))
      → length rest < length (x ∷ xs)) [
        | true ↦ λ h. omega (arith, ap (λ (l : List X). length l) h.3)
        | false ↦ λ h. let fewer = next_fewer u xs y t h.0 rest h.1 in omega arith
      ] out

  pub extracts_fewer : (s : S) (a : ExtractState X) (r : Option X) (t : S) (b : ExtractState X) → Extracts R s a r t b → IfSome r (λ _. length b.unasked < length a.unasked)
  extracts_fewer s a None t b h = tt
  extracts_fewer s a (Some y) t b h = next_fewer s a.unasked y t h.kept b.unasked h.step

-- so an iterator makes progress
pub extract_goes : {W X : Type 0} {can : W → Type 0} (left : W → ℕ) (v w : W) (r : Option X) → can w → IfSome r (λ _. left w < left v) → MakesProgress can (λ z. at_most (left z)) v r w
extract_goes left v w None h fewer = record { on = λ _. tt; keeps = tt; rests = λ _. tt }
extract_goes left v w (Some x) h fewer = record { on = λ _. (h, tt, fewer); keeps = h; rests = λ _. tt }

-- what each call of a closure preserves
module _ {S X : Type 0} (R : S → X → Bool → S → X → Type 0) (P : S → Type 0) (keeps : (s : S) (x : X) (b : Bool) (t : S) (y : X) → R s x b t y → P s → P t) where
  next_keeps : (s : S) (xs : List X) (r : Option X) (t : S) (kept rest : List X) → ExtractsNext R s xs r t kept rest → P s → P t
  next_keeps s [] r t kept rest h held = subst P (sym h.1) held
  next_keeps s (x ∷ xs) r t kept rest (b, u, y, called, out) held =
      let now = keeps s x b u y called held in
      elim b as (λ b. MatchBool b ((r ≡ Some y) × (t ≡ u) × (kept ≡ []) × (rest ≡ xs)) ((ks : List X) × ExtractsNext R u xs r t ks rest × (kept ≡ y ∷ ks)) → P t) [
        | true ↦ λ h. subst P (sym h.1) now
        | false ↦ λ h. next_keeps u xs r t h.0 rest h.1 now
      ] out

  pub extracts_keep : (s : S) (a : ExtractState X) (r : Option X) (t : S) (b : ExtractState X) → Extracts R s a r t b → P s → P t
  extracts_keep s a r t b h = next_keeps s a.unasked r t h.kept b.unasked h.step

-- a closure that leaves each item related to what it was
module _ {S X : Type 0} (R : S → X → Bool → S → X → Type 0) (Same : X → X → Type 0) (keeps : (s : S) (x : X) (b : Bool) (t : S) (y : X) → R s x b t y → Same x y) (self : (x : X) → Same x x) where
  abbrev Stays : Unit {0} → X → Bool → Unit {0} → X → Type 0
  Stays _ x _ _ y = Same x y

  all_stay : (xs : List X) → RetainsInTurn Stays tt xs xs
  all_stay [] = refl
  all_stay (x ∷ xs) = (true, tt, x, self x, xs, all_stay xs, refl)

  both_stay : (xs ys us vs : List X) → RetainsInTurn Stays tt xs ys → RetainsInTurn Stays tt us vs → RetainsInTurn Stays tt (xs ++ us) (ys ++ vs)
  both_stay [] ys us vs h more = subst (λ l. RetainsInTurn Stays tt us (l ++ vs)) (sym h) more
  both_stay (x ∷ xs) ys us vs (b, t, y, same, zs, rest, is) more =
      let shape : (b : Bool) → cond b (y ∷ zs) zs ++ vs ≡ cond b (y ∷ (zs ++ vs)) (zs ++ vs) = elim [ true ↦ refl | false ↦ refl ] in
      (b, tt, y, same, zs ++ vs, both_stay xs zs us vs rest more, ap (λ l. l ++ vs) is ∙ shape b)

  next_stays : (s : S) (xs : List X) (r : Option X) (t : S) (kept rest : List X) → ExtractsNext R s xs r t kept rest → RetainsInTurn Stays tt xs (kept ++ rest)
  next_stays s [] r t kept rest h = ap (λ l. l ++ rest) h.2 ∙ h.3
  next_stays s (x ∷ xs) r t kept rest (b, u, y, called, out) =
      let same = keeps s x b u y called in
      elim b
      as (λ b.
      MatchBool b ((r ≡ Some y) × (t ≡ u) × (kept ≡ []) × (rest ≡ xs))
      ((ks : List X) × ExtractsNext R u xs r t ks rest × (kept ≡ y ∷ ks))
      → RetainsInTurn Stays tt (x ∷ xs) (kept ++ rest)) [
        | true ↦ λ h. (false, tt, y, same, xs, all_stay xs, ap (λ l. l ++ rest) h.2 ∙ h.3)
        | false ↦ λ h. (true, tt, y, same, h.0 ++ rest, next_stays u xs r t h.0 rest h.1, ap (λ l. l ++ rest) h.2)
      ] out

  -- what it leaves of a list
  pub extracts_stay : (s : S) (l m : List X) (i j i' j' : ℕ) (r : Option X) (t : S) → i ≤ j → i' ≤ j' → Extracts R s (extract_state l i j) r t (extract_state m i' j') → RetainsInTurn Stays tt l m
  extracts_stay s l m i j i' j' r t le le' h =
      let a = extract_state l i j in
      let b = extract_state m i' j' in
      let parts : RetainsInTurn Stays tt (a.stay ++ (a.unasked ++ a.after)) (a.stay ++ ((h.kept ++ b.unasked) ++ a.after)) =
      both_stay a.stay a.stay (a.unasked ++ a.after) ((h.kept ++ b.unasked) ++ a.after) (all_stay a.stay)
      (both_stay a.unasked (h.kept ++ b.unasked) a.after a.after
      (next_stays s a.unasked r t h.kept b.unasked h.step) (all_stay a.after)) in
      let whole : a.stay ++ ((h.kept ++ b.unasked) ++ a.after) ≡ m =
      ap (λ l. a.stay ++ l) (append_assoc h.kept b.unasked a.after)
      ∙ (sym (append_assoc a.stay h.kept (b.unasked ++ a.after))
      ∙ (ap (λ l. l ++ (b.unasked ++ a.after)) (sym h.stays)
      ∙ (ap (λ l. b.stay ++ (b.unasked ++ l)) (sym h.after) ∙ sym (split_between m i' j' le')))) in
      subst (λ k. RetainsInTurn Stays tt k m) (sym (split_between l i j le)) (subst (λ k. RetainsInTurn Stays tt (a.stay ++ (a.unasked ++ a.after)) k) whole parts)
