-- The joined list after an edit at a spot, and that the nodes remain a cut.
use Rattle.std.proofs.Common.{◌≡◌, ℕ, Bool, suc, ◌+◌, ◌-◌, ◌/◌, ◌<◌, ◌≤◌, ◌==◌, true, false, List, [], ◌∷◌}
use Rattle.std.proofs.Common.{◌++◌, length, take, drop, slice_set, slice_get, if◌then◌else◌, nat_lt, ◌&&◌, refl}
use Rattle.std.proofs.Common.{sym, ap, ◌∙◌, subst, arith, length-append, add-one, length-take, length-drop}
use Rattle.std.proofs.lemmas.Bool.Decides.{nat_tests}
use Rattle.std.proofs.lemmas.List.{append-nil, length-map, get_or-map, length-set, set-append_left, set-append_right, take-append-drop, length-take-le, set_split, nil_from_length}
use Rattle.std.proofs.lemmas.List.Edits.{length-insert, length-remove, insert-append_left, insert-append_right, remove-append_left, remove-append_right}
use Rattle.std.proofs.lemmas.List.Elements.{All-cons, All-nil, All-append, All-take, All-drop}
use Rattle.std.specs.List.{All, splice, insert, remove}
use Rattle.indexset_spine.specs.declared.spot.Spot.{Spot}
use Rattle.indexset_core.specs.Nodes.{concat, node_lengths, node_at}
use Rattle.indexset_spine.specs.NodeList.{AreNodeLengths, IsSpine, IsSpot, IsItemSpot, position_of, parts_with, with_inserted, without_item, with_replaced, first_spot}
use Rattle.indexset_core.proofs.CallerLemmas.{concat-append, length-concat, node_lengths-set, joined_around, concat-splice, node_lengths-splice, slice_get-left, slice_get-right}

-- an edit within the middle of three lists
module _ {X : Type 0} (fs n bs : List X) (o : ℕ) where
  insert_mid : (v : X) → o ≤ length n → insert (fs ++ (n ++ bs)) (length fs + o) v ≡ fs ++ (insert n o v ++ bs)
  insert_mid v h =
      let e : length fs + o - length fs ≡ o = omega arith in
      insert-append_right fs (n ++ bs) (length fs) (length fs + o) v refl (omega arith)
      ∙ ap (λ l. fs ++ l) (ap (λ i. insert (n ++ bs) i v) e ∙ insert-append_left n bs o v h)

  remove_mid : o < length n → remove (fs ++ (n ++ bs)) (length fs + o) ≡ fs ++ (remove n o ++ bs)
  remove_mid h =
      let e : length fs + o - length fs ≡ o = omega arith in
      remove-append_right fs (n ++ bs) (length fs) (length fs + o) refl (omega arith)
      ∙ ap (λ l. fs ++ l) (ap (λ i. remove (n ++ bs) i) e ∙ remove-append_left n bs o h)

  set_mid : (v : X) → o < length n → slice_set (fs ++ (n ++ bs)) (length fs + o) v ≡ fs ++ (slice_set n o v ++ bs)
  set_mid v h =
      let e : length fs + o - length fs ≡ o = omega arith in
      set-append_right fs (n ++ bs) (length fs) (length fs + o) v refl (omega arith)
      ∙ ap (λ l. fs ++ l) (ap (λ i. slice_set (n ++ bs) i v) e ∙ set-append_left n bs o v h)

  get_mid : o < length n → slice_get (fs ++ (n ++ bs)) (length fs + o) ≡ slice_get n o
  get_mid h = slice_get-right fs (n ++ bs) (length fs + o) o refl ∙ slice_get-left n bs o h

-- other lengths for the k-th
module _ (ls ps : List ℕ) (k size : ℕ) (h : k < length ls) (is : AreNodeLengths ls size) where
  at_least_before : All (λ n. 1 ≤ n) (take k ls)
  at_least_before i d lt = All-take (λ n. 1 ≤ n) k ls (is.filled (omega (arith, lt, length-take k ls))) i d lt

  at_least_after : All (λ n. 1 ≤ n) (drop (k + 1) ls)
  at_least_after i d lt = All-drop (λ n. 1 ≤ n) (k + 1) ls (is.filled (omega (arith, lt, length-drop (k + 1) ls))) i d lt

  pub cut_splice : 1 ≤ length (splice ls k (k + 1) ps) → All (λ n. n ≤ size) ps → (2 ≤ length (splice ls k (k + 1) ps) → All (λ n. 1 ≤ n) ps) → AreNodeLengths (splice ls k (k + 1) ps) size
  cut_splice some low filled = record {
    two = is.two;
    some = some;
    bounded =
        All-append (λ n. n ≤ size) (take k ls) (ps ++ drop (k + 1) ls) (All-take (λ n. n ≤ size) k ls is.bounded)
        (All-append (λ n. n ≤ size) ps (drop (k + 1) ls) low (All-drop (λ n. n ≤ size) (k + 1) ls is.bounded));
    filled = λ more. All-append (λ n. 1 ≤ n) (take k ls) (ps ++ drop (k + 1) ls) at_least_before (All-append (λ n. 1 ≤ n) ps (drop (k + 1) ls) (filled more) at_least_after);
  }

all_one : (P : ℕ → Type 0) (a : ℕ) → P a → All P (a ∷ [])
all_one P a p = All-cons P a [] p (All-nil P)

all_two : (P : ℕ → Type 0) (a b : ℕ) → P a → P b → All P (a ∷ b ∷ [])
all_two P a b p q = All-cons P a (b ∷ []) p (all_one P b q)

module _ {X : Type 0} where
  abbrev len : List X → ℕ
  len n = length n

  length-node_lengths : (ns : List (List X)) → length (node_lengths ns) ≡ length ns
  length-node_lengths ns = length-map ns len

  pub node_bounded : (ns : List (List X)) (k size : ℕ) → k < length ns → AreNodeLengths (node_lengths ns) size → length (node_at ns k) ≤ size
  node_bounded ns k size h is =
      subst (λ m. m ≤ size) (get_or-map len ns k [] 0 h) (is.bounded k 0 (omega (arith, length-node_lengths ns)))

  pub node_filled : (ns : List (List X)) (k size : ℕ) → k < length ns → 2 ≤ length ns → AreNodeLengths (node_lengths ns) size → 1 ≤ length (node_at ns k)
  node_filled ns k size h more is =
      subst (λ m. 1 ≤ m) (get_or-map len ns k [] 0 h) (is.filled (omega (arith, length-node_lengths ns)) k 0 (omega (arith, length-node_lengths ns)))

  -- the nodes that a node becomes if v is inserted, by its three cases
  parts_cases : (P : List (List X) → Type 0) (size : ℕ) (n : List X) (o : ℕ) (v : X)
      → (length n < size → P (insert n o v ∷ []))
      → (size ≤ length n → length n / 2 < o → P (take (length n / 2) n ∷ insert (drop (length n / 2) n) (o - length n / 2) v ∷ []))
      → (size ≤ length n → o ≤ length n / 2 → P (insert (take (length n / 2) n) o v ∷ drop (length n / 2) n ∷ []))
      → P (parts_with size n o v)
  unfolding parts_with
  parts_cases P size n o v room right left =
      let half = length n / 2 in
      let cut : (b : Bool) → nat_lt half o ≡ b → size ≤ length n → P (if b then take half n ∷ insert (drop half n) (o - half) v ∷ [] else insert (take half n) o v ∷ drop half n ∷ []) =
      elim [ true ↦ λ e full. right full (grind (arith, nat_tests)) | false ↦ λ e full. left full (grind (arith, nat_tests)) ] in
      let all : (b : Bool) → nat_lt (length n) size ≡ b
      → P
      (if b then insert n o v ∷ [] else if nat_lt half o then take half n ∷ insert (drop half n) (o - half) v ∷ []
      else insert (take half n) o v ∷ drop half n ∷ []) =
      elim [ true ↦ λ e. room (grind (arith, nat_tests)) | false ↦ λ e. cut (nat_lt half o) refl (grind (arith, nat_tests)) ] in
      all (nat_lt (length n) size) refl

  joined_parts : (size : ℕ) (n : List X) (o : ℕ) (v : X) → o ≤ length n → concat (parts_with size n o v) ≡ insert n o v
  joined_parts size n o v h =
      let half : ℕ = length n / 2 in
      let whole = ap (λ l. insert l o v) (take-append-drop half n) in
      parts_cases (λ ps. concat ps ≡ insert n o v) size n o v (λ _. append-nil (insert n o v))
      (λ _ above.
      let long : length (take half n) ≡ half = length-take-le half n (omega arith) in
      ap (λ l. take half n ++ l) (append-nil (insert (drop half n) (o - half) v)) ∙ (sym (insert-append_right (take half n) (drop half n) half o v long (omega arith)) ∙ whole))
      (λ _ upto. ap (λ l. insert (take half n) o v ++ l) (append-nil (drop half n)) ∙ (sym (insert-append_left (take half n) (drop half n) o v (omega (arith, length-take half n))) ∙ whole))

  parts_lengths : (size : ℕ) (n : List X) (o : ℕ) (v : X) → 2 ≤ size → length n ≤ size → o ≤ length n → All (λ m. (1 ≤ m) × (m ≤ size)) (node_lengths (parts_with size n o v))
  parts_lengths size n o v two bounded h =
      let half : ℕ = length n / 2 in
      let Fits : ℕ → Type 0 = λ m. (1 ≤ m) × (m ≤ size) in
      let front = length-take half n in let rest = length-drop half n in
      parts_cases (λ ps. All Fits (node_lengths ps)) size n o v
      (λ room. let more = length-insert n o v h in all_one Fits (length (insert n o v)) (omega arith, omega arith))
      (λ full above.
      let more = length-insert (drop half n) (o - half) v (omega arith) in
      all_two Fits (length (take half n)) (length (insert (drop half n) (o - half) v)) (omega arith, omega arith) (omega arith, omega arith))
      (λ full upto.
      let more = length-insert (take half n) o v (omega arith) in
      all_two Fits (length (insert (take half n) o v)) (length (drop half n)) (omega arith, omega arith) (omega arith, omega arith))

  parts_some : (size : ℕ) (n : List X) (o : ℕ) (v : X) → 1 ≤ length (parts_with size n o v)
  parts_some size n o v = parts_cases (λ ps. 1 ≤ length ps) size n o v (λ _. omega arith) (λ _ _. omega arith) (λ _ _. omega arith)

  pub joined_inserted : (size : ℕ) (ns : List (List X)) (s : Spot) (v : X) → IsSpot ns s → concat (with_inserted size ns s v) ≡ insert (concat ns) (position_of ns s) v
  unfolding with_inserted
  joined_inserted size ns s v h =
      let fs = concat (take s.node ns) in let bs = concat (drop (s.node + 1) ns) in let n = node_at ns s.node in
      concat-splice ns (parts_with size n s.offset v) s.node (s.node + 1)
      ∙ (ap (λ l. fs ++ (l ++ bs)) (joined_parts size n s.offset v h.offset_in)
      ∙ (sym (insert_mid fs n bs s.offset v h.offset_in)
      ∙ ap (λ l. insert l (position_of ns s) v) (sym (joined_around ns s.node h.node_in))))

  pub cut_inserted : (size : ℕ) (ns : List (List X)) (s : Spot) (v : X) → IsSpot ns s → AreNodeLengths (node_lengths ns) size → AreNodeLengths (node_lengths (with_inserted size ns s v)) size
  unfolding with_inserted
  cut_inserted size ns s v h is =
      let n = node_at ns s.node in let ps = parts_with size n s.offset v in
      let bounded : length n ≤ size = node_bounded ns s.node size h.node_in is in
      let lengths = parts_lengths size n s.offset v is.two bounded h.offset_in in
      let inside : s.node < length (node_lengths ns) = omega (arith, h.node_in, length-node_lengths ns) in
      let some : 1 ≤ length (splice (node_lengths ns) s.node (s.node + 1) (node_lengths ps)) =
      omega (
        arith,
        parts_some size n s.offset v,
        length-node_lengths ps,
        length-append (take s.node (node_lengths ns)) (node_lengths ps ++ drop (s.node + 1) (node_lengths ns)),
        length-append (node_lengths ps) (drop (s.node + 1) (node_lengths ns)),
      ) in
      rw (node_lengths-splice ns ps s.node (s.node + 1)) (cut_splice (node_lengths ns) (node_lengths ps) s.node size inside is some (λ i d lt. (lengths i d lt).1) (λ _ i d lt. (lengths i d lt).0))

  pub spine_of : (ns : List (List X)) (size total : ℕ) → AreNodeLengths (node_lengths ns) size → total ≡ length (concat ns) → IsSpine (node_lengths ns) size total
  spine_of ns size total is e = record { is_cut = is; total_is = e ∙ length-concat ns }

  -- the spot is at most the end
  pub position_within : (ns : List (List X)) (s : Spot) → IsSpot ns s → position_of ns s ≤ length (concat ns)
  position_within ns s h =
      let fs = concat (take s.node ns) in let bs = concat (drop (s.node + 1) ns) in let n = node_at ns s.node in
      let e : length (concat ns) ≡ length (fs ++ (n ++ bs)) = ap (λ (l : List X). length l) (joined_around ns s.node h.node_in) in
      omega (arith, e, h.offset_in, length-append fs (n ++ bs), length-append n bs)

  pub position_inside : (ns : List (List X)) (s : Spot) → IsItemSpot ns s → position_of ns s < length (concat ns)
  position_inside ns s h =
      let fs = concat (take s.node ns) in let bs = concat (drop (s.node + 1) ns) in let n = node_at ns s.node in
      let e : length (concat ns) ≡ length (fs ++ (n ++ bs)) = ap (λ (l : List X). length l) (joined_around ns s.node h.node_in) in
      omega (arith, e, h.offset_in, length-append fs (n ++ bs), length-append n bs)

  pub spine_inserted : (size total : ℕ) (ns : List (List X)) (s : Spot) (v : X) → IsSpot ns s
      → IsSpine (node_lengths ns) size total → IsSpine (node_lengths (with_inserted size ns s v)) size (total + 1)
  spine_inserted size total ns s v h is =
      let more : length (concat (with_inserted size ns s v)) ≡ length (insert (concat ns) (position_of ns s) v) = ap (λ (l : List X). length l) (joined_inserted size ns s v h) in
      spine_of (with_inserted size ns s v) size (total + 1) (cut_inserted size ns s v h is.is_cut)
      (omega (arith, is.total_is, length-concat ns, more, length-insert (concat ns) (position_of ns s) v (position_within ns s h)))

  pub item_at_spot : (ns : List (List X)) (s : Spot) → IsItemSpot ns s → slice_get (concat ns) (position_of ns s) ≡ slice_get (node_at ns s.node) s.offset
  item_at_spot ns s h =
      ap (λ l. slice_get l (position_of ns s)) (joined_around ns s.node h.node_in)
      ∙ get_mid (concat (take s.node ns)) (node_at ns s.node) (concat (drop (s.node + 1) ns)) s.offset h.offset_in

  -- the node at k is another one
  pub joined_set : (ns : List (List X)) (k : ℕ) (m : List X) → k < length ns → concat (slice_set ns k m) ≡ concat (take k ns) ++ (m ++ concat (drop (k + 1) ns))
  joined_set ns k m h = rw add-one (ap concat (set_split ns k m h) ∙ concat-append (take k ns) (m ∷ drop (suc k) ns))

  pub joined_replaced : (ns : List (List X)) (s : Spot) (v : X) → IsItemSpot ns s → concat (with_replaced ns s v) ≡ slice_set (concat ns) (position_of ns s) v
  unfolding with_replaced
  joined_replaced ns s v h =
      let fs = concat (take s.node ns) in let bs = concat (drop (s.node + 1) ns) in let n = node_at ns s.node in
      joined_set ns s.node (slice_set n s.offset v) h.node_in
      ∙ (sym (set_mid fs n bs s.offset v h.offset_in)
      ∙ ap (λ l. slice_set l (position_of ns s) v) (sym (joined_around ns s.node h.node_in)))

  pub node_lengths-replaced : (ns : List (List X)) (s : Spot) (v : X) → node_lengths (with_replaced ns s v) ≡ node_lengths ns
  unfolding with_replaced
  node_lengths-replaced ns s v = node_lengths-set ns s.node (slice_set (node_at ns s.node) s.offset v) (length-set (node_at ns s.node) s.offset v)

  pub joined_without : (ns : List (List X)) (s : Spot) → IsItemSpot ns s → concat (without_item ns s) ≡ remove (concat ns) (position_of ns s)
  unfolding without_item
  joined_without ns s h =
      let fs = concat (take s.node ns) in let bs = concat (drop (s.node + 1) ns) in let n = node_at ns s.node in
      let goes : fs ++ (remove n s.offset ++ bs) ≡ remove (concat ns) (position_of ns s) =
      sym (remove_mid fs n bs s.offset h.offset_in) ∙ ap (λ l. remove l (position_of ns s)) (sym (joined_around ns s.node h.node_in)) in
      elim ((length n == 1) && nat_lt 1 (length ns))
      as (λ b. (length n == 1) && nat_lt 1 (length ns) ≡ b
      → concat (if b then remove ns s.node else slice_set ns s.node (remove n s.offset))
      ≡ remove (concat ns) (position_of ns s)) [
        | true ↦ λ e.
            let one : length n ≡ 1 = grind (arith, nat_tests) in
            let none : remove n s.offset ≡ [] = nil_from_length (remove n s.offset) (omega (arith, h.offset_in, length-remove n s.offset h.offset_in)) in
            let split : concat (remove ns s.node) ≡ fs ++ bs = rw add-one (concat-append (take s.node ns) (drop (suc s.node) ns)) in
            split ∙ (ap (λ l. fs ++ (l ++ bs)) (sym none) ∙ goes)
        | false ↦ λ e. joined_set ns s.node (remove n s.offset) h.node_in ∙ goes
      ] refl

  pub cut_without : (size : ℕ) (ns : List (List X)) (s : Spot) → IsItemSpot ns s → AreNodeLengths (node_lengths ns) size → AreNodeLengths (node_lengths (without_item ns s)) size
  unfolding without_item
  cut_without size ns s h is =
      let n = node_at ns s.node in let m = remove n s.offset in
      let inside : s.node < length (node_lengths ns) = omega (arith, h.node_in, length-node_lengths ns) in
      let bounded : length n ≤ size = node_bounded ns s.node size h.node_in is in
      let less : length m + 1 ≡ length n = length-remove n s.offset h.offset_in in
      let long : (ps : List ℕ) → length (splice (node_lengths ns) s.node (s.node + 1) ps) ≡ s.node + (length ps + (length (node_lengths ns) - (s.node + 1))) =
      λ ps. omega (
        arith,
        inside,
        length-append (take s.node (node_lengths ns)) (ps ++ drop (s.node + 1) (node_lengths ns)),
        length-append ps (drop (s.node + 1) (node_lengths ns)),
        length-take s.node (node_lengths ns),
        length-drop (s.node + 1) (node_lengths ns),
      ) in
      elim ((length n == 1) && nat_lt 1 (length ns))
      as (λ b. (length n == 1) && nat_lt 1 (length ns) ≡ b
      → AreNodeLengths (node_lengths (if b then remove ns s.node else slice_set ns s.node m)) size) [
        | true ↦ λ e.
            let more : 1 < length ns = grind (arith, nat_tests) in
            let same : node_lengths (remove ns s.node) ≡ splice (node_lengths ns) s.node (s.node + 1) [] = rw (← add-one) (node_lengths-splice ns [] s.node (s.node + 1)) in
            rw same (cut_splice (node_lengths ns) [] s.node size inside is (omega (arith, more, long [], length-node_lengths ns)) (All-nil (λ i. i ≤ size)) (λ _. All-nil (λ i. 1 ≤ i)))
        | false ↦ λ e.
            let same : node_lengths (slice_set ns s.node m)
            ≡ splice (node_lengths ns) s.node (s.node + 1) (length m ∷ []) =
            ap node_lengths (rw add-one (set_split ns s.node m h.node_in))
            ∙ node_lengths-splice ns (m ∷ []) s.node (s.node + 1) in
            let left : 2 ≤ length (splice (node_lengths ns) s.node (s.node + 1) (length m ∷ [])) → 1 ≤ length m = λ more.
            let two : 1 < length ns = omega (arith, more, long (length m ∷ []), length-node_lengths ns, inside) in grind (arith, nat_tests) in
            rw same
            (cut_splice (node_lengths ns) (length m ∷ []) s.node size inside is
            (omega (arith, long (length m ∷ []))) (all_one (λ i. i ≤ size) (length m) (omega arith))
            (λ more. all_one (λ i. 1 ≤ i) (length m) (left more)))
      ] refl

  pub spine_without : (size total : ℕ) (ns : List (List X)) (s : Spot) → IsItemSpot ns s → IsSpine (node_lengths ns) size total → IsSpine (node_lengths (without_item ns s)) size (total - 1)
  spine_without size total ns s h is =
      let less : length (concat (without_item ns s)) ≡ length (remove (concat ns) (position_of ns s)) = ap (λ (l : List X). length l) (joined_without ns s h) in
      spine_of (without_item ns s) size (total - 1) (cut_without size ns s h is.is_cut)
      (omega (arith, is.total_is, length-concat ns, less, length-remove (concat ns) (position_of ns s) (position_inside ns s h)))

  pub one_inside : (size total : ℕ) (ns : List (List X)) (s : Spot) → IsItemSpot ns s → IsSpine (node_lengths ns) size total → 1 ≤ total
  one_inside size total ns s h is = omega (arith, is.total_is, length-concat ns, position_inside ns s h)

  pub spine_replaced : (size total : ℕ) (ns : List (List X)) (s : Spot) (v : X) → IsSpine (node_lengths ns) size total → IsSpine (node_lengths (with_replaced ns s v)) size total
  spine_replaced size total ns s v is = rw (node_lengths-replaced ns s v) is

  -- the first item is at the first spot
  pub first_in : (size : ℕ) (ns : List (List X)) → AreNodeLengths (node_lengths ns) size → 0 < length (concat ns) → IsItemSpot ns first_spot
  first_in size [] is some = absurd (omega arith)
  first_in size (n ∷ []) is some = record { node_in = omega arith; offset_in = omega (arith, some, length-append n []) }
  first_in size (n ∷ m ∷ ns) is some = record { node_in = omega arith; offset_in = node_filled (n ∷ m ∷ ns) 0 size (omega arith) (omega arith) is }

  pub position_below : (size total : ℕ) (ns : List (List X)) (s : Spot) → IsSpot ns s → IsSpine (node_lengths ns) size total → position_of ns s ≤ total
  position_below size total ns s h is = omega (arith, is.total_is, length-concat ns, position_within ns s h)
