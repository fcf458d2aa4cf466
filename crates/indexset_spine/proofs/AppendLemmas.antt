-- Items that are appended one by one or as a block.
use Rattle.std.proofs.Common.{◌≡◌, ℕ, ◌+◌, ◌-◌, ◌/◌, ◌<◌, ◌≤◌, ◌==◌, Bool, true, false, not, filter}
use Rattle.std.proofs.Common.{if◌then◌else◌, vec_len, List, [], ◌∷◌, ◌++◌, length, take, drop, get_or}
use Rattle.std.proofs.Common.{slice_set, refl, sym, ap, ◌∙◌, arith, append_assoc, length-append, length-drop}
use Rattle.std.proofs.lemmas.List.{append-nil, length-set, get_or-set_same, length-take-le, map-set, set-set, take_more_set}
use Rattle.std.proofs.lemmas.List.Edits.{insert_end}
use Rattle.std.proofs.lemmas.List.Elements.{All-set}
use Rattle.std.specs.List.{All, fold, insert, splice}
use Rattle.indexset_spine.specs.declared.spot.Spot.{Spot}
use Rattle.std.specs.declared.vec.Vec.{Vec}
use Rattle.indexset_core.specs.Nodes.{concat, node_at, node_lengths, vec_items}
use Rattle.indexset_core.proofs.CallerLemmas.{concat-append, joined_around, last_before, length-concat}
use Rattle.indexset_spine.specs.NodeList.{AreNodeLengths, IsSpine, IsSpot, end_spot, position_of, with_last, with_inserted}
use Rattle.indexset_spine.specs.Edits.{IsShortEnd, FoldsPrefix, or_one_empty, with_halved, with_item_in, without_all_emptied}
use Rattle.indexset_spine.proofs.EditSteps.{get_right, node_is, put_short}
use Rattle.indexset_spine.proofs.NodeListEdits.{cut_inserted, joined_inserted, joined_set, node_bounded, spine_of}
use Rattle.indexset_index.proofs.CallerLemmas.{count-lengths, length-at}
use Rattle.indexset_spine.proofs.FoldPrefixLemmas.{takes_within}
use Rattle.indexset_spine.proofs.VecNodes.{length-vec_items, vec_items-set}

module _ {X : Type 0} where
  -- the spot after the last item, after its node was halved
  pub halved_end : (ns : List (List X)) (s t : Spot) → IsShortEnd (s.offset + 1) ns s
      → 2 ≤ length (node_at ns s.node) → t.node ≡ s.node + 1 → t.offset ≡ s.offset - length (node_at ns s.node) / 2
      → IsShortEnd s.offset (with_halved ns s.node) t
  unfolding with_halved
  halved_end ns s t h two node offset =
      let n = node_at ns s.node in
      let half : ℕ = length n / 2 in
      let ps = take half n ∷ drop half n ∷ [] in
      let inside : s.node < length ns = omega (arith, h.last) in
      let long : length (splice ns s.node (s.node + 1) ps) ≡ length ns + 1 =
      omega (arith, length-append (take s.node ns) (ps ++ drop (s.node + 1) ns), length-take-le s.node ns (omega arith), length-drop (s.node + 1) ns) in
      let there : node_at (splice ns s.node (s.node + 1) ps) t.node ≡ drop half n = ap (node_at (splice ns s.node (s.node + 1) ps)) node ∙ get_right ns s.node (take half n) (drop half n) inside [] in
      record {
        last = omega (arith, long, node, h.last);
        end = omega (arith, ap (λ (l : List X). length l) there, length-drop half n, offset, h.end);
        short = omega (arith, offset, two, h.end);
      }

  -- a last node that is short takes one more
  short_last : (size : ℕ) (ns : List (List X)) (v : X) → 0 < length ns → length (node_at ns (length ns - 1)) < size
      → with_last size ns v ≡ slice_set ns (length ns - 1) (node_at ns (length ns - 1) ++ v ∷ [])
  unfolding with_item_in
  short_last size ns v some short =
      sym (put_short size ns (end_spot ns) v (omega arith) short) ∙ ap (slice_set ns (length ns - 1)) (insert_end (node_at ns (length ns - 1)) v)

  -- or as many as fit
  module _ (size : ℕ) (ns : List (List X)) (some : 0 < length ns) where
    k : ℕ
    k = length ns - 1

    with_end : List X → List (List X)
    with_end m = slice_set ns k m

    end_node : (m : List X) → node_at (with_end m) (length (with_end m) - 1) ≡ m
    unfolding k with_end
    end_node m = ap (λ i. node_at (with_end m) (i - 1)) (length-set ns k m) ∙ get_or-set_same ns k m [] (omega arith)

    one_more : (m : List X) (x : X) → length m < size → with_last size (with_end m) x ≡ with_end (m ++ x ∷ [])
    unfolding k with_end
    one_more m x short =
        let long = length-set ns k m in
        short_last size (with_end m) x (omega (arith, long)) (omega (arith, ap (λ (l : List X). length l) (end_node m)))
        ∙ (ap (λ l. slice_set (with_end m) (length (with_end m) - 1) (l ++ x ∷ [])) (end_node m)
        ∙ (ap (λ i. slice_set (with_end m) (i - 1) (m ++ x ∷ [])) long ∙ set-set ns k m (m ++ x ∷ [])))

    pub block_more : (m xs : List X) → length m + length xs ≤ size → fold (with_last size) (slice_set ns (length ns - 1) m) xs ≡ slice_set ns (length ns - 1) (m ++ xs)
    unfolding k with_end
    block_more m [] fits = ap (slice_set ns (length ns - 1)) (sym (append-nil m))
    block_more m (x ∷ xs) fits =
        ap (λ z. fold (with_last size) z xs) (one_more m x (omega arith))
        ∙ (block_more (m ++ x ∷ []) xs (omega (arith, length-append m (x ∷ []))) ∙ ap (slice_set ns (length ns - 1)) (append_assoc m (x ∷ []) xs))

  -- a block that is inserted into a node with room for it
  pub block_taken : (size : ℕ) (ns ms : List (List X)) (s : Spot) (xs : List X) → IsShortEnd size ms s → ((v : X) → with_item_in ms s v ≡ with_inserted size ns (end_spot ns) v)
      → 0 < length xs → length (node_at ms s.node) + length xs ≤ size → slice_set ms s.node (node_at ms s.node ++ xs) ≡ fold (with_last size) ns xs
  unfolding with_item_in
  block_taken size ns ms s [] h put some fits = absurd (omega arith)
  block_taken size ns ms s (x ∷ xs) h put some fits =
      let n = node_at ms s.node in
      let at : length ms - 1 ≡ s.node = omega (arith, h.last) in
      let first : slice_set ms s.node (n ++ x ∷ []) ≡ with_last size ns x =
      ap (slice_set ms s.node) (sym (insert_end n x) ∙ ap (λ i. insert n i x) (sym h.end)) ∙ put x in
      sym (ap (λ z. fold (with_last size) z xs) (sym first)
      ∙ (ap (λ i. fold (with_last size) (slice_set ms i (n ++ x ∷ [])) xs) (sym at)
      ∙ (block_more size ms (omega (arith, h.last)) (n ++ x ∷ []) xs (omega (arith, length-append n (x ∷ [])))
      ∙ (ap (λ i. slice_set ms i ((n ++ x ∷ []) ++ xs)) at ∙ ap (slice_set ms s.node) (append_assoc n (x ∷ []) xs)))))

  -- the lengths after xs is appended to a node
  pub lengths-block : (ns : List (List X)) (k : ℕ) (xs : List X) → k < length ns
      → node_lengths (slice_set ns k (node_at ns k ++ xs))
      ≡ slice_set (node_lengths ns) k (get_or (node_lengths ns) k 0 + length xs)
  lengths-block ns k xs h =
      map-set (λ (n : List X). length n) ns k (node_at ns k ++ xs)
      ∙ ap (slice_set (node_lengths ns) k) (omega (arith, length-append (node_at ns k) xs, length-at ns k h))

  -- the spot after the last item is one
  pub end_in : (ns : List (List X)) → 1 ≤ length ns → IsSpot ns (end_spot ns)
  end_in ns some = record { node_in = omega arith; offset_in = omega arith }

  pub end_position : (ns : List (List X)) → 1 ≤ length ns → position_of ns (end_spot ns) ≡ length (concat ns)
  end_position ns some = last_before ns (length ns - 1) (length (node_at ns (length ns - 1))) (omega arith) refl

  pub cut_last : (size : ℕ) (ns : List (List X)) (v : X) → AreNodeLengths (node_lengths ns) size → AreNodeLengths (node_lengths (with_last size ns v)) size
  cut_last size ns v is = cut_inserted size ns (end_spot ns) v (end_in ns (omega (arith, is.some, count-lengths ns))) is

  pub joined_last : (size : ℕ) (ns : List (List X)) (v : X) → 1 ≤ length ns → concat (with_last size ns v) ≡ concat ns ++ v ∷ []
  joined_last size ns v some =
      joined_inserted size ns (end_spot ns) v (end_in ns some) ∙ (ap (λ i. insert (concat ns) i v) (end_position ns some) ∙ insert_end (concat ns) v)

  pub cut_all_last : (size : ℕ) (ns : List (List X)) (xs : List X) → AreNodeLengths (node_lengths ns) size → AreNodeLengths (node_lengths (fold (with_last size) ns xs)) size
  cut_all_last size ns [] is = is
  cut_all_last size ns (x ∷ xs) is = cut_all_last size (with_last size ns x) xs (cut_last size ns x is)

  pub joined_all_last : (size : ℕ) (ns : List (List X)) (xs : List X) → AreNodeLengths (node_lengths ns) size → concat (fold (with_last size) ns xs) ≡ concat ns ++ xs
  joined_all_last size ns [] is = sym (append-nil (concat ns))
  joined_all_last size ns (x ∷ xs) is =
      joined_all_last size (with_last size ns x) xs (cut_last size ns x is)
      ∙ (ap (λ l. l ++ xs) (joined_last size ns x (omega (arith, is.some, count-lengths ns))) ∙ append_assoc (concat ns) (x ∷ []) xs)

  -- nothing is lost
  pub takes_items : (size : ℕ) (ns ms : List (List X)) (xs rest : List X) → AreNodeLengths (node_lengths ns) size → FoldsPrefix (with_last size) ns xs ms rest → concat ms ++ rest ≡ concat ns ++ xs
  takes_items size ns ms xs rest is h =
      ap (λ l. concat l ++ rest) h.2 ∙ (ap (λ l. l ++ rest) (joined_all_last size ns h.0 is) ∙ (append_assoc (concat ns) h.0 rest ∙ ap (λ l. concat ns ++ l) (sym h.1)))

  -- the end of a cut list that may have a full node
  pub short_end : (size : ℕ) (ns : List (List X)) (s : Spot) → AreNodeLengths (node_lengths ns) size → s ≡ end_spot ns → IsShortEnd (size + 1) ns s
  short_end size ns s is e =
      let some : 1 ≤ length ns = omega (arith, is.some, count-lengths ns) in
      rw e (record { last = omega arith; end = refl; short = omega (arith, node_bounded ns (length ns - 1) size (omega arith) is) })

  -- a spine that took xs
  pub spine_all_last : (size total sum : ℕ) (ns : List (List X)) (xs : List X)
      → IsSpine (node_lengths ns) size total → sum ≡ total + length xs
      → IsSpine (node_lengths (fold (with_last size) ns xs)) size sum
  spine_all_last size total sum ns xs is e =
      spine_of (fold (with_last size) ns xs) size sum (cut_all_last size ns xs is.is_cut)
      (omega (arith, e, is.total_is, length-concat ns, ap (λ (l : List X). length l) (joined_all_last size ns xs is.is_cut), length-append (concat ns) xs))

  -- the nodes as the code stores them
  pub block_writes : {Z : Type 0} (vs : List (Vec X Z)) (k : ℕ) (u w : Vec X Z) (xs : List X)
      → k < length (vec_items vs) → u ≡ get_or vs k u → w.items ≡ u.items ++ xs
      → vec_items (slice_set vs k w) ≡ slice_set (vec_items vs) k (node_at (vec_items vs) k ++ xs)
  block_writes vs k u w xs h at is = vec_items-set vs k w ∙ ap (slice_set (vec_items vs) k) (is ∙ ap (λ n. n ++ xs) (sym (node_is vs k u h at)))

-- a node without its first items, if those before it are empty
module _ {X Z : Type 0} (vs : List (Vec X Z)) (k : ℕ) (u w : Vec X Z) (h : k < length vs) (at : u ≡ get_or vs k u) where
  ns : List (List X)
  ns = vec_items vs

  inside : k < length ns
  unfolding ns
  inside = omega (arith, h, length-vec_items vs)

  set_is : vec_items (slice_set vs k w) ≡ slice_set ns k w.items
  unfolding ns
  set_is = vec_items-set vs k w

  node_at_is : node_at ns k ≡ u.items
  unfolding ns
  node_at_is = node_is vs k u inside at

  pub takes_node : {B : Type 0} (f : B → X → B) (a b : B) → FoldsPrefix f a u.items b w.items
      → concat (take k (vec_items vs)) ≡ []
      → FoldsPrefix f a (concat (vec_items vs)) b (concat (vec_items (slice_set vs k w)))
  unfolding ns
  takes_node f a b taken none =
      let bs = concat (drop (k + 1) ns) in
      let before : concat ns ≡ u.items ++ bs = joined_around ns k inside ∙ (ap (λ l. l ++ (node_at ns k ++ bs)) none ∙ ap (λ n. n ++ bs) node_at_is) in
      let after : concat (vec_items (slice_set vs k w)) ≡ w.items ++ bs = ap concat set_is ∙ (joined_set ns k w.items inside ∙ ap (λ l. l ++ (w.items ++ bs)) none) in
      let whole = takes_within f a b u.items w.items bs taken in
      (whole.0, before ∙ (whole.1 ∙ ap (λ l. whole.0 ++ l) (sym after)), whole.2)

  pub emptied_more : concat (take k (vec_items vs)) ≡ [] → w.items ≡ [] → concat (take (k + 1) (vec_items (slice_set vs k w))) ≡ []
  unfolding ns
  emptied_more none empty =
      ap (λ l. concat (take (k + 1) l)) set_is
      ∙ (ap concat (take_more_set ns k w.items inside)
      ∙ (concat-append (take k ns) (w.items ∷ []) ∙ (ap (λ l. l ++ (w.items ++ [])) none ∙ (append-nil w.items ∙ empty))))

  pub lower_set : (n : ℕ) → length w.items ≤ length u.items → All (λ i. i ≤ n) (node_lengths (vec_items vs)) → All (λ i. i ≤ n) (node_lengths (vec_items (slice_set vs k w)))
  unfolding ns
  lower_set n shorter low =
      let here : length u.items ≤ n =
      omega (arith, low k 0 (omega (arith, inside, count-lengths ns)), length-at ns k inside, ap (λ (l : List X). length l) node_at_is) in
      rw (ap node_lengths set_is ∙ map-set (λ (l : List X). length l) ns k w.items) (All-set (λ i. i ≤ n) (node_lengths ns) k (length w.items) (omega arith) low)

  pub some_in : concat (take k (vec_items vs)) ≡ [] → 0 < length w.items → 0 < length (concat (vec_items (slice_set vs k w)))
  unfolding ns
  some_in none some =
      let bs = concat (drop (k + 1) ns) in
      let after : concat (vec_items (slice_set vs k w)) ≡ w.items ++ bs = ap concat set_is ∙ (joined_set ns k w.items inside ∙ ap (λ l. l ++ (w.items ++ bs)) none) in
      omega (arith, ap (λ (l : List X). length l) after, length-append w.items bs)

-- the nodes that are not empty
module _ {X Z : Type 0} where
  filter_lists : (vs : List (Vec X Z)) → vec_items (filter (λ v. not (vec_len v == 0)) vs) ≡ filter (λ n. not (length n == 0)) (vec_items vs)
  filter_lists [] = refl
  filter_lists (v ∷ vs) =
      let shape : (b : Bool)
      → vec_items (if b then v ∷ filter (λ v. not (vec_len v == 0)) vs else filter (λ v. not (vec_len v == 0)) vs)
      ≡ (if b then v.items ∷ filter (λ n. not (length n == 0)) (vec_items vs)
      else filter (λ n. not (length n == 0)) (vec_items vs)) =
      elim [ true ↦ ap (λ l. v.items ∷ l) (filter_lists vs) | false ↦ filter_lists vs ] in
      shape (not (vec_len v == 0)) ∙ ap (λ i. if not (i == 0) then v.items ∷ filter (λ n. not (length n == 0)) (vec_items vs) else filter (λ n. not (length n == 0)) (vec_items vs)) v.ok.0

  pub none_kept : (vs ws : List (Vec X Z)) (v : Vec X Z) → ws ≡ filter (λ v. not (vec_len v == 0)) vs → length ws ≡ 0 → v.items ≡ [] → vec_items (ws ++ v ∷ []) ≡ without_all_emptied (vec_items vs)
  unfolding without_all_emptied
  none_kept vs [] v is none empty = ap (λ n. n ∷ []) empty ∙ ap or_one_empty (ap vec_items is ∙ filter_lists vs)
  none_kept vs (w ∷ ws) v is none empty = absurd (omega arith)

  pub some_kept : (vs ws : List (Vec X Z)) → ws ≡ filter (λ v. not (vec_len v == 0)) vs → 0 < length ws → vec_items ws ≡ without_all_emptied (vec_items vs)
  unfolding without_all_emptied
  some_kept vs [] is some = absurd (omega arith)
  some_kept vs (w ∷ ws) is some = ap or_one_empty (ap vec_items is ∙ filter_lists vs)

-- if nothing is left, one empty node is
no_some : {X : Type 0} (ns : List (List X)) → concat ns ≡ [] → filter (λ n. not (length n == 0)) ns ≡ []
no_some [] e = refl
no_some ([] ∷ ns) e = no_some ns e
no_some ((x ∷ n) ∷ ns) e = absurd (cc)

pub emptied_all : {X : Type 0} (ns : List (List X)) → concat ns ≡ [] → without_all_emptied ns ≡ [] ∷ []
unfolding without_all_emptied
emptied_all ns none = ap or_one_empty (no_some ns none)
