-- The remaining items of an iterator over nodes.
use Rattle.std.proofs.Common.{◌≡◌, Bool, true, false, ◌==◌, subst, ℕ, zero, suc, ◌+◌, ◌-◌, ◌<◌, ◌≤◌, List, [], ◌∷◌, ◌++◌, length, map, take, drop, get_or, max, refl, sym, ap, ◌∙◌, arith, append_assoc}
use Rattle.std.specs.List.{between}
use Rattle.std.proofs.lemmas.Bool.{false≢true}
use Rattle.std.proofs.lemmas.Bool.Decides.{nat_tests}
use Rattle.std.proofs.lemmas.List.{append-nil, length-drop, length-map, length-take, take-map, drop-map, take_rest}
use Rattle.indexset_core.specs.Nodes.{concat, node_at}
use Rattle.indexset_core.specs.Places.{IsPlace, items_before}
use Rattle.indexset_core.proofs.NodeLemmas.{length-concat-more, length-concat-mono, node_read, offset-le}
use Rattle.indexset_core.proofs.PlaceLemmas.{between_in, between_across}

-- a part has no more items than the whole
pub between_le : {X : Type 0} (l : List X) (i j : ℕ) → length (between i j l) ≤ length l
between_le l i j = omega (arith, length-take (j - i) (drop i l), length-drop i l)

-- a place is not past the end
pub place_le : {T : Type 0} (ns : List (List T)) (p : ℕ × ℕ) → IsPlace ns p → items_before ns p ≤ length (concat ns)
place_le [] (zero, o) place = omega (arith, place.offset_in)
place_le [] (suc k, o) place = absurd (omega (arith, place.node_in))
place_le (n ∷ ns) p place = offset-le (n ∷ ns) p.0 p.1 (omega (arith, place.node_in)) place.offset_in

-- the nodes as the code stores them: f gives the list of each
module _ {T N : Type 0} (f : N → List T) where
  concat-push : (ns : List N) (n : N) → concat (map f (ns ++ n ∷ [])) ≡ concat (map f ns) ++ f n
  concat-push [] n = append-nil (f n)
  concat-push (m ∷ ns) n = ap (λ l. f m ++ l) (concat-push ns n) ∙ sym (append_assoc (f m) (concat (map f ns)) (f n))

  concat-none : (ns : List N) → length ns ≡ 0 → concat (map f ns) ≡ []
  concat-none [] e = refl
  concat-none (n ∷ ns) e = absurd (omega arith)

  -- the last node becomes the back one
  pub back_turn : (ns mid : List N) (n : N) (front back : List T) → mid ≡ ns ++ n ∷ [] → back ≡ [] → front ++ (concat (map f ns) ++ f n) ≡ front ++ (concat (map f mid) ++ back)
  back_turn ns mid n front back e none =
      ap (λ l. front ++ l) (sym (concat-push ns n) ∙ (ap (λ m. concat (map f m)) (sym e) ∙ (sym (append-nil (concat (map f mid))) ∙ ap (λ l. concat (map f mid) ++ l) (sym none))))

  pub between-map : (ns : List N) (i j : ℕ) → map f (between i j ns) ≡ between i j (map f ns)
  between-map ns i j = sym (ap (λ l. take (j - i) l) (drop-map f i ns) ∙ take-map f (j - i) (drop i ns))

  -- the remaining items from one place up to another
  module _ (ns : List N) (p q : ℕ × ℕ) (start : IsPlace (map f ns) p) (stop : IsPlace (map f ns) q) where
    abbrev walk : List T
    walk = between (items_before (map f ns) p) (items_before (map f ns) q) (concat (map f ns))

    within : (k : ℕ) → 1 ≤ length ns → k < max 1 (length (map f ns)) → k < length ns
    within k some lt = omega (arith, length-map ns f)

    walk_nothing : items_before (map f ns) q ≤ items_before (map f ns) p → [] ≡ walk
    walk_nothing le = let e : items_before (map f ns) q - items_before (map f ns) p ≡ 0 = omega arith in rw e refl

    -- without a node
    pub walk_none : length ns ≡ 0 → [] ≡ walk
    walk_none e = walk_nothing (omega (arith, place_le (map f ns) q stop, ap (λ l. length l) (concat-none ns e)))

    module _ (some : 1 ≤ length ns) where
      -- the second place is in an earlier node
      pub walk_back : q.0 < p.0 → [] ≡ walk
      walk_back lt =
          let inside : q.0 < length (map f ns) = omega (arith, some, stop.node_in, length-map ns f) in
          walk_nothing (omega (arith, stop.offset_in, length-concat-more (map f ns) q.0 inside, length-concat-mono (map f ns) (q.0 + 1) p.0 (omega arith)))

      -- in the same
      pub walk_in : (n : N) → n ≡ get_or ns p.0 n → p.0 ≡ q.0 → between p.1 q.1 (f n) ++ (concat (map f []) ++ []) ≡ walk
      walk_in n at e =
          let inside : q.0 < length (map f ns) = omega (arith, some, stop.node_in, length-map ns f) in
          let node : node_at (map f ns) q.0 ≡ f n = node_read f ns q.0 n (within q.0 some stop.node_in) (rw e at at) [] in
          append-nil (between p.1 q.1 (f n)) ∙ sym (between_in (map f ns) p.0 p.1 q.0 q.1 inside stop.offset_in e ∙ ap (between p.1 q.1) node)

      -- in a later one
      pub walk_across : (m n : N) → m ≡ get_or ns p.0 m → n ≡ get_or ns q.0 n → p.0 < q.0 → between p.1 (length (f m)) (f m) ++ (concat (map f (between (p.0 + 1) q.0 ns)) ++ take q.1 (f n)) ≡ walk
      walk_across m n first last lt =
          let inside : q.0 < length (map f ns) = omega (arith, some, stop.node_in, length-map ns f) in
          let opened : node_at (map f ns) p.0 ≡ f m = node_read f ns p.0 m (within p.0 some start.node_in) first [] in
          let closed : node_at (map f ns) q.0 ≡ f n = node_read f ns q.0 n (within q.0 some stop.node_in) last [] in
          let whole = between_across (map f ns) p.0 p.1 q.0 q.1 inside stop.offset_in lt start.offset_in in
          rw (take_rest (f m) p.1, between-map ns (p.0 + 1) q.0, ← opened, ← closed) (sym whole)

-- the places that the code reads, if there is a node
module _ {T N : Type 0} (f : N → List T) (ns : List N) (p : ℕ × ℕ) (place : IsPlace (map f ns) p) where
  pub place_node : 1 ≤ length ns → p.0 < length ns
  place_node some = omega (arith, some, place.node_in, length-map ns f)

  pub place_offset : 1 ≤ length ns → (n : N) → n ≡ get_or ns p.0 n → p.1 ≤ length (f n)
  place_offset some n at = subst (λ (l : List T). p.1 ≤ length l) (node_read f ns p.0 n (place_node some) at []) place.offset_in

pub some_node : (b : Bool) (n : ℕ) → b ≡ (n == 0) → b ≡ false → 1 ≤ n
some_node b zero e f = absurd (false≢true (sym f ∙ e))
some_node b (suc n) e f = omega arith

pub no_node : (b : Bool) (n : ℕ) → b ≡ (n == 0) → b ≡ true → n ≡ 0
no_node b n e f = let is : (n == 0) ≡ true = sym e ∙ f in grind (arith, nat_tests)
