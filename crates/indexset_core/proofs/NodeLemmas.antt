-- Lists of nodes, joined and measured.
use Rattle.std.proofs.Common.{◌≡◌, ℕ, zero, suc, ◌+◌, ◌<◌, ◌≤◌, List, [], ◌∷◌, ◌++◌, length, map}
use Rattle.std.proofs.Common.{sum, take, drop, get_or, slice_set, slice_get, Option, Some, unwrap_or}
use Rattle.std.proofs.Common.{refl, sym, ap, ◌∙◌, arith, subst, length-append, append_assoc, add-one}
use Rattle.std.proofs.lemmas.List.{length-map, map-set, map-append, take-map, drop-map, set_split, set-get_or, take-take}
use Rattle.std.proofs.lemmas.Option.{slice_get_read, unwrap_or-slice_get}
use Rattle.std.proofs.lemmas.List.Sums.{sum_by-cons}
use Rattle.std.specs.List.{splice}
use Rattle.indexset_core.specs.Nodes.{concat, node_lengths, node_at}

module _ {X : Type 0} where
  pub concat-append : (fs bs : List (List X)) → concat (fs ++ bs) ≡ concat fs ++ concat bs
  concat-append [] bs = refl
  concat-append (a ∷ fs) bs = ap (λ l. a ++ l) (concat-append fs bs) ∙ sym (append_assoc a (concat fs) (concat bs))

  pub length-concat : (ns : List (List X)) → length (concat ns) ≡ sum (node_lengths ns)
  length-concat [] = refl
  length-concat (n ∷ ns) = length-append n (concat ns) ∙ (ap (λ l. length n + l) (length-concat ns) ∙ sym (sum_by-cons (λ (x : ℕ). x) (length n) (node_lengths ns)))

  pub node_lengths-set : (ns : List (List X)) (k : ℕ) (m : List X) → length m ≡ length (get_or ns k []) → node_lengths (slice_set ns k m) ≡ node_lengths ns
  node_lengths-set [] k m h = refl
  node_lengths-set (n ∷ ns) zero m h = ap (λ l. l ∷ node_lengths ns) h
  node_lengths-set (n ∷ ns) (suc k) m h = ap (λ ls. length n ∷ ls) (node_lengths-set ns k m h)

  -- the nodes before the k-th, itself and those after it
  pub around : (ns : List (List X)) (k : ℕ) → k < length ns → ns ≡ take k ns ++ node_at ns k ∷ drop (k + 1) ns
  around ns k h = rw add-one (sym (set-get_or ns k []) ∙ set_split ns k (node_at ns k) h)

  pub joined_around : (ns : List (List X)) (k : ℕ) → k < length ns → concat ns ≡ concat (take k ns) ++ (node_at ns k ++ concat (drop (k + 1) ns))
  joined_around ns k h = ap concat (around ns k h) ∙ concat-append (take k ns) (node_at ns k ∷ drop (k + 1) ns)

  pub concat-splice : (ns ps : List (List X)) (i j : ℕ) → concat (splice ns i j ps) ≡ concat (take i ns) ++ (concat ps ++ concat (drop j ns))
  concat-splice ns ps i j = concat-append (take i ns) (ps ++ drop j ns) ∙ ap (λ l. concat (take i ns) ++ l) (concat-append ps (drop j ns))

  pub node_lengths-splice : (ns ps : List (List X)) (i j : ℕ) → node_lengths (splice ns i j ps) ≡ splice (node_lengths ns) i j (node_lengths ps)
  node_lengths-splice ns ps i j =
      let len : List X → ℕ = λ n. length n in
      map-append len (take i ns) (ps ++ drop j ns)
      ∙ (ap (λ l. l ++ node_lengths (ps ++ drop j ns)) (sym (take-map len i ns))
      ∙ ap (λ l. take i (node_lengths ns) ++ l) (map-append len ps (drop j ns) ∙ ap (λ l. node_lengths ps ++ l) (sym (drop-map len j ns))))

  pub slice_get-left : (xs ys : List X) (i : ℕ) → i < length xs → slice_get (xs ++ ys) i ≡ slice_get xs i
  slice_get-left [] ys i h = absurd (omega arith)
  slice_get-left (x ∷ xs) ys zero h = refl
  slice_get-left (x ∷ xs) ys (suc i) h = slice_get-left xs ys i (omega arith)

  pub slice_get-right : (xs ys : List X) (i j : ℕ) → i ≡ length xs + j → slice_get (xs ++ ys) i ≡ slice_get ys j
  slice_get-right [] ys i j h = let e : i ≡ j = omega arith in ap (slice_get ys) e
  slice_get-right (x ∷ xs) ys zero j h = absurd (omega arith)
  slice_get-right (x ∷ xs) ys (suc i) j h = slice_get-right xs ys i j (omega arith)

  pub length-concat-take : (ns : List (List X)) (k : ℕ) → length (concat (take k ns)) ≤ length (concat ns)
  length-concat-take [] zero = omega arith
  length-concat-take [] (suc k) = omega arith
  length-concat-take (n ∷ ns) zero = omega arith
  length-concat-take (n ∷ ns) (suc k) = omega (arith, length-append n (concat (take k ns)), length-append n (concat ns), length-concat-take ns k)

  more : (ns : List (List X)) (k : ℕ) → k < length ns → length (concat (take (suc k) ns)) ≡ length (concat (take k ns)) + length (get_or ns k [])
  more [] k h = absurd (omega arith)
  more (n ∷ ns) zero h = omega (arith, length-append n [])
  more (n ∷ ns) (suc k) h = omega (arith, length-append n (concat (take (suc k) ns)), length-append n (concat (take k ns)), more ns k (omega arith))

  -- one node more
  pub length-concat-more : (ns : List (List X)) (k : ℕ) → k < length ns → length (concat (take (k + 1) ns)) ≡ length (concat (take k ns)) + length (get_or ns k [])
  length-concat-more ns k h = rw add-one (more ns k h)

  -- a spot is not past the end
  pub offset-le : (ns : List (List X)) (k o : ℕ) → k < length ns → o ≤ length (get_or ns k []) → length (concat (take k ns)) + o ≤ length (concat ns)
  offset-le ns k o h le = omega (arith, length-concat-more ns k h, length-concat-take ns (k + 1))

  -- the item at a spot
  pub get_in_node : (ns : List (List X)) (k o : ℕ) → k < length ns → o < length (get_or ns k []) → slice_get (concat ns) (length (concat (take k ns)) + o) ≡ slice_get (get_or ns k []) o
  get_in_node [] k o h lt = absurd (omega arith)
  get_in_node (n ∷ ns) zero o h lt = slice_get-right [] (n ++ concat ns) (0 + o) o refl ∙ slice_get-left n (concat ns) o lt
  get_in_node (n ∷ ns) (suc k) o h lt =
      let at : length (n ++ concat (take k ns)) + o ≡ length n + (length (concat (take k ns)) + o) = omega (arith, length-append n (concat (take k ns))) in
      slice_get-right n (concat ns) _ _ at ∙ get_in_node ns k o (omega arith) lt

  -- the same, at a default
  pub get_or_in_node : (ns : List (List X)) (k o : ℕ) (d : X) → k < length ns → o < length (get_or ns k []) → get_or (concat ns) (length (concat (take k ns)) + o) d ≡ get_or (get_or ns k []) o d
  get_or_in_node ns k o d h lt = sym (unwrap_or-slice_get (concat ns) _ d) ∙ (ap (λ (x : Option X). unwrap_or x d) (get_in_node ns k o h lt) ∙ unwrap_or-slice_get (get_or ns k []) o d)

  pub length-concat-mono : (ns : List (List X)) (j k : ℕ) → j ≤ k → length (concat (take j ns)) ≤ length (concat (take k ns))
  length-concat-mono ns j k le = subst (λ (l : List (List X)). length (concat l) ≤ length (concat (take k ns))) (take-take j k ns le) (length-concat-take (take k ns) j)

-- the nodes as the code stores them: `held` gives the items of each
module _ {N X : Type 0} (held : N → List X) where
  pub length-held : (vs : List N) → length (map held vs) ≡ length vs
  length-held vs = length-map vs held

  pub held-set : (vs : List N) (k : ℕ) (v : N) → map held (slice_set vs k v) ≡ slice_set (map held vs) k (held v)
  held-set vs k v = map-set held vs k v

  pub held-splice : (vs ws : List N) (i j : ℕ) → map held (splice vs i j ws) ≡ splice (map held vs) i j (map held ws)
  held-splice vs ws i j =
      map-append held (take i vs) (ws ++ drop j vs)
      ∙ (ap (λ l. l ++ map held (ws ++ drop j vs)) (sym (take-map held i vs))
      ∙ ap (λ l. take i (map held vs) ++ l) (map-append held ws (drop j vs) ∙ ap (λ l. map held ws ++ l) (sym (drop-map held j vs))))

  pub node_read : (vs : List N) (k : ℕ) (v : N) → k < length vs → v ≡ get_or vs k v → (d : List X) → get_or (map held vs) k d ≡ held v
  node_read [] k v h e d = absurd (omega arith)
  node_read (u ∷ vs) zero v h e d = ap held (sym e)
  node_read (u ∷ vs) (suc k) v h e d = node_read vs k v (omega arith) e d

  -- one node more
  pub more_read : (vs : List N) (k : ℕ) (v : N) → k < length vs → v ≡ get_or vs k v → length (concat (take (k + 1) (map held vs))) ≡ length (concat (take k (map held vs))) + length (held v)
  more_read vs k v h e =
      let m : get_or (map held vs) k [] ≡ held v = node_read vs k v h e [] in
      omega (arith, length-concat-more (map held vs) k (omega (arith, length-held vs)), ap (λ (l : List X). length l) m)

  -- the item that the code reads at an offset of a node
  pub item_read : (vs : List N) (k o : ℕ) (v : N) (x : X) → k < length vs → o < length (held v) → v ≡ get_or vs k v
      → x ≡ get_or (held v) o x → slice_get (concat (map held vs)) (length (concat (take k (map held vs))) + o) ≡ Some x
  item_read vs k o v x lt inside at is =
      let m : get_or (map held vs) k [] ≡ held v = node_read vs k v lt at [] in
      let within : o < length (get_or (map held vs) k []) = subst (λ (l : List X). o < length l) (sym m) inside in
      get_in_node (map held vs) k o (omega (arith, length-held vs)) within ∙ (ap (λ l. slice_get l o) m ∙ slice_get_read (held v) (length (held v)) o x refl inside is)
