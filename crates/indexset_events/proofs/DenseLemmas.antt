-- Neighbours that hold more than h items together, and the edits that keep this.
use Rattle.std.proofs.Common.{◌≡◌, ℕ, zero, suc, ◌+◌, ◌-◌, ◌*◌, ◌<◌, ◌≤◌, true, List, [], ◌∷◌, ◌++◌, length, refl, sym, subst, arith, length-append}
use native.Mathlib.Numerals.{unary_clauses}
use Rattle.indexset_core.specs.Nodes.{concat, node_at}
use Rattle.indexset_events.specs.Merging.{IsDense}
use Rattle.indexset_events.specs.Nodes.{is_filled}
use Rattle.indexset_events.proofs.AscendingListLemmas.{Each, filled_length}

module _ {T : Type 0} (h : ℕ) where
  -- the same, node by node
  abbrev pub Spread : List (List T) → Type 0
  Spread [] = Unit {0}
  Spread (n ∷ []) = Unit {0}
  Spread (n ∷ m ∷ ns) = (h < length n + length m) × Spread (m ∷ ns)

  later : (n : List T) (ns : List (List T)) (j : ℕ) → node_at (n ∷ ns) (suc j + 1) ≡ node_at ns (j + 1)
  later n ns j = subst (λ k. node_at (n ∷ ns) k ≡ node_at ns (j + 1)) {x = suc (j + 1)} {y = suc j + 1} (omega arith) refl

  pub spread : (ns : List (List T)) → IsDense h ns → Spread ns
  spread [] s = tt
  spread (n ∷ []) s = tt
  spread (n ∷ m ∷ ns) s = (s 0 (omega arith), spread (m ∷ ns) (λ j lt. subst (λ q. h < length (node_at (m ∷ ns) j) + length q) (later n (m ∷ ns) j) (s (suc j) (omega arith))))

  pub spaced : (ns : List (List T)) → Spread ns → IsDense h ns
  spaced [] s j lt = absurd (omega arith)
  spaced (n ∷ []) s j lt = absurd (omega arith)
  spaced (n ∷ m ∷ ns) s zero lt = s.0
  spaced (n ∷ m ∷ ns) s (suc j) lt = subst (λ q. h < length (node_at (m ∷ ns) j) + length q) (sym (later n (m ∷ ns) j)) (spaced (m ∷ ns) s.1 j (omega arith))

  -- in two parts that share a node
  pub spread-left : (b : List (List T)) (n : List T) (a : List (List T)) → Spread (b ++ n ∷ a) → Spread (b ++ n ∷ [])
  spread-left [] n a s = tt
  spread-left (c ∷ []) n a s = (s.0, tt)
  spread-left (c ∷ d ∷ b) n a s = (s.0, spread-left (d ∷ b) n a s.1)

  pub spread-right : (b : List (List T)) (n : List T) (a : List (List T)) → Spread (b ++ n ∷ a) → Spread (n ∷ a)
  spread-right [] n a s = s
  spread-right (c ∷ []) n a s = s.1
  spread-right (c ∷ d ∷ b) n a s = spread-right (d ∷ b) n a s.1

  pub spread-append : (b : List (List T)) (n : List T) (a : List (List T)) → Spread (b ++ n ∷ []) → Spread (n ∷ a) → Spread (b ++ n ∷ a)
  spread-append [] n a s t = t
  spread-append (c ∷ []) n a s t = (s.0, t)
  spread-append (c ∷ d ∷ b) n a s t = (s.0, spread-append (d ∷ b) n a s.1 t)

  -- an end that holds no fewer items, or at least h items beside nodes that are not empty
  pub end_longer : (b : List (List T)) (n m : List T) → length n ≤ length m → Spread (b ++ n ∷ []) → Spread (b ++ m ∷ [])
  end_longer [] n m le s = tt
  end_longer (c ∷ []) n m le s = (omega (arith, s.0), tt)
  end_longer (c ∷ d ∷ b) n m le s = (s.0, end_longer (d ∷ b) n m le s.1)

  pub start_longer : (n m : List T) (a : List (List T)) → length n ≤ length m → Spread (n ∷ a) → Spread (m ∷ a)
  start_longer n m [] le s = tt
  start_longer n m (c ∷ a) le s = (omega (arith, s.0), s.1)

  pub end_large : (b : List (List T)) (n m : List T) → Each (λ c. is_filled c ≡ true) b → h ≤ length m → Spread (b ++ n ∷ []) → Spread (b ++ m ∷ [])
  end_large [] n m full le s = tt
  end_large (c ∷ []) n m full le s = (omega (arith, filled_length c full.0), tt)
  end_large (c ∷ d ∷ b) n m full le s = (s.0, end_large (d ∷ b) n m full.1 le s.1)

  pub start_large : (n m : List T) (a : List (List T)) → Each (λ c. is_filled c ≡ true) a → h ≤ length m → Spread (n ∷ a) → Spread (m ∷ a)
  start_large n m [] full le s = tt
  start_large n m (c ∷ a) full le s = (omega (arith, filled_length c full.0), s.1)

  -- a node split into two of at least h items, one of them of more
  pub cut_spread : (b : List (List T)) (n l r : List T) (a : List (List T)) → Each (λ c. is_filled c ≡ true) b
      → Each (λ c. is_filled c ≡ true) a → h ≤ length l → h ≤ length r → h < length l + length r → Spread (b ++ n ∷ a)
      → Spread (b ++ l ∷ r ∷ a)
  cut_spread b n l r a before after left right more s = spread-append b l (r ∷ a) (end_large b n l before left (spread-left b n a s)) (more, start_large n r a after right (spread-right b n a s))

  -- the removal of a node of one item
  pub out_spread : (b : List (List T)) (n : List T) (a : List (List T)) → length n ≡ 1 → 1 ≤ h → Spread (b ++ n ∷ a) → Spread (b ++ a)
  out_spread [] n [] one some s = tt
  out_spread [] n (c ∷ a) one some s = s.1
  out_spread (c ∷ []) n [] one some s = tt
  out_spread (c ∷ []) n (d ∷ a) one some s = (omega (arith, one, s.0, s.1.0), s.1.1)
  out_spread (c ∷ d ∷ b) n a one some s = rejoin (out_spread (d ∷ b) n a one some s.1)
    where
      rejoin : Spread ((d ∷ b) ++ a) → Spread ((c ∷ d ∷ b) ++ a)
      rejoin t = (s.0, t)

  -- two neighbours merged
  pub joined_spread : (b : List (List T)) (l r n : List T) (a : List (List T)) → length l ≤ length n → length r ≤ length n → Spread (b ++ l ∷ []) → Spread (r ∷ a) → Spread (b ++ n ∷ a)
  joined_spread b l r n a left right s t = spread-append b n a (end_longer b l n left s) (start_longer r n a right t)

  -- a bound on the number of nodes by the number of items
  nodes_bound : (n : List T) (ns : List (List T)) → Spread (n ∷ ns) → length ns * (h + 1) + length n ≤ 2 * length (concat (n ∷ ns))
  nodes_bound n [] s = omega (arith, length-append n (concat []))
  nodes_bound n (m ∷ ns) s =
      let rest = nodes_bound m ns s.1 in
      let long = length-append n (concat (m ∷ ns)) in
      let one : length (m ∷ ns) * (h + 1) ≡ (h + 1) + length ns * (h + 1) = simp unary_clauses (omega arith) in
      omega (arith, one, rest, long, s.0)

  pub few_nodes : (ns : List (List T)) → IsDense h ns → (length ns - 1) * (h + 1) ≤ 2 * length (concat ns)
  few_nodes [] s = omega arith
  few_nodes (n ∷ ns) s =
      let all = nodes_bound n ns (spread (n ∷ ns) s) in
      let count : length (n ∷ ns) - 1 ≡ length ns = omega arith in
      rw count (omega (arith, all))
