-- The sums of the lengths of nodes by blocks, as edits of the nodes change them.
use Rattle.std.proofs.Common.{◌≡◌, ℕ, ◌+◌, ◌-◌, ◌/◌, ◌<◌, ◌≤◌, List, [], ◌++◌, length, set, get_or, insert, remove, refl, ap, sym, ◌∙◌, arith, length-append}
use Rattle.std.proofs.lemmas.List.{get_or-set_same, length-set, map-set}
use Rattle.std.proofs.lemmas.List.Edits.{get_or-remove_below, length-remove}
use Rattle.indexset_core.specs.Nodes.{node_at, node_lengths}
use Rattle.indexset_index.specs.Blocks.{block_sums}
use Rattle.indexset_index.proofs.BlockLemmas.{block-inside, blocks-lowered, blocks-raised, length-le-block}
use Rattle.indexset_index.proofs.NodeLemmas.{with-removed, without-inserted}
use Rattle.indexset_index.proofs.PlaceLemmas.{count-lengths, length-at}

module _ {X : Type 0} where
  -- a node of another length
  pub lengths_set : (ns : List (List X)) (k : ℕ) (m : List X) → node_lengths (set ns k m) ≡ set (node_lengths ns) k (length m)
  lengths_set ns k m = map-set (λ (n : List X). length n) ns k m

  module _ {index : List ℕ} (ns : List (List X)) (k : ℕ) (is : index ≡ block_sums (node_lengths ns)) (inside : k < length ns) where
    there : k < length (node_lengths ns)
    there = omega (arith, inside, count-lengths ns)

    pub block_there : k / 32 < length index
    block_there = rw is (block-inside (node_lengths ns) k there)

    pub node_in_block : length (node_at ns k) ≤ get_or index (k / 32) 0
    node_in_block = rw is (omega (arith, length-le-block (node_lengths ns) k there, length-at ns k inside))

    pub raised : (m : List X) (n : ℕ) → length m ≡ length (node_at ns k) + n → set index (k / 32) (get_or index (k / 32) 0 + n) ≡ block_sums (node_lengths (set ns k m))
    raised m n more = rw is (blocks-raised (node_lengths ns) k there n ∙ ap block_sums (ap (set (node_lengths ns) k) (omega (arith, more, length-at ns k inside)) ∙ sym (lengths_set ns k m)))

    pub lowered : (m : List X) (n : ℕ) → n ≤ length (node_at ns k) → length m ≡ length (node_at ns k) - n → set index (k / 32) (get_or index (k / 32) 0 - n) ≡ block_sums (node_lengths (set ns k m))
    lowered m n some less =
        rw is
        (blocks-lowered (node_lengths ns) k there n (omega (arith, some, length-at ns k inside))
        ∙ ap block_sums
        (ap (set (node_lengths ns) k) (omega (arith, less, length-at ns k inside)) ∙ sym (lengths_set ns k m)))

  -- a node more
  pub inserted : {index : List ℕ} {ms : List (List X)} (ns : List (List X)) (k : ℕ) (n : List X)
      → ms ≡ insert ns k n → index ≡ block_sums (node_lengths ns) → k ≤ length ns
      → index ≡ block_sums (remove (node_lengths ms) k)
  inserted ns k n made is inside = is ∙ ap block_sums (sym (without-inserted ns k n inside) ∙ ap (λ l. remove (node_lengths l) k) (sym made))

  -- a node less
  pub emptied : {index : List ℕ} {ms : List (List X)} (ns : List (List X)) (k n : ℕ) → ms ≡ remove ns k
      → index ≡ block_sums (node_lengths ns) → k < length ns → n ≡ length (node_at ns k)
      → index ≡ block_sums (insert (node_lengths ms) k n)
  emptied ns k n made is inside long = is ∙ ap block_sums (sym (with-removed ns k inside) ∙ rw (long, made) refl)

  -- two neighbours
  module _ (ns : List (List X)) (j : ℕ) (inside : j + 1 < length ns) where
    pub fewer : length (remove ns (j + 1)) + 1 ≡ length ns
    fewer = length-remove ns (j + 1) inside

    pub first_stays : node_at (remove ns (j + 1)) j ≡ node_at ns j
    first_stays = get_or-remove_below ns (j + 1) [] j (omega arith) inside

    -- the first with the items of both
    abbrev pub both : List (List X)
    both = set (remove ns (j + 1)) j (node_at ns j ++ node_at ns (j + 1))

    pub two_long : length (node_at both j) ≡ length (node_at ns j) + length (node_at ns (j + 1))
    two_long = ap (λ (l : List X). length l) (get_or-set_same (remove ns (j + 1)) j (node_at ns j ++ node_at ns (j + 1)) [] (omega (arith, fewer))) ∙ length-append (node_at ns j) (node_at ns (j + 1))

    pub both_inside : j < length both
    both_inside = omega (arith, fewer, length-set (remove ns (j + 1)) j (node_at ns j ++ node_at ns (j + 1)))

    pub gathered : {index : List ℕ} (more : ℕ) → index ≡ block_sums (node_lengths (remove ns (j + 1)))
        → more ≡ length (node_at ns (j + 1))
        → set index (j / 32) (get_or index (j / 32) 0 + more) ≡ block_sums (node_lengths both)
    gathered more is long =
        raised (remove ns (j + 1)) j is (omega (arith, fewer)) (node_at ns j ++ node_at ns (j + 1)) more
        (omega (
          arith,
          long,
          ap (λ (l : List X). length l) first_stays,
          length-append (node_at ns j) (node_at ns (j + 1)),
        ))
