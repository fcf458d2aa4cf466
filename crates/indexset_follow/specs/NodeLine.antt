-- The line of a node of a snapshot.
use Rattle.std.specs.Prelude.{ℕ, ◌<◌, ◌==◌, length, if◌then◌else◌, List}
use Rattle.std.specs.Prelude.{[], ◌∷◌, ◌++◌, Option, None, Some, codes}
use Rattle.std.specs.List.{All, slice_split}
use Rattle.std.specs.Option.{option_map, option_and_then}
use Rattle.std.specs.Str.{bytes_eq}
use Rattle.indexset_bench.specs.PairText.{node_text}
use Rattle.indexset_core.specs.declared.pair.Pair.{Pair}
use Rattle.indexset_wire.specs.Parts.{cut_at}
use Rattle.indexset_bench.specs.Texts.{PairFits, pair_of}
use Rattle.indexset_wire.specs.Texts.{Texts}

-- the words of a text, which spaces separate
abbrev pub words : List ℕ → List (List ℕ)
words text = slice_split (λ b. b == 32) text

module _ {T : Type 0} (texts : Texts T) where
  -- the line of a node
  abbrev pub node_line : List (Pair T T) → List ℕ
  node_line n = codes "node " ++ node_text texts n

  -- a node that has a line: its pairs are in range, and it has at least one
  abbrev pub NodeFits : List (Pair T T) → Type 0
  NodeFits n = (0 < length n) × All (PairFits texts) n

  -- the pairs of the words, if each word is a pair
  unfoldable pub pairs_of : List (List ℕ) → Option (List (Pair T T))
  pairs_of [] = Some []
  pairs_of (word ∷ rest) =
      option_and_then (λ p. option_map (λ ps. p ∷ ps) (pairs_of rest)) (pair_of texts word)

  -- the node of a line
  abbrev pub node_of : List ℕ → Option (List (Pair T T))
  node_of line =
      option_and_then
      (λ cut. if bytes_eq cut.0 (codes "node") then pairs_of (words cut.1) else None)
      (cut_at 32 line)
