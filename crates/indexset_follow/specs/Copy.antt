-- The state of a follower, its snapshot, and the sum that compares two states.
use Rattle.std.specs.Prelude.{ℕ, List, ◌++◌, Option, None, Some, length, take}
use Rattle.std.specs.Int.{w64, from_be_bytes}
use Rattle.sha2.specs.Sha256.{sha256}
use Rattle.indexset_bench.specs.PairText.{ended, lines_for}
use Rattle.indexset_wire.specs.Texts.{Texts}
use Rattle.indexset_core.specs.declared.pair.Pair.{Pair}
use Rattle.indexset_replica.specs.Replica.{ReplicaState}
use Rattle.indexset_follow.specs.Mark.{mark_line}
use Rattle.indexset_follow.specs.NodeLine.{node_line}
use Rattle.indexset_follow.specs.declared.mark.Mark.TheVariants.{Start, End}

-- the nodes, and the number of the awaited event
abbrev pub Copy : Type 0 → Type 0
Copy T = ReplicaState (Pair T T)

abbrev pub copy : {T : Type 0} → List (List (Pair T T)) → ℕ → Copy T
copy ns n = record { nodes = ns; next = n }

-- the last line of a snapshot: the number of its nodes, and its sum, which is optional
abbrev pub end_line : {T : Type 0} → Copy T → Option ℕ → List ℕ
end_line c sum = mark_line (End (length c.nodes) sum)

module _ {T : Type 0} (texts : Texts T) where
  -- the lines of a snapshot before its last, where d is the greatest command number
  abbrev pub body_text : Copy T → ℕ → List ℕ
  body_text c d = ended (mark_line (Start c.next d)) ++ lines_for (node_line texts) c.nodes

  -- the first 64 bits of the SHA-256 of these lines
  unfoldable pub sum_of : Copy T → ℕ → ℕ
  sum_of c d = from_be_bytes w64 (take 8 (sha256 (body_text c d)))

  -- the lines of a snapshot
  abbrev pub snapshot_text : Copy T → ℕ → List ℕ
  snapshot_text c d = body_text c d ++ ended (end_line c (Some (sum_of c d)))

  -- the lines of a snapshot without a sum
  abbrev pub unsummed_text : Copy T → ℕ → List ℕ
  unsummed_text c d = body_text c d ++ ended (end_line c None)
