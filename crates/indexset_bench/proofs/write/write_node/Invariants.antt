use denote.Shadow.{shadow}
use denote.Text.{Utf8}
use Rattle.std.proofs.Common.{◌≡◌, map, take}
use Rattle.std.specs.Io.KnownBytes.{Appends}
use Rattle.std.specs.List.{join_with_byte}
use Rattle.indexset_bench.specs.PairText.{pair_text}
use Rattle.indexset_bench.proofs.Written.{lead_after}
use Rattle.indexset_bench.proofs.write.write_node.Given as goal

abbrev pub invariant-loop-pair : goal.invariant-loop-pair
invariant-loop-pair g l =
    shadow (Utf8 l.lead) × (l.lead ≡ lead_after (take l.pair-index l.node))
    × Appends (g.W.Write.contents l.fn.writer) (g.W.Write.contents l.writer)
    (join_with_byte 32 (map (pair_text g.T.Item.texts) (take l.pair-index l.node)))
