use denote.Shadow.{shadow}
use denote.Text.{Utf8}
use Rattle.std.proofs.Common.{◌≡◌, List, ◌++◌, map, length}
use Rattle.std.specs.Io.KnownBytes.{Appends}
use Rattle.indexset_bench.proofs.CallerLemmas.{lead_after}
use Rattle.indexset_bench.specs.PairText.{node_text}
use Rattle.indexset_core.specs.Pairs.{pair}
use Rattle.indexset_follow.proofs.reads.row.write_row.Given as goal

abbrev pub invariant-loop-key : goal.invariant-loop-key
invariant-loop-key g l =
    shadow (Utf8 l.lead)
    × ((done : List (g.row.T.Denot × g.row.T.Denot)) × (l.lead ≡ lead_after (map (λ e. pair e.0 e.1) done))
    × (map (λ e. pair e.0 e.1) done ++ g.P.Walk.rest l.walk ≡ g.P.Walk.rest l.fn.pairs)
    × Appends (g.W.Write.contents l.fn.writer) (g.W.Write.contents l.writer) (node_text g.T.Item.texts (map (λ e. pair e.0 e.1) done)))

abbrev pub decreases-loop-key : goal.decreases-loop-key
decreases-loop-key g l = length (g.P.Walk.rest l.walk)
