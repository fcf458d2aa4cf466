-- Whole lines have their answers; the answers to further ones, and what is to be kept of them, are
-- pending.
use Rattle.std.proofs.Common.{◌≡◌}
use Rattle.indexset_journal.specs.Kept.{texts}
use Rattle.indexset_follow.specs.Store.{held_cut, input_reply}
use Rattle.indexset_keep.specs.Map.{map_held}
use Rattle.indexset_keep.specs.Roles.{settled}
use Rattle.indexset_keep.proofs.Runs.{Going}
use Rattle.indexset_keep.proofs.answer.answer_whole.Given as goal

abbrev pub invariant-loop : goal.invariant-loop
invariant-loop g l =
    Going g.T.Ord.cmp g.T.Item.texts (input_reply g.T.Ord.cmp g.T.Item.texts l.fn.map.voice)
    (held_cut g.T.Ord.cmp g.T.Item.texts l.fn.map.voice) (map_held l.fn.map) g.S.Store.view g.S.Store.recovers
    l.fn.kept.journal (g.R.Read.remaining l.fn.reader) (g.W.Write.contents l.fn.writer) (settled l.fn.map.role)
    l.kept.journal (g.R.Read.remaining l.reader) (g.W.Write.contents l.writer) l.batch.answers.items (texts l.batch.told.items) (map_held l.map)
    × (input_reply g.T.Ord.cmp g.T.Item.texts l.map.voice ≡ input_reply g.T.Ord.cmp g.T.Item.texts l.fn.map.voice)
    × (held_cut g.T.Ord.cmp g.T.Item.texts l.map.voice ≡ held_cut g.T.Ord.cmp g.T.Item.texts l.fn.map.voice)
