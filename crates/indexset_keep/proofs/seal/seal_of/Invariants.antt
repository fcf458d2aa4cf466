-- The hashed text and the text to be hashed are the seal and the lines so far.
use Rattle.std.proofs.Common.{◌≡◌, ◌++◌, take}
use Rattle.std.specs.Hash.DefaultHasher as sip
use Rattle.indexset_bench.specs.PairText.{ended, lines_for}
use Rattle.indexset_journal.specs.Kept.{texts}
use Rattle.indexset_keep.specs.Seal.{seal_line}
use Rattle.indexset_keep.proofs.seal.seal_of.Given as goal

abbrev pub invariant-loop-line : goal.invariant-loop-line
invariant-loop-line l = sip.write l.hasher l.text.items ≡ sip.write sip.initial (ended (seal_line l.fn.seal) ++ lines_for (λ line. line) (texts (take l.line-index l.fn.lines)))
