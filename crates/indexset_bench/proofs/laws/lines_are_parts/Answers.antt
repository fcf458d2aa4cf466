use Rattle.std.proofs.Common.{refl}
use Rattle.indexset_lines.specs.Lines.{lines_of}
use Rattle.indexset_lines.proofs.CallerLemmas.{lines_of-line, lines_of-last}
use Rattle.indexset_bench.proofs.laws.lines_are_parts.Goals as goal

pub returns-clause-none : goal.returns-clause-none
unfolding lines_of
returns-clause-none c = refl

pub returns-clause-ended : goal.returns-clause-ended
returns-clause-ended c = lines_of-line

pub returns-clause-last : goal.returns-clause-last
returns-clause-last c = lines_of-last
