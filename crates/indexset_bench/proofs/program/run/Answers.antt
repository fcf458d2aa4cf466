use Rattle.std.proofs.Common.{rules, ◌≡◌, Err}
use Rattle.indexset_lines.specs.declared.fault.RunFault.TheVariants.{Numbers}
use Rattle.indexset_lines.proofs.CallerLemmas.{flushed_lacking}
use Rattle.indexset_bench.specs.Run.{numbers_used_up}
use Rattle.indexset_bench.proofs.program.run.Goals as goal

pub returns-clause-numbers_refused : goal.returns-clause-numbers_refused
returns-clause-numbers_refused g c refused =
    let answered : c.answer_all-answered.result ≡ Err Numbers = search rules in
    flushed_lacking _ _ _ numbers_used_up _ _ _ (g.W.Write.contents c.answer_all-answered.new.writer) _ (c.answer_all-answered.ensures.numbers_refused answered) c.flush-flushed.ensures.unwritten
