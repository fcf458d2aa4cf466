use Rattle.std.proofs.Common.{length}
use Rattle.indexset_spine.proofs.CallerLemmas.{extract_goes, extracts_fewer}
use Rattle.indexset_set.specs.SetExtract.{CalledOn, extract_items}
use Rattle.indexset_set.proofs.extract.ExtractIfIterator.next.Goals as goal

pub returns-clause-goes : goal.returns-clause-goes
returns-clause-goes g c =
    extract_goes (λ s. length (extract_items s).unasked) _ _ c.extract.result c.extract.ensures.callable (extracts_fewer (CalledOn g.F.FnMut) _ _ c.extract.result _ _ c.extract.ensures.extracted)
