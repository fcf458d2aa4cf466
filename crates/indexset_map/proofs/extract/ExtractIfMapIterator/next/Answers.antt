use Rattle.std.proofs.Common.{IfSome, None, Option, Some, length}
use Rattle.std.specs.Option.{option_map}
use Rattle.indexset_core.specs.Pairs.{CalledOnPair, pair}
use Rattle.indexset_spine.proofs.CallerLemmas.{extract_goes, extracts_fewer}
use Rattle.indexset_map.specs.Extract.{extract_pairs}
use Rattle.indexset_map.proofs.extract.ExtractIfMapIterator.next.Goals as goal

if_some : {A B : Type 0} (P : Type 0) (f : A → B) (r : Option A) → IfSome (option_map f r) (λ _. P) → IfSome r (λ _. P)
if_some P f None h = tt
if_some P f (Some x) h = h

pub returns-clause-goes : goal.returns-clause-goes
returns-clause-goes g c =
    extract_goes (λ s. length (extract_pairs s).unasked) _ _ c.extract.result c.extract.ensures.callable
    (if_some _ (λ entry. pair entry.0 entry.1) c.extract.result
    (extracts_fewer (CalledOnPair g.F.FnMut) _ _ (option_map (λ entry. pair entry.0 entry.1) c.extract.result) _ _
    c.extract.ensures.extracted))
