use Rattle.std.proofs.Common.{ap}
use Rattle.std.specs.List.{AllZip}
use Rattle.indexset_core.specs.Pairs.{pair}
use Rattle.indexset_spine.proofs.CallerLemmas.{copies_joined, copies_lengths}
use Rattle.indexset_map.specs.Contents.{contents}
use Rattle.indexset_map.specs.Copy.{IsPairClone}
use Rattle.indexset_map.proofs.CopyLemmas.{map_copied}
use Rattle.indexset_map.proofs.BTreeMap.clone.Goals as goal

pub returns-clause-copy : goal.returns-clause-copy
returns-clause-copy g c =
    rw (← c.self.view_is) (map_copied g.K.Clone.is_clone g.V.Clone.is_clone g.K.Ord.cmp c.self.inside.set c.in_ok-set.set c.in_ok-set.ensures.copy)

pub returns-clause-cloned : goal.returns-clause-cloned
returns-clause-cloned g c = λ equal.
    let copied : AllZip (AllZip (IsPairClone g.K.Clone.is_clone g.V.Clone.is_clone)) c.self.inside.set.nodes
    c.in_ok-set.set.nodes =
    c.in_ok-set.ensures.cloned (λ p q clone. equal p.key q.key clone.0) in
    rw (← c.self.view_is) (copies_joined (IsPairClone g.K.Clone.is_clone g.V.Clone.is_clone) c.self.inside.set.nodes c.in_ok-set.set.nodes copied)

pub returns-clause-lengths : goal.returns-clause-lengths
returns-clause-lengths g c = λ equal.
    let copied : AllZip (AllZip (IsPairClone g.K.Clone.is_clone g.V.Clone.is_clone)) c.self.inside.set.nodes
    c.in_ok-set.set.nodes =
    c.in_ok-set.ensures.cloned (λ p q clone. equal p.key q.key clone.0) in
    rw (← c.self.view_is) (copies_lengths (IsPairClone g.K.Clone.is_clone g.V.Clone.is_clone) c.self.inside.set.nodes c.in_ok-set.set.nodes copied)

pub returns-clause-ok : goal.returns-clause-ok
returns-clause-ok g c = λ keys values.
    rw (← c.self.view_is) (ap contents (c.in_ok-set.ensures.ok (λ p q clone. (λ i. pair (keys p.key q.key clone.0 i) (values p.value q.value clone.1 i)))))
