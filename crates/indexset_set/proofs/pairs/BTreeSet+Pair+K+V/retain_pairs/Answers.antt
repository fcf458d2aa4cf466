use Rattle.std.specs.Fn.{always_mut}
use denote.Param.Always.{mut_by}
use Rattle.indexset_core.specs.Pairs.{CalledOnPair}
use Rattle.indexset_set.proofs.SetPairLemmas.{retained_through, retained_ascending}
use Rattle.indexset_set.proofs.pairs.BTreeSet+Pair+K+V.retain_pairs.Goals as goal

pub retain_mut-requires : goal.retain_mut-requires
retain_mut-requires g c = mut_by _ (λ s. always_mut g.F.FnMut s.0.now) (λ s a i. i) (λ s a r t i e. e.met.1.1) _ c.requires

pub invariant_of-self : goal.invariant_of-self
invariant_of-self g c =
    let kept = retained_through (λ s. s.0.now) _ (CalledOnPair g.F.FnMut) (λ s x b t y e. rw (e.shows, e.leaves) at e.called.met.1.0) _ _ _ c.retain_mut.ensures.kept in
    retained_ascending (λ p. p.key) (CalledOnPair g.F.FnMut) (λ f p b f' q h. h.1) g.K.Ord.cmp _ _ _ kept c.self.invariant

pub returns-clause-kept : goal.returns-clause-kept
returns-clause-kept g c = rw (← c.self.view_is) (retained_through (λ s. s.0.now) _ (CalledOnPair g.F.FnMut) (λ s x b t y e. rw (e.shows, e.leaves) at e.called.met.1.0) _ _ _ c.retain_mut.ensures.kept)
