use Rattle.std.proofs.Common.{◌∙◌, sym}
use Rattle.std.specs.Fn.{CalledAt, always_mut}
use denote.Param.Always.{mut_by}
use Rattle.indexset_set.proofs.SetBulkLemmas.{filtered_through, filtered_ascending}
use Rattle.indexset_set.proofs.BTreeSet.retain.Goals as goal

pub retain_mut-requires : goal.retain_mut-requires
retain_mut-requires g c = mut_by _ (λ s. always_mut g.F.FnMut s.0.now) (λ s a i. i) (λ s a r t i e. e.met.1.1.0) _ c.requires

pub invariant_of-self : goal.invariant_of-self
invariant_of-self g c =
    let kept =
    filtered_through (CalledAt g.F.FnMut) (λ s. s.0.now) _
    (λ s x b t y e. (rw e.shows at e.called.met.1.0, sym e.leaves ∙ (e.called.met.1.1.1 ∙ e.shows))) _ _ _
    c.retain_mut.ensures.kept in
    filtered_ascending (CalledAt g.F.FnMut) g.T.Ord.cmp _ _ _ kept c.self.invariant

pub returns-clause-kept : goal.returns-clause-kept
returns-clause-kept g c =
    rw (← c.self.view_is)
    (filtered_through (CalledAt g.F.FnMut) (λ s. s.0.now) _
    (λ s x b t y e. (rw e.shows at e.called.met.1.0, sym e.leaves ∙ (e.called.met.1.1.1 ∙ e.shows))) _ _ _
    c.retain_mut.ensures.kept)
