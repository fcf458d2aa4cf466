use Rattle.std.proofs.Common.{◌≡◌, ◌∙◌, refl, sym}
use Rattle.std.specs.Fn.{always_mut}
use denote.Param.Always.{mut_by}
use Rattle.indexset_spine.specs.NodeList.{items}
use Rattle.indexset_spine.specs.Extract.{Extracts, extract_state}
use Rattle.indexset_spine.proofs.CallerLemmas.{extracts_keep, extracts_through}
use Rattle.indexset_set.specs.SetExtract.{CalledOn}
use Rattle.indexset_set.proofs.SetPairLemmas.{extracted_ascending}
use Rattle.indexset_set.proofs.BTreeSet.extract.Given.{Over}
use Rattle.indexset_set.proofs.BTreeSet.extract.Goals.{After-pred-1}
use Rattle.indexset_set.proofs.BTreeSet.extract.Goals as goal

pub extract-requires-clause-callable : goal.extract-requires-clause-callable
extract-requires-clause-callable g c = mut_by _ (λ s. always_mut g.F.FnMut s.0.now) (λ s a i. i) (λ s a r t i e. e.met.1.1.0) _ c.requires.callable

-- the calls were of the lent closure, whose value is now as the last of them left it
module _ (g : Over) (c : After-pred-1 g) where
  left : c.pred-1.given.0 ≡ c.extract.new.f.0.now
  left = c.pred-1.given.1 (sym (extracts_keep _ (λ s. s.0.ghost_name ≡ c.ask-1.given) (λ s x b t y e same. e.called.met.1.1.1.1 ∙ same) _ _ _ _ _ c.extract.ensures.extracted refl))

  extracted : Extracts (CalledOn g.F.FnMut) c.args.pred.now
      (extract_state (items c.self.inside.spine) c.args.at.now.front c.args.at.now.back) c.extract.result
      c.pred-1.given.0 (extract_state (items c.extract.new.self) c.extract.new.at.front c.extract.new.at.back)
  extracted =
      rw left
      (extracts_through (λ s. s.0.now) _ (CalledOn g.F.FnMut)
      (λ s x b t y e. (rw e.shows at e.called.met.1.0, sym e.leaves ∙ (e.called.met.1.1.1.0 ∙ e.shows))) _ _ _ _ _
      c.extract.ensures.extracted)

pub invariant_of-self : goal.invariant_of-self
invariant_of-self g c =
    extracted_ascending (λ x. x) (CalledOn g.F.FnMut) (λ f x b f' y e. e.1) g.T.Ord.cmp _ _ _ _ _ _ _ _ _ c.requires.at.order c.extract.ensures.at.order (extracted g c) c.self.invariant

pub returns-clause-extracted : goal.returns-clause-extracted
returns-clause-extracted g c = rw (← c.self.view_is) (extracted g c)

pub returns-clause-callable : goal.returns-clause-callable
returns-clause-callable g c =
    rw (left g c) (extracts_keep _ (λ s. always_mut g.F.FnMut s.0.now) (λ s x b t y e held. e.called.met.1.1.0) _ _ _ _ _ c.extract.ensures.extracted c.requires.callable)
