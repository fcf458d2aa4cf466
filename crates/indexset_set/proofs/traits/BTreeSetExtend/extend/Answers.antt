use Rattle.std.proofs.Common.{◌≡◌, [], ◌∷◌, ◌∙◌, ap, rules, sym}
use Rattle.std.proofs.lemmas.List.Sums.{fold-append}
use Rattle.indexset_core.specs.Order.{keep}
use Rattle.indexset_spine.specs.NodeList.{items}
use Rattle.indexset_set.proofs.traits.BTreeSetExtend.extend.Goals as goal

pub loop-value-preserved : goal.loop-value-preserved
loop-value-preserved g c =
    let cmp = g.T.Ord.cmp in
    let v = c.in-Some.value in
    let kept : items c.insert.new.self ≡ keep cmp (items c.loop-value.self) v = search rules in
    record {
      came = kept ∙ (ap (λ l. keep cmp l v) c.loop-value.invariant.came ∙ sym (fold-append (keep cmp) (items c.args.self.now) c.loop-value.yielded (v ∷ [])));
      size = c.insert.ensures.size ∙ c.loop-value.invariant.size;
    }
