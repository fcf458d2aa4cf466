use Rattle.std.proofs.Common.{◌≡◌, [], ◌∷◌, ◌∙◌, ap, map, rules, sym}
use Rattle.std.proofs.lemmas.List.{map-append}
use Rattle.std.proofs.lemmas.List.Sums.{fold-append}
use Rattle.std.specs.List.{fold}
use Rattle.indexset_core.specs.Order.{keep}
use Rattle.indexset_spine.specs.NodeList.{items}
use Rattle.indexset_set.proofs.traits.BTreeSetExtendRef.extend.Goals as goal

pub loop-value-preserved : goal.loop-value-preserved
loop-value-preserved g c =
    let cmp = g.T.Ord.cmp in
    let v = c.in-Some.value in
    let old = items c.args.self.now in
    let came = c.loop-value.yielded in
    let kept : items c.insert.new.self ≡ keep cmp (items c.loop-value.self) v.now = search rules in
    record {
      came = kept ∙ (ap (λ l. keep cmp l v.now) c.loop-value.invariant.came
          ∙ (sym (fold-append (keep cmp) old (map (λ x. x.now) came) (v.now ∷ []))
          ∙ ap (fold (keep cmp) old) (sym (map-append (λ x. x.now) came (v ∷ [])))));
      size = c.insert.ensures.size ∙ c.loop-value.invariant.size;
    }
