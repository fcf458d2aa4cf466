use Rattle.std.proofs.Common.{◌≡◌, [], ◌∷◌, ◌∙◌, ap, map, rules, sym}
use Rattle.std.proofs.lemmas.List.{map-append}
use Rattle.std.proofs.lemmas.List.Sums.{fold-append}
use Rattle.indexset_map.specs.Contents.{with_all, with_entry}
use Rattle.indexset_map.proofs.traits.BTreeMapExtendTuple2RefRef.extend.Goals as goal

pub loop-key-preserved : goal.loop-key-preserved
loop-key-preserved g c =
    let cmp = g.K.Ord.cmp in
    let old = c.args.self.now in
    let came = c.loop-key.yielded in
    let key = c.in-Some.key in
    let value = c.in-Some.value in
    let put : c.insert.new.self ≡ with_entry cmp c.loop-key.self key.now value.now = search rules in
    record {
      came = put ∙ (ap (λ m. with_entry cmp m key.now value.now) c.loop-key.invariant.came
          ∙ (sym (fold-append (λ m e. with_entry cmp m e.0 e.1) old (map (λ e. (e.0.now, e.1.now)) came) ((key.now, value.now) ∷ []))
          ∙ ap (with_all cmp old) (sym (map-append (λ e. (e.0.now, e.1.now)) came ((key, value) ∷ [])))));
    }
