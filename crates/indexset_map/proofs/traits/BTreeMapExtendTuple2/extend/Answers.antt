use Rattle.std.proofs.Common.{◌≡◌, [], ◌∷◌, ◌∙◌, ap, rules, sym}
use Rattle.std.proofs.lemmas.List.Sums.{fold-append}
use Rattle.indexset_map.specs.Contents.{with_entry}
use Rattle.indexset_map.proofs.traits.BTreeMapExtendTuple2.extend.Goals as goal

pub loop-key-preserved : goal.loop-key-preserved
loop-key-preserved g c =
    let cmp = g.K.Ord.cmp in
    let put : c.insert.new.self ≡ with_entry cmp c.loop-key.self c.in-Some.key c.in-Some.value = search rules in
    record {
      came =
          put
          ∙ (ap (λ m. with_entry cmp m c.in-Some.key c.in-Some.value) c.loop-key.invariant.came
          ∙ sym
          (fold-append (λ m e. with_entry cmp m e.0 e.1) c.args.self.now c.loop-key.yielded
          ((c.in-Some.key, c.in-Some.value) ∷ [])));
    }
