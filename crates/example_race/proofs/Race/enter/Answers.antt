use Rattle.std.proofs.Common.{rules, ◌≡◌, [], length, ◌+◌, ◌-◌, ◌++◌, take, arith, ap, subst, sym, ◌∙◌}
use Rattle.std.proofs.lemmas.Grind.{common_steps}
use Rattle.std.proofs.lemmas.List.{take-append-le}
use Rattle.std.specs.Option.{option_and_then}
use Rattle.std.specs.Ordering.{nat_cmp}
use Rattle.indexset.specs.Words.{by_number, replay, IsNumberedFrom}
use Rattle.example_race.proofs.Race.enter.Goals as goal

-- the events of the call continue those before it, a prefix of which the replica has applied
pub invariant_of-self-2 : goal.invariant_of-self-2
invariant_of-self-2 c =
    let before = c.args.self.now in
    let kept = before.events.items in
    let added = c.in_ok-told.told.items in
    let whole : c.append-appended.new.self.items ≡ kept ++ added = grind (arith, common_steps) in
    let led = c.in_ok-told.ensures.events.replay (search rules) in
    let as_many = ap length (c.in_ok-told.ensures.events.identical (search rules)) ∙ c.numbered_by_place.ensures.count _ _ in
    let after : IsNumberedFrom (0 + length kept) added = λ i inside d. grind (arith, c.in_ok-told.ensures.events.numbered i inside d, before.numbered.1) in
    let first = take-append-le (before.copy.next - 0) kept added before.copied.within in
    record {
      numbered = (
        subst (λ events. IsNumberedFrom 0 events) (sym whole) (c.numbered_in_parts.ensures 0 kept added before.numbered.0 after),
        grind (arith, common_steps, whole, as_many, c.in_ok-told.ensures.changed.next, before.numbered.1),
      );
      replayed =
          ap (λ events. replay (by_number nat_cmp) [] events) whole
          ∙ (c.replay_in_parts.ensures [] kept added
          ∙ (ap (option_and_then (λ nodes. replay (by_number nat_cmp) nodes added)) before.replayed ∙ led));
      copied = record {
        within = grind (arith, common_steps, whole, before.copied.within);
        nodes = ap (replay (by_number nat_cmp) []) (ap (take (before.copy.next - 0)) whole ∙ first) ∙ before.copied.nodes;
        next = before.copied.next;
      };
    }
