use Rattle.std.proofs.Common.{◌≡◌, ◌+◌, ◌-◌, remove, slice_index_or, refl, sym, ◌∙◌, arith}
use Rattle.std.proofs.lemmas.List.Edits.{length-remove}
use Rattle.indexset_core.proofs.ShiftLemmas.{not_turned, turn, turned_out}
use Rattle.indexset_core.proofs.moves.remove_item.Given.{Over}
use Rattle.indexset_core.proofs.moves.remove_item.Goals as goal
use Rattle.indexset_core.proofs.moves.remove_item.Goals.{After-take_last}

pub loop-at-init : goal.loop-at-init
loop-at-init g c = record {
  turned = λ d. not_turned c.args.items.now.items c.args.index d c.requires;
  count = refl;
  within = omega (arith, c.requires, c.len-last.ensures, c.args.items.now.ok);
  capacity = refl;
}

pub loop-at-preserved : goal.loop-at-preserved
loop-at-preserved g c =
    let one_less = length-remove c.args.items.now.items c.args.index c.requires in
    let turned = rw c.as_mut_slice.ensures.value at c.rotate_left.ensures.after in
    record {
      turned =
          λ d.
          rw c.as_mut_slice.ensures.value
          (turn c.loop-at.items (remove c.args.items.now.items c.args.index) c.rotate_left.new.self _ c.loop-at.at
          c.min.result (c.loop-at.at + c.min.result + 1 - c.loop-at.at)
          (omega arith) (c.loop-at.invariant.turned d) (omega (arith, one_less, c.min.ensures, c.loop-at-test.true, c.len-last.ensures, c.args.items.now.ok)) turned);
      count = c.loop-at.invariant.count;
      within = omega (arith, c.min.ensures, c.loop-at-test.true);
      capacity = c.loop-at.invariant.capacity;
    }

pub take_last-requires : goal.take_last-requires
take_last-requires g c = omega (arith, c.requires, c.loop-at.invariant.count, c.args.items.now.ok)

module _ (g : Over) (c : After-take_last g) where
  left : (c.take_last.new.self.items ≡ remove c.args.items.now.items c.args.index) × (c.take_last.result ≡ slice_index_or c.args.items.now.items c.args.index c.take_last.result)
  left =
      turned_out _ _ _ _ c.loop-at.at
      (omega (arith, length-remove c.args.items.now.items c.args.index c.requires, c.loop-at.invariant.within, c.loop-at-test.false, c.len-last.ensures, c.args.items.now.ok))
      (sym (c.loop-at.invariant.turned c.take_last.result) ∙ c.take_last.ensures.items)

pub returns-clause-value : goal.returns-clause-value
returns-clause-value g c = (left g c).1

pub returns-clause-items : goal.returns-clause-items
returns-clause-items g c = (left g c).0
