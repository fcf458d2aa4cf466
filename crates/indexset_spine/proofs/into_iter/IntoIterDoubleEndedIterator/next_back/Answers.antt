use Rattle.std.proofs.Common.{◌≡◌, ◌∷◌, ◌++◌, [], ap, sym, ◌∙◌, length, arith}
use Rattle.std.proofs.lemmas.List.{nil_from_length}
use Rattle.std.specs.Vec.Iter.{into_iter_items}
use Rattle.indexset_core.specs.Nodes.{concat, vec_items}
use Rattle.indexset_core.proofs.CallerLemmas.{back_turn}
use Rattle.indexset_spine.proofs.IntoIterLemmas.{alone_gives_last, back_gives, fewer_last, last_gone, none_left}
use Rattle.indexset_spine.proofs.into_iter.IntoIterDoubleEndedIterator.next_back.Given.{Over}
use Rattle.indexset_spine.proofs.into_iter.IntoIterDoubleEndedIterator.next_back.Goals as goal
use Rattle.indexset_spine.proofs.into_iter.IntoIterDoubleEndedIterator.next_back.Goals.{In-Some, In_ok-last}

pub loop-last-preserved : goal.loop-last-preserved
loop-last-preserved g c =
    let s = c.loop-last.self-inside in
    let turn = c.in-Some-next_back in
    let mid = into_iter_items c.next_back-in-loop-last.new.self in
    let none : length (into_iter_items s.back) ≡ 0 = omega (arith, c.in_default.ensures.steps.0, s.back.rest.ok) in
    record {
      rest = ap (λ l. into_iter_items s.front ++ (concat (vec_items mid) ++ l)) c.into_iter.ensures.rest
          ∙ (back_turn (λ v. v.items) mid (into_iter_items s.middle) turn.node (into_iter_items s.front)
          (into_iter_items s.back) turn.ensures.steps (nil_from_length (into_iter_items s.back) none)
          ∙ c.loop-last.invariant.rest);
      left = c.loop-last.invariant.left;
    }

-- the back node yields its last item
module _ (g : Over) (c : In-Some g) where
  gives : c.args.self.now
      ≡ (into_iter_items c.loop-last.self-inside.front
      ++ (concat (vec_items (into_iter_items c.loop-last.self-inside.middle)) ++ into_iter_items c.next_back.new.self))
      ++ c.in-Some.last ∷ []
  gives =
      back_gives (into_iter_items c.loop-last.self-inside.front) _ (into_iter_items c.loop-last.self-inside.back)
      (into_iter_items c.next_back.new.self) c.args.self.now c.in-Some.last c.loop-last.invariant.rest
      c.in-Some.ensures.steps

pub overflow_sub-self : goal.overflow_sub-self
overflow_sub-self g c = (last_gone c.loop-last.self-inside.left c.args.self.now _ c.in-Some.last c.loop-last.invariant.left (gives g c)).0

pub invariant_of-self : goal.invariant_of-self
invariant_of-self g c = (last_gone c.loop-last.self-inside.left c.args.self.now _ c.in-Some.last c.loop-last.invariant.left (gives g (goal.at.invariant_of-self g c).In-Some)).1

pub returns-in-Some-clause-steps : goal.returns-in-Some-clause-steps
returns-in-Some-clause-steps g c = gives g (goal.at.returns-in-Some-clause-steps g c).In-Some

-- only the front node is left, and yields its last item
module _ (g : Over) (c : In_ok-last g) where
  alone_gives : c.args.self.now
      ≡ (into_iter_items c.next_back-in_default-next_back.new.self
      ++ (concat (vec_items (into_iter_items c.next_back-in-loop-last.new.self))
      ++ into_iter_items c.next_back.new.self))
      ++ c.in_ok-last.last ∷ []
  alone_gives =
      let s = c.loop-last.self-inside in
      let t = c.next_back-in-loop-last.new.self in
      let u = c.next_back.new.self in
      alone_gives_last (into_iter_items s.middle) (into_iter_items t) (into_iter_items s.front)
      (into_iter_items c.next_back-in_default-next_back.new.self) (into_iter_items s.back) (into_iter_items u)
      c.args.self.now c.in_ok-last.last
      (omega (arith, c.in_default-next_back.ensures.steps.0, s.middle.rest.ok)) (omega (arith, c.in_default-next_back.ensures.steps.1, t.rest.ok))
      (omega (arith, c.in_default.ensures.steps.0, s.back.rest.ok)) (omega (arith, c.in_default.ensures.steps.1, u.rest.ok)) c.loop-last.invariant.rest c.in_ok-last.ensures.steps

pub overflow_sub-self-in_default-next_back : goal.overflow_sub-self-in_default-next_back
overflow_sub-self-in_default-next_back g c = (last_gone c.loop-last.self-inside.left c.args.self.now _ c.in_ok-last.last c.loop-last.invariant.left (alone_gives g c)).0

pub invariant_of-self-in_default-next_back : goal.invariant_of-self-in_default-next_back
invariant_of-self-in_default-next_back g c =
    (last_gone c.loop-last.self-inside.left c.args.self.now _ c.in_ok-last.last c.loop-last.invariant.left
    (alone_gives g (goal.at.invariant_of-self-in_default-next_back g c).In_ok-last)).1

pub returns-in_default-next_back-clause-steps : goal.returns-in_default-next_back-clause-steps
returns-in_default-next_back-clause-steps g c = alone_gives g (goal.at.returns-in_default-next_back-clause-steps g c).In_ok-last

pub returns-in-Some-clause-goes : goal.returns-in-Some-clause-goes
returns-in-Some-clause-goes g c = record {
  on = λ _. (tt, tt, fewer_last c.args.self.now _ c.in-Some.last (gives g (goal.at.returns-in-Some-clause-goes g c).In-Some));
  keeps = tt;
  rests = λ _. tt;
}

pub returns-in_default-next_back-clause-goes : goal.returns-in_default-next_back-clause-goes
returns-in_default-next_back-clause-goes g c = record {
  on = λ _. (tt, tt, fewer_last c.args.self.now _ c.in_ok-last.last (alone_gives g (goal.at.returns-in_default-next_back-clause-goes g c).In_ok-last));
  keeps = tt;
  rests = λ _. tt;
}

pub returns-in_err-last-clause-steps : goal.returns-in_err-last-clause-steps
returns-in_err-last-clause-steps g c =
    let s = c.loop-last.self-inside in
    let f = c.next_back-in_default-next_back.new.self in
    let t = c.next_back-in-loop-last.new.self in
    let u = c.next_back.new.self in
    rw c.from_residual.ensures (
      sym c.loop-last.invariant.rest
          ∙ none_left (into_iter_items s.middle) (into_iter_items s.front) (into_iter_items s.back)
          (omega (arith, c.in_err-last.ensures.steps.0, s.front.rest.ok))
          (omega (arith, c.in_default-next_back.ensures.steps.0, s.middle.rest.ok))
          (omega (arith, c.in_default.ensures.steps.0, s.back.rest.ok)),
      none_left (into_iter_items t) (into_iter_items f) (into_iter_items u)
          (omega (arith, c.in_err-last.ensures.steps.1, f.rest.ok))
          (omega (arith, c.in_default-next_back.ensures.steps.1, t.rest.ok))
          (omega (arith, c.in_default.ensures.steps.1, u.rest.ok)),
    )
