use Rattle.std.proofs.Common.{◌≡◌, ◌∷◌, ◌++◌, sym, ◌∙◌, arith}
use Rattle.std.specs.Vec.Iter.{into_iter_items}
use Rattle.indexset_core.specs.Nodes.{concat, vec_items}
use Rattle.indexset_spine.proofs.IntoIterLemmas.{alone_gives_first, fewer, front_gives, front_turn, none_left, one_gone}
use Rattle.indexset_spine.proofs.into_iter.IntoIterIterator.next.Given.{Over}
use Rattle.indexset_spine.proofs.into_iter.IntoIterIterator.next.Goals as goal
use Rattle.indexset_spine.proofs.into_iter.IntoIterIterator.next.Goals.{In-Some, In_ok-first}

-- the front node yields its first item
module _ (g : Over) (c : In-Some g) where
  gives : c.args.self.now
      ≡ c.in-Some.first
      ∷ (into_iter_items c.next.new.self
      ++ (concat (vec_items (into_iter_items c.loop-first.self-inside.middle))
      ++ into_iter_items c.loop-first.self-inside.back))
  gives = front_gives (into_iter_items c.loop-first.self-inside.front) _ (into_iter_items c.next.new.self) c.args.self.now c.in-Some.first c.loop-first.invariant.rest c.in-Some.ensures.cases.0

-- only the back node is left, and yields its first item
module _ (g : Over) (c : In_ok-first g) where
  alone_gives : c.args.self.now
      ≡ c.in_ok-first.first
      ∷ (into_iter_items c.next.new.self
      ++ (concat (vec_items (into_iter_items c.next-in-loop-first.new.self))
      ++ into_iter_items c.next-in_default-next.new.self))
  alone_gives =
      let s = c.loop-first.self-inside in
      let t = c.next-in-loop-first.new.self in
      let u = c.next.new.self in
      alone_gives_first (into_iter_items s.middle) (into_iter_items t) (into_iter_items s.front) (into_iter_items u)
      (into_iter_items s.back) (into_iter_items c.next-in_default-next.new.self) c.args.self.now c.in_ok-first.first
      (omega (arith, c.in_default-next.ensures.cases.0, s.middle.rest.ok)) (omega (arith, c.in_default-next.ensures.cases.1, t.rest.ok))
      (omega (arith, c.in_default.ensures.cases.0, s.front.rest.ok)) (omega (arith, c.in_default.ensures.cases.1, u.rest.ok)) c.loop-first.invariant.rest c.in_ok-first.ensures.cases.0

pub overflow_sub-self : goal.overflow_sub-self
overflow_sub-self g c = (one_gone c.loop-first.self-inside.left c.args.self.now _ c.in-Some.first c.loop-first.invariant.left (gives g c)).0

pub invariant_of-self : goal.invariant_of-self
invariant_of-self g c = (one_gone c.loop-first.self-inside.left c.args.self.now _ c.in-Some.first c.loop-first.invariant.left (gives g (goal.at.invariant_of-self g c).In-Some)).1

pub returns-in-Some-clause-steps : goal.returns-in-Some-clause-steps
returns-in-Some-clause-steps g c = gives g (goal.at.returns-in-Some-clause-steps g c).In-Some

pub returns-in-Some-clause-goes : goal.returns-in-Some-clause-goes
returns-in-Some-clause-goes g c = record {
  on = λ _. (tt, tt, fewer c.args.self.now _ c.in-Some.first (gives g (goal.at.returns-in-Some-clause-goes g c).In-Some));
  keeps = tt;
  rests = λ _. tt;
}

pub overflow_sub-self-in_default-next : goal.overflow_sub-self-in_default-next
overflow_sub-self-in_default-next g c = (one_gone c.loop-first.self-inside.left c.args.self.now _ c.in_ok-first.first c.loop-first.invariant.left (alone_gives g c)).0

pub invariant_of-self-in_default-next : goal.invariant_of-self-in_default-next
invariant_of-self-in_default-next g c =
    (one_gone c.loop-first.self-inside.left c.args.self.now _ c.in_ok-first.first c.loop-first.invariant.left
    (alone_gives g (goal.at.invariant_of-self-in_default-next g c).In_ok-first)).1

pub returns-in_default-next-clause-steps : goal.returns-in_default-next-clause-steps
returns-in_default-next-clause-steps g c = alone_gives g (goal.at.returns-in_default-next-clause-steps g c).In_ok-first

pub returns-in_default-next-clause-goes : goal.returns-in_default-next-clause-goes
returns-in_default-next-clause-goes g c = record {
  on = λ _. (tt, tt, fewer c.args.self.now _ c.in_ok-first.first (alone_gives g (goal.at.returns-in_default-next-clause-goes g c).In_ok-first));
  keeps = tt;
  rests = λ _. tt;
}

pub returns-in_err-first-clause-steps : goal.returns-in_err-first-clause-steps
returns-in_err-first-clause-steps g c =
    let s = c.loop-first.self-inside in
    let f = c.next.new.self in
    let t = c.next-in-loop-first.new.self in
    let u = c.next-in_default-next.new.self in
    rw c.from_residual.ensures (
      sym c.loop-first.invariant.rest
          ∙ none_left (into_iter_items s.middle) (into_iter_items s.front) (into_iter_items s.back)
          (omega (arith, c.in_default.ensures.cases.0, s.front.rest.ok))
          (omega (arith, c.in_default-next.ensures.cases.0, s.middle.rest.ok))
          (omega (arith, c.in_err-first.ensures.cases.0, s.back.rest.ok)),
      none_left (into_iter_items t) (into_iter_items f) (into_iter_items u)
          (omega (arith, c.in_default.ensures.cases.1, f.rest.ok))
          (omega (arith, c.in_default-next.ensures.cases.1, t.rest.ok))
          (omega (arith, c.in_err-first.ensures.cases.1, u.rest.ok)),
    )

pub loop-first-preserved : goal.loop-first-preserved
loop-first-preserved g c =
    let s = c.loop-first.self-inside in
    record {
      rest =
          front_turn (into_iter_items s.middle) (into_iter_items c.next-in-loop-first.new.self) c.in-Some-next.node
          (into_iter_items s.front) (into_iter_items c.into_iter.result) (into_iter_items s.back) c.args.self.now
          c.into_iter.ensures.rest c.in-Some-next.ensures.cases.0
          (omega (arith, c.in_default.ensures.cases.0, s.front.rest.ok)) c.loop-first.invariant.rest;
      left = c.loop-first.invariant.left;
    }
