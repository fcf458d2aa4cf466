use Rattle.std.proofs.Common.{◌≡◌, ◌∙◌, true, [], arith, sym, refl}
use Rattle.indexset_events.specs.Nodes.{is_filled}
use Rattle.indexset_events.proofs.AttachLemmas.{refused_empty, refused_large, refused_unsorted, filled_first}
use Rattle.indexset_events.proofs.NodeOrderLemmas.{follow_told}
use Rattle.indexset_events.proofs.nodes.test_node.Given.{Over}
use Rattle.indexset_events.proofs.nodes.test_node.Goals.{In-Some}
use Rattle.indexset_events.proofs.nodes.test_node.Goals as goal

full : (g : Over) (c : In-Some g) → is_filled c.args.items.now ≡ true
full g c = filled_first c.args.items.now c.in-Some.first.now (sym c.in-Some.ensures.value)

pub returns-in_default-clause-refusal : goal.returns-in_default-clause-refusal
returns-in_default-clause-refusal g c = rw (refused_empty g.T.Ord.cmp c.args.size [] c.args.items.now (sym c.in_default.ensures.value)) refl

pub returns-then-items-size-clause-refusal : goal.returns-then-items-size-clause-refusal
returns-then-items-size-clause-refusal g c =
    rw (refused_large g.T.Ord.cmp c.args.size [] c.args.items.now (full g (goal.at.returns-then-items-size-clause-refusal g c).In-Some) (omega arith)) refl

pub returns-then-not-is_ascending-clause-refusal : goal.returns-then-not-is_ascending-clause-refusal
returns-then-not-is_ascending-clause-refusal g c =
    rw
    (refused_unsorted g.T.Ord.cmp c.args.size [] c.args.items.now
    (full g (goal.at.returns-then-not-is_ascending-clause-refusal g c).In-Some) (omega arith)
    (sym c.is_ascending.ensures ∙ c.if-not-is_ascending.true))
    refl

pub returns-then-not-ends_below-clause-refusal : goal.returns-then-not-ends_below-clause-refusal
returns-then-not-ends_below-clause-refusal g c =
    follow_told g.T.Ord.cmp g.met.T.Ord.total c.args.size c.args.before.now c.args.items.now c.in-Some.first.now
    c.ends_below.result (full g (goal.at.returns-then-not-ends_below-clause-refusal g c).In-Some) (omega arith)
    c.requires (sym c.is_ascending.ensures ∙ c.if-not-is_ascending.false) (sym c.in-Some.ensures.value)
    c.ends_below.ensures
    ∙ rw c.if-not-ends_below.true refl

pub returns-clause-good : goal.returns-clause-good
returns-clause-good g c =
    follow_told g.T.Ord.cmp g.met.T.Ord.total c.args.size c.args.before.now c.args.items.now c.in-Some.first.now
    c.ends_below.result (full g (goal.at.returns-clause-good g c).In-Some) (omega arith) c.requires
    (sym c.is_ascending.ensures ∙ c.if-not-is_ascending.false) (sym c.in-Some.ensures.value) c.ends_below.ensures
    ∙ rw c.if-not-ends_below.false refl
