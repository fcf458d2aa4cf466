use Rattle.std.proofs.Common.{refl, ◌∙◌, arith}
use native.Mathlib.Numerals.{unary_clauses}
use Rattle.indexset_spine.proofs.RunLemmas.{compared_all, compared_on}
use Rattle.indexset_spine.proofs.iter.runs.are_equal.Goals as goal

pub loop-i-init : goal.loop-i-init
loop-i-init g c = refl

pub loop-i-preserved : goal.loop-i-preserved
loop-i-preserved g c =
    rw c.eq-same.ensures (simp unary_clauses (compared_on g.T.PartialEq.eq c.loop-i.same c.args.left.now c.args.right.now c.loop-i.i c.index-left-i.result c.index-right-i.result
    c.loop-i-test.true (omega (arith, c.loop-i-test.true, c.requires)) c.index-left-i.is c.index-right-i.is ∙ c.loop-i.invariant))

pub returns : goal.returns
returns g c = compared_all g.T.PartialEq.eq c.loop-i.same c.args.left.now c.args.right.now c.loop-i.i c.loop-i-test.false (omega (arith, c.loop-i-test.false, c.requires)) ∙ c.loop-i.invariant
