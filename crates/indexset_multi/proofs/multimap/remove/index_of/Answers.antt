use Rattle.std.proofs.Common.{◌≡◌, ◌∙◌, false, find, length, true, ap, arith, refl, sym}
use Rattle.indexset_multi.proofs.ReadingLemmas.{first_is, first_later, read}
use Rattle.indexset_multi.proofs.multimap.remove.index_of.Goals as goal

pub loop-pair-init : goal.loop-pair-init
loop-pair-init g c = record { left = refl; within = omega arith; found = refl }

pub loop-pair-smaller : goal.loop-pair-smaller
loop-pair-smaller g c = omega (arith, ap (λ l. length l) c.in-Some.ensures.steps)

pub returns : goal.returns
returns g c = sym c.loop-pair.invariant.found ∙ ap (λ l. find (λ p. g.V.PartialEq.eq p.value c.args.value.now) l) c.in_default.ensures.steps.0

pub returns-then-eq : goal.returns-then-eq
returns-then-eq g c =
    let at = c.loop-pair in
    let eq = g.V.PartialEq.eq in
    let w = c.args.value.now in
    let next = read (λ p. eq p.value w) c.args.pairs at.rest at.index c.in-Some.pair.now c.next.new.self at.invariant.left at.invariant.found c.in-Some.ensures.steps in
    let same : eq c.in-Some.pair.now.value w ≡ true = cc in
    (next.inside, first_is (λ p. eq p.value w) c.args.pairs at.rest at.index c.in-Some.pair.now c.next.new.self at.invariant.left at.invariant.found c.in-Some.ensures.steps same)

pub loop-pair-preserved : goal.loop-pair-preserved
loop-pair-preserved g c =
    let at = c.loop-pair in
    let eq = g.V.PartialEq.eq in
    let w = c.args.value.now in
    let next = read (λ p. eq p.value w) c.args.pairs at.rest at.index c.in-Some.pair.now c.next.new.self at.invariant.left at.invariant.found c.in-Some.ensures.steps in
    let other : eq c.in-Some.pair.now.value w ≡ false = sym c.eq.ensures ∙ c.if-eq.false in
    record {
      left = next.rest;
      within = omega (arith, next.inside);
      found = first_later (λ p. eq p.value w) c.args.pairs at.rest at.index c.in-Some.pair.now c.next.new.self at.invariant.left at.invariant.found c.in-Some.ensures.steps other;
    }
