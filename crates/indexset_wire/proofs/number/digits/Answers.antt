use Rattle.std.proofs.Common.{◌≡◌, ap, arith, get_or, subst, take, ◌∙◌}
use Rattle.std.proofs.lemmas.List.{take_all}
use Rattle.std.specs.Str.Parse.{AllDigits, digits_value}
use Rattle.std.specs.Int.{IsInRange}
use Rattle.indexset_wire.proofs.DecimalLemmas.{all_more, no_digit, reads_none, too_large, value_more}
use Rattle.indexset_wire.proofs.number.digits.Goals as goal
use Rattle.indexset_wire.proofs.number.digits.Goals.{then-byte-lt48-via-then-byte-lt48, then-byte-lt48-via-else-byte-lt48+then-byte-gt57}

pub returns-then-byte-lt48 : goal.returns-then-byte-lt48
returns-then-byte-lt48 c all = absurd (no_digit c.args.text.now c.loop-at.at (omega arith) (λ is. elim c.then-byte-lt48.branch [
  | then-byte-lt48-via-then-byte-lt48 w ↦ omega (arith, is.0, w.if-byte-lt48.true)
  | then-byte-lt48-via-else-byte-lt48+then-byte-gt57 w ↦ omega (arith, is.1, w.if-byte-gt57.true)
]) all)

pub returns-in_err-shifted : goal.returns-in_err-shifted
returns-in_err-shifted c =
    let bs = c.args.text.now in
    let i = c.loop-at.at in
    let is : IsInRange 48 57 (get_or bs i 0) = (omega (arith, c.if-byte-lt48.false), omega (arith, c.if-byte-gt57.false)) in
    reads_none bs c.from_residual.result c.from_residual.ensures (λ all.
    too_large bs i (omega arith) _
    (omega (arith, c.in_err-shifted.ensures, c.loop-at.invariant.1, value_more bs i (omega arith) is)))

pub returns-in_err-value : goal.returns-in_err-value
returns-in_err-value c =
    let bs = c.args.text.now in
    let i = c.loop-at.at in
    let is : IsInRange 48 57 (get_or bs i 0) = (omega (arith, c.if-byte-lt48.false), omega (arith, c.if-byte-gt57.false)) in
    reads_none bs c.from_residual-in_err-value.result c.from_residual-in_err-value.ensures (λ all.
    too_large bs i (omega arith) _
    (omega (
      arith,
      c.in_err-value.ensures,
      c.in_ok-shifted.ensures,
      c.loop-at.invariant.1,
      value_more bs i (omega arith) is,
    )))

pub loop-at-preserved : goal.loop-at-preserved
loop-at-preserved c =
    let bs = c.args.text.now in
    let i = c.loop-at.at in
    let is : IsInRange 48 57 (get_or bs i 0) = (omega (arith, c.if-byte-lt48.false), omega (arith, c.if-byte-gt57.false)) in (
      all_more bs i (omega arith) is c.loop-at.invariant.0,
      omega (arith, c.in_ok-value.ensures, c.in_ok-shifted.ensures, c.loop-at.invariant.1, value_more bs i (omega arith) is),
      omega (arith, c.in_ok-value.ensures),
    )

pub returns : goal.returns
returns c =
    let bs = c.args.text.now in
    let whole : take c.loop-at.at bs ≡ bs = take_all c.loop-at.at bs (omega (arith, c.loop-at-test.false)) in
    (subst (AllDigits 10) whole c.loop-at.invariant.0, c.loop-at.invariant.1 ∙ ap (digits_value 10) whole, c.loop-at.invariant.2)
