use Rattle.std.proofs.Common.{◌≡◌, ◌+◌, ◌-◌, ◌/◌, ◌%◌, ◌++◌, ◌∷◌, [], drop, sym, ap, ◌∙◌, arith, append_assoc, rules}
use Rattle.std.specs.Fmt.{decimal}
use Rattle.std.proofs.lemmas.Fmt.{decimal_digit, decimal_step}
use Rattle.std.proofs.lemmas.List.{drop-set}
use Rattle.indexset_wire.proofs.DigitCounts.{one_digit_less}
use Rattle.indexset_wire.proofs.digits.fill_decimal.Goals as goal

pub loop-rest-preserved : goal.loop-rest-preserved
loop-rest-preserved c =
    let l = c.loop-rest in
    let more = c.loop-rest-test.true in
    let less = one_digit_less l.start l.rest more l.invariant.room in
    let next : l.start - 1 + 1 ≡ l.start = omega (arith, less.0) in
    let set = drop-set l.buffer l.start (48 + l.rest % 10) (omega (arith, l.invariant.last, l.invariant.long)) in
    record {
      last = omega (arith, l.invariant.last);
      room = less.1;
      long = search rules;
      digits = rw (next, set) (sym (append_assoc (decimal (l.rest / 10)) ((48 + l.rest % 10) ∷ []) (drop (l.start + 1) l.buffer))
          ∙ (ap (λ t. t ++ drop (l.start + 1) l.buffer) (sym (decimal_step l.rest more l.auto.rest-fits.fits)) ∙ l.invariant.digits));
    }

pub returns-clause-digits : goal.returns-clause-digits
returns-clause-digits c =
    let l = c.loop-rest in
    drop-set l.buffer l.start (48 + l.rest) (omega (arith, l.invariant.last, l.invariant.long))
    ∙ (ap (λ t. t ++ drop (l.start + 1) l.buffer) (sym (decimal_digit l.rest c.loop-rest-test.false)) ∙ l.invariant.digits)
