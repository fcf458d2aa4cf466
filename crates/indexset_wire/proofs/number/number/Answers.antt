use Rattle.std.proofs.Common.{rules, arith, ◌≡◌, ◌<◌, length, get_or}
use Rattle.indexset_wire.proofs.DecimalLemmas.{no_number-empty, no_number-zero, written}
use Rattle.indexset_wire.proofs.number.number.Goals as goal
use Rattle.indexset_wire.proofs.number.number.Goals.{else-text-eq48-via-then-text-eq48+else-text-gt1, else-text-eq48-via-else-text-eq48}

pub returns-then-is_empty : goal.returns-then-is_empty
returns-then-is_empty c n small e = no_number-empty c.args.text.now (search rules) n small e

pub returns-then-text-gt1 : goal.returns-then-text-gt1
returns-then-text-gt1 c n small e = no_number-zero c.args.text.now c.if-text-eq48.true c.if-text-gt1.true n small e

pub returns : goal.returns
returns c =
    let some : 0 < length c.args.text.now = search rules in
    let lone : get_or c.args.text.now 0 0 ≡ 48 → length c.args.text.now ≡ 1 = elim c.else-text-eq48.branch [
      | else-text-eq48-via-then-text-eq48+else-text-gt1 w ↦ λ _. omega (arith, w.if-text-gt1.false)
      | else-text-eq48-via-else-text-eq48 w ↦ λ e. absurd (w.if-text-eq48.false e)
    ] in
    written c.args.text.now some lone c.digits.result c.digits.ensures
