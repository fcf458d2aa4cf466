use Rattle.std.proofs.Common.{◌≡◌, ◌∷◌, [], ◌∙◌, ap, sym, to_z, of_z, w64, FitsSigned, nat_abs, pos, arith, rules}
use Rattle.sqlite_value.specs.declared.value.Value.TheVariants.{Null, Int, Text}
use Rattle.sqlite_value.specs.Order.{column}
use Rattle.indexset_journal.proofs.Rows.{not_negative, small_number, three_values}
use Rattle.indexset_journal.proofs.row.number_of.Goals as goal

pub returns-clause-line : goal.returns-clause-line
returns-clause-line c =
    let id : column c.args.row.now 0 ≡ Int c.in-Int.number = search rules in
    let empty : column c.args.row.now 1 ≡ Null = search rules in
    let text : column c.args.row.now 2 ≡ Text c.in-Text.field-0.now = search rules in
    let three : Rattle.std.proofs.Common.length c.args.row.now ≡ 3 = search rules in
    let round : to_z w64 (of_z w64 c.in-Int.number) ≡ c.in-Int.number = search rules in
    let positive = not_negative (to_z w64 (of_z w64 c.in-Int.number)) c.if-number-lt0.false in
    let fits : FitsSigned w64 (to_z w64 (of_z w64 c.in-Int.number)) = search rules in
    (small_number _ c.if-number-lt0.false fits, (c.in-Text.field-0.now, three_values _ _ _ _ three id empty text ∙ ap (λ z. Int z ∷ Null ∷ Text c.in-Text.field-0.now ∷ []) (sym (positive ∙ round))))
