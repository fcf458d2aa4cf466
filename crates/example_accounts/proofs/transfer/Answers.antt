use Rattle.std.proofs.Common.{rules, ◌≡◌, ◌+◌, Some, false, ap, ◌∙◌, arith}
use Rattle.std.specs.Cmp.Lexicographic.{nat_list_cmp_total, slice_cmp}
use Rattle.std.specs.Ordering.{is_eq, nat_cmp}
use Rattle.std.proofs.lemmas.Grind.{common_steps}
use Rattle.std.proofs.lemmas.Map.Text.{is_eq-slice_cmp}
use Rattle.indexset.specs.Words.{set_value, value_of}
use Rattle.indexset.proofs.CallerLemmas.{sum_by_set_value, value_set_value_other}
use Rattle.example_accounts.proofs.transfer.Goals as goal

pub returns : goal.returns
returns c =
    let cmp = slice_cmp nat_cmp in
    let old = c.args.accounts.now.pairs in
    let from = c.args.from.now in
    let to = c.args.to.now in
    let balance = c.in_ok-balance.field-0.now in
    let held = c.in_ok-held.field-0.now in
    let left = c.in_ok-left.left in
    let raised = c.in_ok-raised.raised in
    let first = set_value cmp old from left in
    let found : value_of cmp old from ≡ Some balance = search rules in
    let found_other : value_of cmp old to ≡ Some held = search rules in
    let apart : is_eq (cmp to from) ≡ false = is_eq-slice_cmp to from ∙ search rules in
    let still : value_of cmp first to ≡ Some held = value_set_value_other cmp from left nat_list_cmp_total to apart old ∙ found_other in
    let written : c.set-2.new.accounts.pairs ≡ set_value cmp first to raised = c.set-2.ensures ∙ ap (λ l. set_value cmp l to raised) c.set.ensures in
    let taken = sum_by_set_value cmp from left (λ x. x) old balance found in
    let given = sum_by_set_value cmp to raised (λ x. x) first held still in
    let less : left + c.args.amount ≡ balance = grind (arith, common_steps) in
    let more : raised ≡ held + c.args.amount = grind (arith, common_steps) in
    rw written (omega (arith, taken, given, less, more))
