use Rattle.std.proofs.Common.{rules}
use lib.Chars.{codes}
use Rattle.indexset_bench.proofs.Meanings.{added, deleted, asked, ranked, placed_at, length_asked, no_command, no_front, same_line, other_line}
use Rattle.indexset_wire.specs.Numbers.Laws.{number_cases}
use Rattle.indexset_bench.proofs.command.parse.Goals as goal

pub returns-in-Some : goal.returns-in-Some
returns-in-Some c = added c.args.line.now c.in-Some.digits.now c.read_number.result _ c.in-Some.ensures.cases (number_cases _ _ c.read_number.ensures) (search rules)

pub returns-in-Some-strip_prefix : goal.returns-in-Some-strip_prefix
returns-in-Some-strip_prefix c =
    deleted c.args.line.now c.in-Some-strip_prefix.digits.now c.read_number-in-Some-strip_prefix.result _
    c.in-Some-strip_prefix.ensures.cases (number_cases _ _ c.read_number-in-Some-strip_prefix.ensures) (search rules)

pub returns-in-Some-strip_prefix-2 : goal.returns-in-Some-strip_prefix-2
returns-in-Some-strip_prefix-2 c =
    asked c.args.line.now c.in-Some-strip_prefix-2.digits.now c.read_number-in-Some-strip_prefix-2.result _
    c.in-Some-strip_prefix-2.ensures.cases (number_cases _ _ c.read_number-in-Some-strip_prefix-2.ensures) (search rules)

pub returns-in-Some-strip_prefix-3 : goal.returns-in-Some-strip_prefix-3
returns-in-Some-strip_prefix-3 c =
    ranked c.args.line.now c.in-Some-strip_prefix-3.digits.now c.read_number-in-Some-strip_prefix-3.result _
    c.in-Some-strip_prefix-3.ensures.cases (number_cases _ _ c.read_number-in-Some-strip_prefix-3.ensures) (search rules)

pub returns-in-Some-strip_prefix-4 : goal.returns-in-Some-strip_prefix-4
returns-in-Some-strip_prefix-4 c =
    placed_at c.args.line.now c.in-Some-strip_prefix-4.digits.now c.read_number-in-Some-strip_prefix-4.result _
    c.in-Some-strip_prefix-4.ensures.cases (number_cases _ _ c.read_number-in-Some-strip_prefix-4.ensures) (search rules)

pub returns-then-eq : goal.returns-then-eq
returns-then-eq c = length_asked c.args.line.now (same_line c.args.line.now (codes "len") c.as_slice.result.now c.if-eq.ensures c.as_slice.ensures)

pub returns-else-eq : goal.returns-else-eq
returns-else-eq c =
    let line = c.args.line.now in
    no_command line (no_front (codes "add ") line c.in_default.ensures.cases) (no_front (codes "del ") line c.in_default-strip_prefix.ensures.cases)
    (no_front (codes "has ") line c.in_default-strip_prefix-2.ensures.cases) (no_front (codes "rank ") line c.in_default-strip_prefix-3.ensures.cases)
    (no_front (codes "at ") line c.in_default-strip_prefix-4.ensures.cases)
    (other_line line (codes "len") c.as_slice.result.now c.if-eq.ensures c.as_slice.ensures)
