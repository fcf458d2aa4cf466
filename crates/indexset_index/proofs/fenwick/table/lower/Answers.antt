use Rattle.std.proofs.Common.{◌-◌, ◌<◌, ◌^◌, length, sum, set, get_or, arith}
use Rattle.std.proofs.lemmas.List.Sums.{sum_by-set}
use Rattle.indexset_index.specs.Fenwick.{lengths_of, IsFenwickOf, cell_in}
use Rattle.indexset_index.proofs.CellLemmas.{change_starts, change_goes_on, change_ends, touched, told, is_fenwick}
use Rattle.indexset_index.proofs.fenwick.table.lower.Goals as goal

pub loop-j-init : goal.loop-j-init
loop-j-init c = change_starts (lengths_of c.args.cells.now) c.args.i (get_or (lengths_of c.args.cells.now) c.args.i 0 - c.args.n) c.args.cells.now c.requires.cells

pub overflow_sub-cells-in-loop-j : goal.overflow_sub-cells-in-loop-j
overflow_sub-cells-in-loop-j c =
    let ls = lengths_of c.args.cells.now in
    let held = c.loop-j.invariant.ahead c.loop-j.j (omega arith) (omega arith) in
    omega (arith, held, touched ls c.args.i 0 c.loop-j.j (omega arith) c.loop-j.invariant.holds c.loop-j.invariant.above)

pub loop-j-preserved : goal.loop-j-preserved
loop-j-preserved c =
    let ls = lengths_of c.args.cells.now in
    let j = c.loop-j.j in
    rw c.lowest_one-j.ensures.value
    (change_goes_on ls c.args.i (get_or ls c.args.i 0 - c.args.n) c.loop-j.cells j (get_or c.loop-j.cells (j - 1) 0 - c.args.n) (omega arith) c.loop-j.invariant (omega arith)
    (let held = c.loop-j.invariant.ahead j (omega arith) (omega arith) in omega (arith, held, touched ls c.args.i 0 j (omega arith) c.loop-j.invariant.holds c.loop-j.invariant.above)))

ended : (c : goal.After-loop-j) → IsFenwickOf (cell_in c.loop-j.cells) (length c.loop-j.cells) (set (lengths_of c.args.cells.now) c.args.i (get_or (lengths_of c.args.cells.now) c.args.i 0 - c.args.n))
ended c =
    let ls = lengths_of c.args.cells.now in
    let v = get_or ls c.args.i 0 - c.args.n in
    let whole : sum (set ls c.args.i v) < 2 ^ 64 = omega (arith, sum_by-set (λ x. x) ls c.args.i v 0 (omega arith)) in
    change_ends ls c.args.i v c.loop-j.cells c.loop-j.j c.loop-j.invariant (omega arith) whole

pub returns-clause-cells : goal.returns-clause-cells
returns-clause-cells c = is_fenwick _ _ (ended c)

pub returns-clause-lengths : goal.returns-clause-lengths
returns-clause-lengths c = told _ _ (ended c)
