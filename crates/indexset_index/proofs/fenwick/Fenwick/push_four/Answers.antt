use Rattle.std.proofs.Common.{◌≡◌, [], ◌∷◌, ◌++◌, ◌+◌, length, ap, ◌∙◌, append_assoc, arith}
use Rattle.indexset_index.specs.Fenwick.{lengths_of, cell_in, IsFenwickOf}
use Rattle.indexset_index.proofs.LowbitLemmas.{lowbit-of_four}
use Rattle.indexset_index.proofs.CellLemmas.{pushed_four, told, is_fenwick}
use Rattle.indexset_index.proofs.fenwick.Fenwick.push_four.Goals as goal

pub last_cell-cell-requires-clause-begins : goal.last_cell-cell-requires-clause-begins
last_cell-cell-requires-clause-begins c =
    let count = ap (λ l. length l.lengths) c.self.view_is in
    omega (arith, lowbit-of_four (c.len.result + 4) (omega arith) (omega arith))

seen : (c : goal.After-push_reserved-4) → lengths_of c.self.inside.cells.items ≡ c.args.self.now.lengths
seen c = ap (λ l. l.lengths) c.self.view_is

made : (c : goal.After-push_reserved-4)
    → let new =
    c.self.inside.cells.items ++ c.args.first ∷ (c.args.first + c.args.second) ∷ c.args.third ∷ c.last_cell-cell.result
    ∷ [] in
    IsFenwickOf (cell_in new) (length new)
    (lengths_of c.self.inside.cells.items ++ c.args.first ∷ c.args.second ∷ c.args.third ∷ c.args.fourth ∷ [])
made c =
    let n : c.len.result ≡ length c.self.inside.cells.items = omega arith in
    let count = ap length (seen c) in
    pushed_four c.self.inside.cells.items (lengths_of c.self.inside.cells.items) c.args.first c.args.second c.args.third c.args.fourth c.last_cell-cell.result c.self.invariant
    (omega arith)
    (rw (seen c) c.requires.fits)
    (rw n at (rw c.as_slice.ensures.value at c.last_cell-cell.ensures))

items : (c : goal.After-push_reserved-4) → c.push_reserved-4.new.self.items ≡ c.self.inside.cells.items ++ c.args.first ∷ (c.args.first + c.args.second) ∷ c.args.third ∷ c.last_cell-cell.result ∷ []
items c = rw (c.push_reserved-4.ensures.items, c.push_reserved-3.ensures.items, c.push_reserved-2.ensures.items, c.push_reserved.ensures.items) (simp append_assoc)

pub invariant_of-self : goal.invariant_of-self
invariant_of-self c = rw (items c) (is_fenwick _ _ (made c))

pub returns-clause-lengths : goal.returns-clause-lengths
returns-clause-lengths c = ap lengths_of (items c) ∙ (told _ _ (made c) ∙ ap (λ l. l ++ c.args.first ∷ c.args.second ∷ c.args.third ∷ c.args.fourth ∷ []) (seen c))
