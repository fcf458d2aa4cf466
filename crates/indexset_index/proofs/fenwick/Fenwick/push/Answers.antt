use Rattle.std.proofs.Common.{◌≡◌, [], ◌∷◌, ◌++◌, ◌+◌, ◌-◌, length, ap, ◌∙◌, refl, arith}
use Rattle.indexset_index.specs.Fenwick.{lowbit, lengths_of, cell_in, IsFenwickOf}
use Rattle.indexset_index.proofs.LowbitLemmas.{lowbit-pos}
use Rattle.indexset_index.proofs.CellLemmas.{pushed, told, is_fenwick}
use Rattle.indexset_index.proofs.fenwick.Fenwick.push.Goals as goal

pub last_cell-cell-requires-clause-begins : goal.last_cell-cell-requires-clause-begins
last_cell-cell-requires-clause-begins c = omega (arith, lowbit-pos (c.len.result + 1) (omega arith))

seen : (c : goal.After-push_reserved) → lengths_of c.self.inside.cells.items ≡ c.args.self.now.lengths
seen c = ap (λ l. l.lengths) c.self.view_is

made : (c : goal.After-push_reserved) → let new = c.self.inside.cells.items ++ c.last_cell-cell.result ∷ [] in
    IsFenwickOf (cell_in new) (length new) (lengths_of c.self.inside.cells.items ++ c.args.last ∷ [])
made c =
    let n : c.len.result ≡ length c.self.inside.cells.items = omega arith in
    pushed c.self.inside.cells.items (lengths_of c.self.inside.cells.items) c.last_cell-cell.result c.args.last (c.len.result + 1 - lowbit (c.len.result + 1)) c.self.invariant (rw n refl)
    (rw c.as_slice.ensures.value at c.last_cell-cell.ensures)
    (rw (seen c) c.requires.fits)

pub invariant_of-self : goal.invariant_of-self
invariant_of-self c = rw c.push_reserved.ensures.items (is_fenwick _ _ (made c))

pub returns-clause-lengths : goal.returns-clause-lengths
returns-clause-lengths c = ap lengths_of c.push_reserved.ensures.items ∙ (told _ _ (made c) ∙ ap (λ l. l ++ c.args.last ∷ []) (seen c))
