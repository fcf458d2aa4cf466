use Rattle.std.proofs.Common.{take, ap, ◌∙◌}
use Rattle.indexset_index.specs.Fenwick.{lengths_of}
use Rattle.indexset_index.proofs.CellLemmas.{shortened, told, is_fenwick}
use Rattle.indexset_index.proofs.fenwick.Fenwick.truncate.Goals as goal

pub invariant_of-self : goal.invariant_of-self
invariant_of-self c = rw c.truncate.ensures.items (is_fenwick _ _ (shortened c.self.inside.cells.items (lengths_of c.self.inside.cells.items) c.args.k c.self.invariant))

pub returns-clause-lengths : goal.returns-clause-lengths
returns-clause-lengths c =
    ap lengths_of c.truncate.ensures.items
    ∙ (told _ _ (shortened c.self.inside.cells.items (lengths_of c.self.inside.cells.items) c.args.k c.self.invariant) ∙ ap (λ l. take c.args.k l.lengths) c.self.view_is)
