use Rattle.std.proofs.Common.{◌∙◌, ap, length, arith}
use Rattle.indexset_core.specs.Nodes.{vec_items}
use Rattle.indexset_ffi.proofs.CursorLemmas.{few}
use Rattle.indexset_ffi.proofs.next.next_pairs.Goals as goal

pub returns-clause-moved : goal.returns-clause-moved
returns-clause-moved g c =
    let told = c.write_numbers-count.ensures.count in let long = ap (λ l. length l) c.rest.ensures in
    c.moved.ensures ∙ few (vec_items c.args.nodes.now) c.args.cursor.now c.write_numbers-count.result (omega (arith, told, long))
