use Rattle.std.proofs.Common.{arith}
use Rattle.indexset_core.specs.Nodes.{vec_items}
use Rattle.indexset_ffi.proofs.CursorLemmas.{within}
use Rattle.indexset_ffi.proofs.cursor.rest.Goals as goal

pub between-requires-clause-order : goal.between-requires-clause-order
between-requires-clause-order g c =
    let le = within (vec_items c.args.nodes.now) c.args.cursor in
    let first = c.place.ensures.before in let last = c.last_place-last.ensures.before in
    omega (arith, le, first, last)
