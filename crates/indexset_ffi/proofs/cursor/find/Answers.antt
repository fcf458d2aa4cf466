use Rattle.std.proofs.Common.{◌∙◌}
use Rattle.indexset_core.specs.Nodes.{vec_items}
use Rattle.indexset_ffi.proofs.CursorLemmas.{at_place}
use Rattle.indexset_ffi.proofs.cursor.find.Goals as goal

pub returns : goal.returns
returns g c =
    let p = c.place_by-node.result in
    at_place (vec_items c.args.nodes.now) (record { node = p.0; offset = p.1 }) c.place_by-node.ensures.place ∙ c.place_by-node.ensures.before
