use Rattle.std.proofs.Common.{length, arith}
use Rattle.std.proofs.lemmas.List.{length-map}
use Rattle.indexset_core.specs.Nodes.{vec_items}
use Rattle.indexset_ffi.proofs.CursorLemmas.{ends}
use Rattle.indexset_ffi.proofs.cursor.end.Goals as goal

pub returns : goal.returns
returns g c = ends (vec_items c.args.nodes.now) (record { node = length c.args.nodes.now; offset = 0 }) (omega (arith, length-map c.args.nodes.now (λ v. v.items)))
