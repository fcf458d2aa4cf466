use Rattle.std.proofs.Common.{◌∙◌, sym, arith}
use Rattle.std.proofs.lemmas.List.{length-map}
use Rattle.indexset_core.specs.Nodes.{vec_items}
use Rattle.indexset_ffi.proofs.CursorLemmas.{ends, here}
use Rattle.indexset_ffi.proofs.cursor.place.Goals as goal

pub returns-then-cursor-nodes-clause-before : goal.returns-then-cursor-nodes-clause-before
returns-then-cursor-nodes-clause-before g c =
    sym
    (here c.args.nodes.now c.args.cursor c.index-nodes-cursor.result c.len.result c.min-offset.result
    c.if-cursor-nodes.true c.index-nodes-cursor.is (c.len.ensures ∙ c.index-nodes-cursor.result.ok.0)
    c.min-offset.ensures)

pub returns-clause-before : goal.returns-clause-before
returns-clause-before g c = c.last_place.ensures.before ∙ sym (ends (vec_items c.args.nodes.now) c.args.cursor (omega (arith, c.if-cursor-nodes.false, length-map c.args.nodes.now (λ v. v.items))))
