use Rattle.std.proofs.Common.{◌+◌, ◌∙◌, arith}
use Rattle.std.proofs.lemmas.List.{length-map}
use Rattle.indexset_core.specs.Nodes.{vec_items}
use Rattle.indexset_ffi.proofs.CursorLemmas.{ends, on, over, within}
use Rattle.indexset_ffi.proofs.cursor.moved.Goals as goal

pub returns-then-left-len : goal.returns-then-left-len
returns-then-left-len g c =
    let vs = c.args.nodes.now in let at = c.loop-at.at in let v = c.index-nodes-at.result in let o = c.min-offset.result in
    let i = c.loop-at.invariant in
    let stands = on vs at v c.len-len.result o c.loop-at-test.true c.index-nodes-at.is (c.len-len.ensures ∙ v.ok.0) c.min-offset.ensures c.loop-at.left c.if-left-len.true in
    let le = within (vec_items vs) (record { node = at.node; offset = o + c.loop-at.left }) in
    omega (arith, i, stands, le)

pub loop-at-preserved : goal.loop-at-preserved
loop-at-preserved g c =
    let vs = c.args.nodes.now in let at = c.loop-at.at in let v = c.index-nodes-at.result in let o = c.min-offset.result in
    let i = c.loop-at.invariant in let more = c.if-left-len.false in
    let behind = over vs at v c.len-len.result o c.loop-at-test.true c.index-nodes-at.is (c.len-len.ensures ∙ v.ok.0) c.min-offset.ensures in
    omega (arith, i, behind, more)

pub returns : goal.returns
returns g c =
    let vs = c.args.nodes.now in let i = c.loop-at.invariant in
    let end = ends (vec_items vs) c.loop-at.at (omega (arith, c.loop-at-test.false, length-map vs (λ v. v.items))) in
    omega (arith, i, end)
