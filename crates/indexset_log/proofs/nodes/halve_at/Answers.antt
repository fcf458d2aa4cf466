use Rattle.std.proofs.Common.{◌≡◌, ◌+◌, ◌/◌, length, map, set, get_or, take, drop, refl, arith, ap, sym, ◌∙◌, length-drop}
use Rattle.std.proofs.lemmas.List.{length-map}
use Rattle.std.proofs.lemmas.Option.{slice_get-get_or}
use Rattle.std.proofs.Math.Seq.{map-set_same}
use Rattle.indexset_core.specs.Nodes.{node_at}
use Rattle.indexset_core.proofs.CallerLemmas.{length-concat, on_err}
use Rattle.indexset_events.proofs.CallerLemmas.{halved_view, node_is}
use Rattle.indexset_events.specs.Edits.{with_halved}
use Rattle.indexset_index.proofs.CallerLemmas.{block_there, node_in_block}
use Rattle.indexset_log.proofs.IndexLemmas.{halved, halved_sum}
use Rattle.indexset_log.proofs.nodes.halve_at.Given.{Over}
use Rattle.indexset_log.proofs.nodes.halve_at.Goals.{After-as_slice, After-from_residual-in_err-right}
use Rattle.indexset_log.proofs.nodes.halve_at.Goals as goal

-- a node that is not halved is unchanged
kept : (g : Over) (c : After-from_residual-in_err-right g) → map g.Node.NodeLike.list (set c.reserve.new.self.items c.args.place c.halve.new.self) ≡ map g.Node.NodeLike.list c.args.nodes.now.items
kept g c =
    let list = g.Node.NodeLike.list in
    rw c.reserve.ensures.items
    (map-set_same list c.args.nodes.now.items c.args.place c.halve.new.self c.index_mut-node.result.now
    (c.in_err-right.ensures.unchanged ∙ ap list (rw c.reserve.ensures.items at c.index_mut-node.ensures.value)))

pub returns-in_err-right-clause-unchanged : goal.returns-in_err-right-clause-unchanged
returns-in_err-right-clause-unchanged g c = on_err _ (kept g c)

pub returns-in_err-right-clause-index : goal.returns-in_err-right-clause-index
returns-in_err-right-clause-index g c = rw (kept g c) (c.reserve_one.ensures.sums ∙ c.requires.index)

-- the nodes with the right half inserted
made : (g : Over) (c : After-as_slice g) → map g.Node.NodeLike.list c.as_slice.result.now ≡ with_halved (map g.Node.NodeLike.list c.args.nodes.now.items) c.args.place
made g c =
    let list = g.Node.NodeLike.list in
    let old = c.args.nodes.now.items in
    let k = c.args.place in
    let l = c.halve.new.self in
    let r = c.in_ok-right.right in
    let n = node_at (map list old) k in
    let node : list c.index_mut-node.result.now ≡ n =
    node_is list old (map list old) k c.index_mut-node.result.now refl c.requires.place
    (rw c.reserve.ensures.items at c.index_mut-node.ensures.value) in
    let left : list l ≡ take (length n / 2) n = rw node at c.in_ok-right.ensures.left in
    let right : list r ≡ drop (length n / 2) n = rw node at c.in_ok-right.ensures.right in
    rw (c.as_slice.ensures.value, c.in-Ok.ensures.items, c.reserve.ensures.items) (halved_view list old k (get_or old k l) l r (slice_get-get_or old k l c.requires.place) ∙ rw (left, right) refl)

pub sub-requires-clause-inside : goal.sub-requires-clause-inside
sub-requires-clause-inside g c =
    let list = g.Node.NodeLike.list in
    let old = c.args.nodes.now.items in
    block_there (map list old) c.args.place (c.reserve_one.ensures.sums ∙ c.requires.index) (omega (arith, c.requires.place, length-map old list))

pub sub-requires-clause-enough : goal.sub-requires-clause-enough
sub-requires-clause-enough g c =
    let list = g.Node.NodeLike.list in
    let old = c.args.nodes.now.items in
    let node = node_is list old (map list old) c.args.place c.index_mut-node.result.now refl c.requires.place (rw c.reserve.ensures.items at c.index_mut-node.ensures.value) in
    let n = node_at (map list old) c.args.place in
    let cut : c.len-moved.result + length n / 2 ≡ length n = omega (arith, c.len-moved.ensures.value, ap (λ l. length l) (rw node at c.in_ok-right.ensures.right), length-drop (length n / 2) n) in
    omega (arith, cut, node_in_block (map list old) c.args.place (c.reserve_one.ensures.sums ∙ c.requires.index) (omega (arith, c.requires.place, length-map old list)))

pub insert-requires-in-Ok-clause-before : goal.insert-requires-in-Ok-clause-before
insert-requires-in-Ok-clause-before g c =
    let list = g.Node.NodeLike.list in
    let old = c.args.nodes.now.items in
    let node = node_is list old (map list old) c.args.place c.index_mut-node.result.now refl c.requires.place (rw c.reserve.ensures.items at c.index_mut-node.ensures.value) in
    let n = node_at (map list old) c.args.place in
    let cut : c.len-moved.result + length n / 2 ≡ length n = omega (arith, c.len-moved.ensures.value, ap (λ l. length l) (rw node at c.in_ok-right.ensures.right), length-drop (length n / 2) n) in
    c.sub.ensures.sums ∙ halved (map list old) c.args.place c.len-moved.result (made g c) (c.reserve_one.ensures.sums ∙ c.requires.index) (omega (arith, c.requires.place, length-map old list)) cut

pub insert-requires-in-Ok-clause-fits : goal.insert-requires-in-Ok-clause-fits
insert-requires-in-Ok-clause-fits g c =
    let list = g.Node.NodeLike.list in
    let old = c.args.nodes.now.items in
    let ns = map list old in
    rw (made g c) (omega (arith, halved_sum ns c.args.place (omega (arith, c.requires.place, length-map old list)), length-concat ns, c.requires.fits))

pub returns-clause-nodes : goal.returns-clause-nodes
returns-clause-nodes g c =
    ap (map g.Node.NodeLike.list) (sym c.as_slice.ensures.value) ∙ made g (goal.at.returns-clause-nodes g c).After-as_slice
