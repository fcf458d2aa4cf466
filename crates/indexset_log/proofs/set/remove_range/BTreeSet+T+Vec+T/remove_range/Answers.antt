use Rattle.std.proofs.Common.{◌≡◌, ◌≤◌, ◌==◌, Bool, not, map, filter, length, sum, vec_len, Vec, Global, rules, arith, ap, sym, ◌∙◌}
use Rattle.std.proofs.lemmas.Fn.{filter_same}
use Rattle.std.proofs.lemmas.List.{length-map, with_items_is}
use Rattle.std.proofs.lemmas.List.Sums.{count_by-le-length, length-filter}
use Rattle.indexset_core.specs.KeyRange.{is_within}
use Rattle.indexset_core.specs.Nodes.{concat, node_lengths}
use Rattle.indexset_index.proofs.CallerLemmas.{count-blocks, count-lengths, sum-blocks}
use Rattle.indexset_core.proofs.CallerLemmas.{length-concat}
use Rattle.indexset_log.specs.RangeRemoval.{outside, without_range}
use Rattle.indexset_log.specs.Tree.{IsTree}
use Rattle.indexset_events.specs.Nodes.{is_filled}
use Rattle.indexset_log.proofs.RangeLemmas.{has_items, filled-map, joined_filled, concat-filter, ranged_lawful}
use Rattle.indexset_log.proofs.set.remove_range.BTreeSet+T+Vec+T.remove_range.Given.{Over}
use Rattle.indexset_log.proofs.set.remove_range.BTreeSet+T+Vec+T.remove_range.Goals.{After-retain}
use Rattle.indexset_log.proofs.set.remove_range.BTreeSet+T+Vec+T.remove_range.Goals as goal

pub remove_within-self-inside-requires : goal.remove_within-self-inside-requires
remove_within-self-inside-requires g c = rw c.as_mut_slice.ensures.value (omega (arith, c.self.invariant.tree.counted))

-- the nodes that remain
left : (g : Over) (c : After-retain g)
    → map (λ (v : Vec g.row.T.Denot Global). v.items) c.retain.new.self.items
    ≡ without_range g.R.Key.LookupKey.order (map (λ v. v.items) c.self.inside.nodes.items)
    (g.R.KeyRange.start c.args.range) (g.R.KeyRange.end c.args.range)
left g c =
    let asked = c.remove_within-self-inside in
    let written = with_items_is c.self.inside.nodes asked.new.nodes (omega (arith, c.as_mut_slice.ensures.len)) in
    let kept : c.retain.new.self.items ≡ filter (λ v. not (vec_len v == 0)) asked.new.nodes =
    filter_same _ (λ v. not (vec_len v == 0)) _ (λ x b f2 k. search rules) _ _ c.retain.ensures.filtered
    ∙ ap (λ q. filter (λ v. not (vec_len v == 0)) q) written in
    ap (λ q. map (λ (v : Vec g.row.T.Denot Global). v.items) q) kept
    ∙ (filled-map (λ v. v.items) (λ v. not (vec_len v == 0))
    (λ v. has_items (vec_len v) v.items (omega (arith, v.ok))) asked.new.nodes
    ∙ ap (filter is_filled)
    (rw (c.as_mut_slice.ensures.value, c.start_bound.ensures, c.end_bound.ensures) at asked.ensures.nodes))

pub invariant_of-self : goal.invariant_of-self
invariant_of-self g c =
    let asked = c.remove_within-self-inside in
    let held = map (λ (v : Vec g.row.T.Denot Global). v.items) c.self.inside.nodes.items in
    let start = g.R.KeyRange.start c.args.range in
    let end = g.R.KeyRange.end c.args.range in
    let tree : IsTree g.T.Ord.cmp _ (without_range g.R.Key.LookupKey.order held start end) c.self.inside.size asked.result =
    record {
      lawful = ranged_lawful g.T.Ord.cmp (λ x. not (is_within g.R.Key.LookupKey.order start end x)) c.self.inside.size held c.self.invariant.tree.lawful;
      two = c.self.invariant.tree.two;
      within = c.self.invariant.tree.within;
      counted =
          asked.ensures.count
          ∙ ap (λ q. length q)
          (ap concat
          (rw (c.as_mut_slice.ensures.value, c.start_bound.ensures, c.end_bound.ensures) at asked.ensures.nodes)
          ∙ sym (joined_filled (map (outside g.R.Key.LookupKey.order start end) held)));
    } in
    record { tree = rw (left g (goal.at.invariant_of-self g c).After-retain) tree; index_is = rw c.as_slice.ensures.value at c.rebuild.ensures.sums }

pub rebuild-requires-clause-fits : goal.rebuild-requires-clause-fits
rebuild-requires-clause-fits g c =
    let held = map (λ (v : Vec g.row.T.Denot Global). v.items) c.self.inside.nodes.items in
    let start = g.R.KeyRange.start c.args.range in
    let end = g.R.KeyRange.end c.args.range in
    let keep : g.row.T.Denot → Bool = λ x. not (is_within g.R.Key.LookupKey.order start end x) in
    let kept = ap concat (left g (goal.at.rebuild-requires-clause-fits g c).After-retain) ∙ (joined_filled (map (outside g.R.Key.LookupKey.order start end) held) ∙ concat-filter keep held) in
    rw c.as_slice.ensures.value
    (omega (
      arith,
      ap (λ l. length l) kept,
      length-filter keep (concat held),
      count_by-le-length keep (concat held),
      c.recall_bounds.ensures.fits,
      ap sum c.self.invariant.index_is,
      sum-blocks (node_lengths held),
      length-concat held,
      length-concat (map (λ (v : Vec g.row.T.Denot Global). v.items) c.retain.new.self.items),
    ))

pub returns-clause-nodes : goal.returns-clause-nodes
returns-clause-nodes g c =
    left g (goal.at.returns-clause-nodes g c).After-retain ∙ ap (λ t. without_range g.R.Key.LookupKey.order t.nodes (g.R.KeyRange.start c.args.range) (g.R.KeyRange.end c.args.range)) c.self.view_is

pub returns-clause-contents : goal.returns-clause-contents
returns-clause-contents g c =
    let start = g.R.KeyRange.start c.args.range in
    let end = g.R.KeyRange.end c.args.range in
    let keep : g.row.T.Denot → Bool = λ x. not (is_within g.R.Key.LookupKey.order start end x) in
    ap concat (returns-clause-nodes g c) ∙ (joined_filled (map (outside g.R.Key.LookupKey.order start end) c.args.self.now.nodes) ∙ concat-filter keep c.args.self.now.nodes)

pub rebuild-requires-clause-room : goal.rebuild-requires-clause-room
rebuild-requires-clause-room g c =
    let held = map (λ (v : Vec g.row.T.Denot Global). v.items) c.self.inside.nodes.items in
    let after = map (λ (v : Vec g.row.T.Denot Global). v.items) c.retain.new.self.items in
    let cut = outside g.R.Key.LookupKey.order (g.R.KeyRange.start c.args.range) (g.R.KeyRange.end c.args.range) in
    let few : length after ≤ length held = omega (
      arith,
      ap (λ l. length l) (left g (goal.at.rebuild-requires-clause-room g c).After-retain),
      length-filter is_filled (map cut held),
      count_by-le-length is_filled (map cut held),
      length-map held cut,
    ) in
    rw c.as_slice.ensures.value
    (omega (
      arith,
      few,
      count-blocks (node_lengths after),
      count-lengths after,
      count-blocks (node_lengths held),
      count-lengths held,
      ap (λ l. length l) c.self.invariant.index_is,
      c.recall_bounds.ensures.within,
    ))
