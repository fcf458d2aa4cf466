use Rattle.std.proofs.Common.{◌≡◌, ◌≤◌, ap, ◌∙◌}
use Rattle.std.specs.List.{between}
use Rattle.std.specs.declared.ops.Bound.TheVariants.{Included}
use Rattle.indexset_core.specs.Nodes.{concat}
use Rattle.indexset_core.proofs.CallerLemmas.{sought_range_is, sought_range_order}
use Rattle.indexset_core.specs.Places.{items_before}
use Rattle.indexset_multi.specs.Keys.{pairs_of}
use Rattle.indexset_multi.proofs.NumberedPairLemmas.{between_one, one_ordered}
use Rattle.indexset_multi.proofs.SearchLemmas.{sought_keys}
use Rattle.indexset_multi.proofs.multimap.BTreeMultiMap.places_of.Given.{Over}
use Rattle.indexset_multi.proofs.multimap.BTreeMultiMap.places_of.Goals.{After-places_by}
use Rattle.indexset_multi.proofs.multimap.BTreeMultiMap.places_of.Goals as goal

-- the pairs of the key lie between the two places
cut : (g : Over) (c : After-places_by g) → let s = c.self.inside.set in
    let i = items_before s.nodes c.places_by.result.0 in let j = items_before s.nodes c.places_by.result.1 in
    (i ≤ j) × (between i j (concat s.nodes) ≡ pairs_of g.Q.LookupKey.order (concat s.nodes) c.args.key.now)
cut g c =
    let order = g.Q.LookupKey.order in
    let s = c.self.inside.set in
    let k = c.args.key.now in
    let l = concat s.nodes in
    let parted = sought_keys g.K.Ord.cmp s.size s.nodes c.recall_invariant.ensures.tree.lawful g.met.Q.LookupKey.acts_as_key in
    let from = rw c.new.ensures at c.places_by.ensures.before in
    let to = rw c.new.ensures at c.places_by.ensures.past in
    let ordered = one_ordered g.Q.Ord.cmp g.met.Q.Ord.total k in (
      sought_range_order order (λ p. p.key) l parted g.met.Q.LookupKey.acts_as_key (Included k) (Included k) ordered _ _ from to,
      sought_range_is order (λ p. p.key) l parted g.met.Q.LookupKey.acts_as_key (Included k) (Included k) ordered _ _ from to ∙ between_one order l k,
    )

pub returns-clause-order : goal.returns-clause-order
returns-clause-order g c =
    let same : c.self.inside.set.nodes ≡ c.args.self.now.nodes = ap (λ m. m.nodes) c.self.view_is in
    rw same at (cut g (goal.at.returns-clause-order g c).After-places_by).0

pub returns-clause-pairs : goal.returns-clause-pairs
returns-clause-pairs g c =
    let same : c.self.inside.set.nodes ≡ c.args.self.now.nodes = ap (λ m. m.nodes) c.self.view_is in
    rw same at (cut g (goal.at.returns-clause-pairs g c).After-places_by).1

pub returns-clause-before : goal.returns-clause-before
returns-clause-before g c =
    let same : c.self.inside.set.nodes ≡ c.args.self.now.nodes = ap (λ m. m.nodes) c.self.view_is in
    rw same at (rw c.new.ensures at c.places_by.ensures.before)
