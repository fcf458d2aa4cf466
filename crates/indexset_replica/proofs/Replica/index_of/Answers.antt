use Rattle.std.proofs.Common.{◌≡◌, ◌<◌, ◌∙◌, true, false, None, Some, Ordering, is_some, length, ap, refl, sym, slice_get}
use Rattle.std.specs.List.{find, list_any, position}
use Rattle.std.specs.Ordering.{is_eq}
use Rattle.indexset_core.specs.Nodes.{concat, vec_items}
use Rattle.indexset_core.specs.Parted.{IsParted, less_count}
use Rattle.indexset_core.proofs.CallerLemmas.{parted_by_sought, IsEnd, end_at, equal_inside, find_position, gap_found, is_some-find, position_found}
use Rattle.indexset_replica.proofs.KeySearchLemmas.{has_there}
use Rattle.indexset_replica.proofs.Replica.index_of.Given.{Over}
use Rattle.indexset_replica.proofs.Replica.index_of.Goals.{After-drop-value}
use Rattle.indexset_replica.proofs.Replica.index_of.Goals as goal

-- where the search ends if it found an item
module _ (g : Over) (c : After-drop-value g) where
  abbrev answer : g.row.T.Denot → Ordering
  answer x = g.Q.LookupKey.order x c.args.value

  same : vec_items c.self.inside.nodes.items ≡ c.args.self.now.nodes
  same = ap (λ t. t.nodes) c.self.view_is

  parted : IsParted answer (concat c.args.self.now.nodes)
  parted = parted_by_sought g.met.Q.LookupKey.acts_as_key (concat c.args.self.now.nodes) (rw same at c.self.invariant.nodes.ascending) c.args.value

  end : IsEnd answer true c.args.self.now.nodes c.in-Ok.place
  end =
      end_at answer c.args.self.now.nodes (rw same at c.self.invariant.nodes.filled) parted c.locate_by.result
      (rw (c.new.ensures, c.as_slice.ensures.value, same) at c.locate_by.ensures.place) c.in-Ok.place c.in-Ok.is

  is : c.position.result ≡ less_count answer (concat c.args.self.now.nodes)
  is = rw (c.as_slice-in-Ok.ensures.value, same) at c.position.ensures ∙ end.before

  found : position (λ x. is_eq (answer x)) (concat c.args.self.now.nodes) ≡ Some (less_count answer (concat c.args.self.now.nodes))
  found = position_found answer (concat c.args.self.now.nodes) (less_count answer (concat c.args.self.now.nodes)) parted refl end.equal

  inside : less_count answer (concat c.args.self.now.nodes) < length (concat c.args.self.now.nodes)
  inside = equal_inside answer (concat c.args.self.now.nodes) (less_count answer (concat c.args.self.now.nodes)) end.equal

pub returns-in-Ok-clause-value : goal.returns-in-Ok-clause-value
returns-in-Ok-clause-value g c =
    let has = has_there (answer g c) (concat c.args.self.now.nodes) (parted g c) _ (found g c) (inside g c) in
    rw has (ap Some (is g c))

pub returns-in-Ok-clause-at_index : goal.returns-in-Ok-clause-at_index
returns-in-Ok-clause-at_index g c =
    ap (slice_get (concat c.args.self.now.nodes)) (is g c) ∙ sym (find_position (λ x. is_eq (answer g c x)) (concat c.args.self.now.nodes) _ (found g c))

pub returns-in-Ok-clause-inside : goal.returns-in-Ok-clause-inside
returns-in-Ok-clause-inside g c = rw (is g c) (inside g c)

pub returns-clause-value : goal.returns-clause-value
returns-clause-value g c =
    let ns = c.args.self.now.nodes in
    let same : vec_items c.self.inside.nodes.items ≡ ns = ap (λ t. t.nodes) c.self.view_is in
    let parted : IsParted (λ x. g.Q.LookupKey.order x c.args.value) (concat ns) =
    parted_by_sought g.met.Q.LookupKey.acts_as_key (concat ns) (rw same at c.self.invariant.nodes.ascending)
    c.args.value in
    let none : find (λ x. is_eq (g.Q.LookupKey.order x c.args.value)) (concat ns) ≡ None =
    gap_found (λ x. g.Q.LookupKey.order x c.args.value) ns (rw same at c.self.invariant.nodes.filled) parted
    c.locate_by.result (rw (c.new.ensures, c.as_slice.ensures.value, same) at c.locate_by.ensures.place)
    c.in-Err.field-0 c.in-Err.is in
    let has : list_any (λ x. is_eq (g.Q.LookupKey.order x c.args.value)) (concat ns) ≡ false = sym (is_some-find (λ x. is_eq (g.Q.LookupKey.order x c.args.value)) (concat ns)) ∙ ap is_some none in
    rw has refl
