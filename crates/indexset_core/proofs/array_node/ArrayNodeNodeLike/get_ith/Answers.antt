use Rattle.std.proofs.Common.{◌≡◌, ℕ, ◌<◌, ◌≤◌, List, length, get_or, slice_get, Option, Some, None, MatchOption, Bor, sym, ap, ◌∙◌}
use Rattle.std.specs.Option.{option_copied}
use Rattle.std.proofs.lemmas.Option.{slice_get_past}
use Rattle.indexset_core.proofs.OrderLemmas.{read_item}
use Rattle.indexset_core.proofs.array_node.ArrayNodeNodeLike.get_ith.Goals as goal

copied_is : {X : Type 0} (r : Option (Bor X)) (l : List X) (i : ℕ) → MatchOption r (length l ≤ i) (λ x. (i < length l) × ((d : X) → x.now ≡ get_or l i d)) → option_copied r ≡ slice_get l i
copied_is None l i h = sym (slice_get_past l i h)
copied_is (Some x) l i h = sym (read_item l i x.now h.0 (h.1 x.now))

pub returns : goal.returns
returns g c = copied_is c.get.result c.as_slice.result.now c.args.index c.get.ensures.lookup.3 ∙ ap (λ l. slice_get l c.args.index) (c.as_slice.ensures.value ∙ c.self.view_is)
