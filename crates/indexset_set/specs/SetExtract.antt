-- A set from which a closure removes elements, one by one.
use Rattle.std.specs.Prelude.{◌≡◌, Bool, MatchOption, Option}
use Rattle.std.specs.Borrow.{Bor, MutBor}
use Rattle.std.specs.Fn.{CalledAt, Mut}
use Rattle.std.specs.declared.cmp.Ord as ord
use Rattle.std.specs.declared.cmp.PartialEq as eq
use Rattle.std.specs.declared.cmp.PartialOrd as partial
use Rattle.indexset_spine.specs.NodeList.{NodeList, items}
use Rattle.indexset_core.specs.Nodes.{node_lengths}
use Rattle.indexset_spine.specs.Lengths.{lengths_without}
use Rattle.indexset_spine.specs.Extract.{Extracts, ExtractState, extract_state}
use Rattle.indexset_set.specs.declared.extract.ExtractIf.{ExtractIf}

module _ {T F : Type 0} where
  -- a call of the closure at x may return b, and leaves x as it is
  abbrev pub CalledOn : Mut F (Bor T × Unit {0}) Bool → F → T → Bool → F → T → Type 0
  CalledOn f s x b t y = CalledAt f s x b t × (y ≡ x)

  module _ {g : ord.Ghosts T} {g' : eq.Ghosts T} {g'' : partial.Ghosts T} where
    -- the mutable reference to the set
    abbrev pub extract_set : ExtractIf T F g g' g'' → MutBor (NodeList T)
    extract_set s = s.set

    -- the elements that stay, those for which the closure is not called yet, and those after them
    abbrev pub extract_items : ExtractIf T F g g' g'' → ExtractState T
    extract_items s = extract_state (items s.set.now) s.at.front s.at.back

    -- the closure
    abbrev pub extract_pred : ExtractIf T F g g' g'' → F
    extract_pred s = s.pred

    -- a step of the iterator: the closure is called for the elements up to the removed one, or for
    -- all
    pub record ExtractsOne (f : Mut F (Bor T × Unit {0}) Bool) (s : ExtractIf T F g g' g'')
        (r : Option T) (t : ExtractIf T F g g' g'') : Type 0 where
      pub extracted : Extracts (CalledOn f) (extract_pred s) (extract_items s) r
          (extract_pred t) (extract_items t)
      pub same_set : (extract_set t).ghost_name ≡ (extract_set s).ghost_name
      pub lengths : MatchOption r
          (node_lengths (extract_set t).now.nodes ≡ node_lengths (extract_set s).now.nodes)
          (λ _. node_lengths (extract_set t).now.nodes
          ≡ lengths_without (node_lengths (extract_set s).now.nodes) t.at.front)
      pub size : (extract_set t).now.size ≡ (extract_set s).now.size
