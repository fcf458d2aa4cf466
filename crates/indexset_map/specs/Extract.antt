-- The state of an iterator that removes the pairs for which a closure returns true.
use Rattle.std.specs.Prelude.{◌≡◌, Bool, MatchOption, Option}
use Rattle.std.specs.Borrow.{Bor, MutBor}
use Rattle.std.specs.Fn.{Mut}
use Rattle.std.specs.Option.{option_map}
use Rattle.std.specs.declared.cmp.Ord as ord
use Rattle.std.specs.declared.cmp.PartialEq as eq
use Rattle.std.specs.declared.cmp.PartialOrd as partial
use Rattle.indexset_core.specs.declared.pair.Pair.{Pair}
use Rattle.indexset_core.specs.Pairs.{CalledOnPair, pair}
use Rattle.indexset_spine.specs.Extract.{Extracts, ExtractState, extract_state}
use Rattle.indexset_spine.specs.Lengths.{lengths_without}
use Rattle.indexset_map.specs.Contents.{Contents}
use Rattle.indexset_map.specs.declared.extract.ExtractIfMap.{ExtractIfMap}

module _ {K V F : Type 0} {g : ord.Ghosts K} {g' : eq.Ghosts K} {g'' : partial.Ghosts K} where
  -- the reference to the map
  abbrev pub extract_map : ExtractIfMap K V F g g' g'' → MutBor (Contents K V)
  extract_map s = s.map

  -- the pairs that were kept, those not yet passed to the closure, and those after the range
  abbrev pub extract_pairs : ExtractIfMap K V F g g' g'' → ExtractState (Pair K V)
  extract_pairs s = extract_state s.map.now.pairs s.at.front s.at.back

  -- the closure
  abbrev pub extract_map_pred : ExtractIfMap K V F g g' g'' → F
  extract_map_pred s = s.pred

  -- a step of the iterator: the closure was called up to the pair that was removed, or for all
  -- pairs
  pub record ExtractsPair
      (f : Mut F (Bor K × (MutBor V × Unit {0})) (Bool × (MutBor V × Unit {0})))
      (s : ExtractIfMap K V F g g' g'') (r : Option (K × V))
      (t : ExtractIfMap K V F g g' g'') : Type 0 where
    pub extracted : Extracts (CalledOnPair f) (extract_map_pred s) (extract_pairs s)
        (option_map (λ entry. pair entry.0 entry.1) r) (extract_map_pred t) (extract_pairs t)
    pub same_map : (extract_map t).ghost_name ≡ (extract_map s).ghost_name
    pub lengths : MatchOption r ((extract_map t).now.lengths ≡ (extract_map s).now.lengths)
        (λ _. (extract_map t).now.lengths ≡ lengths_without (extract_map s).now.lengths t.at.front)
    pub size : (extract_map t).now.size ≡ (extract_map s).now.size
