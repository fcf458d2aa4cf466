-- The result of a search for a key of a map.
use Rattle.std.specs.Prelude.{◌≡◌, true, false, Some, None, position}
use Rattle.std.specs.Ordering.{is_eq}
use Rattle.std.specs.declared.cmp.Ordering.{Ordering}
use Rattle.indexset_core.specs.Pairs.{key_rank}
use Rattle.indexset_spine.specs.Lengths.{IsItemPlace, IsPlace, place_of}
use Rattle.indexset_spine.specs.declared.spot.Spot.{Spot}
use Rattle.indexset_map.specs.Contents.{Contents}

-- the spot of the key's pair, or where it would be inserted
pub record IsSpotOf {K V Q : Type 0} (cmp : K → Q → Ordering) (m : Contents K V) (k : Q)
    (s : Spot) : Type 0 where
  pub found : s.found ≡ true
      → position (λ p. is_eq (cmp p.key k)) m.pairs ≡ Some (place_of m.lengths s)
  pub item : s.found ≡ true → IsItemPlace m.lengths s
  pub absent : s.found ≡ false → position (λ p. is_eq (cmp p.key k)) m.pairs ≡ None
  pub place : IsPlace m.lengths s
  pub rank : place_of m.lengths s ≡ key_rank cmp m.pairs k
