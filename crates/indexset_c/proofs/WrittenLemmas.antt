-- The output of calls with an empty handle.
use Rattle.std.proofs.Common.{◌≡◌, ℕ, List, [], ◌∷◌, length, map, replicate, refl, ap}
use Rattle.std.specs.Ordering.{nat_cmp}
use Rattle.indexset_core.specs.Order.{rank}
use Rattle.indexset_ffi.specs.Elements.{value_or}

-- each key has rank 0, and no key has a value
pub no_ranks : (keys : List ℕ) → replicate (length keys) 0 ≡ map (rank nat_cmp []) keys
no_ranks [] = refl
no_ranks (k ∷ ks) = ap (λ l. 0 ∷ l) (no_ranks ks)

pub no_values : (w : ℕ) (keys : List ℕ) → replicate (length keys) w ≡ map (value_or [] w) keys
no_values w [] = refl
no_values w (k ∷ ks) = ap (λ l. w ∷ l) (no_values w ks)
