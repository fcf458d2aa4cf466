-- Bounds by position.
use Rattle.std.proofs.Common.{◌≡◌, ℕ, ◌<◌, not, ◌&&◌, nat_lt, refl, arith}
use Rattle.std.specs.Ordering.{nat_cmp}
use Rattle.std.specs.Range.Bound.{start_index, end_index}
use Rattle.std.specs.declared.ops.Bound.{Bound}
use Rattle.std.specs.declared.ops.Bound.TheVariants.{Included, Excluded, Unbounded}
use Rattle.std.proofs.lemmas.Bool.Decides.{nat_tests}
use Rattle.indexset_core.specs.KeyRange.{is_from_start, is_up_to_end, is_at_position}

from_start : (start : Bound ℕ) (i : ℕ) → is_from_start nat_cmp start i ≡ not (nat_lt i (start_index start))
from_start (Included v) i = grind (arith, nat_tests)
from_start (Excluded v) i = grind (arith, nat_tests)
from_start Unbounded i = grind (arith, nat_tests)

up_to_end : (end : Bound ℕ) (n i : ℕ) → i < n → is_up_to_end nat_cmp end i ≡ nat_lt i (end_index end n)
up_to_end (Included v) n i h = grind (arith, nat_tests)
up_to_end (Excluded v) n i h = grind (arith, nat_tests)
up_to_end Unbounded n i h = grind (arith, nat_tests)

-- of n positions, those between the two indices satisfy both bounds
pub at_position : (start end : Bound ℕ) (n i : ℕ) → i < n → is_at_position start end i ≡ (not (nat_lt i (start_index start)) && nat_lt i (end_index end n))
at_position start end n i h = rw (from_start start i, up_to_end end n i h) refl
