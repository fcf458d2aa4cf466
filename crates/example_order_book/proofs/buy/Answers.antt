use Rattle.std.proofs.Common.{◌≡◌, ℕ, true, arith}
use Rattle.std.specs.Cmp.{tied_itself}
use Rattle.std.specs.Cmp.Lexicographic.{nat_list_cmp_total}
use Rattle.std.specs.Ordering.{is_le, nat_cmp}
use Rattle.std.proofs.lemmas.Grind.{common_steps}
use Rattle.example_order_book.proofs.buy.Goals as goal

-- no price is less than 0
from_zero : (n : ℕ) → is_le (nat_cmp 0 n) ≡ true
from_zero n = grind (arith, common_steps)

pub range-requires : goal.range-requires
range-requires c = rw (c.new.ensures.start, c.new.ensures.end, tied_itself nat_list_cmp_total c.args.good.now) (from_zero c.args.limit)
