use Rattle.std.proofs.Common.{rules, ◌≡◌, ℕ, ◌+◌, ◌-◌, ◌<◌, List, Ordering, Option, Some, None, unwrap_or, refl, ap, arith}
use Rattle.std.specs.Cmp.{IsTotalOrder, nat_cmp_total, on_total, then_total}
use Rattle.std.specs.Cmp.Lexicographic.{nat_list_cmp_total, slice_cmp}
use Rattle.std.specs.List.{sum}
use Rattle.std.specs.Option.{option_map}
use Rattle.std.specs.Ordering.{nat_cmp, ordering_then}
use Rattle.std.proofs.lemmas.Grind.{common_steps}
use Rattle.indexset.specs.Words.{pair_values, set_value, value_of, without_key}
use Rattle.indexset.proofs.CallerLemmas.{sum_by_set_value, sum_by_without_key}
use Rattle.example_order_book.proofs.take.Goals as goal

-- the order by good, then by price
abbrev by_parts : List ℕ × ℕ → List ℕ × ℕ → Ordering
by_parts x y = ordering_then (slice_cmp nat_cmp x.0 y.0) (nat_cmp x.1 y.1)

total : IsTotalOrder by_parts
total = then_total (on_total (λ t. t.0) nat_list_cmp_total) (on_total (λ t. t.1) nat_cmp_total)

plain : (o : Option ℕ) → unwrap_or o 0 ≡ unwrap_or (option_map (λ n. n) o) 0
plain None = refl
plain (Some n) = refl

-- the offer is removed, with its whole amount
pub returns-then-offered-amount : goal.returns-then-offered-amount
returns-then-offered-amount c =
    let old = c.args.offers.now.pairs in
    let k : List ℕ × ℕ = (c.args.good.now, c.args.price) in
    let was : c.unwrap_or-offered.result ≡ unwrap_or (value_of by_parts old k) 0 = grind (arith, common_steps) in
    let gone : c.remove.new.self.pairs ≡ without_key by_parts old k = ap (λ m. m.pairs) c.remove.ensures.rest in
    let all = sum_by_without_key (λ n. n) by_parts total old c.len-len.ensures.ascending k in
    rw (gone, was, plain (value_of by_parts old k)) (omega (arith, all))

-- the offer keeps the remaining amount
pub returns : goal.returns
returns c =
    let old = c.args.offers.now.pairs in
    let k : List ℕ × ℕ = (c.args.good.now, c.args.price) in
    let offered = c.unwrap_or-offered.result in
    let there : value_of by_parts old k ≡ Some offered = grind (arith, common_steps) in
    let less : c.args.amount < offered = search rules in
    let kept = sum_by_set_value by_parts k (offered - c.args.amount) (λ n. n) old offered there in
    let is : c.args.amount + sum (pair_values (set_value by_parts old k (offered - c.args.amount))) ≡ sum (pair_values old) = omega (arith, kept, less) in
    is
