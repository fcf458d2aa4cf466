use Rattle.std.proofs.Common.{◌≡◌, ℕ, ◌+◌, true, false, cond, List, [], ◌∷◌, ◌==◌, nat_lt, count_by, ap, refl, ◌∙◌}
use Rattle.std.specs.Cmp.Lexicographic.{slice_cmp}
use Rattle.std.specs.Ordering.{is_lt, nat_cmp, ordering_then}
use Rattle.std.specs.declared.cmp.Ordering.TheVariants.{Less, Equal, Greater}
use Rattle.indexset.specs.Words.{items}
use Rattle.example_standings.proofs.rank.Goals as goal

-- no name is less than the empty name
not_before : (name : List ℕ) → is_lt (slice_cmp nat_cmp name []) ≡ false
not_before [] = refl
not_before (x ∷ xs) = refl

-- what is less than the score with the empty name has a better score
is_better : (score other : ℕ) (name : List ℕ) → is_lt (ordering_then (nat_cmp score other) (slice_cmp nat_cmp name [])) ≡ nat_lt score other
is_better score other name = elim (nat_lt score other) as (λ b. is_lt (ordering_then (cond b Less (cond (score == other) Equal Greater)) (slice_cmp nat_cmp name [])) ≡ b) [
  | true ↦ refl
  | false ↦ elim (score == other) as (λ b. is_lt (ordering_then (cond b Equal Greater) (slice_cmp nat_cmp name [])) ≡ false) [
    | true ↦ not_before name
    | false ↦ refl
  ]
]

pub returns : goal.returns
returns c = ap (λ n. n + 1) (c.rank.ensures.value ∙ (λ i. count_by (λ entry. is_better c.args.score entry.0.0 entry.1 i) (items c.args.board.now)))
