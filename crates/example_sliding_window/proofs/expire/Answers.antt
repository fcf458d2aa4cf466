use Rattle.std.proofs.Common.{◌≡◌, ℕ, true, false, cond, List, [], ◌∷◌, ◌==◌, nat_lt, not, filter, refl, ◌∙◌}
use Rattle.std.specs.Cmp.Lexicographic.{slice_cmp}
use Rattle.std.specs.Ordering.{is_lt, nat_cmp, ordering_then}
use Rattle.std.specs.declared.cmp.Ordering.TheVariants.{Less, Equal, Greater}
use Rattle.indexset.specs.Words.{items}
use Rattle.example_sliding_window.proofs.expire.Goals as goal

-- no name is less than the empty name
not_before : (name : List ℕ) → is_lt (slice_cmp nat_cmp name []) ≡ false
not_before [] = refl
not_before (x ∷ xs) = refl

-- what is less than a second with the empty name has an earlier second
is_earlier : (second start : ℕ) (name : List ℕ) → is_lt (ordering_then (nat_cmp second start) (slice_cmp nat_cmp name [])) ≡ nat_lt second start
is_earlier second start name = elim (nat_lt second start) as (λ b. is_lt (ordering_then (cond b Less (cond (second == start) Equal Greater)) (slice_cmp nat_cmp name [])) ≡ b) [
  | true ↦ refl
  | false ↦ elim (second == start) as (λ b. is_lt (ordering_then (cond b Equal Greater) (slice_cmp nat_cmp name [])) ≡ false) [
    | true ↦ not_before name
    | false ↦ refl
  ]
]

pub returns : goal.returns
returns c = c.in_ok-kept.ensures.rest ∙ (λ i. filter (λ seen. not (is_earlier seen.0 c.args.start seen.1 i)) (items c.args.window.now))
