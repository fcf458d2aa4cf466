-- The values of a key in a multimap.
use Rattle.std.proofs.Common.{◌≡◌, ℕ, ◌++◌, ◌||◌, List, [], ◌∷◌, true, None, is_none, is_some, nat_eq, refl, ap, sym, ◌∙◌}
use Rattle.std.specs.List.{list_any}
use Rattle.std.specs.Option.{option_map, unwrap_or}
use Rattle.std.specs.Ordering.{nat_cmp}
use Rattle.indexset_core.specs.declared.multipair.MultiPair.{MultiPair}
use Rattle.indexset_core.specs.declared.pair.Pair.{Pair}
use Rattle.indexset_core.specs.MultiPairs.{numbered_pair}
use Rattle.indexset_core.specs.Nodes.{concat}
use Rattle.indexset_core.specs.Pairs.{pair_values}
use Rattle.indexset_core.proofs.CallerLemmas.{is_some-find}
use Rattle.indexset_multi.specs.Keys.{entries, equal_pair, pairs_of}
use Rattle.indexset_multi.specs.Tree.{MultiTree, inserted_pair, takes_number}

any_entry : (w : ℕ) (l : List (MultiPair ℕ ℕ)) → list_any (λ (p : Pair ℕ ℕ). nat_eq p.value w) (entries l) ≡ list_any (λ p. nat_eq p.value w) l
any_entry w [] = refl
any_entry w (p ∷ l) = ap (λ b. nat_eq p.value w || b) (any_entry w l)

-- a key has a value if one of its pairs has it
pub told_pair : (l : List (MultiPair ℕ ℕ)) (k w : ℕ) → list_any (λ (p : Pair ℕ ℕ). nat_eq p.value w) (entries (pairs_of nat_cmp l k)) ≡ is_some (equal_pair nat_cmp nat_eq l k w)
told_pair l k w = any_entry w (pairs_of nat_cmp l k) ∙ sym (is_some-find (λ p. nat_eq p.value w) (pairs_of nat_cmp l k))

module _ (m : MultiTree ℕ ℕ) (k w : ℕ) (none : equal_pair nat_cmp nat_eq (concat m.nodes) k w ≡ None) where
  -- a new value of a key has the next number
  pub new_pair : inserted_pair nat_cmp nat_eq m k w ≡ numbered_pair k w m.pair_next
  new_pair = ap (λ o. numbered_pair k w (unwrap_or (option_map (λ p. p.discriminator) o) m.pair_next)) none

  pub new_number : takes_number nat_cmp nat_eq m k w ≡ true
  new_number = ap (λ o. is_none (option_map (λ p. p.discriminator) o)) none

-- another value is appended
pub value_last : (l : List (MultiPair ℕ ℕ)) (p : MultiPair ℕ ℕ) → pair_values (entries (l ++ p ∷ [])) ≡ pair_values (entries l) ++ p.value ∷ []
value_last [] p = refl
value_last (q ∷ l) p = ap (λ m. q.value ∷ m) (value_last l p)
