-- The results of the calls of a multimap.
use Rattle.std.proofs.Common.{◌≡◌, ℕ, zero, suc, ◌+◌, ◌≤◌, List, [], ◌∷◌, ◌++◌, length, slice_get, Bool, true, false, Option, Some, None, refl, ap, sym, ◌∙◌, arith}
use Rattle.std.proofs.lemmas.Option.{none-some, same_Some}
use Rattle.std.proofs.Math.Logic.{◌⊎◌, inr}
use Rattle.std.specs.Prelude.{if◌then◌else◌}
use Rattle.std.specs.Option.{option_map}
use Rattle.std.specs.Ordering.{nat_cmp}
use Rattle.indexset_core.specs.declared.multipair.MultiPair.{MultiPair}
use Rattle.indexset_core.specs.Pairs.{pair_values}
use Rattle.indexset_multi.specs.Keys.{entries, key_and_value}
use Rattle.indexset_core.specs.declared.refusal.Refusal.{Refusal}
use Rattle.indexset_core.specs.declared.refusal.Refusal.TheVariants as refusals
use Rattle.indexset_log.specs.Tree.{refusal_for}
use Rattle.indexset_multi.specs.Tree.{MultiTree, after_pair_removal, insertion_events, insertion_refusal, lacks_number}
use Rattle.indexset_c.proofs.StatusLemmas.{for_events}

-- the key and the value that a removal writes for the pair that it found
pub pair_told : (o : Option (MultiPair ℕ ℕ)) (e : ℕ × ℕ) → Some e ≡ option_map key_and_value o → option_map (λ p. p.value) o ≡ Some e.1
pair_told None e h = absurd (none-some e (sym h))
pair_told (Some p) e h = ap Some (ap (λ (x : ℕ × ℕ). x.1) (sym (same_Some e (key_and_value p) h)))

pub pair_there : {P : Type 0} (o : Option (MultiPair ℕ ℕ)) (e : ℕ × ℕ) → Some e ≡ option_map key_and_value o → o ≡ None → P
pair_there o e h none = absurd (none-some e (sym (h ∙ ap (option_map key_and_value) none)))

-- a removal that found no pair
pub no_pair : (o : Option (MultiPair ℕ ℕ)) → None ≡ option_map key_and_value o → o ≡ None
no_pair None h = refl
no_pair (Some p) h = absurd (none-some (key_and_value p) h)

pub none_removed : (m : MultiTree ℕ ℕ) (o : Option (MultiPair ℕ ℕ)) → o ≡ None → after_pair_removal nat_cmp m o ≡ m
none_removed m o none = ap (after_pair_removal nat_cmp m) none ∙ kept where
  kept : after_pair_removal nat_cmp m None ≡ m
  kept = let same : m.next + 0 ≡ m.next = omega arith in λ i. record { nodes = m.nodes; size = m.size; next = same i; pair_next = m.pair_next }

-- the values of a list of pairs with another appended
pub value_last : (l : List (MultiPair ℕ ℕ)) (p : MultiPair ℕ ℕ) → pair_values (entries (l ++ p ∷ [])) ≡ pair_values (entries l) ++ p.value ∷ []
value_last [] p = refl
value_last (q ∷ l) p = ap (λ vs. q.value ∷ vs) (value_last l p)

-- a position without an item is at least the length of the list
pub past_end : {X : Type 0} (l : List X) (i : ℕ) → slice_get l i ≡ None → length l ≤ i
past_end [] i e = omega arith
past_end (x ∷ l) zero e = absurd (none-some x (sym e))
past_end (x ∷ l) (suc i) e = omega (arith, past_end l i e)

-- the refusal of an insertion
pub for_insertion : (eq : ℕ → ℕ → Bool) (m : MultiTree ℕ ℕ) (k w : ℕ) → (insertion_refusal nat_cmp eq m k w ≡ refusals.Memory) ⊎ (insertion_refusal nat_cmp eq m k w ≡ refusals.Numbers)
for_insertion eq m k w = either (lacks_number nat_cmp eq m k w) (refusal_for m.next (length (insertion_events nat_cmp eq m k w))) (for_events m.next (length (insertion_events nat_cmp eq m k w))) where
  either : (b : Bool) (r : Refusal) → (r ≡ refusals.Memory) ⊎ (r ≡ refusals.Numbers)
      → ((if b then refusals.Numbers else r) ≡ refusals.Memory)
      ⊎ ((if b then refusals.Numbers else r) ≡ refusals.Numbers)
  either true r h = inr refl
  either false r h = h
