-- A map after a write through the reference to a value that a search for a key returned.
use Rattle.std.proofs.Common.{◌≡◌, ℕ, true, false, List, Ordering, Some, None, refl, ap, ◌∙◌}
use Rattle.std.specs.Option.{option_map}
use Rattle.std.specs.List.{find}
use Rattle.std.specs.Ordering.{is_eq}
use Rattle.indexset_core.specs.declared.pair.Pair.{Pair}
use Rattle.indexset_core.specs.Nodes.{equal_at}
use Rattle.indexset_core.specs.Pairs.{set_value, set_value_at}
use Rattle.indexset_core.specs.Parted.{IsParted, less_count}
use Rattle.indexset_core.proofs.CallerLemmas.{find_absent, key_written, position_absent, position_found}
use Rattle.indexset_spine.specs.NodeList.{NodeList, items}
use Rattle.indexset_set.specs.SetPairs as cut
use Rattle.indexset_map.specs.Contents.{Contents, contents, with_pairs, with_value}
use Rattle.indexset_map.proofs.ContentsLemmas.{contents_written}

module _ {K V Q : Type 0} (cmp : K → Q → Ordering) where
  -- a value that was found is written under its key
  met_written : (l : List (Pair K V)) (k : Q) (u w : V) → IsParted (λ p. cmp p.key k) l
      → Some u ≡ option_map (λ p. p.value) (find (λ p. is_eq (cmp p.key k)) l)
      → set_value_at l (less_count (λ p. cmp p.key k) l) w ≡ set_value cmp l k w
  met_written l k u w parted met =
      let answer : Pair K V → Ordering = λ p. cmp p.key k in
      let i : ℕ = less_count answer l in
      elim (equal_at answer l i) as (λ b. equal_at answer l i ≡ b → set_value_at l i w ≡ set_value cmp l k w) [
        | true ↦ λ e. key_written cmp l k i (position_found answer l i parted refl e) w
        | false ↦ λ e.
            let none : Some u ≡ None = met ∙ ap (option_map (λ (p : Pair K V). p.value)) (find_absent (λ p. is_eq (cmp p.key k)) l (position_absent answer l i parted refl e)) in
            absurd (cc)
      ] refl

  -- the same in the map, for a probe whose key is k
  pub met_value : (s : NodeList (Pair K V)) (m : Contents K V) (j k : Q) (u w : V) → contents s ≡ m → j ≡ k
      → IsParted (λ p. cmp p.key j) (items s)
      → Some u ≡ option_map (λ p. p.value) (find (λ p. is_eq (cmp p.key j)) (items s))
      → contents (cut.with_value_at s (less_count (λ p. cmp p.key j) (items s)) w) ≡ with_value cmp m k w
  met_value s m j k u w seen same parted met =
      contents_written s (contents s) (less_count (λ p. cmp p.key j) (items s)) w refl
      ∙ (ap (with_pairs (contents s)) (met_written (items s) j u w parted met)
      ∙ (ap (λ n. with_value cmp n j w) seen ∙ ap (λ q. with_value cmp m q w) same))
