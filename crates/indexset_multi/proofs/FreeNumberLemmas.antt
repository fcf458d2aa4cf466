-- The least number above those of the pairs, or of the nodes, read so far.
use Rattle.std.proofs.Common.{◌≡◌, ℕ, zero, suc, ◌+◌, ◌<◌, ◌||◌, max, true, false, List, [], ◌∷◌, ◌++◌, eqb, get_or, length, map, take, refl, ap, sym, ◌∙◌, append_assoc, append-nil, arith}
use Rattle.std.below.core.specs.declared.int.u64.TheConstants.{MAX}
use Rattle.std.proofs.Math.Bool.{or-true}
use Rattle.std.proofs.lemmas.Bool.{eq-eqb, ne_eqb}
use Rattle.std.proofs.lemmas.List.Folds.{list_any-append, list_any_at}
use Rattle.indexset_core.specs.declared.multipair.MultiPair.{MultiPair}
use Rattle.indexset_core.specs.Nodes.{concat}
use Rattle.indexset_multi.specs.Attach.{free_number, has_greatest}

module _ {K V : Type 0} where
  pub free_more : (l : List (MultiPair K V)) (i : ℕ) (x : MultiPair K V) → i < length l → x ≡ get_or l i x → free_number (take (i + 1) l) ≡ max (free_number (take i l)) (x.discriminator + 1)
  free_more [] i x lt at = absurd (omega arith)
  free_more (y ∷ l) zero x lt at = rw at (omega arith)
  free_more (y ∷ l) (suc i) x lt at =
      let next : suc i + 1 ≡ suc (i + 1) = omega arith in
      rw next (omega (arith, free_more l i x (omega arith) at))

  pub greatest_more : (l : List (MultiPair K V)) (i : ℕ) (x : MultiPair K V) → i < length l → x ≡ get_or l i x
      → x.discriminator < MAX → has_greatest (take i l) ≡ false → has_greatest (take (i + 1) l) ≡ false
  greatest_more [] i x lt at small h = absurd (omega arith)
  greatest_more (y ∷ l) zero x lt at small h =
      let other : eqb y.discriminator MAX ≡ false = ne_eqb y.discriminator MAX (λ e. omega (arith, ap (λ (p : MultiPair K V). p.discriminator) at)) in
      rw other refl
  greatest_more (y ∷ l) (suc i) x lt at small h =
      let next : suc i + 1 ≡ suc (i + 1) = omega arith in
      rw next (elim (eqb y.discriminator MAX) as (λ b. (b || has_greatest (take i l)) ≡ false → (b || has_greatest (take (i + 1) l)) ≡ false) [
        | true ↦ λ g. g
        | false ↦ λ g. greatest_more l i x (omega arith) at small g
      ] h)

  pub greatest_here : (l : List (MultiPair K V)) (i : ℕ) (x : MultiPair K V) → i < length l → x ≡ get_or l i x → x.discriminator ≡ MAX → has_greatest l ≡ true
  greatest_here l i x lt at e = list_any_at (λ p. eqb p.discriminator MAX) l i x lt (eq-eqb _ MAX (ap (λ (p : MultiPair K V). p.discriminator) (sym at) ∙ e))

  free-append : (l r : List (MultiPair K V)) → free_number (l ++ r) ≡ max (free_number l) (free_number r)
  free-append [] r = omega arith
  free-append (p ∷ l) r = omega (arith, free-append l r)

  greatest-append : (l r : List (MultiPair K V)) → has_greatest (l ++ r) ≡ (has_greatest l || has_greatest r)
  greatest-append l r = list_any-append (λ p. eqb p.discriminator MAX) l r

  -- with one more node
  module _ {N : Type 0} (held : N → List (MultiPair K V)) where
    read_more : (vs : List N) (i : ℕ) (v : N) → i < length vs → v ≡ get_or vs i v → concat (take (i + 1) (map held vs)) ≡ concat (take i (map held vs)) ++ held v
    read_more [] i v lt at = absurd (omega arith)
    read_more (u ∷ vs) zero v lt at = rw at (append-nil (held u))
    read_more (u ∷ vs) (suc i) v lt at =
        let next : suc i + 1 ≡ suc (i + 1) = omega arith in
        rw next (ap (λ l. held u ++ l) (read_more vs i v (omega arith) at) ∙ sym (append_assoc (held u) (concat (take i (map held vs))) (held v)))

    pub free_read : (vs : List N) (i : ℕ) (v : N) → i < length vs → v ≡ get_or vs i v
        → free_number (concat (take (i + 1) (map held vs)))
        ≡ max (free_number (concat (take i (map held vs)))) (free_number (held v))
    free_read vs i v lt at = ap free_number (read_more vs i v lt at) ∙ free-append (concat (take i (map held vs))) (held v)

    pub greatest_read : (vs : List N) (i : ℕ) (v : N) → i < length vs → v ≡ get_or vs i v
        → has_greatest (concat (take (i + 1) (map held vs)))
        ≡ (has_greatest (concat (take i (map held vs))) || has_greatest (held v))
    greatest_read vs i v lt at = ap has_greatest (read_more vs i v lt at) ∙ greatest-append (concat (take i (map held vs))) (held v)

    -- the greatest number in a node is in the joined nodes
    pub greatest_among : (vs : List N) (i : ℕ) (v : N) → i < length vs → v ≡ get_or vs i v → has_greatest (held v) ≡ true → has_greatest (concat (map held vs)) ≡ true
    greatest_among [] i v lt at h = absurd (omega arith)
    greatest_among (u ∷ vs) zero v lt at h = greatest-append (held u) (concat (map held vs)) ∙ rw (← at, h) refl
    greatest_among (u ∷ vs) (suc i) v lt at h = greatest-append (held u) (concat (map held vs)) ∙ rw (greatest_among vs i v (omega arith) at h) (or-true (has_greatest (held u)))
