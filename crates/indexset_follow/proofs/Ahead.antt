-- Early events in the order of their numbers, and insertion of another.
use Rattle.std.proofs.Common.{◌≡◌, ◌⊎◌, inl, inr, ℕ, ◌+◌, ◌<◌, ◌≤◌, ◌==◌, Bool, true, false, cond, [], ◌∷◌, ◌++◌, refl, ap, sym, ◌∙◌, subst, arith}
use borrow.Author.Tests.{ltb-false}
use Rattle.std.proofs.lemmas.Bool.{eqb-false, eqb-true, ltb-true}
use Rattle.std.specs.Cmp.{nat_cmp_is}
use Rattle.std.specs.Ordering.{nat_cmp}
use Rattle.std.specs.Prelude.{nat_lt}
use Rattle.std.specs.declared.cmp.Ordering.TheVariants.{Less, Equal, Greater}
use Rattle.indexset_core.specs.Order.{above, below, put}
use Rattle.indexset_core.specs.Pairs.{by_key, has_key, pair, put_value, set_value, valued, set_found}
use Rattle.indexset_core.specs.declared.pair.Pair.{Pair}
use Rattle.indexset_follow.specs.Early.{AscendFrom, EarlyEvents}
use Rattle.indexset_follow.specs.EventLine.{Event}

-- ---- numbers

is_less : (m n : ℕ) → m < n → nat_cmp m n ≡ Less
is_less m n lt = sym (nat_cmp_is m n Less lt)

is_equal : (m n : ℕ) → m ≡ n → nat_cmp m n ≡ Equal
is_equal m n same = sym (nat_cmp_is m n Equal same)

is_greater : (m n : ℕ) → n < m → nat_cmp m n ≡ Greater
is_greater m n lt = sym (nat_cmp_is m n Greater lt)

-- which of two numbers is less, or neither
pub data Side (m n : ℕ) : Type 0 where
  lower : m < n → Side m n
  equals : m ≡ n → Side m n
  higher : n < m → Side m n

pub side : (m n : ℕ) → Side m n
side m n = at (nat_lt m n) refl (m == n) refl
  where
    at : (b : Bool) → nat_lt m n ≡ b → (c : Bool) → (m == n) ≡ c → Side m n
    at true lt c eq = lower (ltb-true m n lt)
    at false ge true eq = equals (eqb-true m n eq)
    at false ge false eq = let ne = eqb-false m n eq in higher (omega (arith, ltb-false m n ge, ne))

module _ {T : Type 0} where
  -- the number is that of an event in the list
  abbrev pub Among : ℕ → EarlyEvents T → Type 0
  Among n [] = ⊥
  Among n (p ∷ early) = (p.key ≡ n) ⊎ Among n early

  -- ---- the position of an event

  put_none : (m : ℕ) (e : Event T) → put_value nat_cmp [] m e ≡ pair m e ∷ []
  unfolding put_value put
  put_none m e = refl

  put_behind : (p : Pair ℕ (Event T)) (early : EarlyEvents T) (m : ℕ) (e : Event T) → p.key < m → put_value nat_cmp (p ∷ early) m e ≡ p ∷ put_value nat_cmp early m e
  unfolding put_value set_found put
  put_behind p early m e lt =
      rw (is_less p.key m lt)
      (elim (has_key nat_cmp early m)
      as (λ b.
      cond b (p ∷ set_value nat_cmp early m e)
      (p ∷ (below (by_key nat_cmp) early (pair m e) ++ pair m e ∷ above (by_key nat_cmp) early (pair m e)))
      ≡ p
      ∷ cond b (set_value nat_cmp early m e)
      (below (by_key nat_cmp) early (pair m e) ++ pair m e ∷ above (by_key nat_cmp) early (pair m e))) [
        | true ↦ refl
        | false ↦ refl
      ])

  put_same : (p : Pair ℕ (Event T)) (early : EarlyEvents T) (m : ℕ) (e : Event T) → p.key ≡ m → put_value nat_cmp (p ∷ early) m e ≡ valued p e ∷ early
  unfolding put_value set_found
  put_same p early m e same = rw (is_equal p.key m same) refl

  module _ (Q : Pair ℕ (Event T) → Type 0) where
    no_key : (n m : ℕ) (early : EarlyEvents T) → m < n → AscendFrom Q n early → has_key nat_cmp early m ≡ false
    no_key n m [] lt h = refl
    no_key n m (p ∷ early) lt h = rw (is_greater p.key m (omega (arith, lt, h.0))) (no_key (p.key + 1) m early (omega (arith, lt, h.0)) h.2)

    none_below : (n m : ℕ) (e : Event T) (early : EarlyEvents T) → m < n → AscendFrom Q n early → below (by_key nat_cmp) early (pair m e) ≡ []
    none_below n m e [] lt h = refl
    none_below n m e (p ∷ early) lt h = rw (is_greater p.key m (omega (arith, lt, h.0))) (none_below (p.key + 1) m e early (omega (arith, lt, h.0)) h.2)

    all_above : (n m : ℕ) (e : Event T) (early : EarlyEvents T) → m < n → AscendFrom Q n early → above (by_key nat_cmp) early (pair m e) ≡ early
    all_above n m e [] lt h = refl
    all_above n m e (p ∷ early) lt h = rw (is_greater p.key m (omega (arith, lt, h.0))) (ap (λ l. p ∷ l) (all_above (p.key + 1) m e early (omega (arith, lt, h.0)) h.2))

    put_before : (p : Pair ℕ (Event T)) (early : EarlyEvents T) (m : ℕ) (e : Event T) → m < p.key → AscendFrom Q p.key (p ∷ early) → put_value nat_cmp (p ∷ early) m e ≡ pair m e ∷ p ∷ early
    unfolding put_value put
    put_before p early m e lt h =
        rw (no_key p.key m (p ∷ early) lt h)
        (λ i. none_below p.key m e (p ∷ early) lt h i ++ pair m e ∷ all_above p.key m e (p ∷ early) lt h i)

    pub put_ahead : (n m : ℕ) (e : Event T) (early : EarlyEvents T) → n ≤ m → Q (pair m e) → AscendFrom Q n early → AscendFrom Q n (put_value nat_cmp early m e)
    put_ahead n m e [] le told h = subst (AscendFrom Q n) (sym (put_none m e)) (le, told, tt)
    put_ahead n m e (p ∷ early) le told h =
        elim (side p.key m) [
          | lower lt ↦ subst (AscendFrom Q n) (sym (put_behind p early m e lt)) (h.0, h.1, put_ahead (p.key + 1) m e early (omega (arith, lt)) told h.2)
          | equals eq ↦ subst (AscendFrom Q n) (sym (put_same p early m e eq)) (h.0, subst (λ k. Q (pair k e)) (sym eq) told, h.2)
          | higher lt ↦ subst (AscendFrom Q n) (sym (put_before p early m e lt (omega arith, h.1, h.2))) (le, told, (omega (arith, lt), h.1, h.2))
        ]

    pub ascend_weaker : (n m : ℕ) (early : EarlyEvents T) → m ≤ n → AscendFrom Q n early → AscendFrom Q m early
    ascend_weaker n m [] le h = tt
    ascend_weaker n m (p ∷ early) le h = (omega (arith, le, h.0), h.1, h.2)

    -- inserting an event adds its number to the numbers
    pub among_put : (n m x : ℕ) (e : Event T) (early : EarlyEvents T) → AscendFrom Q n early → Among x (put_value nat_cmp early m e) → (m ≡ x) ⊎ Among x early
    among_put n m x e [] h a = elim (subst (Among x) (put_none m e) a) [ inl eq ↦ inl eq | inr none ↦ absurd none ]
    among_put n m x e (p ∷ early) h a =
        elim (side p.key m) [
          | lower lt ↦ elim (subst (Among x) (put_behind p early m e lt) a) [
            | inl eq ↦ inr (inl eq)
            | inr on ↦ elim (among_put (p.key + 1) m x e early h.2 on) [ inl eq ↦ inl eq | inr there ↦ inr (inr there) ]
          ]
          | equals eq ↦ inr (subst (Among x) (put_same p early m e eq) a)
          | higher lt ↦ elim (subst (Among x) (put_before p early m e lt (omega arith, h.1, h.2)) a) [ inl eq ↦ inl eq | inr on ↦ inr on ]
        ]

    pub put_among : (n m x : ℕ) (e : Event T) (early : EarlyEvents T) → AscendFrom Q n early → (m ≡ x) ⊎ Among x early → Among x (put_value nat_cmp early m e)
    put_among n m x e [] h a = subst (Among x) (sym (put_none m e)) (elim a [ inl eq ↦ inl eq | inr none ↦ absurd none ])
    put_among n m x e (p ∷ early) h a =
        elim (side p.key m) [
          | lower lt ↦ subst (Among x) (sym (put_behind p early m e lt)) (elim a [
            | inl eq ↦ inr (put_among (p.key + 1) m x e early h.2 (inl eq))
            | inr there ↦ elim there [ inl eq ↦ inl eq | inr on ↦ inr (put_among (p.key + 1) m x e early h.2 (inr on)) ]
          ])
          | equals eq ↦ subst (Among x) (sym (put_same p early m e eq)) (elim a [ inl is ↦ inl (eq ∙ is) | inr there ↦ there ])
          | higher lt ↦ subst (Among x) (sym (put_before p early m e lt (omega arith, h.1, h.2))) (elim a [ inl eq ↦ inl eq | inr there ↦ inr there ])
        ]

    -- no number is less than the first
    pub no_earlier : (n x : ℕ) (early : EarlyEvents T) → x < n → AscendFrom Q n early → Among x early → ⊥
    no_earlier n x [] lt h a = a
    no_earlier n x (p ∷ early) lt h a = elim a [ inl eq ↦ omega (arith, lt, h.0, eq) | inr on ↦ no_earlier (p.key + 1) x early (omega (arith, lt, h.0)) h.2 on ]
