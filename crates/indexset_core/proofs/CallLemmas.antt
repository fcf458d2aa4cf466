-- Calls of `next` and `next_back` of an iterator.
use Rattle.std.proofs.Common.{◌≡◌, ◌-◌, Bool, true, false, List, [], ◌∷◌, ◌++◌, length, Option, None, Some, ap, sym, refl, ◌∙◌, arith, append_assoc, length-append}
use Rattle.std.proofs.lemmas.List.{append-nil}
use Rattle.std.specs.Map.Iter.{TakesFirst, TakesLast}
use Rattle.indexset_core.specs.DoubleEnded.{IsDoubleEnded, Calls, front_items, back_items}

module _ {A X : Type 0} (shows : A → X) where
  abbrev Parts : List Bool → List (Option A) → List X → List X → Type 0
  Parts ends rs s t = s ≡ front_items shows ends rs ++ (t ++ back_items shows ends rs)

  first : (ends : List Bool) (r : Option A) (rs : List (Option A)) (s u t : List X) → TakesFirst shows s r u → Parts ends rs u t → Parts (true ∷ ends) (r ∷ rs) s t
  first ends None rs s u t h rest = h.0 ∙ (sym h.1 ∙ rest)
  first ends (Some x) rs s u t h rest = h ∙ ap (λ l. shows x ∷ l) rest

  last : (ends : List Bool) (r : Option A) (rs : List (Option A)) (s u t : List X) → TakesLast shows s r u → Parts ends rs u t → Parts (false ∷ ends) (r ∷ rs) s t
  last ends None rs s u t h rest = h.0 ∙ (sym h.1 ∙ rest)
  last ends (Some x) rs s u t h rest =
      let front = front_items shows ends rs in let back = back_items shows ends rs in
      h ∙ (ap (λ l. l ++ shows x ∷ []) rest ∙ (append_assoc front (t ++ back) (shows x ∷ []) ∙ ap (λ l. front ++ l) (append_assoc t back (shows x ∷ []))))

  pub each_once : (ends : List Bool) (s t : List X) (rs : List (Option A)) → Calls shows ends s rs t → Parts ends rs s t
  each_once [] s t [] h = h ∙ sym (append-nil t)
  each_once [] s t (r ∷ rs) h = absurd h
  each_once (end ∷ ends) s t [] h = absurd h
  each_once (true ∷ ends) s t (r ∷ rs) h = first ends r rs s h.0 t h.1 (each_once ends h.0 t rs h.2)
  each_once (false ∷ ends) s t (r ∷ rs) h = last ends r rs s h.0 t h.1 (each_once ends h.0 t rs h.2)

  long : {a b : List X} → a ≡ b → length a ≡ length b
  long e = ap (λ (l : List X). length l) e

  one_less : (r : Option A) (s u : List X) → TakesFirst shows s r u → length u ≡ length s - 1
  one_less None s u h = omega (arith, long h.0, long h.1)
  one_less (Some x) s u h = omega (arith, long h)

  one_less_back : (r : Option A) (s u : List X) → TakesLast shows s r u → length u ≡ length s - 1
  one_less_back None s u h = omega (arith, long h.0, long h.1)
  one_less_back (Some x) s u h = omega (arith, long h, length-append u (shows x ∷ []))

  pub ends_at_last : (ends : List Bool) (s t : List X) (rs : List (Option A)) → Calls shows ends s rs t → length t ≡ length s - length ends
  ends_at_last [] s t [] h = omega (arith, long h)
  ends_at_last [] s t (r ∷ rs) h = absurd h
  ends_at_last (end ∷ ends) s t [] h = absurd h
  ends_at_last (true ∷ ends) s t (r ∷ rs) h = omega (arith, ends_at_last ends h.0 t rs h.2, one_less r s h.0 h.1)
  ends_at_last (false ∷ ends) s t (r ∷ rs) h = omega (arith, ends_at_last ends h.0 t rs h.2, one_less_back r s h.0 h.1)

  none_left : (r : Option A) (t : List X) → TakesFirst shows [] r t → (r ≡ None) × (t ≡ [])
  none_left None t h = (refl, h.1)
  none_left (Some x) t h = absurd (cc h)

  none_left_behind : (r : Option A) (t : List X) → TakesLast shows [] r t → (r ≡ None) × (t ≡ [])
  none_left_behind None t h = (refl, h.1)
  none_left_behind (Some x) t h = absurd (omega (arith, long h, length-append t (shows x ∷ [])))

  -- an iterator that yields its items in order, from both ends, is a walk
  pub is_walk : IsDoubleEnded shows (TakesFirst shows) (TakesLast shows)
  is_walk = record {
    each_once = λ ends s t rs turns. each_once ends s t rs turns;
    ends = λ ends s t rs turns. ends_at_last ends s t rs turns;
    fused = λ r t h. none_left r t h;
    fused_back = λ r t h. none_left_behind r t h;
  }
