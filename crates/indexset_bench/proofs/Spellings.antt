-- The command that a line spells is found among the candidates.
use Rattle.std.proofs.Common.{Option, None, Some, ◌≡◌, ◌≢◌, ℕ, Bool, true, false, cond, ◌&&◌, List, [], ◌∷◌, ◌++◌, refl, sym, ap, ◌∙◌}
use Rattle.std.specs.List.{find}
use Rattle.std.specs.Str.{bytes_eq}
use Rattle.std.proofs.lemmas.Slice.Eq.{bytes_eq-Decides}

-- ---- a search for the element that passes a test

-- the element that `find` returns passes the test
find_passes : {X : Type 0} (p : X → Bool) (xs : List X) (x : X) → find p xs ≡ Some x → p x ≡ true
find_passes p [] x found = cc
find_passes {X} p (y ∷ ys) x found = at (p y) refl (find_passes p ys x) found
  where
    at : (b : Bool) → p y ≡ b → (find p ys ≡ Some x → p x ≡ true) → cond b (Some y) (find p ys) ≡ Some x → p x ≡ true
    at true e rest h = ap p (cc) ∙ e
    at false e rest h = rest h

-- if an element passes, `find` returns one
find_some : {X : Type 0} (p : X → Bool) (front back : List X) (x : X) → p x ≡ true → find p (front ++ x ∷ back) ≢ None
find_some p [] back x pass none = let e : cond (p x) (Some x) (find p back) ≡ Some x = ap (λ b. cond b (Some x) (find p back)) pass in cc
find_some {X} p (y ∷ ys) back x pass none = at (p y) (find_some p ys back x pass) none
  where
    at : (b : Bool) → find p (ys ++ x ∷ back) ≢ None → cond b (Some y) (find p (ys ++ x ∷ back)) ≡ None → ⊥
    at true rest h = cc
    at false rest h = rest h

-- if exactly one element passes, `find` returns it
find_one : {X : Type 0} (p : X → Bool) (front back : List X) (x : X) → p x ≡ true → ((y : X) → p y ≡ true → y ≡ x) → find p (front ++ x ∷ back) ≡ Some x
find_one {X} p front back x pass only = at (find p (front ++ x ∷ back)) refl
  where
    at : (o : Option X) → find p (front ++ x ∷ back) ≡ o → o ≡ Some x
    at None e = absurd (find_some p front back x pass e)
    at (Some y) e = ap Some (only y (find_passes p (front ++ x ∷ back) y e))

-- ---- spellings

pub both : (a b : Bool) → (a && b) ≡ true → (a ≡ true) × (b ≡ true)
both true true e = (refl, refl)
both true false e = cc
both false b e = cc

pub both-true : (a b : Bool) → a ≡ true → b ≡ true → (a && b) ≡ true
both-true a b p q = ap (λ x. x && b) p ∙ q

module _ {C : Type 0} (spelling : C → List ℕ) (fits : C → Bool) (Fits : C → Type 0) (passed : (c : C) → fits c ≡ true → Fits c) (passes : (c : C) → Fits c → fits c ≡ true) where
  abbrev pub spells : List ℕ → C → Bool
  spells line c = fits c && bytes_eq line (spelling c)

  spelled : (line : List ℕ) (c : C) → spells line c ≡ true → (line ≡ spelling c) × Fits c
  spelled line c e = let tests = both (fits c) (bytes_eq line (spelling c)) e in ((bytes_eq-Decides line (spelling c)).0 tests.1, passed c tests.0)

  pub found_spelled : (line : List ℕ) (candidates : List C) (c : C) → find (spells line) candidates ≡ Some c → (line ≡ spelling c) × Fits c
  found_spelled line candidates c e = spelled line c (find_passes (spells line) candidates c e)

  pub spelled_found : ((x y : C) → Fits x → Fits y → spelling x ≡ spelling y → x ≡ y) → (c : C) → Fits c → (front back : List C) → find (spells (spelling c)) (front ++ c ∷ back) ≡ Some c
  spelled_found injective c h front back =
      find_one (spells (spelling c)) front back c (both-true (fits c) (bytes_eq (spelling c) (spelling c)) (passes c h) ((bytes_eq-Decides (spelling c) (spelling c)).1 refl))
      (λ d pass. let told = spelled (spelling c) d pass in injective d c told.1 h (sym told.0))
