-- The contents of a writer after a line for each element.
use Rattle.std.proofs.Common.{Option, Result, Ok, Err, OnOk, ◌≡◌, ℕ, suc, ◌+◌, ◌<◌, List, [], ◌∷◌, ◌++◌, map, take, get_or, length, refl, sym, ap, subst, ◌∙◌, arith, append_assoc, append-nil}
use Rattle.std.specs.Io.KnownBytes.{Appends}
use Rattle.std.specs.List.{join_with_byte}
use Rattle.std.proofs.KnownBytes.{Appends-trans}
use Rattle.std.proofs.lemmas.List.{map_push, take_more}
use Rattle.indexset_bench.specs.PairText.{ended, lines_for}

-- the separator before the next element
abbrev pub lead_after : {X : Type 0} → List X → List ℕ
lead_after [] = []
lead_after (x ∷ xs) = 32 ∷ []

module _ {X : Type 0} (text : X → List ℕ) where
  lines-push : (xs : List X) (x : X) → lines_for text (xs ++ x ∷ []) ≡ lines_for text xs ++ ended (text x)
  lines-push [] x = append-nil (ended (text x))
  lines-push (y ∷ xs) x = ap (λ l. ended (text y) ++ l) (lines-push xs x) ∙ sym (append_assoc (ended (text y)) (lines_for text xs) (ended (text x)))

  join-push : (xs : List X) (x : X) → join_with_byte 32 (map text (xs ++ x ∷ [])) ≡ join_with_byte 32 (map text xs) ++ (lead_after xs ++ text x)
  join-push [] x = refl
  join-push (y ∷ []) x = refl
  join-push (y ∷ z ∷ xs) x = ap (λ l. text y ++ (32 ∷ l)) (join-push (z ∷ xs) x) ∙ sym (append_assoc (text y) (32 ∷ join_with_byte 32 (map text (z ∷ xs))) (32 ∷ text x))

  module _ (xs : List X) (i : ℕ) (d : X) (lt : i < length xs) where
    abbrev x : X
    x = get_or xs i d

    next : take (i + 1) xs ≡ take i xs ++ x ∷ []
    next = take_more xs i d lt

    -- one more line was written
    pub more_lines : (w w1 w2 : Option (List ℕ)) → Appends w w1 (lines_for text (take i xs)) → Appends w1 w2 (ended (text x)) → Appends w w2 (lines_for text (take (i + 1) xs))
    more_lines w w1 w2 far told = subst (Appends w w2) (sym (ap (lines_for text) next ∙ lines-push (take i xs) x)) (Appends-trans w w1 w2 (lines_for text (take i xs)) (ended (text x)) far told)

    -- one more was written after its separator
    pub more_joined : (lead : List ℕ) (w w1 w2 : Option (List ℕ)) → lead ≡ lead_after (take i xs)
        → Appends w w1 (join_with_byte 32 (map text (take i xs))) → Appends w1 w2 (lead ++ text x)
        → Appends w w2 (join_with_byte 32 (map text (take (i + 1) xs)))
    more_joined lead w w1 w2 led far told =
        let now = subst (λ l. Appends w1 w2 (l ++ text x)) led told in
        subst (Appends w w2) (sym (ap (λ l. join_with_byte 32 (map text l)) next ∙ join-push (take i xs) x))
        (Appends-trans w w1 w2 (join_with_byte 32 (map text (take i xs))) (lead_after (take i xs) ++ text x) far
        now)

-- after the first element, a space precedes each
pub next_lead : {X : Type 0} (xs : List X) (i : ℕ) → i < length xs → 32 ∷ [] ≡ lead_after (take (i + 1) xs)
next_lead [] i lt = absurd (omega (arith, lt))
next_lead (x ∷ xs) i lt = let next : i + 1 ≡ suc i = omega arith in rw next refl

-- the same, where the elements are read one by one
module _ {R X : Type 0} (text : X → List ℕ) (read : R → X) where
  module _ (done : List R) (y : R) where
    pub one_read : (rest rest' all : List X) → map read done ++ rest ≡ all → rest ≡ read y ∷ rest' → map read (done ++ y ∷ []) ++ rest' ≡ all
    one_read rest rest' all given next = ap (λ l. l ++ rest') (map_push read done y) ∙ append_assoc (map read done) (read y ∷ []) rest' ∙ ap (λ l. map read done ++ l) (sym next) ∙ given

    pub one_line : (w w1 w2 : Option (List ℕ)) → Appends w w1 (lines_for text (map read done)) → Appends w1 w2 (ended (text (read y))) → Appends w w2 (lines_for text (map read (done ++ y ∷ [])))
    one_line w w1 w2 far told =
        subst (Appends w w2)
        (sym (ap (lines_for text) (map_push read done y) ∙ lines-push text (map read done) (read y)))
        (Appends-trans w w1 w2 (lines_for text (map read done)) (ended (text (read y))) far told)

pub on_ok_given : {T E : Type 0} (P : Type 0) (r : Result T E) (v : T) → OnOk r P → r ≡ Ok v → P
on_ok_given P (Ok w) v told e = told
on_ok_given P (Err f) v told e = absurd (cc)
