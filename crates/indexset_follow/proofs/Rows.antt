-- The contents of a writer after a line for each element of a list is appended.
use Rattle.std.proofs.Common.{Option, ◌≡◌, ◌≢◌, ℕ, List, [], ◌∷◌, ◌++◌, map, refl, sym, ap, subst, ◌∙◌, append_assoc, append-nil}
use lib.Chars.{codes}
use Rattle.std.specs.Io.KnownBytes.{Appends}
use Rattle.std.proofs.KnownBytes.{Appends-trans}
use Rattle.std.proofs.lemmas.List.{map_push}
use Rattle.indexset_bench.specs.PairText.{ended, lines_for, node_text}
use Rattle.indexset_core.specs.declared.pair.Pair.{Pair}
use Rattle.indexset_bench.proofs.CallerLemmas.{lead_after}
use Rattle.std.specs.List.{join_with_byte}
use Rattle.indexset_follow.specs.Reads.{row_text}
use Rattle.indexset_follow.specs.NodeLine.{node_line}
use Rattle.indexset_wire.specs.Texts.{Texts}

-- lines for the elements of an iteration
module _ {X : Type 0} (text : X → List ℕ) where
  lines_more : (xs : List X) (x : X) → lines_for text (xs ++ x ∷ []) ≡ lines_for text xs ++ ended (text x)
  lines_more [] x = append-nil (ended (text x))
  lines_more (y ∷ xs) x = ap (λ l. ended (text y) ++ l) (lines_more xs x) ∙ sym (append_assoc (ended (text y)) (lines_for text xs) (ended (text x)))

  -- another line
  pub line_push : (front : List ℕ) (done : List X) (x : X) → (front ++ lines_for text done) ++ ended (text x) ≡ front ++ lines_for text (done ++ x ∷ [])
  line_push front done x = append_assoc front (lines_for text done) (ended (text x)) ∙ ap (λ l. front ++ l) (sym (lines_more done x))

  -- another line was written
  pub line_behind : (front : List ℕ) (done : List X) (x : X) (w w1 w2 : Option (List ℕ))
      → Appends w w1 (front ++ lines_for text done) → Appends w1 w2 (ended (text x))
      → Appends w w2 (front ++ lines_for text (done ++ x ∷ []))
  line_behind front done x w w1 w2 far told = subst (Appends w w2) (line_push front done x) (Appends-trans w w1 w2 (front ++ lines_for text done) (ended (text x)) far told)

pub walked_on : {X : Type 0} (done : List X) (x : X) (left rest all : List X) → done ++ left ≡ all → left ≡ x ∷ rest → (done ++ x ∷ []) ++ rest ≡ all
walked_on done x left rest all walked next = append_assoc done (x ∷ []) rest ∙ ap (λ l. done ++ l) (sym next) ∙ walked

-- the elements are read one by one and written in one line
module _ {R X : Type 0} (text : X → List ℕ) (read : R → X) where
  join_push : (xs : List X) (x : X) → join_with_byte 32 (map text (xs ++ x ∷ [])) ≡ join_with_byte 32 (map text xs) ++ (lead_after xs ++ text x)
  join_push [] x = refl
  join_push (y ∷ []) x = refl
  join_push (y ∷ z ∷ xs) x = ap (λ l. text y ++ (32 ∷ l)) (join_push (z ∷ xs) x) ∙ sym (append_assoc (text y) (32 ∷ join_with_byte 32 (map text (z ∷ xs))) (32 ∷ text x))

  module _ (done : List R) (y : R) where
    pub one_joined : (lead : List ℕ) (w w1 w2 : Option (List ℕ)) → lead ≡ lead_after (map read done)
        → Appends w w1 (join_with_byte 32 (map text (map read done))) → Appends w1 w2 (lead ++ text (read y))
        → Appends w w2 (join_with_byte 32 (map text (map read (done ++ y ∷ []))))
    one_joined lead w w1 w2 led far told =
        let now = subst (λ l. Appends w1 w2 (l ++ text (read y))) led told in
        subst (Appends w w2) (sym (ap (λ l. join_with_byte 32 (map text l)) (map_push read done y) ∙ join_push (map read done) (read y)))
        (Appends-trans w w1 w2 (join_with_byte 32 (map text (map read done))) (lead_after (map read done) ++ text (read y)) far now)

    pub lead_now : 32 ∷ [] ≡ lead_after (map read (done ++ y ∷ []))
    lead_now = sym (ap lead_after (map_push read done y) ∙ after (map read done))
      where
        after : (ys : List X) → lead_after (ys ++ read y ∷ []) ≡ 32 ∷ []
        after [] = refl
        after (z ∷ ys) = refl

module _ {T : Type 0} (texts : Texts T) where
  -- ---- the end of a line of pairs

  pub row_full : (ps : List (Pair T T)) (w w1 w2 : Option (List ℕ)) → lead_after ps ≢ [] → Appends w w1 (node_text texts ps) → Appends w1 w2 (10 ∷ []) → Appends w w2 (row_text texts ps)
  row_full [] w w1 w2 some far told = absurd (some refl)
  row_full (p ∷ ps) w w1 w2 some far told = Appends-trans w w1 w2 (node_text texts (p ∷ ps)) (10 ∷ []) far told

  -- ---- a node of a snapshot

  -- the word of a node's line, and then the node
  pub node_written : (n : List (Pair T T)) (w w1 w2 : Option (List ℕ)) → Appends w w1 (codes "node ") → Appends w1 w2 (ended (node_text texts n)) → Appends w w2 (ended (node_line texts n))
  node_written n w w1 w2 word told =
      subst (Appends w w2) (sym (append_assoc (codes "node ") (node_text texts n) (10 ∷ [])))
      (Appends-trans w w1 w2 (codes "node ") (ended (node_text texts n)) word told)
