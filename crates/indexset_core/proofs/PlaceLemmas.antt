-- The items between two places in the concatenation of nodes.
use Rattle.std.proofs.Common.{◌≡◌, ℕ, zero, suc, ◌+◌, ◌<◌, ◌≤◌, List, [], ◌∷◌, ◌++◌, length, take, drop, sym, ap, ◌∙◌, arith, append_assoc, add-one, length-append, inl, inr}
use Rattle.std.proofs.Math.Seq.{take-append-add, drop-append-add}
use Rattle.std.proofs.lemmas.Bool.{cases_lt}
use Rattle.std.proofs.lemmas.List.{take-append-le, drop-append-le, take-take, take_all, get_or-take, length-take-le}
use Rattle.std.proofs.lemmas.Slice.{between_is}
use Rattle.std.specs.List.{between}
use Rattle.indexset_core.specs.Nodes.{concat, node_at}
use Rattle.indexset_core.proofs.NodeLemmas.{length-concat-more, length-concat-mono}

module _ {X : Type 0} where
  -- the items up to a place
  pub take_place : (ns : List (List X)) (k o : ℕ) → k < length ns → o ≤ length (node_at ns k) → take (length (concat (take k ns)) + o) (concat ns) ≡ concat (take k ns) ++ take o (node_at ns k)
  take_place [] k o lt le = absurd (omega arith)
  take_place (n ∷ ns) zero o lt le = let e : 0 + o ≡ o = omega arith in rw e (take-append-le o n (concat ns) le)
  take_place (n ∷ ns) (suc k) o lt le =
      let e : length (n ++ concat (take k ns)) + o ≡ length n + (length (concat (take k ns)) + o) = omega (arith, length-append n (concat (take k ns))) in
      ap (λ m. take m (n ++ concat ns)) e
      ∙ (take-append-add n (concat ns) (length (concat (take k ns)) + o)
      ∙ (ap (λ l. n ++ l) (take_place ns k o (omega arith) le) ∙ sym (append_assoc n (concat (take k ns)) (take o (node_at ns k)))))

  -- the items from a place on
  pub drop_place : (ns : List (List X)) (k o : ℕ) → k < length ns → o ≤ length (node_at ns k) → drop (length (concat (take k ns)) + o) (concat ns) ≡ drop o (node_at ns k) ++ concat (drop (suc k) ns)
  drop_place [] k o lt le = absurd (omega arith)
  drop_place (n ∷ ns) zero o lt le = let e : 0 + o ≡ o = omega arith in rw e (drop-append-le o n (concat ns) le)
  drop_place (n ∷ ns) (suc k) o lt le =
      let e : length (n ++ concat (take k ns)) + o ≡ length n + (length (concat (take k ns)) + o) = omega (arith, length-append n (concat (take k ns))) in
      ap (λ m. drop m (n ++ concat ns)) e ∙ (drop-append-add n (concat ns) (length (concat (take k ns)) + o) ∙ drop_place ns k o (omega arith) le)

  module _ (ns : List (List X)) (k o l q : ℕ) (lt : l < length ns) (to : q ≤ length (node_at ns l)) where
    -- the items between two places of one node
    pub between_in : k ≡ l → between (length (concat (take k ns)) + o) (length (concat (take l ns)) + q) (concat ns) ≡ between o q (node_at ns l)
    between_in e =
        between_is (concat ns) _ _
        ∙ (ap (λ m. drop (length (concat (take k ns)) + o) m) (take_place ns l q lt to)
        ∙ (ap (λ i. drop (length (concat (take i ns)) + o) (concat (take l ns) ++ take q (node_at ns l))) e
        ∙ (drop-append-add (concat (take l ns)) (take q (node_at ns l)) o ∙ sym (between_is (node_at ns l) o q))))

    -- and of two
    pub between_across : k < l → o ≤ length (node_at ns k)
        → between (length (concat (take k ns)) + o) (length (concat (take l ns)) + q) (concat ns)
        ≡ drop o (node_at ns k) ++ (concat (between (k + 1) l ns) ++ take q (node_at ns l))
    between_across below from =
        let ms = take l ns in
        let same : take k ms ≡ take k ns = take-take k l ns (omega arith) in
        let node : node_at ms k ≡ node_at ns k = get_or-take l ns k [] below in
        let in_ms : k < length ms = omega (arith, length-take-le l ns (omega arith)) in
        let before : length (concat (take k ns)) + o ≤ length (concat ms) = omega (arith, length-concat-more ns k (omega arith), length-concat-mono ns (k + 1) l (omega arith)) in
        let cut_up : drop (length (concat (take k ms)) + o) (concat ms) ≡ drop o (node_at ms k) ++ concat (drop (suc k) ms) = drop_place ms k o in_ms (rw node from) in
        between_is (concat ns) _ _
        ∙ (ap (λ m. drop (length (concat (take k ns)) + o) m) (take_place ns l q lt to)
        ∙ (drop-append-le (length (concat (take k ns)) + o) (concat ms) (take q (node_at ns l)) before
        ∙ (ap (λ m. m ++ take q (node_at ns l)) (rw (same, node, ← add-one, ← between_is) at cut_up)
        ∙ append_assoc (drop o (node_at ns k)) (concat (between (k + 1) l ns)) (take q (node_at ns l)))))

  -- the earlier of two places is in no later node
  pub places_order : (ns : List (List X)) (k o l q : ℕ) → l < length ns → q ≤ length (node_at ns l) → length (concat (take k ns)) + o < length (concat (take l ns)) + q → k ≤ l
  places_order ns k o l q lt inside le = elim (cases_lt l k) [
    | inl below ↦ absurd (omega (arith, length-concat-more ns l lt, length-concat-mono ns (l + 1) k (omega arith)))
    | inr above ↦ above
  ]

  -- the place after the last item
  pub last_before : (ns : List (List X)) (k o : ℕ) → k + 1 ≡ length ns → o ≡ length (node_at ns k) → length (concat (take k ns)) + o ≡ length (concat ns)
  last_before ns k o last end = omega (arith, length-concat-more ns k (omega arith), ap (λ (l : List (List X)). length (concat l)) (take_all (k + 1) ns (omega arith)))
