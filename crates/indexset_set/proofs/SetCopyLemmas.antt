-- Whether the clones of ascending elements ascend, and the sets that they make.
use Rattle.std.proofs.Common.{◌≡◌, ℕ, zero, suc, ◌+◌, ◌-◌, ◌<◌, ◌&&◌, Bool, List, [], ◌∷◌, ◌++◌}
use Rattle.std.proofs.Common.{length, get_or, Ordering, Some, Result, Ok, Err, slice_get, refl}
use Rattle.std.proofs.Common.{sym, ap, ◌∙◌, subst, arith, length-append, append_assoc, true, false}
use Rattle.std.specs.declared.cmp.Ordering.TheVariants.{Less, Equal}
use Rattle.std.specs.Cmp.{IsTotalOrder}
use Rattle.std.specs.List.{AllAdjacentBelow, AllZip, IsAllAdjacentAnswer, fold}
use Rattle.std.specs.Ordering.{is_lt}
use Rattle.std.specs.Result.{IfOk}
use Rattle.std.proofs.lemmas.Bool.{false≢true}
use Rattle.std.proofs.lemmas.Cmp.{alike_right}
use Rattle.std.proofs.lemmas.List.{append-nil, get_or-append-add}
use Rattle.std.proofs.lemmas.List.Elements.{AllZip-get_or, length_all_zip}
use Rattle.std.proofs.lemmas.Option.{slice_get-get_or}
use Rattle.std.proofs.Math.Seq.{get_or-append_seam}
use Rattle.indexset_core.specs.Nodes.{concat}
use Rattle.indexset_core.specs.Order.{IsAscending, keep}
use Rattle.indexset_core.proofs.CallerLemmas.{less_from}
use Rattle.indexset_spine.specs.NodeList.{NodeList, node_list, items}
use Rattle.indexset_set.specs.SetCopy.{IsSetCopy}
use Rattle.indexset_set.specs.SetNodes.{nodes_kept_all}
use Rattle.indexset_set.proofs.SetAppendLemmas.{appended_ascending}
use Rattle.indexset_set.proofs.SetCloneLemmas.{keep_behind}

module _ {T : Type 0} (cmp : T → T → Ordering) where
  -- the items up to the last of those seen ascend, and the others follow
  pub record AscendsTo (all : List T) (last : T) (rest : List T) : Type 0 where
    pub front : List T
    pub parts : all ≡ front ++ last ∷ rest
    pub up : IsAscending cmp (front ++ last ∷ [])

  pub one_ascends : (x : T) → IsAscending cmp (x ∷ [])
  one_ascends x i j d lt inside = absurd (omega (arith, lt, inside))

  pub ascends_first : (all rest : List T) (x : T) → all ≡ x ∷ rest → AscendsTo all x rest
  ascends_first all rest x first = record { front = []; parts = first; up = one_ascends x }

  module _ (all rest rest' : List T) (x y : T) (far : AscendsTo all x rest) (first : rest ≡ y ∷ rest') where
    split : all ≡ (far.front ++ x ∷ []) ++ y ∷ rest'
    split = far.parts ∙ ap (λ r. far.front ++ x ∷ r) first ∙ sym (append_assoc far.front (x ∷ []) (y ∷ rest'))

    long : length (far.front ++ x ∷ []) ≡ length far.front + 1
    long = length-append far.front (x ∷ [])

    last_is : slice_get (far.front ++ x ∷ []) (length (far.front ++ x ∷ []) - 1) ≡ Some x
    last_is =
        let at : length (far.front ++ x ∷ []) - 1 ≡ length far.front = omega (arith, long) in
        rw at (slice_get-get_or (far.front ++ x ∷ []) (length far.front) x (omega (arith, long)) ∙ ap (λ z. Some z) (get_or-append_seam far.front x [] x))

    pub ascends_next : IsTotalOrder cmp → is_lt (cmp x y) ≡ true → AscendsTo all y rest'
    ascends_next o less = record {
      front = far.front ++ x ∷ [];
      parts = split;
      up = appended_ascending cmp (far.front ++ x ∷ []) (y ∷ []) x y last_is refl o far.up (one_ascends y) (less_from _ less);
    }

    pub descends : is_lt (cmp x y) ≡ false → IsAscending cmp all → ⊥
    descends not_less up =
        let ups : IsAscending cmp (far.front ++ x ∷ y ∷ rest') = subst (IsAscending cmp) (far.parts ∙ ap (λ r. far.front ++ x ∷ r) first) up in
        let at_x : get_or (far.front ++ x ∷ y ∷ rest') (length far.front) x ≡ x = get_or-append_seam far.front x (y ∷ rest') x in
        let at_y : get_or (far.front ++ x ∷ y ∷ rest') (length far.front + 1) x ≡ y = get_or-append-add far.front (x ∷ y ∷ rest') 1 x in
        let less : cmp x y ≡ Less = rw (at_x, at_y) at (ups (length far.front) (length far.front + 1) x (omega arith) (omega (arith, length-append far.front (x ∷ y ∷ rest')))) in
        false≢true (sym not_less ∙ ap is_lt less)

  pub ascends_all : (all rest : List T) (x : T) → AscendsTo all x rest → rest ≡ [] → IsAscending cmp all
  ascends_all all rest x far none = subst (IsAscending cmp) (sym (far.parts ∙ ap (λ r. far.front ++ x ∷ r) none)) far.up

  -- what a comparison shows of the items up to the last of those seen
  pub record TellsTo (ascends : Bool) (all : List T) (last : T) (rest : List T) : Type 0 where
    pub up : ascends ≡ true → AscendsTo all last rest
    pub other : ascends ≡ false → IsAscending cmp all → ⊥

  pub tells_first : (all rest : List T) (x : T) → all ≡ x ∷ rest → TellsTo true all x rest
  tells_first all rest x first = record { up = λ _. ascends_first all rest x first; other = λ e. absurd (false≢true (sym e)) }

  pub tells_next : IsTotalOrder cmp → (ascends : Bool) (all rest rest' : List T) (x y : T) → TellsTo ascends all x rest → rest ≡ y ∷ rest' → TellsTo (ascends && is_lt (cmp x y)) all y rest'
  tells_next o false all rest rest' x y told first = record { up = λ e. absurd (false≢true e); other = λ _. told.other refl }
  tells_next o true all rest rest' x y told first = elim (is_lt (cmp x y)) as (λ b. is_lt (cmp x y) ≡ b → TellsTo b all y rest') [
    | true ↦ λ less. record { up = λ _. ascends_next all rest rest' x y (told.up refl) first o less; other = λ e. absurd (false≢true (sym e)) }
    | false ↦ λ not_less. record { up = λ e. absurd (false≢true e); other = λ _. descends all rest rest' x y (told.up refl) first not_less }
  ] refl

  -- a list ascends if each item is below the next
  module _ (o : IsTotalOrder cmp) (l : List T) (next : AllAdjacentBelow (λ x y. true ≡ is_lt (cmp x y)) l (length l)) where
    far_below : (n i : ℕ) (d : T) → i + n + 1 < length l → cmp (get_or l i d) (get_or l (i + n + 1) d) ≡ Less
    far_below zero i d inside = let same : i + 0 + 1 ≡ i + 1 = omega arith in rw same (less_from _ (sym (next i d (omega arith))))
    far_below (suc n) i d inside =
        let same : i + suc n + 1 ≡ i + n + 1 + 1 = omega arith in
        rw same (o.trans _ _ _ (far_below n i d (omega arith)) (less_from _ (sym (next (i + n + 1) d (omega arith)))))

    next_ascends : IsAscending cmp l
    next_ascends i j d lt inside = let far : i + (j - i - 1) + 1 ≡ j = omega arith in rw far at (far_below (j - i - 1) i d (omega arith))

  pub adjacent_tells : IsTotalOrder cmp → (l : List T) (r : Bool) → IsAllAdjacentAnswer (λ x y b. b ≡ is_lt (cmp x y)) l r → (r ≡ true → IsAscending cmp l) × (r ≡ false → IsAscending cmp l → ⊥)
  adjacent_tells o l true next = (λ _. next_ascends o l next, λ e. absurd (false≢true (sym e)))
  adjacent_tells o [] false (k, inside, other) = absurd (omega arith)
  adjacent_tells o (x ∷ l) false (k, inside, other) = (λ e. absurd (false≢true e), λ _ up. false≢true (other x ∙ ap is_lt (up k (k + 1) x (omega arith) inside)))

  -- ascending elements that are inserted one by one stay as they are
  pub kept_all_behind : (l xs : List T) → IsAscending cmp (l ++ xs) → fold (keep cmp) l xs ≡ l ++ xs
  kept_all_behind l [] up = sym (append-nil l)
  kept_all_behind l (x ∷ xs) up =
      let split : (l ++ x ∷ []) ++ xs ≡ l ++ x ∷ xs = append_assoc l (x ∷ []) xs in
      ap (λ m. fold (keep cmp) m xs) (keep_behind cmp l x xs up) ∙ kept_all_behind (l ++ x ∷ []) xs (subst (IsAscending cmp) (sym split) up) ∙ split

  -- if clones equal their sources, they ascend as these do
  pub clones_ascend : IsTotalOrder cmp → (C : T → T → Type 0) → ((x y : T) → C x y → cmp x y ≡ Equal) → (xs ys : List T) → AllZip C xs ys → IsAscending cmp xs → IsAscending cmp ys
  clones_ascend o C equal xs ys cloned up i j d lt inside =
      let long : length xs ≡ length ys = length_all_zip C xs ys cloned in
      let low : cmp (get_or xs i d) (get_or ys i d) ≡ Equal = equal _ _ (AllZip-get_or C xs ys i d d cloned (omega (arith, long))) in
      let high : cmp (get_or xs j d) (get_or ys j d) ≡ Equal = equal _ _ (AllZip-get_or C xs ys j d d cloned (omega (arith, long))) in
      sym (o.congr (get_or xs i d) (get_or ys i d) (get_or ys j d) low)
      ∙ sym (alike_right o (get_or xs j d) (get_or ys j d) (get_or xs i d) high)
      ∙ up i j d lt (omega (arith, long))

-- a copy whose clones are those of the nodes
module _ {T : Type 0} (cmp : T → T → Ordering) (C : T → T → Type 0) (s : NodeList T) (clones : List (List T)) (cloned : AllZip (AllZip C) s.nodes clones) where
  pub copy_in_place : (copy : NodeList T) → copy.nodes ≡ clones → copy.size ≡ s.size → IsAscending cmp (concat clones) → IsSetCopy cmp C s copy
  copy_in_place copy nodes size up = record {
    clones = clones;
    cloned = cloned;
    in_place = λ _. nodes;
    in_turn = λ other. absurd (other up);
    elements = ap concat nodes ∙ sym (kept_all_behind cmp [] (concat clones) up);
    size = size;
  }

  pub copy_in_turn : {E : Type 0} (r : Result (NodeList T) E) → (IsAscending cmp (concat clones) → ⊥) → IfOk r (λ copy. items copy ≡ fold (keep cmp) [] (concat clones))
      → IfOk r (λ copy. copy.nodes ≡ nodes_kept_all cmp (node_list ([] ∷ []) s.size) (concat clones)) → IfOk r (λ copy. copy.size ≡ s.size) → IfOk r (λ copy. IsSetCopy cmp C s copy)
  copy_in_turn (Ok copy) other elements nodes size = record {
    clones = clones;
    cloned = cloned;
    in_place = λ up. absurd (other up);
    in_turn = λ _. nodes;
    elements = elements;
    size = size;
  }
  copy_in_turn (Err e) other elements nodes size = tt
