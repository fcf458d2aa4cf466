-- A follower of lines that are texts of events has the nodes after a prefix of the events.
use Rattle.std.proofs.Common.{◌≡◌, ◌==◌, inl, inr, ℕ, zero, suc, ◌+◌, ◌-◌, ◌<◌, ◌≤◌, Bool}
use Rattle.std.proofs.Common.{true, false, if◌then◌else◌, List, [], ◌∷◌, length, map, get_or}
use Rattle.std.proofs.Common.{slice_get, drop, Some, refl, ap, sym, ◌∙◌, subst, arith}
use Rattle.std.proofs.lemmas.Bool.{eqb-false, eqb-true, ltb-false, ltb-true}
use Rattle.std.specs.Prelude.{nat_lt}
use Rattle.std.proofs.lemmas.List.{drop_more, length-drop}
use Rattle.std.proofs.lemmas.List.Elements.{All-head, All-tail}
use Rattle.std.specs.List.{All}
use Rattle.indexset_lines.specs.Run.{left_by}
use Rattle.indexset_bench.specs.PairText.{event_text}
use Rattle.indexset_core.specs.declared.pair.Pair.{Pair}
use Rattle.indexset_events.specs.Replay.{event_number}
use Rattle.indexset_wire.specs.Parts.Laws.{some_inj}
use Rattle.indexset_replica.specs.Delivery.{IsSubsequence}
use Rattle.indexset_follow.specs.Drawn.{HoldsAhead, HoldsFirst, IsDrawn, IsFeedOfPairs}
use Rattle.indexset_follow.specs.EventLine.{Event, EventFits, event_of}
use Rattle.indexset_follow.specs.Follow.{State, after_event, after_line, state_after}
use Rattle.indexset_follow.proofs.EventLines.{event_told}
use Rattle.indexset_follow.proofs.Turns.{Onward, number_at, onward, read_at}
use Rattle.std.specs.declared.cmp.Ordering.{Ordering}
use Rattle.indexset_wire.specs.Texts.{AreTokens, Texts}

-- ---- lists

subsequence_tail : {A : Type 0} (x : A) (xs ys : List A) → IsSubsequence (x ∷ xs) ys → IsSubsequence xs ys
subsequence_tail x xs [] s = absurd s
subsequence_tail x [] (y ∷ ys) s = tt
subsequence_tail x (z ∷ xs) (y ∷ ys) s =
    elim s [
      | inl first ↦ inr first.1
      | inr later ↦ inr (subsequence_tail x (z ∷ xs) ys later)
    ]

none_of_none : {A : Type 0} (xs : List A) → IsSubsequence xs [] → length xs ≡ 0
none_of_none [] s = refl
none_of_none (x ∷ xs) s = absurd s

length_map : {A B : Type 0} (f : A → B) (xs : List A) → length (map f xs) ≡ length xs
length_map f [] = refl
length_map f (x ∷ xs) = omega (arith, length_map f xs)

empty_came : {A : Type 0} (xs ys : List A) → length xs ≡ 0 → IsSubsequence xs ys
empty_came [] ys none = tt
empty_came (x ∷ xs) ys none = absurd (omega (arith, none))

got : {X : Type 0} (xs : List X) (i : ℕ) (d : X) → i < length xs → slice_get xs i ≡ Some (get_or xs i d)
got [] i d lt = absurd (omega (arith, lt))
got (x ∷ xs) zero d lt = refl
got (x ∷ xs) (suc i) d lt = got xs i d (omega (arith, lt))

module _ {T : Type 0} (cmp : T → T → Ordering) (texts : Texts T) (spelled : AreTokens texts) where
  -- ---- lines

  module _ (s : ℕ) (ns : List (List (Pair T T))) (es : List (Event T)) (feed : IsFeedOfPairs cmp s ns es) (fit : All (EventFits texts) es) where
    pub fits_at : (p : ℕ) (e : Event T) → slice_get es p ≡ Some e → EventFits texts e
    fits_at p e told = let read = read_at es p e told in subst (EventFits texts) read.1 (fit p e read.0)

    line_is : (r : State T) (line : List ℕ) (d : IsDrawn texts es line) → after_line cmp texts r line ≡ after_event cmp r d.event
    line_is r line d =
        let told : event_of texts line ≡ Some d.event = ap (event_of texts) d.text ∙ event_told texts spelled d.event (fits_at d.place d.event d.at) in
        rw told refl

    pub one : (k : ℕ) (r : State T) (line : List ℕ) (d : IsDrawn texts es line) → HoldsFirst cmp s ns es k r → HoldsAhead s es r → Onward cmp s ns es feed k d.place r (after_line cmp texts r line)
    one k r line d at h = subst (Onward cmp s ns es feed k d.place r) (sym (line_is r line d)) (onward cmp s ns es feed k d.place r d.event at h d.at)

    pub beginning : (j : ℕ) (r : State T) (ls : List (List ℕ)) → HoldsFirst cmp s ns es j r → HoldsAhead s es r
        → All (IsDrawn texts es) ls
        → (k : ℕ) × HoldsFirst cmp s ns es k (state_after cmp texts r ls) × HoldsAhead s es (state_after cmp texts r ls)
    unfolding left_by
    beginning j r [] at h drawn = (j, at, h)
    beginning j r (l ∷ ls) at h drawn =
        let d = All-head (IsDrawn texts es) l ls drawn in
        let on = one j r l d at h in
        beginning on.place (after_line cmp texts r l) ls on.at on.ahead (All-tail (IsDrawn texts es) l ls drawn)

    -- the texts of the events from j on
    abbrev texts_from : ℕ → List (List ℕ)
    texts_from j = map (event_text texts) (drop j es)

    -- two events with the same text have the same place
    pub same_place : (p j : ℕ) (e f : Event T) → slice_get es p ≡ Some e → slice_get es j ≡ Some f → event_text texts f ≡ event_text texts e → p ≡ j
    same_place p j e f first second text =
        let same : f ≡ e = some_inj f e (sym (event_told texts spelled f (fits_at j f second)) ∙ ap (event_of texts) text ∙ event_told texts spelled e (fits_at p e first)) in
        omega (arith, number_at cmp s ns es feed p e first, number_at cmp s ns es feed j f second, ap event_number same)

    -- the texts that are still to come after a line that came
    came_on : (j p : ℕ) (e : Event T) (ls : List (List ℕ)) → slice_get es p ≡ Some e
        → IsSubsequence (texts_from j) (event_text texts e ∷ ls) → (b : Bool) → (p == j) ≡ b
        → IsSubsequence (texts_from (if b then j + 1 else j)) ls
    came_on j p e ls told came b here = at (nat_lt j (length es)) refl b here
      where
        first_text : nat_lt j (length es) ≡ true → texts_from j ≡ event_text texts (get_or es j e) ∷ texts_from (j + 1)
        first_text lt = ap (map (event_text texts)) (drop_more es j e (ltb-true j (length es) lt))

        at : (t : Bool) → nat_lt j (length es) ≡ t → (b : Bool) → (p == j) ≡ b → IsSubsequence (texts_from (if b then j + 1 else j)) ls
        at true lt true here =
            elim (subst (λ l. IsSubsequence l (event_text texts e ∷ ls)) (first_text lt) came) [
              | inl first ↦ first.1
              | inr later ↦ subsequence_tail (event_text texts (get_or es j e)) (texts_from (j + 1)) ls later
            ]
        at true lt false here =
            elim (subst (λ l. IsSubsequence l (event_text texts e ∷ ls)) (first_text lt) came) [
              | inl first ↦ absurd (eqb-false p j here (same_place p j e (get_or es j e) told (got es j e (ltb-true j (length es) lt)) first.0))
              | inr later ↦ subst (λ l. IsSubsequence l ls) (sym (first_text lt)) later
            ]
        at false past true here = absurd (omega (arith, (read_at es p e told).0, eqb-true p j here, ltb-false j (length es) past))
        at false past false here = empty_came (texts_from j) ls (omega (arith, length_map (event_text texts) (drop j es), length-drop j es, ltb-false j (length es) past))

    next_came : (j : ℕ) (e : Event T) (ls : List (List ℕ)) → IsSubsequence (texts_from j) ls → IsSubsequence (texts_from (j + 1)) ls
    next_came j e ls came = at (nat_lt j (length es)) refl
      where
        at : (t : Bool) → nat_lt j (length es) ≡ t → IsSubsequence (texts_from (j + 1)) ls
        at true lt =
            subsequence_tail (event_text texts (get_or es j e)) (texts_from (j + 1)) ls
            (subst (λ l. IsSubsequence l ls)
            (ap (map (event_text texts)) (drop_more es j e (ltb-true j (length es) lt))) came)
        at false past = empty_came (texts_from (j + 1)) ls (omega (arith, length_map (event_text texts) (drop (j + 1) es), length-drop (j + 1) es, ltb-false j (length es) past))

    later_came : (n j : ℕ) (e : Event T) (ls : List (List ℕ)) → IsSubsequence (texts_from j) ls → IsSubsequence (texts_from (j + n)) ls
    later_came zero j e ls came = let same : j ≡ j + 0 = omega arith in subst (λ k. IsSubsequence (texts_from k) ls) same came
    later_came (suc n) j e ls came =
        let same : j + 1 + n ≡ j + suc n = omega arith in
        subst (λ k. IsSubsequence (texts_from k) ls) same (later_came n (j + 1) e ls (next_came j e ls came))

    came_from : (j k : ℕ) (e : Event T) (ls : List (List ℕ)) → j ≤ k → IsSubsequence (texts_from j) ls → IsSubsequence (texts_from k) ls
    came_from j k e ls le came = let same : j + (k - j) ≡ k = omega (arith, le) in subst (λ i. IsSubsequence (texts_from i) ls) same (later_came (k - j) j e ls came)

    -- the texts that are still to come after an event that was applied or is held early
    on_came : (j : ℕ) (r : State T) (l : List ℕ) (ls : List (List ℕ)) (d : IsDrawn texts es l)
        (on : Onward cmp s ns es feed j d.place r (after_line cmp texts r l))
        → IsSubsequence (texts_from j) (l ∷ ls) → IsSubsequence (texts_from on.place) ls
    on_came j r l ls d on came = by (d.place == j) refl
      where
        by : (b : Bool) → (d.place == j) ≡ b → IsSubsequence (texts_from on.place) ls
        by b here = at b here (came_on j d.place d.event ls d.at (subst (λ t. IsSubsequence (texts_from j) (t ∷ ls)) d.text came) b here)
          where
            at : (b : Bool) → (d.place == j) ≡ b → IsSubsequence (texts_from (if b then j + 1 else j)) ls → IsSubsequence (texts_from on.place) ls
            at true here more = came_from (j + 1) on.place d.event ls (let lt = on.grown (eqb-true d.place j here) in omega (arith, lt)) more
            at false other more = came_from j on.place d.event ls on.from more

    pub whole : (j : ℕ) (r : State T) (ls : List (List ℕ)) → HoldsFirst cmp s ns es j r → HoldsAhead s es r
        → All (IsDrawn texts es) ls → IsSubsequence (texts_from j) ls
        → HoldsFirst cmp s ns es (length es) (state_after cmp texts r ls)
    unfolding left_by
    whole j r [] at h drawn came =
        let all : j ≡ length es = omega (arith, none_of_none (texts_from j) came, length_map (event_text texts) (drop j es), length-drop j es, at.within) in
        subst (λ k. HoldsFirst cmp s ns es k r) all at
    whole j r (l ∷ ls) at h drawn came =
        let d = All-head (IsDrawn texts es) l ls drawn in
        let on = one j r l d at h in
        whole on.place (after_line cmp texts r l) ls on.at on.ahead (All-tail (IsDrawn texts es) l ls drawn) (on_came j r l ls d on came)
