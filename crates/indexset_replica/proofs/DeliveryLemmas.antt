-- One event that is offered to a replica, and the greatest number that is reached.
use Rattle.std.proofs.Common.{◌≡◌, ◌==◌, is_some, inl, inr, ℕ, zero, suc, ◌+◌, ◌-◌, ◌<◌, ◌≤◌, Bool, true}
use Rattle.std.proofs.Common.{false, if◌then◌else◌, List, [], ◌∷◌, ◌++◌, length, get_or, slice_get, take, drop}
use Rattle.std.proofs.Common.{Option, Some, None, Ordering, option_and_then, refl, ap, sym, ◌∙◌, subst, arith}
use Rattle.std.below.core.specs.declared.int.u64.TheConstants.{MAX}
use Rattle.std.specs.List.{Contains, fold}
use Rattle.std.proofs.lemmas.Bool.{eqb-true, eqb-false, eq-eqb, ne_eqb, not-false}
use Rattle.std.proofs.lemmas.List.{take-append-drop, take_more}
use Rattle.std.proofs.lemmas.Option.{slice_get-get_or}
use Rattle.indexset_core.proofs.CallerLemmas.{some_held}
use Rattle.indexset_core.specs.declared.refusal.Refusal.TheVariants.{Gap, Numbers}
use Rattle.indexset_events.specs.Replay.{event_number, replay, step, unassigned}
use Rattle.indexset_events.specs.declared.change.ChangeEvent.{ChangeEvent}
use Rattle.indexset_events.proofs.CallerLemmas.{replay-append}
use Rattle.indexset_replica.proofs.EditLemmas.{some_inj}
use Rattle.indexset_replica.proofs.StepLemmas.{else_none, map_some, misfit_refused, none_some, step_fits, then_some}
use Rattle.indexset_replica.specs.Replica.{ReplicaState, apply_refusal, misfit}
use Rattle.indexset_replica.specs.Delivery.{IsAt, IsEventLog, IsDeliveredUpTo, IsPrefix, IsSubsequence, awaited, delivered, numbers_from}

-- ---- subsequences

module _ {A : Type 0} where
  pub subsequence_more : (xs ys : List A) (y : A) → IsSubsequence xs ys → IsSubsequence xs (y ∷ ys)
  subsequence_more [] ys y s = tt
  subsequence_more (x ∷ xs) ys y s = inr s

  subsequence_tail : (x : A) (xs ys : List A) → IsSubsequence (x ∷ xs) ys → IsSubsequence xs ys
  subsequence_tail x xs [] s = absurd s
  subsequence_tail x xs (y ∷ ys) s =
      elim s [
        | inl first ↦ subsequence_more xs ys y first.1
        | inr later ↦ subsequence_more xs ys y (subsequence_tail x xs ys later)
      ]

-- ---- the greatest number that is reached

-- `IsDeliveredUpTo`, by a count from j on
record Reach (j : ℕ) (order : List ℕ) (m : ℕ) : Type 0 where
  count : ℕ
  end : m ≡ j + count
  came : IsSubsequence (numbers_from j count) order
  most : (k : ℕ) → IsSubsequence (numbers_from j k) order → j + k ≤ m

most_of_none : (j k : ℕ) → IsSubsequence (numbers_from j k) [] → j + k ≤ j
most_of_none j zero s = omega arith
most_of_none j (suc k) s = absurd s

most_taken : (order : List ℕ) (j p m : ℕ) → j ≤ m → ((k : ℕ) → IsSubsequence (numbers_from (j + 1) k) order → j + 1 + k ≤ m)
    → (k : ℕ) → IsSubsequence (numbers_from j k) (p ∷ order) → j + k ≤ m
most_taken order j p m low most zero s = omega (arith, low)
most_taken order j p m low most (suc k) s =
    elim s [
      | inl first ↦ omega (arith, most k first.1)
      | inr later ↦ omega (arith, most k (subsequence_tail j (numbers_from (j + 1) k) order later))
    ]

most_passed : (order : List ℕ) (j p m : ℕ) → (p ≡ j → ⊥) → j ≤ m → ((k : ℕ) → IsSubsequence (numbers_from j k) order → j + k ≤ m)
    → (k : ℕ) → IsSubsequence (numbers_from j k) (p ∷ order) → j + k ≤ m
most_passed order j p m other low most zero s = omega (arith, low)
most_passed order j p m other low most (suc k) s =
    elim s [
      | inl first ↦ absurd (other (sym first.0))
      | inr later ↦ most (suc k) later
    ]

reach_by : (order : List ℕ) (j p : ℕ) (b : Bool) → (p == j) ≡ b → ((i : ℕ) → Reach i order (fold awaited i order)) → Reach j (p ∷ order) (fold awaited (if b then j + 1 else j) order)
reach_by order j p true here rest =
    let r = rest (j + 1) in
    record {
      count = suc r.count;
      end = omega (arith, r.end);
      came = inl (sym (eqb-true p j here), r.came);
      most = most_taken order j p (fold awaited (j + 1) order) (omega (arith, r.end)) r.most;
    }
reach_by order j p false here rest =
    let r = rest j in
    record {
      count = r.count;
      end = r.end;
      came = subsequence_more (numbers_from j r.count) order p r.came;
      most = most_passed order j p (fold awaited j order) (eqb-false p j here) (omega (arith, r.end)) r.most;
    }

reach : (order : List ℕ) (j : ℕ) → Reach j order (fold awaited j order)
reach [] j = record { count = 0; end = omega arith; came = tt; most = most_of_none j }
reach (p ∷ order) j = reach_by order j p (p == j) refl (λ i. reach order i)

pub reached : (j : ℕ) (order : List ℕ) → IsDeliveredUpTo j order (fold awaited j order)
reached j order =
    let r = reach order j in
    let count : fold awaited j order - j ≡ r.count = omega (arith, r.end) in
    record {
      from = omega (arith, r.end);
      came = rw count r.came;
      greatest = λ n low s. let most = r.most (n - j) s in omega (arith, low, most);
    }

pub reached_once : (j m n : ℕ) (order : List ℕ) → IsDeliveredUpTo j order m → IsDeliveredUpTo j order n → m ≡ n
reached_once j m n order a b = omega (arith, a.greatest n b.from b.came, b.greatest m a.from a.came)

-- ---- one event

pub and_then_some : {X : Type 0} (o : Option X) → option_and_then (λ x. Some x) o ≡ o
and_then_some None = refl
and_then_some (Some x) = refl

pub read_at : {X : Type 0} (xs : List X) (i : ℕ) (x : X) → slice_get xs i ≡ Some x → (i < length xs) × (get_or xs i x ≡ x)
read_at [] i x e = none_some e
read_at (y ∷ xs) zero x e = (omega arith, some_inj e)
read_at (y ∷ xs) (suc i) x e = let r = read_at xs i x e in (omega (arith, r.0), r.1)

module _ {T : Type 0} (cmp : T → T → Ordering) where
  pub passed_over : (r : ReplicaState T) (e : ChangeEvent T) → (event_number e ≡ r.next → ⊥) → delivered cmp r e ≡ Some r
  unfolding delivered
  passed_over r e other = rw (ne_eqb (event_number e) r.next other) refl

  -- an event that is applied is the next
  pub turn_taken : (ns : List (List T)) (next : ℕ) (e : ChangeEvent T) → apply_refusal cmp ns next e ≡ None → event_number e ≡ next
  unfolding apply_refusal
  turn_taken ns next e fits =
      let number = else_none _ Gap (if next == MAX then Some Numbers else misfit cmp ns (unassigned e)) fits in
      eqb-true (event_number e) next (not-false _ number.0)

  pub taken_in : (r new : ReplicaState T) (e : ChangeEvent T) → apply_refusal cmp r.nodes r.next e ≡ None → step cmp r.nodes e ≡ Some new.nodes → new.next ≡ r.next + 1 → delivered cmp r e ≡ Some new
  unfolding delivered apply_refusal
  taken_in r new e fits made next =
      let number = else_none _ Gap (if r.next == MAX then Some Numbers else misfit cmp r.nodes (unassigned e)) fits in
      let more = else_none (r.next == MAX) Numbers (misfit cmp r.nodes (unassigned e)) number.1 in
      rw (not-false _ number.0, more.0, made, ← next) refl

  -- the next event has no error if there is a replica after it
  pub applied_fits : (r new : ReplicaState T) (e : ChangeEvent T) → event_number e ≡ r.next → delivered cmp r e ≡ Some new → apply_refusal cmp r.nodes r.next e ≡ None
  unfolding delivered
  applied_fits r new e number made = by (r.next == MAX) refl
    where
      by : (b : Bool) → (r.next == MAX) ≡ b → apply_refusal cmp r.nodes r.next e ≡ None
      by true last =
          let none : delivered cmp r e ≡ None = rw (eq-eqb (event_number e) r.next number, last) refl in
          none_some (sym none ∙ made)
      by false more =
          let stepped =
          map_some (step cmp r.nodes e) (λ ns. record { nodes = ns; next = r.next + 1 }) new
          (rw (eq-eqb (event_number e) r.next number, more) at made) in
          misfit_refused cmp r.nodes r.next e number (eqb-false r.next MAX more) ∙ step_fits cmp r.nodes (unassigned e) stepped.0 stepped.1

  -- ---- a log of events

  module _ (s : ℕ) (ns : List (List T)) (es : List (ChangeEvent T)) (feed : IsEventLog cmp s ns es) where
    pub number_at : (p : ℕ) (e : ChangeEvent T) → slice_get es p ≡ Some e → event_number e ≡ s + p
    number_at p e told =
        let read = read_at es p e told in
        ap event_number (sym read.1) ∙ feed.numbered p read.0 e

    step_at : (j : ℕ) (r : ReplicaState T) (e : ChangeEvent T) → IsAt cmp s ns es j r → slice_get es j ≡ Some e → replay cmp ns (take (j + 1) es) ≡ step cmp r.nodes e
    step_at j r e at told =
        let read = read_at es j e told in
        ap (replay cmp ns) (take_more es j e read.0 ∙ ap (λ x. take j es ++ x ∷ []) read.1)
        ∙ replay-append cmp ns (take j es) (e ∷ [])
        ∙ rw at.nodes (and_then_some (step cmp r.nodes e))

    pub steps_on : (j : ℕ) (r : ReplicaState T) (e : ChangeEvent T) → IsAt cmp s ns es j r → slice_get es j ≡ Some e → is_some (step cmp r.nodes e) ≡ true
    steps_on j r e at told =
        let all = some_held (replay cmp ns es) feed.defined in
        let parts = ap (replay cmp ns) (take-append-drop (j + 1) es) ∙ all.1 in
        let halves = then_some (replay cmp ns (take (j + 1) es)) (λ m. replay cmp m (drop (j + 1) es)) all.0 (sym (replay-append cmp ns (take (j + 1) es) (drop (j + 1) es)) ∙ parts) in
        ap is_some (sym (step_at j r e at told) ∙ halves.1)

    pub nothing_fatal : (j : ℕ) (r : ReplicaState T) (p : ℕ) (e : ChangeEvent T) → IsAt cmp s ns es j r → slice_get es p ≡ Some e → event_number e ≡ r.next → apply_refusal cmp r.nodes r.next e ≡ None
    nothing_fatal j r p e at told number =
        let read = read_at es p e told in
        let same : p ≡ j = omega (arith, number_at p e told, number, at.next) in
        let made = some_held (step cmp r.nodes e) (steps_on j r e at (subst (λ i. slice_get es i ≡ Some e) same told)) in
        let more : r.next < MAX = omega (arith, at.next, feed.fits, read.0, same) in
        misfit_refused cmp r.nodes r.next e number (λ last. omega (arith, last, more)) ∙ step_fits cmp r.nodes (unassigned e) made.0 made.1

    pub at_more : (j p : ℕ) (b : Bool) (r q : ReplicaState T) (e : ChangeEvent T) → (p == j) ≡ b
        → IsAt cmp s ns es j r → slice_get es p ≡ Some e → delivered cmp r e ≡ Some q
        → IsAt cmp s ns es (if b then j + 1 else j) q
    unfolding delivered
    at_more j p true r q e here at told made =
        let same = eqb-true p j here in
        let read = read_at es p e told in
        let number : event_number e ≡ r.next = number_at p e told ∙ omega (arith, same, at.next) in
        let more : r.next < MAX = omega (arith, at.next, feed.fits, read.0, same) in
        let stepped =
        map_some (step cmp r.nodes e) (λ ns. record { nodes = ns; next = r.next + 1 }) q
        (rw (eq-eqb (event_number e) r.next number, ne_eqb r.next MAX (λ last. omega (arith, last, more))) at
        made) in
        record {
          within = omega (arith, read.0, same);
          nodes = step_at j r e at (subst (λ i. slice_get es i ≡ Some e) same told) ∙ stepped.1 ∙ ap (λ t. Some t.nodes) stepped.2;
          next = ap (λ t. t.next) (sym stepped.2) ∙ omega (arith, at.next);
        }
    at_more j p false r q e here at told made =
        let other : event_number e ≡ r.next → ⊥ = λ number. eqb-false p j here (omega (arith, number_at p e told, number, at.next)) in
        subst (λ t. IsAt cmp s ns es j t) (some_inj (sym (passed_over r e other) ∙ made)) at

    -- the nodes after the first j events are those after a prefix
    pub begun : (j : ℕ) (r : ReplicaState T) → IsAt cmp s ns es j r → IsPrefix cmp s ns es r
    begun j r at = subst (λ k. IsAt cmp s ns es k r) (omega (arith, at.next)) at

    -- an event of the log has a place in it
    pub place_of : (e : ChangeEvent T) → Contains es e → (p : ℕ) × (slice_get es p ≡ Some e)
    place_of e c = (c.0, slice_get-get_or es c.0 e c.1 ∙ ap (λ x. Some x) c.2)
