-- Events that are offered to a replica one after another, and the prefix that they make.
use Rattle.std.proofs.Common.{◌≡◌, ◌==◌, ◌↔◌, ℕ, zero, suc, ◌+◌, ◌-◌, ◌<◌, Bool, true, false}
use Rattle.std.proofs.Common.{if◌then◌else◌, List, [], ◌∷◌, ◌++◌, length, map, slice_get, take, Option, Some, None}
use Rattle.std.proofs.Common.{Ordering, option_and_then, refl, ap, sym, ◌∙◌, inl, inr, subst, arith}
use Rattle.std.specs.List.{All, Contains, cons_option, fold}
use Rattle.std.proofs.lemmas.Bool.{eqb-true, eqb-false, eq-eqb, ne_eqb}
use Rattle.std.proofs.lemmas.List.Elements.{All-cons, All-head, All-nil, All-tail}
use Rattle.indexset_core.proofs.CallerLemmas.{some_held}
use Rattle.indexset_events.specs.Replay.{event_number, step, IsNumberedFrom}
use Rattle.indexset_events.specs.declared.change.ChangeEvent.{ChangeEvent}
use Rattle.indexset_replica.proofs.DeliveryLemmas.{and_then_some, at_more, begun, nothing_fatal, number_at, passed_over, place_of, reached, reached_once, read_at, steps_on, taken_in}
use Rattle.indexset_replica.proofs.EditLemmas.{some_inj}
use Rattle.indexset_replica.proofs.StepLemmas.{none_some}
use Rattle.indexset_replica.specs.Delivery.{IsAt, IsDelivered, IsDeliveredUpTo, IsDelivery, IsEventLog, IsOffered, IsPrefix, IsSubsequence}
use Rattle.indexset_replica.specs.Delivery.{awaited, delivered, events_at, numbers_from, offered}
use Rattle.indexset_replica.specs.Replica.{ReplicaState}

-- ---- a fold

module _ {T : Type 0} (cmp : T → T → Ordering) where
  abbrev one_more : Option (ReplicaState T) → ChangeEvent T → Option (ReplicaState T)
  one_more made e = option_and_then (λ r. delivered cmp r e) made

  offered_then : (made : Option (ReplicaState T)) (es : List (ChangeEvent T)) → option_and_then (λ r. offered cmp r es) made ≡ fold one_more made es
  offered_then made [] = and_then_some made
  offered_then None (e ∷ es) = offered_then None es
  offered_then (Some r) (e ∷ es) = offered_then (delivered cmp r e) es

  pub offered-fold : (r : ReplicaState T) (es : List (ChangeEvent T)) → offered cmp r es ≡ fold one_more (Some r) es
  offered-fold r es = offered_then (Some r) es

  module _ (C : T → T → Type 0) where
    pub offered_one : (r q : ReplicaState T) (e : ChangeEvent T) → IsOffered cmp C r (e ∷ []) q ↔ IsDelivery cmp C r e q
    offered_one r q e = (λ h. subst (IsDelivery cmp C r e) (sym h.2) h.1, λ d. (q, d, refl))

    apart : (xs ys : List (ChangeEvent T)) (r q : ReplicaState T) → IsOffered cmp C r (xs ++ ys) q
        → (m : ReplicaState T) × IsOffered cmp C r xs m × IsOffered cmp C m ys q
    apart [] ys r q h = (r, refl, h)
    apart (x ∷ xs) ys r q h =
        let rest = apart xs ys h.0 q h.2 in
        (rest.0, (h.0, h.1, rest.1), rest.2)

    together : (xs ys : List (ChangeEvent T)) (r m q : ReplicaState T) → IsOffered cmp C r xs m → IsOffered cmp C m ys q
        → IsOffered cmp C r (xs ++ ys) q
    together [] ys r m q here rest = subst (λ t. IsOffered cmp C t ys q) here rest
    together (x ∷ xs) ys r m q here rest = (here.0, here.1, together xs ys here.0 m q here.2 rest)

    pub offered_parts : (r q : ReplicaState T) (xs ys : List (ChangeEvent T)) → IsOffered cmp C r (xs ++ ys) q
        ↔ ((m : ReplicaState T) × IsOffered cmp C r xs m × IsOffered cmp C m ys q)
    offered_parts r q xs ys = (apart xs ys r q, λ h. together xs ys r h.0 q h.1 h.2)

    -- with one more event
    pub offered_on : (r q s : ReplicaState T) (e : ChangeEvent T) (es : List (ChangeEvent T)) (i : ℕ)
        → slice_get es i ≡ Some e → IsOffered cmp C r (take i es) q → IsDelivery cmp C q e s → IsOffered cmp C r (take (suc i) es) s
    offered_on r q s e [] i told before made = none_some told
    offered_on r q s e (x ∷ es) zero told before made = (s, rw (some_inj told) (subst (λ t. IsDelivery cmp C t e s) before made), refl)
    offered_on r q s e (x ∷ es) (suc i) told before made = (before.0, before.1, offered_on before.0 q s e es i told before.2 made)

-- ---- events at places

some_inside : {X : Type 0} (xs : List X) (i : ℕ) → i < length xs → (x : X) × (slice_get xs i ≡ Some x)
some_inside [] i lt = absurd (omega (arith, lt))
some_inside (x ∷ xs) zero lt = (x, refl)
some_inside (x ∷ xs) (suc i) lt = some_inside xs i (omega (arith, lt))

module _ {T : Type 0} (es : List (ChangeEvent T)) where
  abbrev IsInside : List ℕ → Type 0
  IsInside order = All (λ p. p < length es) order

  head_of : (p : ℕ) (order : List ℕ) → IsInside (p ∷ order) → (e : ChangeEvent T) × (slice_get es p ≡ Some e)
  head_of p order inside = some_inside es p (All-head (λ p. p < length es) p order inside)

  tail_of : (p : ℕ) (order : List ℕ) → IsInside (p ∷ order) → IsInside order
  tail_of p order inside = All-tail (λ p. p < length es) p order inside

  pub take-events_at : (k : ℕ) (order : List ℕ) → IsInside order → events_at es (take k order) ≡ take k (events_at es order)
  take-events_at zero [] inside = refl
  take-events_at (suc k) [] inside = refl
  take-events_at zero (p ∷ order) inside = refl
  take-events_at (suc k) (p ∷ order) inside =
      let e = head_of p order inside in
      ap (λ o. cons_option o (events_at es (take k order))) e.1
      ∙ (ap (λ l. e.0 ∷ l) (take-events_at k order (tail_of p order inside))
      ∙ sym (ap (λ o. take (suc k) (cons_option o (events_at es order))) e.1))

  pub get-events_at : (i p : ℕ) (order : List ℕ) → IsInside order → slice_get order i ≡ Some p → slice_get (events_at es order) i ≡ slice_get es p
  get-events_at i p [] inside told = none_some told
  get-events_at zero p (x ∷ order) inside told =
      let e = head_of x order inside in
      let same : slice_get es x ≡ slice_get es p = ap (slice_get es) (some_inj told) in
      ap (λ o. slice_get (cons_option o (events_at es order)) 0) e.1 ∙ (sym e.1 ∙ same)
  get-events_at (suc i) p (x ∷ order) inside told =
      let e = head_of x order inside in
      ap (λ o. slice_get (cons_option o (events_at es order)) (suc i)) e.1 ∙ get-events_at i p order (tail_of x order inside) told

  pub contained : (order : List ℕ) → All (Contains es) (events_at es order)
  contained [] = All-nil (Contains es)
  contained (p ∷ order) = by (slice_get es p) refl (contained order)
    where
      by : (o : Option (ChangeEvent T)) → slice_get es p ≡ o → All (Contains es) (events_at es order) → All (Contains es) (cons_option o (events_at es order))
      by None told rest = rest
      by (Some e) told rest =
          let read = read_at es p e told in
          All-cons (Contains es) e (events_at es order) (p, read.0, read.1) rest

  pub numbers-events_at : (s : ℕ) (order : List ℕ) → IsNumberedFrom s es → IsInside order → map event_number (events_at es order) ≡ map (λ p. s + p) order
  numbers-events_at s [] numbered inside = refl
  numbers-events_at s (p ∷ order) numbered inside =
      let e = head_of p order inside in
      let read = read_at es p e.0 e.1 in
      let number : event_number e.0 ≡ s + p = ap event_number (sym read.1) ∙ numbered p read.0 e.0 in
      let rest = numbers-events_at s order numbered (tail_of p order inside) in
      ap (λ o. map event_number (cons_option o (events_at es order))) e.1 ∙ (λ i. number i ∷ rest i)

-- ---- places, and numbers from s on

subsequence_map : {A B : Type 0} (f : A → B) (xs ys : List A) → IsSubsequence xs ys → IsSubsequence (map f xs) (map f ys)
subsequence_map f [] ys s = tt
subsequence_map f (x ∷ xs) [] s = absurd s
subsequence_map f (x ∷ xs) (y ∷ ys) s =
    elim s [
      | inl first ↦ inl (ap f first.0, subsequence_map f xs ys first.1)
      | inr later ↦ inr (subsequence_map f (x ∷ xs) ys later)
    ]

shifted_numbers : (s j n : ℕ) → map (λ p. s + p) (numbers_from j n) ≡ numbers_from (s + j) n
shifted_numbers s j zero = refl
shifted_numbers s j (suc n) =
    let next : s + (j + 1) ≡ s + j + 1 = omega arith in
    ap (λ l. (s + j) ∷ l) (shifted_numbers s (j + 1) n ∙ ap (λ k. numbers_from k n) next)

pub shifted_order : (s j n : ℕ) (order : List ℕ) → IsSubsequence (numbers_from j n) order → IsSubsequence (numbers_from (s + j) n) (map (λ p. s + p) order)
shifted_order s j n order came = subst (λ l. IsSubsequence l (map (λ p. s + p) order)) (shifted_numbers s j n) (subsequence_map (λ p. s + p) (numbers_from j n) order came)

shifted_one : (s j p : ℕ) (b : Bool) → (p == j) ≡ b → awaited (s + j) (s + p) ≡ s + (if b then j + 1 else j)
shifted_one s j p true here = rw (eq-eqb (s + p) (s + j) (ap (λ k. s + k) (eqb-true p j here))) (omega arith)
shifted_one s j p false here = rw (ne_eqb (s + p) (s + j) (λ same. eqb-false p j here (omega (arith, same)))) refl

shifted_fold : (s j : ℕ) (order : List ℕ) → fold awaited (s + j) (map (λ p. s + p) order) ≡ s + fold awaited j order
shifted_fold s j [] = refl
shifted_fold s j (p ∷ order) =
    ap (λ k. fold awaited k (map (λ p. s + p) order)) (shifted_one s j p (p == j) refl) ∙ shifted_fold s (awaited j p) order

pub delivered_up_to : {T : Type 0} (es : List (ChangeEvent T)) (s j m : ℕ) (order : List ℕ) → IsNumberedFrom s es → IsInside es order
    → IsDeliveredUpTo j order m → IsDeliveredUpTo (s + j) (map event_number (events_at es order)) (s + m)
delivered_up_to es s j m order numbered inside is =
    let numbers = map event_number (events_at es order) in
    let last = reached_once j (fold awaited j order) m order (reached j order) is in
    let end : fold awaited (s + j) numbers ≡ s + m =
    ap (fold awaited (s + j)) (numbers-events_at es s order numbered inside) ∙ (shifted_fold s j order ∙ ap (λ k. s + k) last) in
    subst (λ k. IsDeliveredUpTo (s + j) numbers k) end (reached (s + j) numbers)

-- ---- events of a log

module _ {T : Type 0} (cmp : T → T → Ordering) (s : ℕ) (ns : List (List T)) (es : List (ChangeEvent T)) (feed : IsEventLog cmp s ns es) where
  -- the replica after one event of the log
  record Next (r : ReplicaState T) (e : ChangeEvent T) : Type 0 where
    after : ReplicaState T
    made : delivered cmp r e ≡ Some after
    next : after.next ≡ awaited r.next (event_number e)
    prefix : IsPrefix cmp s ns es after

  next_of : (r : ReplicaState T) (e : ChangeEvent T) (b : Bool) → (event_number e == r.next) ≡ b → IsPrefix cmp s ns es r → Contains es e → Next r e
  next_of r e true here at of =
      let p = place_of cmp s ns es feed e of in
      let same = eqb-true (event_number e) r.next here in
      let number = number_at cmp s ns es feed p.0 e p.1 in
      let place : p.0 ≡ r.next - s = omega (arith, same, number) in
      let told = subst (λ k. slice_get es k ≡ Some e) place p.1 in
      let made = some_held (step cmp r.nodes e) (steps_on cmp s ns es feed (r.next - s) r e at told) in
      let new : ReplicaState T = record { nodes = made.0; next = r.next + 1 } in
      let done = taken_in cmp r new e (nothing_fatal cmp s ns es feed (r.next - s) r p.0 e at p.1 same) made.1 refl in
      let more = at_more cmp s ns es feed (r.next - s) (r.next - s) true r new e (search arith) at told done in
      record { after = new; made = done; next = rw here refl; prefix = begun cmp s ns es feed (r.next - s + 1) new more }
  next_of r e false here at of = record {
    after = r;
    made = passed_over cmp r e (eqb-false (event_number e) r.next here);
    next = rw here refl;
    prefix = at;
  }

  -- the replica after the events that arrive
  pub record After (r : ReplicaState T) (arriving : List (ChangeEvent T)) : Type 0 where
    pub after : ReplicaState T
    pub made : offered cmp r arriving ≡ Some after
    pub next : after.next ≡ fold awaited r.next (map event_number arriving)
    pub prefix : IsPrefix cmp s ns es after

  pub after_of : (arriving : List (ChangeEvent T)) (r : ReplicaState T) → All (Contains es) arriving → IsPrefix cmp s ns es r → After r arriving
  after_of [] r of at = record { after = r; made = refl; next = refl; prefix = at }
  after_of (e ∷ arriving) r of at =
      let one = next_of r e (event_number e == r.next) refl at (All-head (Contains es) e arriving of) in
      let rest = after_of arriving one.after (All-tail (Contains es) e arriving of) one.prefix in
      record {
        after = rest.after;
        made = rw one.made rest.made;
        next = rest.next ∙ ap (λ n. fold awaited n (map event_number arriving)) one.next;
        prefix = rest.prefix;
      }

  pub leaves_a_prefix : (arriving : List (ChangeEvent T)) (r : ReplicaState T) → IsPrefix cmp s ns es r → All (Contains es) arriving
      → (q : ReplicaState T) × (offered cmp r arriving ≡ Some q) × IsPrefix cmp s ns es q × ((m : ℕ) → IsDeliveredUpTo r.next (map event_number arriving) m → q.next ≡ m)
  leaves_a_prefix arriving r at of =
      let w = after_of arriving r of at in
      let numbers = map event_number arriving in
      (w.after, w.made, w.prefix, λ m is. w.next ∙ reached_once r.next _ m numbers (reached r.next numbers) is)

  pub prefix_after : (arriving : List (ChangeEvent T)) (r q : ReplicaState T) → All (Contains es) arriving → IsPrefix cmp s ns es r → offered cmp r arriving ≡ Some q
      → IsPrefix cmp s ns es q × (q.next ≡ fold awaited r.next (map event_number arriving))
  prefix_after arriving r q of at done =
      let w = after_of arriving r of at in
      let same : w.after ≡ q = some_inj (sym w.made ∙ done) in
      (subst (IsPrefix cmp s ns es) same w.prefix, ap (λ t. t.next) (sym same) ∙ w.next)

  -- the same for the events at places
  pub delivered_after : (order : List ℕ) (j : ℕ) (r q : ReplicaState T) → IsInside es order → IsAt cmp s ns es j r → offered cmp r (events_at es order) ≡ Some q
      → IsDelivered cmp s ns es j order q
  delivered_after order j r q inside at done = λ m is.
      let all = prefix_after (events_at es order) r q (contained es order) (begun cmp s ns es feed j r at) done in
      let numbers = numbers-events_at es s order feed.numbered inside in
      let end : q.next ≡ s + fold awaited j order = all.1 ∙ ((λ i. fold awaited (at.next i) (numbers i)) ∙ shifted_fold s j order) in
      let last : q.next - s ≡ m = omega (arith, end, reached_once j (fold awaited j order) m order (reached j order) is) in
      subst (λ n. IsAt cmp s ns es n q) last all.0
