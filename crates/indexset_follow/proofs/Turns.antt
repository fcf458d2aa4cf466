-- The effect of one of a leader's events on a follower: its nodes, and its early events.
use Rattle.std.proofs.Common.{◌≡◌, ◌≢◌, ◌⊎◌, inl, inr, ℕ, zero, suc, ◌+◌, ◌-◌, ◌<◌, ◌≤◌, ◌==◌, Bool, true}
use Rattle.std.proofs.Common.{false, if◌then◌else◌, List, [], ◌∷◌, ◌++◌, length, get_or, slice_get, take}
use Rattle.std.proofs.Common.{drop, Option, Some, None, option_and_then, refl, ap, sym, ◌∙◌, subst, arith}
use Rattle.std.below.core.specs.declared.int.u64.TheConstants.{MAX}
use Rattle.std.proofs.lemmas.Bool.{eq-eqb, eqb-false, eqb-true, le-ltb, leb-false, lt-ltb, ne_eqb}
use Rattle.std.proofs.lemmas.List.{take-append-drop, take_more}
use Rattle.std.specs.Option.{option_map_or}
use Rattle.std.specs.Prelude.{nat_le}
use Rattle.indexset_core.specs.Pairs.{by_key, pair}
use Rattle.indexset_core.specs.declared.pair.Pair.{Pair}
use Rattle.indexset_core.proofs.CallerLemmas.{some_held}
use Rattle.indexset_events.specs.Replay.{event_number, replay, step, unassigned}
use Rattle.indexset_wire.specs.Parts.Laws.{none_some, some_inj, then_some}
use Rattle.indexset_events.proofs.CallerLemmas.{replay-append}
use Rattle.indexset_replica.specs.Delivery.{IsAt, delivered}
use Rattle.indexset_replica.specs.Replica.{apply_refusal}
use Rattle.indexset_replica.proofs.CallerLemmas.{misfit_refused, step_fits}
use Rattle.indexset_follow.specs.Copy.{Copy, copy}
use Rattle.indexset_follow.specs.Drawn.{HoldsAhead, IsFeedOfPairs, IsOneOf}
use Rattle.indexset_follow.specs.Early.{AscendFrom, EarlyEvents, Taken, caught_up, copy_after, first_number, taken, with_early}
use Rattle.indexset_follow.specs.EventLine.{Event}
use Rattle.indexset_follow.specs.Follow.{State, after_event, ahead_taken, event_taken, with_taken}
use Rattle.indexset_follow.specs.declared.reason.Reason.TheVariants.{Refused}
use Rattle.indexset_follow.specs.declared.reply.Reply.{Reply}
use Rattle.indexset_follow.specs.declared.reply.Reply.TheVariants as reply
use Rattle.indexset_follow.proofs.Ahead.{Among, among_put, equals, higher, lower, no_earlier, put_ahead, put_among, side}
use Rattle.std.specs.declared.cmp.Ordering.{Ordering}

-- ---- lists

pub read_at : {X : Type 0} (xs : List X) (i : ℕ) (x : X) → slice_get xs i ≡ Some x → (i < length xs) × (get_or xs i x ≡ x)
read_at [] i x e = none_some x e
read_at (y ∷ xs) zero x e = (omega arith, some_inj y x e)
read_at (y ∷ xs) (suc i) x e = let r = read_at xs i x e in (omega (arith, r.0), r.1)

and_then_some : {X : Type 0} (o : Option X) → option_and_then (λ x. Some x) o ≡ o
and_then_some None = refl
and_then_some (Some x) = refl

module _ {T : Type 0} (cmp : T → T → Ordering) where
  -- ---- an event

  module _ (s : ℕ) (ns : List (List (Pair T T))) (es : List (Event T)) (feed : IsFeedOfPairs cmp s ns es) where
    abbrev pub At : ℕ → Copy T → Type 0
    At j c = IsAt (by_key cmp) s ns es j c

    step_at : (j : ℕ) (r : Copy T) (e : Event T) → At j r → slice_get es j ≡ Some e → replay (by_key cmp) ns (take (j + 1) es) ≡ step (by_key cmp) r.nodes e
    step_at j r e at told =
        let read = read_at es j e told in
        ap (replay (by_key cmp) ns) (take_more es j e read.0 ∙ ap (λ x. take j es ++ x ∷ []) read.1)
        ∙ replay-append (by_key cmp) ns (take j es) (e ∷ [])
        ∙ rw at.nodes (and_then_some (step (by_key cmp) r.nodes e))

    -- the awaited event is applied
    step_made : (j : ℕ) (r : Copy T) (e : Event T) → At j r → slice_get es j ≡ Some e → (after : List (List (Pair T T))) × (step (by_key cmp) r.nodes e ≡ Some after)
    step_made j r e at told =
        let all = some_held (replay (by_key cmp) ns es) feed.defined in
        let parts = ap (replay (by_key cmp) ns) (take-append-drop (j + 1) es) ∙ all.1 in
        let halves =
        then_some (replay (by_key cmp) ns (take (j + 1) es)) (λ m. replay (by_key cmp) m (drop (j + 1) es)) all.0
        (sym (replay-append (by_key cmp) ns (take (j + 1) es) (drop (j + 1) es)) ∙ parts) in
        (halves.0, sym (step_at j r e at told) ∙ halves.1)

    pub number_at : (p : ℕ) (e : Event T) → slice_get es p ≡ Some e → event_number e ≡ s + p
    number_at p e told =
        let read = read_at es p e told in
        ap event_number (sym read.1) ∙ feed.numbered p read.0 e

    step_taken : (j : ℕ) (r : Copy T) (e : Event T) → At j r → slice_get es j ≡ Some e → At (j + 1) (copy_after cmp r e)
    unfolding delivered
    step_taken j r e at told =
        let read = read_at es j e told in
        let made = step_made j r e at told in
        let number : event_number e ≡ r.next = omega (arith, number_at j e told, at.next) in
        let more : r.next < MAX = omega (arith, at.next, feed.fits, read.0) in
        let after : copy_after cmp r e ≡ copy made.0 (r.next + 1) = rw (eq-eqb (event_number e) r.next number, ne_eqb r.next MAX (λ last. omega (arith, last, more)), made.1) refl in
        subst (At (j + 1)) (sym after) (record {
          within = omega (arith, read.0);
          nodes = step_at j r e at told ∙ made.1;
          next = omega (arith, at.next);
        })

    -- it is not refused
    step_fit : (j : ℕ) (r : Copy T) (e : Event T) → At j r → slice_get es j ≡ Some e → apply_refusal (by_key cmp) r.nodes r.next e ≡ None
    step_fit j r e at told =
        let read = read_at es j e told in
        let made = step_made j r e at told in
        let number : event_number e ≡ r.next = omega (arith, number_at j e told, at.next) in
        let more : r.next < MAX = omega (arith, at.next, feed.fits, read.0) in
        misfit_refused (by_key cmp) r.nodes r.next e number (λ last. omega (arith, last, more)) ∙ step_fits (by_key cmp) r.nodes (unassigned e) made.0 made.1

    -- ---- early events

    -- the event at place p was applied, or is held early
    abbrev pub Knows : ℕ → EarlyEvents T → ℕ → Type 0
    Knows k early p = (p < k) ⊎ Among (s + p) early

    -- the events from place k on were applied, as far as they are held early without a gap
    record Caught (k : ℕ) (early : EarlyEvents T) (t : Taken T) : Type 0 where
      place : ℕ
      from : k ≤ place
      at : At place t.held
      ahead : AscendFrom (IsOneOf s es) (t.held.next + 1) t.early
      kept : (p : ℕ) → Knows k early p → Knows place t.early p
      only : (p : ℕ) → Knows place t.early p → Knows k early p

    none_caught : (k : ℕ) (c : Copy T) (early : EarlyEvents T) (answer : Reply) → At k c → AscendFrom (IsOneOf s es) (c.next + 1) early → Caught k early (taken c early answer)
    none_caught k c early answer at h = record { place = k; from = omega arith; at = at; ahead = h; kept = λ p known. known; only = λ p known. known }

    one_caught : (k : ℕ) (q : Pair ℕ (Event T)) (early : EarlyEvents T) (t : Taken T) → q.key ≡ s + k → Caught (k + 1) early t → Caught k (q ∷ early) t
    one_caught k q early t key more = record {
      place = more.place;
      from = omega (arith, more.from);
      at = more.at;
      ahead = more.ahead;
      kept = λ p known. more.kept p (on p known);
      only = λ p known. back p (more.only p known);
    }
      where
        on : (p : ℕ) → Knows k (q ∷ early) p → Knows (k + 1) early p
        on p known = elim known [
          | inl lt ↦ inl (omega (arith, lt))
          | inr here ↦ elim here [ inl eq ↦ inl (omega (arith, key, eq)) | inr there ↦ inr there ]
        ]

        back : (p : ℕ) → Knows (k + 1) early p → Knows k (q ∷ early) p
        back p known = elim known [
          | inl lt ↦ elim (side p k) [ lower less ↦ inl less | equals eq ↦ inr (inl (omega (arith, key, eq))) | higher more ↦ absurd (omega (arith, lt, more)) ]
          | inr there ↦ inr (inr there)
        ]

    caught : (k : ℕ) (c : Copy T) (early : EarlyEvents T) → At k c → AscendFrom (IsOneOf s es) c.next early → Caught k early (caught_up cmp c early)
    unfolding caught_up
    caught k c [] at h = none_caught k c [] (reply.Next c.next) at tt
    caught k c (q ∷ early) at h = by (q.key == c.next) refl (λ is. caught (k + 1) (copy_after cmp c q.value) early (step_taken k c q.value at (told is)) (rest is))
      where
        here : (q.key == c.next) ≡ true → q.key ≡ s + k
        here is = omega (arith, eqb-true q.key c.next is, at.next)

        told : (q.key == c.next) ≡ true → slice_get es k ≡ Some q.value
        told is = let place : q.key - s ≡ k = omega (arith, here is) in subst (λ i. slice_get es i ≡ Some q.value) place h.1

        rest : (q.key == c.next) ≡ true → AscendFrom (IsOneOf s es) (copy_after cmp c q.value).next early
        rest is =
            let number : q.key + 1 ≡ (copy_after cmp c q.value).next = omega (arith, here is, (step_taken k c q.value at (told is)).next) in
            subst (λ n. AscendFrom (IsOneOf s es) n early) number h.2

        by : (b : Bool) → (q.key == c.next) ≡ b → ((q.key == c.next) ≡ true → Caught (k + 1) early (caught_up cmp (copy_after cmp c q.value) early))
            → Caught k (q ∷ early)
            (if b
            then
            option_map_or (λ cause. taken c early (reply.Unfit c.next (Refused cause)))
            (apply_refusal (by_key cmp) c.nodes c.next q.value) (caught_up cmp (copy_after cmp c q.value) early)
            else taken c (q ∷ early) (reply.Next c.next))
        by true is more =
            subst (λ o.
            Caught k (q ∷ early)
            (option_map_or (λ cause. taken c early (reply.Unfit c.next (Refused cause))) o
            (caught_up cmp (copy_after cmp c q.value) early)))
            (sym (step_fit k c q.value at (told is)))
            (one_caught k q early (caught_up cmp (copy_after cmp c q.value) early) (here is) (more is))
        by false other more = none_caught k c (q ∷ early) (reply.Next c.next) at (let ne = eqb-false q.key c.next other in omega (arith, h.0, ne), h.1, h.2)

    -- the state after the event at place q, from one after the first k events
    pub record Onward (k q : ℕ) (r after : State T) : Type 0 where
      pub place : ℕ
      pub from : k ≤ place
      pub at : At place after.held
      pub ahead : HoldsAhead s es after
      pub kept : (p : ℕ) → Knows k r.early p → Knows place after.early p
      pub only : (p : ℕ) → Knows place after.early p → (q ≡ p) ⊎ Knows k r.early p
      pub came : s + q ≤ r.held.next + r.window → Knows place after.early q
      pub grown : q ≡ k → k < place

    -- the place of an applied event is less than that of the awaited event
    pub is_taken : (k p : ℕ) (c : Copy T) (early : EarlyEvents T) → At k c → AscendFrom (IsOneOf s es) (c.next + 1) early → p ≤ k → Knows k early p → p < k
    is_taken k p c early at h le known = elim known [
      | inl lt ↦ lt
      | inr there ↦ absurd (no_earlier (IsOneOf s es) (c.next + 1) (s + p) early (omega (arith, at.next, le)) h there)
    ]

    passed : (k q : ℕ) (r : State T) (answer : Reply) → At k r.held → HoldsAhead s es r → q ≢ k
        → (s + q ≤ r.held.next + r.window → Knows k r.early q)
        → Onward k q r (with_taken r (taken r.held r.early answer))
    passed k q r answer at h other known = record {
      place = k;
      from = omega arith;
      at = at;
      ahead = h;
      kept = λ p x. x;
      only = λ p x. inr x;
      came = known;
      grown = λ eq. absurd (other eq);
    }

    module _ (k q : ℕ) (r : State T) (e : Event T) (at : At k r.held) (h : HoldsAhead s es r) (told : slice_get es q ≡ Some e) where
      number : event_number e ≡ s + q
      number = number_at q e told

      is_next : q ≡ k → Onward k q r (after_event cmp r e)
      is_next eq = subst (λ t. Onward k q r (with_taken r t)) (sym chosen) onward
        where
          turn : event_number e ≡ r.held.next
          turn = omega (arith, number, at.next, eq)

          chosen : event_taken cmp r e ≡ caught_up cmp r.held (pair (event_number e) e ∷ r.early)
          chosen = rw (eq-eqb (event_number e) r.held.next turn) refl

          first : slice_get es (event_number e - s) ≡ Some e
          first = let place : q ≡ event_number e - s = omega (arith, number) in subst (λ i. slice_get es i ≡ Some e) place told

          all : Caught k (pair (event_number e) e ∷ r.early) (caught_up cmp r.held (pair (event_number e) e ∷ r.early))
          all = caught k r.held (pair (event_number e) e ∷ r.early) at (omega (arith, turn), first, subst (λ n. AscendFrom (IsOneOf s es) (n + 1) r.early) (sym turn) h)

          only : (p : ℕ) → Knows k (pair (event_number e) e ∷ r.early) p → (q ≡ p) ⊎ Knows k r.early p
          only p known = elim known [
            | inl lt ↦ inr (inl lt)
            | inr here ↦ elim here [ inl same ↦ inl (omega (arith, number, same)) | inr there ↦ inr (inr there) ]
          ]

          kept : (p : ℕ) → Knows k r.early p → Knows k (pair (event_number e) e ∷ r.early) p
          kept p known = elim known [ inl lt ↦ inl lt | inr there ↦ inr (inr there) ]

          came : Knows all.place (caught_up cmp r.held (pair (event_number e) e ∷ r.early)).early q
          came = all.kept q (inr (inl number))

          onward : Onward k q r (with_taken r (caught_up cmp r.held (pair (event_number e) e ∷ r.early)))
          onward = record {
            place = all.place;
            from = all.from;
            at = all.at;
            ahead = all.ahead;
            kept = λ p x. all.kept p (kept p x);
            only = λ p x. only p (all.only p x);
            came = λ near. came;
            grown = λ same. let lt = is_taken all.place q _ _ all.at all.ahead (omega (arith, eq, all.from)) came in omega (arith, eq, lt);
          }

      is_ahead : k < q → Onward k q r (with_taken r (ahead_taken r e))
      is_ahead lt = by (nat_le (event_number e) (r.held.next + r.window)) refl
        where
          first : slice_get es (event_number e - s) ≡ Some e
          first = let place : q ≡ event_number e - s = omega (arith, number) in subst (λ i. slice_get es i ≡ Some e) place told

          above : r.held.next + 1 ≤ event_number e
          above = omega (arith, at.next, number, lt)

          to : (p : ℕ) → (q ≡ p) ⊎ Knows k r.early p → Knows k (with_early r.early e) p
          to p x = elim x [
            | inl same ↦ inr (put_among (IsOneOf s es) (r.held.next + 1) (event_number e) (s + p) e r.early h (inl (omega (arith, number, same))))
            | inr known ↦ elim known [ inl less ↦ inl less | inr there ↦ inr (put_among (IsOneOf s es) (r.held.next + 1) (event_number e) (s + p) e r.early h (inr there)) ]
          ]

          back : (p : ℕ) → Knows k (with_early r.early e) p → (q ≡ p) ⊎ Knows k r.early p
          back p known = elim known [
            | inl less ↦ inr (inl less)
            | inr there ↦ elim (among_put (IsOneOf s es) (r.held.next + 1) (event_number e) (s + p) e r.early h there) [ inl same ↦ inl (omega (arith, number, same)) | inr was ↦ inr (inr was) ]
          ]

          by : (b : Bool) → nat_le (event_number e) (r.held.next + r.window) ≡ b
              → Onward k q r
              (with_taken r
              (if b
              then
              taken r.held (with_early r.early e)
              (reply.Missing r.held.next (first_number (with_early r.early e) (event_number e)))
              else taken r.held r.early (reply.Gap r.held.next)))
          by true near = record {
            place = k;
            from = omega arith;
            at = at;
            ahead = put_ahead (IsOneOf s es) (r.held.next + 1) (event_number e) e r.early above first h;
            kept = λ p x. to p (inr x);
            only = back;
            came = λ within. to q (inl refl);
            grown = λ same. absurd (omega (arith, lt, same));
          }
          by false far =
              passed k q r (reply.Gap r.held.next) at h (λ same. omega (arith, lt, same))
              (λ within. let lt = leb-false (event_number e) (r.held.next + r.window) far in
              absurd (omega (arith, lt, within, number)))

      pub onward : Onward k q r (after_event cmp r e)
      onward =
          elim (side q k) [
            | equals eq ↦ is_next eq
            | lower lt ↦
                let other : event_number e ≢ r.held.next = λ eq. omega (arith, number, at.next, lt, eq) in
                let chosen : event_taken cmp r e ≡ taken r.held r.early (reply.Had r.held.next) =
                rw (
                  ne_eqb (event_number e) r.held.next other,
                  lt-ltb (event_number e) r.held.next (omega (arith, number, at.next, lt)),
                )
                refl in
                subst (λ t. Onward k q r (with_taken r t)) (sym chosen) (passed k q r (reply.Had r.held.next) at h (λ eq. omega (arith, lt, eq)) (λ within. inl lt))
            | higher gt ↦
                let other : event_number e ≢ r.held.next = λ eq. omega (arith, number, at.next, gt, eq) in
                let chosen : event_taken cmp r e ≡ ahead_taken r e = rw (ne_eqb (event_number e) r.held.next other, le-ltb (event_number e) r.held.next (omega (arith, number, at.next, gt))) refl in
                subst (λ t. Onward k q r (with_taken r t)) (sym chosen) (is_ahead gt)
          ]
