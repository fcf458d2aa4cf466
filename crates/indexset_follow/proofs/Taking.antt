-- The effect of an event on a follower, and ranges whose bounds are out of order.
use Rattle.std.proofs.Common.{Result, Ok, Err, OnOk, IfOk, Option, None, Some, ◌≡◌, ◌≢◌, ◌==◌}
use Rattle.std.proofs.Common.{ℕ, ◌+◌, ◌&&◌, Bool, true, false, if◌then◌else◌, nat_lt, List}
use Rattle.std.proofs.Common.{[], ◌∷◌, slice_get, unwrap_or, refl, sym, ap, ◌∙◌, true≢false}
use Rattle.std.below.core.specs.declared.int.u64.TheConstants.{MAX}
use Rattle.std.proofs.lemmas.Bool.{eq-eqb, eqb-true, ne_eqb, not-false}
use Rattle.std.specs.Option.{option_map}
use Rattle.std.specs.Ordering.{is_ge, is_gt, is_le, ordering_reverse}
use Rattle.std.specs.Cmp.{IsTotalOrder, upto}
use Rattle.std.specs.declared.cmp.Ordering.{Ordering}
use Rattle.std.specs.declared.cmp.Ordering.TheVariants.{Less, Equal, Greater}
use Rattle.std.specs.declared.ops.Bound.TheVariants.{Included}
use Rattle.indexset_core.specs.KeyRange.{is_within}
use Rattle.indexset_core.specs.Pairs.{by_key, pair}
use Rattle.indexset_core.specs.declared.pair.Pair.{Pair}
use Rattle.indexset_core.specs.declared.refusal.Refusal.{Refusal}
use Rattle.indexset_core.specs.declared.refusal.Refusal.TheVariants.{Gap, Memory, Numbers}
use Rattle.indexset_events.specs.Replay.{event_number, step, unassigned}
use Rattle.indexset_replica.specs.Delivery.{delivered, delivery_of}
use Rattle.indexset_replica.specs.Replica.{apply_refusal, misfit}
use Rattle.indexset_replica.proofs.CallerLemmas.{applied_fits}
use Rattle.indexset_replica.specs.declared.delivery.Delivery.TheVariants.{Applied, Duplicate}
use Rattle.indexset_replica.specs.declared.delivery.Delivery.TheVariants as delivery
use Rattle.indexset_follow.specs.EventLine.{Event}
use Rattle.indexset_follow.specs.Copy.{Copy}
use Rattle.indexset_follow.specs.Early.{EarlyEvents, Taken, caught_up, copy_after, taken}
use Rattle.indexset_follow.specs.Follow.{State, event_taken, with_taken}
use Rattle.indexset_follow.specs.declared.reason.Reason.TheVariants.{Refused}
use Rattle.indexset_follow.specs.Reads.{keys_from}
use Rattle.indexset_lines.specs.declared.fault.RunFault.{RunFault}
use Rattle.indexset_follow.specs.declared.reply.Reply.{Reply}
use Rattle.indexset_follow.specs.declared.reply.Reply.TheVariants as reply

-- ---- clones

-- a clone of a pair is identical to it if clones of its key and its value are
pub pair_identical : {K : Type 0} {C : K → K → Type 0} → ((x y : K) → C x y → y ≡ x) → (p q : Pair K K) → C p.key q.key × C p.value q.value → q ≡ p
pair_identical same p q cloned i = record { key = same p.key q.key cloned.0 i; value = same p.value q.value cloned.1 i }

-- ---- what becomes of an event, and its number

chosen_applied : (b c : Bool) → (if b then Applied else if c then Duplicate else delivery.Gap) ≡ Applied → b ≡ true
chosen_applied true c e = refl
chosen_applied false true e = absurd (cc)
chosen_applied false false e = absurd (cc)

-- ---- the awaited event

else_none : (b : Bool) (x : Refusal) (o : Option Refusal) → (if b then Some x else o) ≡ None → (b ≡ false) × (o ≡ None)
else_none true x o e = absurd (cc)
else_none false x o e = (refl, e)

module _ {T : Type 0} (cmp : T → T → Ordering) where
  delivered_new : (r new : Copy T) (e : Event T) → apply_refusal (by_key cmp) r.nodes r.next e ≡ None
      → step (by_key cmp) r.nodes e ≡ Some new.nodes → new.next ≡ r.next + 1 → delivered (by_key cmp) r e ≡ Some new
  unfolding delivered apply_refusal
  delivered_new r new e fits made next =
      let number = else_none _ Gap (if r.next == MAX then Some Numbers else misfit (by_key cmp) r.nodes (unassigned e)) fits in
      let more = else_none (r.next == MAX) Numbers (misfit (by_key cmp) r.nodes (unassigned e)) number.1 in
      rw (not-false _ number.0, more.0, made, ← next) refl

  module _ (r : Copy T) (e : Event T) (early : EarlyEvents T) where
    -- one that applies is followed by the early events after it
    pub one_taken : (new : Copy T) → apply_refusal (by_key cmp) r.nodes r.next e ≡ None
        → step (by_key cmp) r.nodes e ≡ Some new.nodes → new.next ≡ r.next + 1
        → caught_up cmp r (pair r.next e ∷ early) ≡ caught_up cmp new early
    unfolding caught_up
    one_taken new fits made next =
        let held : copy_after cmp r e ≡ new = ap (λ o. unwrap_or o r) (delivered_new r new e fits made next) in
        rw (eq-eqb r.next r.next refl, fits, held) refl

    -- one that does not apply is dropped
    pub one_refused : (cause : Refusal) → cause ≡ unwrap_or (apply_refusal (by_key cmp) r.nodes r.next e) Memory
        → cause ≢ Memory → caught_up cmp r (pair r.next e ∷ early) ≡ taken r early (reply.Unfit r.next (Refused cause))
    unfolding caught_up
    one_refused cause refused other = rw (eq-eqb r.next r.next refl, some_cause (apply_refusal (by_key cmp) r.nodes r.next e) refused) refl
      where
        some_cause : (o : Option Refusal) → cause ≡ unwrap_or o Memory → o ≡ Some cause
        some_cause None is = absurd (other is)
        some_cause (Some c) is = sym (ap Some is)

    -- the reply to one that does not apply
    pub refused_reply : (t : Taken T) → t ≡ caught_up cmp r (pair r.next e ∷ early) → (cause : Refusal)
        → cause ≡ unwrap_or (apply_refusal (by_key cmp) r.nodes r.next e) Memory
        → (o : Result Reply RunFault) (next : ℕ) → next ≡ r.next → OnOk o (cause ≢ Memory)
        → IfOk o (λ x. x ≡ reply.Unfit next (Refused cause)) → (new : Copy T) → new ≡ r
        → IfOk o (λ x. t ≡ taken new early x)
    refused_reply t from cause refused (Ok x) next same other is new still =
        from ∙ one_refused cause refused other
        ∙ (λ i. taken (sym still i) early ((ap (λ n. reply.Unfit n (Refused cause)) (sym same) ∙ sym is) i))
    refused_reply t from cause refused (Err fault) next same other is new still = tt

  -- the same for the first early event, if it is awaited
  pub first_taken : (r new : Copy T) (early rest : EarlyEvents T) (n : ℕ) (e : Event T) (all : Taken T) → all ≡ caught_up cmp r early → early ≡ pair n e ∷ rest → n ≡ r.next
      → apply_refusal (by_key cmp) r.nodes r.next e ≡ None → step (by_key cmp) r.nodes e ≡ Some new.nodes → new.next ≡ r.next + 1 → all ≡ caught_up cmp new rest
  first_taken r new early rest n e all from first here fits made next =
      from ∙ ap (caught_up cmp r) first ∙ ap (λ n. caught_up cmp r (pair n e ∷ rest)) here ∙ one_taken r e rest new fits made next

module _ {T : Type 0} (cmp : T → T → Ordering) (s : State T) (e : Event T) where
  -- the awaited event
  pub is_next : event_number e ≡ s.held.next → event_taken cmp s e ≡ caught_up cmp s.held (pair s.held.next e ∷ s.early)
  is_next number =
      let chosen : event_taken cmp s e ≡ caught_up cmp s.held (pair (event_number e) e ∷ s.early) = rw (eq-eqb (event_number e) s.held.next number) refl in
      chosen ∙ ap (λ n. caught_up cmp s.held (pair n e ∷ s.early)) number

  -- what was offered and is applied
  pub offer_applied : (new : Copy T) → Applied ≡ delivery_of s.held.next (event_number e) → delivered (by_key cmp) s.held e ≡ Some new
      → event_taken cmp s e ≡ caught_up cmp new s.early
  unfolding caught_up
  offer_applied new is made =
      let number = eqb-true (event_number e) s.held.next (chosen_applied _ (nat_lt (event_number e) s.held.next) (sym is)) in
      let held : copy_after cmp s.held e ≡ new = ap (λ o. unwrap_or o s.held) made in
      is_next number ∙ rw (eq-eqb s.held.next s.held.next refl, applied_fits (by_key cmp) s.held new e number made, held) refl

module _ {T : Type 0} where
  -- the result of a call is the follower's new state and its reply
  module _ (t u : Taken T) (from : t ≡ u) (c : Copy T) (early : EarlyEvents T) where
    pub reply_by : (o : Result Reply RunFault) → IfOk o (λ x. u ≡ taken c early x) → IfOk o (λ x. x ≡ t.reply)
    reply_by (Ok x) is = ap (λ v. v.reply) (sym (from ∙ is))
    reply_by (Err fault) is = tt

    pub held_by : (s : State T) (o : Result Reply RunFault) → IfOk o (λ x. u ≡ taken c early x) → OnOk o (with_taken s (taken c early reply.Held) ≡ with_taken s t)
    held_by s (Ok x) is = ap (λ v. with_taken s (taken v.held v.early reply.Held)) (sym (from ∙ is))
    held_by s (Err fault) is = tt

module _ {T : Type 0} (cmp : T → T → Ordering) where
  -- the first early event is not awaited
  pub none_due : (c : Copy T) (early : EarlyEvents T) → option_map (λ p. p.key) (slice_get early 0) ≢ Some c.next → caught_up cmp c early ≡ taken c early (reply.Next c.next)
  unfolding caught_up
  none_due c [] other = refl
  none_due c (p ∷ early) other = rw (ne_eqb p.key c.next (λ same. other (ap Some same))) refl

-- ---- a range

le_not_gt : (o : Ordering) → is_le o ≡ true → is_gt o ≡ false
le_not_gt Less e = refl
le_not_gt Equal e = refl
le_not_gt Greater e = absurd (cc)

ge_turned : (o p : Ordering) → is_ge o ≡ true → p ≡ ordering_reverse o → is_gt p ≡ false
ge_turned Less p e turned = absurd (cc)
ge_turned Equal p e turned = ap is_gt turned
ge_turned Greater p e turned = ap is_gt turned

module _ {T : Type 0} (cmp : T → T → Ordering) where
  -- no pair is within bounds that are out of order
  pub none_within : IsTotalOrder cmp → (low high : T) → cmp low high ≡ Greater → (ps : List (Pair T T)) → keys_from cmp ps low high ≡ []
  none_within total low high back [] = refl
  none_within total low high back (p ∷ ps) = rw (outside p) (none_within total low high back ps)
    where
      outside : (p : Pair T T) → is_within cmp (Included low) (Included high) p.key ≡ false
      outside p = at (is_ge (cmp p.key low)) (is_le (cmp p.key high)) refl refl
        where
          at : (a b : Bool) → is_ge (cmp p.key low) ≡ a → is_le (cmp p.key high) ≡ b → (a && b) ≡ false
          at false b from to = refl
          at true false from to = refl
          at true true from to =
              let first = ge_turned (cmp p.key low) (cmp low p.key) from (total.antisymm low p.key) in
              let last = le_not_gt (cmp p.key high) to in
              absurd (true≢false (sym (ap is_gt back) ∙ upto total low p.key high first last))
