-- A replica after events that are delivered with losses, repeats and in any order.
use Rattle.std.specs.Prelude.{◌≡◌, ◌≢◌, ℕ, ◌+◌, ◌-◌, ◌≤◌, ◌==◌, ◌⊎◌, ⊤, zero, suc, true}
use Rattle.std.specs.Prelude.{is_some, if◌then◌else◌, nat_lt, Option, Some, None, unwrap_or}
use Rattle.std.specs.Prelude.{IsSomeAnd, filter_map, slice_get, List, [], ◌∷◌, length, take}
use Rattle.std.below.core.specs.declared.int.u64.TheConstants.{MAX}
use Rattle.std.specs.Option.{option_map, option_and_then}
use Rattle.std.specs.declared.cmp.Ordering.{Ordering}
use Rattle.indexset_core.specs.declared.refusal.Refusal.{Refusal}
use Rattle.indexset_core.specs.declared.refusal.Refusal.TheVariants.{Memory}
use Rattle.indexset_events.specs.Replay.{event_number, replay, step, unassigned, IsNumberedFrom}
use Rattle.indexset_events.specs.declared.change.ChangeEvent.{ChangeEvent}
use Rattle.indexset_replica.specs.Copies.{AreCopies}
use Rattle.indexset_replica.specs.Replica.{IsClonedStep, ReplicaState, apply_refusal}
use Rattle.indexset_replica.specs.declared.delivery.Delivery.{Delivery}
use Rattle.indexset_replica.specs.declared.delivery.Delivery.TheVariants.{Applied, Duplicate, Gap}

-- xs is a subsequence of ys
abbrev pub IsSubsequence : {A : Type 0} → List A → List A → Type 0
IsSubsequence [] ys = ⊤
IsSubsequence (x ∷ xs) [] = ⊥
IsSubsequence (x ∷ xs) (y ∷ ys) = ((x ≡ y) × IsSubsequence xs ys) ⊎ IsSubsequence (x ∷ xs) ys

-- the n numbers from j on
abbrev pub numbers_from : ℕ → ℕ → List ℕ
numbers_from j zero = []
numbers_from j (suc n) = j ∷ numbers_from (j + 1) n

-- m is the greatest number from j on for which j, j + 1, .. m - 1 occur among the numbers in this
-- order
pub record IsDeliveredUpTo (j : ℕ) (numbers : List ℕ) (m : ℕ) : Type 0 where
  pub from : j ≤ m
  pub came : IsSubsequence (numbers_from j (m - j)) numbers
  pub greatest : (n : ℕ) → j ≤ n → IsSubsequence (numbers_from j (n - j)) numbers → n ≤ m

-- the number expected after an event of number n was offered to a replica that expects m
abbrev pub awaited : ℕ → ℕ → ℕ
awaited m n = if n == m then m + 1 else m

-- what becomes of an event of number n that is offered to a replica that expects m
abbrev pub delivery_of : ℕ → ℕ → Delivery
delivery_of m n = if n == m then Applied else if nat_lt n m then Duplicate else Gap

-- the events at these places of a list, in the order of the places
abbrev pub events_at : {T : Type 0} → List (ChangeEvent T) → List ℕ → List (ChangeEvent T)
events_at es order = filter_map (slice_get es) order

module _ {T : Type 0} (cmp : T → T → Ordering) where
  -- the replica after an event: unchanged if the event is not the next, and none if it does not
  -- apply
  unfoldable pub delivered : ReplicaState T → ChangeEvent T → Option (ReplicaState T)
  delivered r e =
      if event_number e == r.next
      then
      (if r.next == MAX then None
      else option_map (λ ns. record { nodes = ns; next = r.next + 1 }) (step cmp r.nodes e))
      else Some r

  -- the replica after these events were offered to it, in order
  abbrev pub offered : ReplicaState T → List (ChangeEvent T) → Option (ReplicaState T)
  offered r [] = Some r
  offered r (e ∷ es) = option_and_then (λ q. offered q es) (delivered r e)

  -- the same, with an equal clone in the place of the item that an event adds
  module _ (C : T → T → Type 0) where
    -- q is the replica r after the event e, up to an equal clone of the item that it adds
    abbrev pub IsDelivery : ReplicaState T → ChangeEvent T → ReplicaState T → Type 0
    IsDelivery r e q =
        ((event_number e ≢ r.next) × (q ≡ r))
        ⊎ ((event_number e ≡ r.next) × (r.next ≢ MAX) × (q.next ≡ r.next + 1)
        × IsClonedStep cmp C r.nodes (unassigned e) q.nodes)

    -- q is the replica r after these events were offered to it, in order, up to equal clones of the
    -- items that they add
    abbrev pub IsOffered : ReplicaState T → List (ChangeEvent T) → ReplicaState T → Type 0
    IsOffered r [] q = q ≡ r
    IsOffered r (e ∷ es) q = (s : ReplicaState T) × IsDelivery r e s × IsOffered s es q

  -- the event is the one that the replica expects, and fails with this error: `Memory` if no other
  -- applies
  abbrev pub FailsWith : ReplicaState T → ChangeEvent T → Refusal → Type 0
  FailsWith r e cause =
      (event_number e ≡ r.next) × (cause ≡ unwrap_or (apply_refusal cmp r.nodes r.next e) Memory)

  -- one of the events that were offered failed with this error, and the replica is as after those
  -- before it
  pub record HasStopped (C : T → T → Type 0) (old : ReplicaState T) (es : List (ChangeEvent T))
      (cause : Refusal) (new : ReplicaState T) : Type 0 where
    pub count : ℕ
    pub before : IsOffered C old (take count es) new
    pub at : IsSomeAnd (slice_get es count) (λ e. FailsWith new e cause)

  -- the events are numbered from s, they apply to the nodes ns in order, and a number remains after
  -- them
  pub record IsEventLog (s : ℕ) (ns : List (List T)) (es : List (ChangeEvent T)) : Type 0 where
    pub numbered : IsNumberedFrom s es
    pub defined : is_some (replay cmp ns es) ≡ true
    pub fits : s + length es ≤ MAX

  -- the replica has the nodes after the first j events, and expects the event after them
  pub record IsAt (s : ℕ) (ns : List (List T)) (es : List (ChangeEvent T)) (j : ℕ)
      (r : ReplicaState T) : Type 0 where
    pub within : j ≤ length es
    pub nodes : replay cmp ns (take j es) ≡ Some r.nodes
    pub next : r.next ≡ s + j

  -- the replica has the nodes after a prefix of the events, and expects the event after it
  abbrev pub IsPrefix : ℕ → List (List T) → List (ChangeEvent T) → ReplicaState T → Type 0
  IsPrefix s ns es r = IsAt s ns es (r.next - s) r

  -- the replica has the nodes after all events, and expects the event after them
  pub record IsCaughtUp (s : ℕ) (ns : List (List T)) (es : List (ChangeEvent T))
      (r : ReplicaState T) : Type 0 where
    pub nodes : replay cmp ns es ≡ Some r.nodes
    pub next : r.next ≡ s + length es

  module _ (C : T → T → Type 0) where
    -- the replica q has copies of the nodes of r, and expects the same event
    pub record IsAlike (r q : ReplicaState T) : Type 0 where
      pub nodes : AreCopies cmp C r.nodes q.nodes
      pub next : q.next ≡ r.next

    -- the replica has copies of the nodes after a prefix of the events, and expects the event after
    -- it
    abbrev pub CopiesPrefix : ℕ → List (List T) → List (ChangeEvent T) → ReplicaState T → Type 0
    CopiesPrefix s ns es q = (r : ReplicaState T) × IsPrefix s ns es r × IsAlike r q

    -- the replica has copies of the nodes after all events, and expects the event after them
    abbrev pub CopiesAll : ℕ → List (List T) → List (ChangeEvent T) → ReplicaState T → Type 0
    CopiesAll s ns es q = (r : ReplicaState T) × IsCaughtUp s ns es r × IsAlike r q

  -- the replica has the nodes after the longest prefix of which the events from j on were delivered
  -- in order
  abbrev pub IsDelivered : ℕ → List (List T) → List (ChangeEvent T) → ℕ → List ℕ
      → ReplicaState T → Type 0
  IsDelivered s ns es j order r = (m : ℕ) → IsDeliveredUpTo j order m → IsAt s ns es m r
