-- Events that come before the awaited one, and their effect once they are awaited.
use Rattle.std.specs.Prelude.{ℕ, ◌+◌, ◌≤◌, ◌==◌, if◌then◌else◌, List, [], ◌∷◌, slice_get, unwrap_or}
use Rattle.std.specs.Option.{option_map_or}
use Rattle.std.specs.Ordering.{nat_cmp}
use Rattle.indexset_core.specs.Pairs.{by_key, put_value}
use Rattle.indexset_core.specs.declared.pair.Pair.{Pair}
use Rattle.indexset_events.specs.Replay.{event_number}
use Rattle.indexset_replica.specs.Delivery.{delivered}
use Rattle.indexset_replica.specs.Replica.{apply_refusal}
use Rattle.indexset_follow.specs.Copy.{Copy}
use Rattle.indexset_follow.specs.EventLine.{Event}
use Rattle.indexset_follow.specs.declared.reason.Reason.TheVariants.{Refused}
use Rattle.indexset_follow.specs.declared.reply.Reply.{Reply}
use Rattle.indexset_follow.specs.declared.reply.Reply.TheVariants as reply
use Rattle.std.specs.declared.cmp.Ordering.{Ordering}

-- events with their numbers, in ascending order
abbrev pub EarlyEvents : Type 0 → Type 0
EarlyEvents T = List (Pair ℕ (Event T))

module _ {T : Type 0} where
  -- each has the property, and the numbers ascend from n on
  abbrev pub AscendFrom : (Pair ℕ (Event T) → Type 0) → ℕ → EarlyEvents T → Type 0
  AscendFrom Q n [] = Unit {0}
  AscendFrom Q n (p ∷ early) = (n ≤ p.key) × Q p × AscendFrom Q (p.key + 1) early

  -- the event is inserted, or replaces that of the same number
  abbrev pub with_early : EarlyEvents T → Event T → EarlyEvents T
  with_early early e = put_value nat_cmp early (event_number e) e

  -- the least number, or n if there is none
  abbrev pub first_number : EarlyEvents T → ℕ → ℕ
  first_number early n = option_map_or (λ p. p.key) (slice_get early 0) n

module _ {T : Type 0} (cmp : T → T → Ordering) where
  -- the awaited event is applied if it applies; any other event changes nothing
  abbrev pub copy_after : Copy T → Event T → Copy T
  copy_after c e = unwrap_or (delivered (by_key cmp) c e) c

-- the nodes and the awaited number, the early events, and the reply
pub record Taken (T : Type 0) : Type 0 where
  pub held : Copy T
  pub early : EarlyEvents T
  pub reply : Reply

module _ {T : Type 0} where
  abbrev pub taken : Copy T → EarlyEvents T → Reply → Taken T
  taken c early r = record { held = c; early = early; reply = r }

module _ {T : Type 0} (cmp : T → T → Ordering) where
  -- the events are applied one after another while the first is the awaited one; one that does not
  -- apply is dropped, and ends this
  unfoldable pub caught_up : Copy T → EarlyEvents T → Taken T
  caught_up c [] = taken c [] (reply.Next c.next)
  caught_up c (p ∷ early) =
      if p.key == c.next
      then option_map_or (λ cause. taken c early (reply.Unfit c.next (Refused cause)))
      (apply_refusal (by_key cmp) c.nodes c.next p.value)
      (caught_up (copy_after cmp c p.value) early)
      else taken c (p ∷ early) (reply.Next c.next)

module _ {T : Type 0} where
  -- the first events as long as their numbers are consecutive from n on
  abbrev pub consecutive : ℕ → EarlyEvents T → List (Event T)
  consecutive n [] = []
  consecutive n (p ∷ early) = if p.key == n then p.value ∷ consecutive (n + 1) early else []
