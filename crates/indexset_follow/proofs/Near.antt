-- The early events are at most as many as the window.
use Rattle.std.proofs.Common.{◌≡◌, ℕ, ◌+◌, ◌≤◌, ◌==◌, Bool, true, false, if◌then◌else◌, List, [], ◌∷◌, length, Option, None, Some, option_map, refl, sym, subst, arith}
use Rattle.std.below.core.specs.declared.int.u64.TheConstants.{MAX}
use Rattle.std.proofs.lemmas.Bool.{eqb-false, eqb-true, leb-true, ltb-false}
use Rattle.std.specs.Option.{option_map_or}
use Rattle.std.specs.Prelude.{is_none, nat_le, nat_lt, unwrap_or}
use Rattle.indexset_lines.specs.Run.{left_by}
use Rattle.indexset_core.specs.Pairs.{by_key, pair}
use Rattle.indexset_core.specs.declared.pair.Pair.{Pair}
use Rattle.indexset_core.specs.declared.refusal.Refusal.{Refusal}
use Rattle.indexset_events.specs.Replay.{event_number, step}
use Rattle.indexset_replica.specs.Delivery.{delivered}
use Rattle.indexset_replica.specs.Replica.{apply_refusal}
use Rattle.indexset_follow.specs.Copy.{Copy, copy}
use Rattle.indexset_follow.specs.Early.{AscendFrom, EarlyEvents, Taken, caught_up, copy_after, first_number, taken, with_early}
use Rattle.indexset_follow.specs.EventLine.{Event, event_of}
use Rattle.indexset_follow.specs.Mark.{mark_of}
use Rattle.indexset_follow.specs.NodeLine.{node_of}
use Rattle.indexset_follow.specs.declared.mark.Mark.{Mark}
use Rattle.indexset_follow.specs.declared.mark.Mark.TheVariants.{Start, End, Done}
use Rattle.indexset_follow.specs.Follow.{HoldsNear, State, after_event, after_line, after_mark, after_node, end_reason, event_taken, holding, put_in_place, state_after, with_coming, with_done}
use Rattle.indexset_follow.specs.declared.reason.Reason.TheVariants.{Refused}
use Rattle.indexset_follow.specs.declared.reply.Reply.{Reply}
use Rattle.indexset_follow.specs.declared.reply.Reply.TheVariants as reply
use Rattle.indexset_follow.proofs.Ahead.{ascend_weaker, put_ahead}
use Rattle.std.specs.declared.cmp.Ordering.{Ordering}
use Rattle.indexset_wire.specs.Texts.{Texts}

module _ {T : Type 0} where
  -- their numbers are between two
  abbrev Between : ℕ → ℕ → EarlyEvents T → Type 0
  Between n m early = AscendFrom (λ p. p.key ≤ m) n early

  between_more : (n m k : ℕ) (early : EarlyEvents T) → m ≤ k → Between n m early → Between n k early
  between_more n m k [] le h = tt
  between_more n m k (p ∷ early) le h = (h.0, omega (arith, le, h.1), between_more (p.key + 1) m k early le h.2)

  pub few : (n m : ℕ) (early : EarlyEvents T) → n ≤ m + 1 → Between n m early → n + length early ≤ m + 1
  few n m [] le h = omega (arith, le)
  few n m (p ∷ early) le h = let rest = few (p.key + 1) m early (omega (arith, h.1)) h.2 in omega (arith, h.0, rest)

module _ {T : Type 0} (cmp : T → T → Ordering) where
  -- an applied event increases the awaited number by one, another event leaves it
  next_after : (c : Copy T) (e : Event T) → (c.next ≤ (copy_after cmp c e).next) × ((copy_after cmp c e).next ≤ c.next + 1)
  unfolding delivered
  next_after c e = at (event_number e == c.next) (c.next == MAX) (step (by_key cmp) c.nodes e)
    where
      at : (b d : Bool) (o : Option (List (List (Pair T T))))
          → (c.next ≤ (unwrap_or (if b then (if d then None else option_map {U = Copy T} (λ ns. copy ns (c.next + 1)) o) else Some c) c).next)
          × ((unwrap_or (if b then (if d then None else option_map {U = Copy T} (λ ns. copy ns (c.next + 1)) o) else Some c) c).next ≤ c.next + 1)
      at true true o = (omega arith, omega arith)
      at true false None = (omega arith, omega arith)
      at true false (Some ns) = (omega arith, omega arith)
      at false d o = (omega arith, omega arith)

module _ {T : Type 0} where
  -- the early events after those that were applied
  record Behind (n m : ℕ) (t : Taken T) : Type 0 where
    on : n ≤ t.held.next
    between : Between (t.held.next + 1) m t.early

module _ {T : Type 0} (cmp : T → T → Ordering) where
  caught_between : (m : ℕ) (c : Copy T) (early : EarlyEvents T) → Between c.next m early → Behind c.next m (caught_up cmp c early)
  unfolding caught_up
  caught_between m c [] h = record { on = omega arith; between = tt }
  caught_between m c (p ∷ early) h =
      let after = next_after cmp c p.value in
      by (p.key == c.next) refl (apply_refusal (by_key cmp) c.nodes c.next p.value)
      (λ same. caught_between m (copy_after cmp c p.value) early (ascend_weaker (λ q. q.key ≤ m) (p.key + 1) (copy_after cmp c p.value).next early (omega (arith, same, after.1)) h.2))
    where
      by : (b : Bool) → (p.key == c.next) ≡ b → (o : Option Refusal) → (p.key ≡ c.next → Behind (copy_after cmp c p.value).next m (caught_up cmp (copy_after cmp c p.value) early))
          → Behind c.next m
          (if b
          then
          option_map_or (λ cause. taken c early (reply.Unfit c.next (Refused cause))) o
          (caught_up cmp (copy_after cmp c p.value) early)
          else taken c (p ∷ early) (reply.Next c.next))
      by true is None more = let rest = more (eqb-true p.key c.next is) in record { on = omega (arith, rest.on, (next_after cmp c p.value).0); between = rest.between }
      by true is (Some cause) more = record { on = omega arith; between = ascend_weaker (λ q. q.key ≤ m) (p.key + 1) (c.next + 1) early (omega (arith, eqb-true p.key c.next is)) h.2 }
      by false other o more = record { on = omega arith; between = (let ne = eqb-false p.key c.next other in omega (arith, h.0, ne), h.1, h.2) }

  -- the awaited number never decreases
  caught_on : (c : Copy T) (early : EarlyEvents T) → c.next ≤ (caught_up cmp c early).held.next
  unfolding caught_up
  caught_on c [] = omega arith
  caught_on c (p ∷ early) = by (p.key == c.next) (apply_refusal (by_key cmp) c.nodes c.next p.value) (caught_on (copy_after cmp c p.value) early)
    where
      by : (b : Bool) (o : Option Refusal) → (copy_after cmp c p.value).next ≤ (caught_up cmp (copy_after cmp c p.value) early).held.next
          → c.next
          ≤ (if b
          then
          option_map_or (λ cause. taken c early (reply.Unfit c.next (Refused cause))) o
          (caught_up cmp (copy_after cmp c p.value) early)
          else taken c (p ∷ early) (reply.Next c.next)).held.next
      by true None more = omega (arith, (next_after cmp c p.value).0, more)
      by true (Some cause) more = omega arith
      by false o more = omega arith

  pub awaits_on : (s : State T) (e : Event T) → s.held.next ≤ (after_event cmp s e).held.next
  awaits_on s e = at (event_number e == s.held.next) (nat_lt (event_number e) s.held.next) (nat_le (event_number e) (s.held.next + s.window))
    where
      at : (a b d : Bool)
          → s.held.next
          ≤ (if a then caught_up cmp s.held (pair (event_number e) e ∷ s.early) else if b
          then taken s.held s.early (reply.Had s.held.next) else if d
          then
          taken s.held (with_early s.early e)
          (reply.Missing s.held.next (first_number (with_early s.early e) (event_number e)))
          else taken s.held s.early (reply.Gap s.held.next)).held.next
      at true b d = caught_on s.held (pair (event_number e) e ∷ s.early)
      at false true d = omega arith
      at false false true = omega arith
      at false false false = omega arith

module _ {T : Type 0} (cmp : T → T → Ordering) (texts : Texts T) where
  module _ (s : State T) (e : Event T) (h : HoldsNear s) where
    same_behind : (answer : Reply) → Behind s.held.next (s.held.next + s.window) (taken s.held s.early answer)
    same_behind answer = record { on = omega arith; between = h }

    behind : Behind s.held.next (s.held.next + s.window) (event_taken cmp s e)
    behind = at (event_number e == s.held.next) refl (nat_lt (event_number e) s.held.next) refl (nat_le (event_number e) (s.held.next + s.window)) refl
      where
        at : (a : Bool) → (event_number e == s.held.next) ≡ a → (b : Bool) → nat_lt (event_number e) s.held.next ≡ b → (d : Bool) → nat_le (event_number e) (s.held.next + s.window) ≡ d
            → Behind s.held.next (s.held.next + s.window)
            (if a then caught_up cmp s.held (pair (event_number e) e ∷ s.early) else if b
            then taken s.held s.early (reply.Had s.held.next) else if d
            then
            taken s.held (with_early s.early e)
            (reply.Missing s.held.next (first_number (with_early s.early e) (event_number e)))
            else taken s.held s.early (reply.Gap s.held.next))
        at true is b less d near =
            caught_between cmp (s.held.next + s.window) s.held (pair (event_number e) e ∷ s.early)
            (let same = eqb-true (event_number e) s.held.next is in (
              omega (arith, same),
              omega (arith, same),
              subst (λ n. Between (n + 1) (s.held.next + s.window) s.early) (sym same) h,
            ))
        at false other true less d near = same_behind (reply.Had s.held.next)
        at false other false more true near = record {
          on = omega arith;
          between =
              put_ahead (λ q. q.key ≤ s.held.next + s.window) (s.held.next + 1) (event_number e) e s.early
              (let ne = eqb-false (event_number e) s.held.next other in
              omega (arith, ne, ltb-false (event_number e) s.held.next more))
              (leb-true (event_number e) (s.held.next + s.window) near) h;
        }
        at false other false more false far = same_behind (reply.Gap s.held.next)

    pub near_after : HoldsNear (after_event cmp s e)
    near_after =
        between_more ((event_taken cmp s e).held.next + 1) (s.held.next + s.window)
        ((event_taken cmp s e).held.next + s.window) (event_taken cmp s e).early (omega (arith, behind.on))
        behind.between

  -- ---- lines

  line_near : (s : State T) (line : List ℕ) → HoldsNear s → HoldsNear (after_line cmp texts s line)
  line_near s line h = at (event_of texts line) (node_of texts line) (mark_of line)
    where
      whole : (count : ℕ) (sum : Option ℕ) (c : Copy T) (b : Bool) → HoldsNear (if b then holding s.window c s.coming_done else with_coming s None 0)
      whole count sum c true = tt
      whole count sum c false = h

      ended : (count : ℕ) (sum : Option ℕ) (o : Option (Copy T)) → HoldsNear (option_map_or (put_in_place texts count sum s) o s)
      ended count sum None = h
      ended count sum (Some c) = whole count sum c (is_none (end_reason texts count sum c s.coming_done))

      told : (d : ℕ) (b : Bool) → HoldsNear (if b then s else with_done s d)
      told d true = h
      told d false = h

      at : (e : Option (Event T)) (n : Option (List (Pair T T))) (m : Option Mark)
          → HoldsNear (option_map_or {U = State T} (after_event cmp s) e (option_map_or (after_node cmp s) n (option_map_or (after_mark texts s) m s)))
      at (Some e) n m = near_after s e h
      at None (Some n) m = h
      at None None None = h
      at None None (Some (Start n d)) = h
      at None None (Some (End count sum)) = ended count sum s.coming
      at None None (Some (Done d n)) = told d (nat_lt s.held.next n)

  pub near : (s : State T) (lines : List (List ℕ)) → HoldsNear s → HoldsNear (state_after cmp texts s lines)
  unfolding left_by
  near s [] h = h
  near s (line ∷ lines) h = near (after_line cmp texts s line) lines (line_near s line h)
