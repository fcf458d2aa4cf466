-- If each event comes within the window, a follower applies all events before the first that never
-- came.
use Rattle.std.proofs.Common.{◌≡◌, ◌⊎◌, inl, inr, ℕ, zero, suc, ◌+◌, ◌<◌, ◌≤◌, Bool, true, false, List, [], ◌∷◌, length, slice_get, Some, refl, ap, sym, ◌∙◌, subst, arith}
use Rattle.std.proofs.lemmas.Bool.{ltb-false, ltb-true}
use Rattle.std.specs.Prelude.{nat_lt}
use Rattle.std.proofs.lemmas.List.Elements.{All-head, All-tail}
use Rattle.std.specs.List.{All}
use Rattle.indexset_lines.specs.Run.{left_by}
use Rattle.indexset_bench.specs.PairText.{event_text}
use Rattle.indexset_core.specs.declared.pair.Pair.{Pair}
use Rattle.indexset_events.specs.Replay.{event_number}
use Rattle.indexset_wire.specs.Parts.Laws.{none_some, some_inj}
use Rattle.indexset_follow.specs.Drawn.{AreWithin, HoldsAhead, HoldsFirst, IsDrawn, IsFeedOfPairs, IsFirstMissing, IsOneOf}
use Rattle.indexset_follow.specs.Early.{AscendFrom}
use Rattle.indexset_follow.specs.EventLine.{Event, EventFits, event_of}
use Rattle.indexset_follow.specs.Follow.{State, after_line, state_after}
use Rattle.indexset_follow.specs.Told.{IsAmong}
use Rattle.indexset_follow.proofs.Drawing.{fits_at, one, same_place}
use Rattle.indexset_follow.proofs.EventLines.{event_told}
use Rattle.indexset_follow.proofs.Turns.{At, Knows, Onward, is_taken, number_at}
use Rattle.std.specs.declared.cmp.Ordering.{Ordering}
use Rattle.indexset_wire.specs.Texts.{AreTokens, Texts}

some_at : {X : Type 0} (xs : List X) (i : ℕ) → i < length xs → (x : X) × (slice_get xs i ≡ Some x)
some_at [] i lt = absurd (omega (arith, lt))
some_at (x ∷ xs) zero lt = (x, refl)
some_at (x ∷ xs) (suc i) lt = some_at xs i (omega (arith, lt))

module _ {T : Type 0} (cmp : T → T → Ordering) (texts : Texts T) (spelled : AreTokens texts) where
  module _ (s : ℕ) (ns : List (List (Pair T T))) (es : List (Event T)) (feed : IsFeedOfPairs cmp s ns es) (fit : All (EventFits texts) es) where
    -- the events that are applied or held early after the lines: those before, and those that came
    record Known (k : ℕ) (r : State T) (ls : List (List ℕ)) (after : State T) : Type 0 where
      place : ℕ
      from : k ≤ place
      at : At cmp s ns es feed place after.held
      ahead : HoldsAhead s es after
      kept : (p : ℕ) → Knows cmp s ns es feed k r.early p → Knows cmp s ns es feed place after.early p
      came : (p : ℕ) (e : Event T) → slice_get es p ≡ Some e → IsAmong ls (event_text texts e) → Knows cmp s ns es feed place after.early p
      only : (p : ℕ) (e : Event T) → slice_get es p ≡ Some e → Knows cmp s ns es feed place after.early p → Knows cmp s ns es feed k r.early p ⊎ IsAmong ls (event_text texts e)

    near : (k : ℕ) (r : State T) (l : List ℕ) (d : IsDrawn texts es l) → ((e : Event T) → event_of texts l ≡ Some e → event_number e ≤ r.held.next + r.window) → s + d.place ≤ r.held.next + r.window
    near k r l d within =
        let told : event_of texts l ≡ Some d.event = ap (event_of texts) d.text ∙ event_told texts spelled d.event (fits_at cmp texts spelled s ns es feed fit d.place d.event d.at) in
        omega (arith, within d.event told, number_at cmp s ns es feed d.place d.event d.at)

    -- the same after another line
    module _ (k : ℕ) (r : State T) (l : List ℕ) (ls : List (List ℕ)) (after : State T) (d : IsDrawn texts es l)
        (on : Onward cmp s ns es feed k d.place r (after_line cmp texts r l))
        (within : s + d.place ≤ r.held.next + r.window)
        (more : Known on.place (after_line cmp texts r l) ls after) where
      come : (p : ℕ) (e : Event T) → slice_get es p ≡ Some e → (i : ℕ) → slice_get (l ∷ ls) i ≡ Some (event_text texts e) → Knows cmp s ns es feed more.place after.early p
      come p e told zero is =
          let one_place : d.place ≡ p = same_place cmp texts spelled s ns es feed fit d.place p d.event e d.at told (sym (some_inj l (event_text texts e) is) ∙ d.text) in
          more.kept p (subst (Knows cmp s ns es feed on.place (after_line cmp texts r l).early) one_place (on.came within))
      come p e told (suc i) is = more.came p e told (record { place = i; at = is })

      first : (p : ℕ) (e : Event T) → slice_get es p ≡ Some e → (d.place ≡ p) ⊎ Knows cmp s ns es feed k r.early p → Knows cmp s ns es feed k r.early p ⊎ IsAmong (l ∷ ls) (event_text texts e)
      first p e told x = elim x [
        | inl eq ↦
            let event : d.event ≡ e = some_inj d.event e (sym d.at ∙ ap (slice_get es) eq ∙ told) in
            inr (record { place = zero; at = ap Some (d.text ∙ ap (event_text texts) event) })
        | inr was ↦ inl was
      ]

      only : (p : ℕ) (e : Event T) → slice_get es p ≡ Some e → Knows cmp s ns es feed more.place after.early p → Knows cmp s ns es feed k r.early p ⊎ IsAmong (l ∷ ls) (event_text texts e)
      only p e told x = elim (more.only p e told x) [
        | inl was ↦ first p e told (on.only p was)
        | inr among ↦ inr (record { place = suc among.place; at = among.at })
      ]

      one_known : Known k r (l ∷ ls) after
      one_known = record {
        place = more.place;
        from = omega (arith, on.from, more.from);
        at = more.at;
        ahead = more.ahead;
        kept = λ p x. more.kept p (on.kept p x);
        came = λ p e told among. come p e told among.place among.at;
        only = only;
      }

    known : (k : ℕ) (r : State T) (ls : List (List ℕ)) → HoldsFirst cmp s ns es k r → HoldsAhead s es r
        → All (IsDrawn texts es) ls → AreWithin cmp texts r ls → Known k r ls (state_after cmp texts r ls)
    unfolding left_by
    known k r [] at h drawn within = record {
      place = k;
      from = omega arith;
      at = at;
      ahead = h;
      kept = λ p x. x;
      came = λ p e told among. none_some (event_text texts e) among.at;
      only = λ p e told x. inl x;
    }
    known k r (l ∷ ls) at h drawn within =
        let d = All-head (IsDrawn texts es) l ls drawn in
        let on = one cmp texts spelled s ns es feed fit k r l d at h in
        one_known k r l ls (state_after cmp texts (after_line cmp texts r l) ls) d on (near k r l d within.0)
        (known on.place (after_line cmp texts r l) ls on.at on.ahead (All-tail (IsDrawn texts es) l ls drawn)
        within.1)

    module _ (j : ℕ) (r : State T) (ls : List (List ℕ)) (none : r.early ≡ []) (at : HoldsFirst cmp s ns es j r) (drawn : All (IsDrawn texts es) ls) (within : AreWithin cmp texts r ls) where
      all_known : Known j r ls (state_after cmp texts r ls)
      all_known = known j r ls at (subst (AscendFrom (IsOneOf s es) (r.held.next + 1)) (sym none) tt) drawn within

      none_known : (p : ℕ) → j ≤ p → Knows cmp s ns es feed j r.early p → ⊥
      none_known p le x = elim (subst (λ early. Knows cmp s ns es feed j early p) none x) [ inl lt ↦ omega (arith, le, lt) | inr there ↦ there ]

      pub first_missing : (k : ℕ) × HoldsFirst cmp s ns es k (state_after cmp texts r ls) × IsFirstMissing texts es j ls k
      first_missing = (
        all_known.place,
        all_known.at,
        record {
          from = all_known.from;
          came = λ p e le lt told. elim (all_known.only p e told (inl lt)) [ inl was ↦ absurd (none_known p le was) | inr among ↦ among ];
          missing =
              λ e told among.
              let lt =
              is_taken cmp s ns es feed all_known.place all_known.place _ _ all_known.at all_known.ahead (omega arith)
              (all_known.came all_known.place e told among) in
              omega (arith, lt);
        },
      )

      pub all_held : ((p : ℕ) (e : Event T) → j ≤ p → slice_get es p ≡ Some e → IsAmong ls (event_text texts e)) → HoldsFirst cmp s ns es (length es) (state_after cmp texts r ls)
      all_held came = by (nat_lt first_missing.0 (length es)) refl
        where
          by : (b : Bool) → nat_lt first_missing.0 (length es) ≡ b → HoldsFirst cmp s ns es (length es) (state_after cmp texts r ls)
          by false past =
              let all : first_missing.0 ≡ length es =
              omega (arith, ltb-false first_missing.0 (length es) past, first_missing.1.within) in
              subst (λ k. HoldsFirst cmp s ns es k (state_after cmp texts r ls)) all first_missing.1
          by true more =
              let e = some_at es first_missing.0 (ltb-true first_missing.0 (length es) more) in
              absurd (first_missing.2.missing e.0 e.1 (came first_missing.0 e.0 first_missing.2.from e.1))
