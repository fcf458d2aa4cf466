-- Removals of the first pairs of a key, one after another.
use Rattle.std.proofs.Common.{◌≡◌, ℕ, zero, suc, ◌+◌, ◌-◌, ◌/◌, ◌≤◌, Bool, true, false, not, cond, List}
use Rattle.std.proofs.Common.{[], ◌∷◌, ◌++◌, length, drop, filter, find, Option, Some, None, is_some}
use Rattle.std.proofs.Common.{Ordering, refl, ap, sym, ◌∙◌, subst, add-one, arith, length-append}
use Rattle.std.specs.Cmp.{IsTotalOrder}
use Rattle.std.specs.List.{AllZip}
use Rattle.std.specs.Option.{option_map}
use Rattle.std.specs.Ordering.{is_eq}
use Rattle.std.proofs.lemmas.Bool.{false≢true}
use Rattle.std.proofs.lemmas.List.{length-drop}
use Rattle.std.proofs.lemmas.List.Elements.{same_from_all_zip}
use Rattle.std.proofs.lemmas.List.Sums.{count_by-le-length, length-filter}
use Rattle.std.proofs.lemmas.Option.{none-some}
use Rattle.indexset_core.proofs.CallerLemmas.{some_held}
use Rattle.indexset_core.specs.LookupKey.{OrdersAsItem}
use Rattle.indexset_core.specs.declared.multipair.MultiPair.{MultiPair}
use Rattle.indexset_core.specs.MultiPairs.{by_number}
use Rattle.indexset_core.specs.Nodes.{concat}
use Rattle.indexset_events.specs.declared.change.ChangeEvent.{ChangeEvent}
use Rattle.indexset_events.specs.declared.change.ChangeEventUnassigned.{ChangeEventUnassigned}
use Rattle.indexset_events.specs.Merging.{IsDense}
use Rattle.indexset_events.specs.Clones.{IsEventClone, AreTableEvents}
use Rattle.indexset_events.specs.Replay.{assigned, replay, numbered_from}
use Rattle.indexset_log.specs.Tree.{IsTree}
use Rattle.indexset_events.proofs.CallerLemmas.{clones_numbered, event_same, lawful_ascends, length-numbered, numbered_is, numbered-append, replay-append, zip_on}
use Rattle.indexset_multi.specs.Changed.{AreRemoved, RemovalEvents}
use Rattle.indexset_multi.specs.Keys.{first_pair, pairs_of, without_pairs_of}
use Rattle.indexset_multi.specs.Appended.{AppendsEvents}
use Rattle.indexset_multi.specs.Tree.{EvolvesBy, EvolvesTo, IsMultiPairClone, MultiTree, after_pair_removal, after_removals, first_events, key_events, pair_removal_events, removals_events}
use Rattle.indexset_multi.proofs.KeyListLemmas.{first_pair_gone, others_left_first, rest_left_first}
use Rattle.indexset_multi.proofs.PairRemovalLemmas.{pair_altered, pair_same, pair_tree}

-- the events of one call after those of others
led_further : {K V : Type 0} (cmp : K → K → Ordering) (m n p : MultiTree K V) → EvolvesTo cmp m n → EvolvesTo cmp n p → EvolvesTo cmp m p
led_further cmp m n p a b = record {
  events = a.events ++ b.events;
  numbered = numbered-append m.next a.events b.events a.numbered (rw (← a.next) b.numbered);
  replayed = replay-append (by_number cmp) m.nodes a.events b.events ∙ rw a.replayed b.replayed;
  next = omega (arith, a.next, b.next, length-append a.events b.events);
}

led_nowhere : {K V : Type 0} (cmp : K → K → Ordering) (m : MultiTree K V) → EvolvesTo cmp m m
led_nowhere cmp m = record { events = []; numbered = λ i lt d. absurd (omega (arith, lt)); replayed = refl; next = omega arith }

module _ {X : Type 0} (p : X → Bool) where
  -- if no item passes, all stay
  none_go : (l : List X) → filter p l ≡ [] → filter (λ x. not (p x)) l ≡ l
  none_go [] e = refl
  none_go (x ∷ l) e =
      elim (p x) as (λ b. p x ≡ b → cond b (x ∷ filter p l) (filter p l) ≡ [] → filter (λ x. not (p x)) (x ∷ l) ≡ x ∷ l) [
        | true ↦ λ _ e. absurd (omega (arith, ap (λ m. length m) e))
        | false ↦ λ is e. rw is (ap (λ m. x ∷ m) (none_go l e))
      ] refl e

  none_found : (l : List X) → find p l ≡ None → filter p l ≡ []
  none_found [] e = refl
  none_found (x ∷ l) e =
      elim (p x) as (λ b. cond b (Some x) (find p l) ≡ None → cond b (x ∷ filter p l) (filter p l) ≡ []) [
        | true ↦ λ e. absurd (none-some x (sym e))
        | false ↦ λ e. none_found l e
      ] e

  some_found : (l : List X) (x : X) → find p l ≡ Some x → 1 ≤ length (filter p l)
  some_found [] x e = absurd (none-some x e)
  some_found (y ∷ l) x e =
      elim (p y) as (λ b. cond b (Some y) (find p l) ≡ Some x → 1 ≤ length (cond b (y ∷ filter p l) (filter p l))) [
        | true ↦ λ _. omega arith
        | false ↦ λ e. some_found l x e
      ] e

drop_one : {X : Type 0} (l : List X) (n : ℕ) → drop 1 (drop n l) ≡ drop (suc n) l
drop_one [] zero = refl
drop_one [] (suc n) = refl
drop_one (x ∷ l) zero = refl
drop_one (x ∷ l) (suc n) = drop_one l n

none_from : {A : Type 0} (o : Option A) → is_some o ≡ false → o ≡ None
none_from None e = refl
none_from (Some x) e = absurd (false≢true (sym e))

pub drop_none : {X : Type 0} (l : List X) → drop 0 l ≡ l
drop_none [] = refl
drop_none (x ∷ l) = refl

-- the events of one removal
led_once : {K V : Type 0} (cmp : K → K → Ordering) (m n : MultiTree K V)
    (es : List (ChangeEventUnassigned (MultiPair K V)))
    → replay (by_number cmp) m.nodes (numbered_from m.next es) ≡ Some n.nodes → n.next ≡ m.next + length es
    → EvolvesTo cmp m n
led_once cmp m n es replayed next = record {
  events = numbered_from m.next es;
  numbered = numbered_is m.next es;
  replayed = replayed;
  next = next ∙ ap (λ c. m.next + c) (sym (length-numbered m.next es));
}

numbered_on : {T : Type 0} (s : ℕ) (a b : List (ChangeEventUnassigned T)) → numbered_from s (a ++ b) ≡ numbered_from s a ++ numbered_from (s + length a) b
numbered_on s [] b = let e : s ≡ s + 0 = omega arith in ap (λ n. numbered_from n b) e
numbered_on s (e ∷ a) b =
    let e' : s + 1 + length a ≡ s + suc (length a) = omega arith in
    ap (λ l. assigned s e ∷ l) (numbered_on (s + 1) a b ∙ ap (λ n. numbered_from (s + 1) a ++ numbered_from n b) e')

-- the multimaps after removals of the first pairs of a key
module _ {K V Q : Type 0} {cmp : K → K → Ordering} (o : IsTotalOrder cmp) {order : K → Q → Ordering}
    {among : Q → Q → Ordering} (acts : OrdersAsItem cmp order among) (old : MultiTree K V) {most len : ℕ}
    (t : IsTree (by_number cmp) most old.nodes old.size len) (k : Q) where
  pub record Gone (n : ℕ) (now : MultiTree K V) : Type 0 where
    pub rule : IsTree (by_number cmp) most now.nodes now.size (length (concat now.nodes))
    pub gone : pairs_of order (concat now.nodes) k ≡ drop n (pairs_of order (concat old.nodes) k)
    pub rest : without_pairs_of order (concat now.nodes) k ≡ without_pairs_of order (concat old.nodes) k
    pub others : (other : K) → is_eq (order other k) ≡ false → pairs_of cmp (concat now.nodes) other ≡ pairs_of cmp (concat old.nodes) other
    pub led : EvolvesTo cmp old now
    pub table : replay (by_number cmp) old.nodes (numbered_from old.next (removals_events cmp order old k n)) ≡ Some now.nodes
    pub next : now.next ≡ old.next + length (removals_events cmp order old k n)
    pub size : now.size ≡ old.size
    pub dense : IsDense (old.size / 2) old.nodes → IsDense (now.size / 2) now.nodes
    pub pair_next : now.pair_next ≡ old.pair_next

  many_gone : (n : ℕ) → Gone n (after_removals cmp order old k n)
  many_gone zero = record {
    rule = record { lawful = t.lawful; two = t.two; within = t.within; counted = refl };
    gone = sym (drop_none (pairs_of order (concat old.nodes) k));
    rest = refl;
    others = λ other ne. refl;
    led = led_nowhere cmp old;
    table = refl;
    next = omega arith;
    size = refl;
    dense = λ s. s;
    pair_next = refl;
  }
  many_gone (suc n) =
      let g = many_gone n in
      let m = after_removals cmp order old k n in
      let first = first_pair order (concat m.nodes) k in
      let d = pair_altered o m g.rule first refl in
      let up = lawful_ascends (by_number cmp) m.size m.nodes g.rule.lawful in
      record {
        rule = pair_tree o m g.rule first refl;
        gone = ap (λ l. pairs_of order l k) d.contents ∙ (first_pair_gone o acts k (concat m.nodes) up ∙ (ap (λ l. drop 1 l) g.gone ∙ drop_one (pairs_of order (concat old.nodes) k) n));
        rest = ap (λ l. without_pairs_of order l k) d.contents ∙ (rest_left_first o acts k (concat m.nodes) ∙ g.rest);
        others = λ other ne. ap (λ l. pairs_of cmp l other) d.contents ∙ (others_left_first o acts k (concat m.nodes) other ne ∙ g.others other ne);
        led = led_further cmp old m (after_pair_removal cmp m first) g.led (led_once cmp m (after_pair_removal cmp m first) (pair_removal_events cmp m.size m.nodes first) d.table d.next);
        table =
            rw (numbered_on old.next (removals_events cmp order old k n) (first_events cmp order m k))
            (replay-append (by_number cmp) old.nodes (numbered_from old.next (removals_events cmp order old k n))
            (numbered_from (old.next + length (removals_events cmp order old k n)) (first_events cmp order m k))
            ∙ rw (g.table, ← g.next) d.table);
        next = omega (arith, d.next, g.next, length-append (removals_events cmp order old k n) (first_events cmp order m k));
        size = g.size;
        dense = λ s. d.dense (g.dense s);
        pair_next = g.pair_next;
      }

  module _ (n : ℕ) {now : MultiTree K V} (is : now ≡ after_removals cmp order old k n) where
    pub now_gone : Gone n now
    now_gone = subst (Gone n) (sym is) (many_gone n)

    pub one_more : {new : MultiTree K V} → new ≡ after_pair_removal cmp now (first_pair order (concat now.nodes) k) → new ≡ after_removals cmp order old k (n + 1)
    one_more e = rw add-one (e ∙ ap (λ t. after_pair_removal cmp t (first_pair order (concat t.nodes) k)) is)

    -- the returned events with those of one more removal
    pub told_more : (C : MultiPair K V → MultiPair K V → Type 0) (fs gs : List (ChangeEvent (MultiPair K V)))
        → AreTableEvents C old.next (removals_events cmp order old k n) fs
        → AppendsEvents C now.next (first_events cmp order now k) fs gs
        → AreTableEvents C old.next (removals_events cmp order old k (n + 1)) gs
    told_more C fs gs before on =
        let g = now_gone in
        let s = old.next in
        let a = removals_events cmp order old k n in
        let b = first_events cmp order (after_removals cmp order old k n) k in
        let more : AllZip (IsEventClone C) (numbered_from (s + length a) b) on.events =
        subst (λ (t : MultiTree K V).
        AllZip (IsEventClone C) (numbered_from (s + length a) (first_events cmp order t k)) on.events)
        is (rw g.next at on.clones) in
        rw (add-one, on.added, numbered_on s a b) (zip_on (IsEventClone C) (numbered_from s a) (numbered_from (s + length a) b) fs on.events before more)

    -- a removal that found a pair was not the last
    pub more_left : is_some (first_pair order (concat now.nodes) k) ≡ true → n + 1 ≤ length (pairs_of order (concat old.nodes) k)
    more_left found =
        let g = now_gone in
        let x = some_held (first_pair order (concat now.nodes) k) found in
        omega (arith, some_found (λ p. is_eq (order p.key k)) (concat now.nodes) x.0 x.1, ap (λ l. length l) g.gone, length-drop n (pairs_of order (concat old.nodes) k))

    -- a removal returns no events if the key had no pair
    pub nothing_told : pairs_of order (concat old.nodes) k ≡ [] → first_events cmp order now k ≡ []
    nothing_told none =
        elim (first_pair order (concat now.nodes) k) as (λ o. first_pair order (concat now.nodes) k ≡ o → pair_removal_events cmp now.size now.nodes o ≡ []) [
          | None ↦ λ _. refl
          | Some x ↦ λ found. absurd (omega (arith, more_left (ap is_some found), ap (λ l. length l) none))
        ] refl

    module _ (within : n ≤ length (pairs_of order (concat old.nodes) k)) where
      number : length (pairs_of order (concat old.nodes) k) - length (pairs_of order (concat now.nodes) k) ≡ n
      number = let g = now_gone in omega (arith, within, ap (λ l. length l) g.gone, length-drop n (pairs_of order (concat old.nodes) k))

      pub tree_is : now ≡ after_removals cmp order old k (length (pairs_of order (concat old.nodes) k) - length (pairs_of order (concat now.nodes) k))
      tree_is = is ∙ ap (after_removals cmp order old k) (sym number)

      pub told_is : (C : MultiPair K V → MultiPair K V → Type 0) (fs : List (ChangeEvent (MultiPair K V)))
          → AreTableEvents C old.next (removals_events cmp order old k n) fs
          → AreTableEvents C old.next (key_events cmp order old now k) fs
      told_is C fs told = subst (λ m. AreTableEvents C old.next (removals_events cmp order old k m) fs) (sym number) told

      pub table_is : replay (by_number cmp) old.nodes (numbered_from old.next (key_events cmp order old now k)) ≡ Some now.nodes
      table_is = let g = now_gone in subst (λ m. replay (by_number cmp) old.nodes (numbered_from old.next (removals_events cmp order old k m)) ≡ Some now.nodes) (sym number) g.table

      -- the replay of the returned events gives the multimap, if clones are identical to their
      -- sources
      pub led_by : (C : MultiPair K V → MultiPair K V → Type 0) (fs : List (ChangeEvent (MultiPair K V)))
          → AreTableEvents C old.next (removals_events cmp order old k n) fs → ((p q : MultiPair K V) → C p q → q ≡ p)
          → EvolvesBy cmp old now fs
      led_by C fs told same =
          let g = now_gone in
          let es = removals_events cmp order old k n in
          let is_table = same_from_all_zip (IsEventClone C) (numbered_from old.next es) fs told (event_same C same) in
          record {
            numbered = clones_numbered C old.next es fs told;
            replayed = rw is_table g.table;
            next = omega (arith, g.next, ap (λ l. length l) is_table, length-numbered old.next es);
          }

      pub left_is : pairs_of order (concat now.nodes) k ≡ drop (length (pairs_of order (concat old.nodes) k) - length (pairs_of order (concat now.nodes) k)) (pairs_of order (concat old.nodes) k)
      left_is = let g = now_gone in g.gone ∙ ap (λ i. drop i (pairs_of order (concat old.nodes) k)) (sym number)

      pub are_removed : AreRemoved cmp order old now k
      are_removed =
          let g = now_gone in
          record { tree = tree_is; left = left_is; rest = g.rest; others = g.others; led = g.led; table = table_is; size = g.size; dense = g.dense; pair_next = g.pair_next }

      pub removals_told : (C : K → K → Type 0) (D : V → V → Type 0) (fs : List (ChangeEvent (MultiPair K V)))
          → AreTableEvents (IsMultiPairClone C D) old.next (removals_events cmp order old k n) fs
          → RemovalEvents cmp order C D old now k fs
      removals_told C D fs told = record {
        clones = told_is (IsMultiPairClone C D) fs told;
        numbered = clones_numbered (IsMultiPairClone C D) old.next (removals_events cmp order old k n) fs told;
        replay = λ h. led_by (IsMultiPairClone C D) fs told (pair_same h.0 h.1);
      }

      -- the removal that found no pair changed nothing, and all pairs of the key are removed
      module _ (none : is_some (first_pair order (concat now.nodes) k) ≡ false) where
        pub none_left : pairs_of order (concat now.nodes) k ≡ []
        none_left = none_found (λ p. is_eq (order p.key k)) (concat now.nodes) (none_from (first_pair order (concat now.nodes) k) none)

        pub all_removed : n ≡ length (pairs_of order (concat old.nodes) k)
        all_removed = omega (arith, number, within, ap (λ l. length l) none_left)

        pub all_kept : concat now.nodes ≡ without_pairs_of order (concat old.nodes) k
        all_kept = let g = now_gone in sym (none_go (λ p. is_eq (order p.key k)) (concat now.nodes) none_left) ∙ g.rest

        pub stays : {new : MultiTree K V} → new ≡ after_pair_removal cmp now (first_pair order (concat now.nodes) k) → new ≡ now
        stays e =
            let gone = none_from (first_pair order (concat now.nodes) k) none in
            let after = rw gone at e in
            let next : now.next + 0 ≡ now.next = omega arith in
            after ∙ (λ i. record { nodes = now.nodes; size = now.size; next = next i; pair_next = now.pair_next })

pub removed_fit : {K V Q : Type 0} (order : K → Q → Ordering) (l : List (MultiPair K V)) (k : Q) → length (pairs_of order l k) ≤ length l
removed_fit order l k = rw (length-filter (λ p. is_eq (order p.key k)) l) (count_by-le-length (λ p. is_eq (order p.key k)) l)

pub some_mapped : {A B : Type 0} (f : A → B) (o : Option A) → is_some (option_map f o) ≡ is_some o
some_mapped f None = refl
some_mapped f (Some x) = refl
