-- The removal of a key's pair from lawful nodes, by the result of a search.
use Rattle.std.proofs.Common.{◌≡◌, ℕ, ◌<◌, ◌≤◌, List, [], ◌∷◌, length, get_or, Some, None, Result, Ok, Err, Ordering, slice_get, refl, ap, sym, ◌∙◌, subst, arith}
use Rattle.std.below.core.specs.declared.int.u64.TheConstants.{MAX}
use Rattle.std.specs.Cmp.{IsTotalOrder}
use Rattle.std.specs.List.{All}
use Rattle.std.proofs.lemmas.Option.{slice_get-get_or}
use Rattle.indexset_core.specs.declared.pair.Pair.{Pair}
use Rattle.indexset_core.specs.Nodes.{concat, node_at, node_lengths, IsLawful}
use Rattle.indexset_core.specs.Parted.{IsParted}
use Rattle.indexset_core.specs.Pairs.{by_key, pair_of, without_key}
use Rattle.indexset_log.specs.Changed.{Changed, PairEvents, key_removal, place_removal}
use Rattle.indexset_events.specs.Keys.{key_removal_events}
use Rattle.indexset_log.specs.Keys.{after_key_removal}
use Rattle.indexset_events.specs.Located.{IsFoundIn}
use Rattle.indexset_events.specs.Edits.{with_removed}
use Rattle.indexset_log.specs.Edits.{after_place_removal}
use Rattle.indexset_events.specs.Table.{place_removal_count, place_removal_events}
use Rattle.indexset_log.specs.Tree.{Tree}
use Rattle.indexset_events.specs.declared.change.ChangeEvent.{ChangeEvent}
use Rattle.indexset_log.proofs.ChangeLemmas.{absent_after, sought_after, unchanged}
use Rattle.indexset_events.proofs.CallerLemmas.{absent_contents, absent_events, lawful_ascends, lawful_filled, sought_at, sought_contents, sought_events, taking_length}
use Rattle.indexset_core.proofs.CallerLemmas.{pairs_total, parted_by_sought_key, end_found, end_offset, gap_found}
use Rattle.indexset_core.specs.Places.{located}
use Rattle.indexset_core.specs.LookupKey.{OrdersAsItem, EqualsAtMostOne, acts_on, one_on}

module _ {K V Q : Type 0} {cmp : K → K → Ordering} {order : K → Q → Ordering} {among : Q → Q → Ordering} {size : ℕ}
    {ns : List (List (Pair K V))} (o : IsTotalOrder cmp) (acts : OrdersAsItem cmp order among)
    (one : EqualsAtMostOne cmp order) (law : IsLawful (by_key cmp) size ns) (k : Q) where
  abbrev answer : Pair K V → Ordering
  answer p = order p.key k

  abbrev by_sought : Pair K V → Q → Ordering
  by_sought p q = order p.key q

  -- a probe by the key finds the pairs in order
  pub parted_keys : IsParted answer (concat ns)
  parted_keys = parted_by_sought_key acts (concat ns) (lawful_ascends (by_key cmp) size ns law) k

  filled : All (λ n. 1 ≤ n) (node_lengths ns)
  filled = lawful_filled (by_key cmp) size ns law

  -- the removal of the key's pair x at the place p
  pub record KeyTaken (p : ℕ × ℕ) (x : Pair K V) : Type 0 where
    pub pair_is : pair_of order (concat ns) k ≡ Some x
    pub found : IsFoundIn by_sought ns k p.0 p.1
    pub events : key_removal_events order size ns k ≡ place_removal_events size ns p.0 p.1 x
    pub contents : concat (with_removed size ns p.0 p.1) ≡ without_key order (concat ns) k

  -- no pair has the key
  pub record NoKey : Type 0 where
    pub pair_is : pair_of order (concat ns) k ≡ None
    pub events : key_removal_events order size ns k ≡ []
    pub contents : concat ns ≡ without_key order (concat ns) k

  module _ {r : Result (ℕ × ℕ) (ℕ × ℕ)} (e : r ≡ located answer ns) {p : ℕ × ℕ} where
    module _ (is : r ≡ Ok p) where
      pub key_offset : p.1 < length (node_at ns p.0)
      key_offset = end_offset answer ns filled parted_keys r e p is

      pub key_taken : {x : Pair K V} → slice_get (node_at ns p.0) p.1 ≡ Some x → KeyTaken p x
      key_taken {x} here =
          let acts_on_pairs = acts_on (λ (q : Pair K V). q.key) acts in
          let found : IsFoundIn by_sought ns k p.0 p.1 = sought_at acts_on_pairs k size ns law r e p is in
          record {
            pair_is = end_found answer ns filled parted_keys r e p is ∙ here;
            found = found;
            events = sought_events (pairs_total cmp o) law found acts_on_pairs here;
            contents = sought_contents (pairs_total cmp o) law found (one_on (λ (q : Pair K V). q.key) one) here;
          }

      -- the number of events of the removal
      pub key_count : length (key_removal_events order size ns k) ≡ place_removal_count size ns p.0 p.1
      key_count =
          let n = node_at ns p.0 in
          let some : 1 ≤ length n = omega (arith, key_offset) in
          let x = first_of n some in
          let taken = key_taken (slice_get-get_or n p.1 x key_offset) in
          ap (λ l. length l) taken.events ∙ taking_length size ns p.0 p.1 (get_or n p.1 x)
        where
          first_of : (l : List (Pair K V)) → 1 ≤ length l → Pair K V
          first_of [] some = absurd (omega arith)
          first_of (x ∷ l) some = x

    module _ (is : r ≡ Err p) where
      pub no_key : NoKey
      no_key =
          let none = gap_found answer ns filled parted_keys r e p is in
          record { pair_is = none; events = absent_events by_sought ns k none size; contents = absent_contents by_sought ns k none }

-- the tree after the removal of the pair of a key
module _ {K V Q : Type 0} {cmp : K → K → Ordering} {order : K → Q → Ordering} {among : Q → Q → Ordering}
    (o : IsTotalOrder cmp) (acts : OrdersAsItem cmp order among) (one : EqualsAtMostOne cmp order)
    (old : Tree (Pair K V)) (law : IsLawful (by_key cmp) old.size old.nodes) (k : Q) where
  key_after : {p : ℕ × ℕ} {x : Pair K V} → KeyTaken o acts one law k p x → after_key_removal order old k ≡ after_place_removal old p.0 p.1
  key_after taken = sought_after old (acts_on (λ (q : Pair K V). q.key) acts) law taken.found

  no_key_after : NoKey o acts one law k → after_key_removal order old k ≡ old
  no_key_after none = absent_after (λ (p : Pair K V) q. order p.key q) old k none.pair_is

  key_change : {p : ℕ × ℕ} {x : Pair K V} → KeyTaken o acts one law k p x → key_removal order old k ≡ place_removal old p.0 p.1 x
  key_change taken = λ i. record { tree = key_after taken i; items = sym taken.contents i; events = taken.events i }

  pub key_changed : {p : ℕ × ℕ} {x : Pair K V} {new : Tree (Pair K V)} → KeyTaken o acts one law k p x
      → Changed (by_key cmp) old new (place_removal old p.0 p.1 x)
      → Changed (by_key cmp) old new (key_removal order old k)
  key_changed {new = new} taken = subst (Changed (by_key cmp) old new) (sym (key_change taken))

  pub key_told : {p : ℕ × ℕ} {x : Pair K V} {C : K → K → Type 0} {D : V → V → Type 0} {new : Tree (Pair K V)}
      {fs : List (ChangeEvent (Pair K V))}
      → KeyTaken o acts one law k p x → PairEvents cmp C D old new (place_removal old p.0 p.1 x) fs
      → PairEvents cmp C D old new (key_removal order old k) fs
  key_told {C = C} {D = D} {new = new} {fs = fs} taken = subst (λ made. PairEvents cmp C D old new made fs) (sym (key_change taken))

  pub no_key_changed : NoKey o acts one law k → old.next ≤ MAX → Changed (by_key cmp) old old (key_removal order old k)
  no_key_changed none in_range = unchanged (by_key cmp) old old refl in_range (λ i. record { tree = no_key_after none i; items = sym none.contents i; events = none.events i })
