-- The replay of the events of a put or a removal, from lawful nodes, gives lawful nodes.
use Rattle.std.proofs.Common.{◌≡◌, ℕ, ◌≤◌, Bool, true, false, cond, List, [], ◌∷◌, filter, Some, Result, Ok, Err, Ordering, refl, sym, subst}
use Rattle.std.specs.Cmp.{IsTotalOrder}
use Rattle.indexset_core.specs.Nodes.{concat, node_at, IsLawful}
use Rattle.indexset_core.specs.Order.{above, below, put, without, unequal}
use Rattle.indexset_core.specs.Pairs.{by_key}
use Rattle.indexset_core.specs.declared.pair.Pair.{Pair}
use Rattle.indexset_events.specs.declared.change.ChangeEventUnassigned.{ChangeEventUnassigned}
use Rattle.indexset_events.specs.Edits.{with_put, with_removed}
use Rattle.indexset_events.specs.Keys.{key_removal_events}
use Rattle.indexset_events.specs.Located.{IsFoundIn}
use Rattle.indexset_events.specs.Replay.{replay, numbered_from}
use Rattle.indexset_events.specs.Table.{put_events, removal_events}
use Rattle.indexset_events.proofs.SearchLemmas.{sought_at}
use Rattle.indexset_events.proofs.PutLemmas.{put_contents, put_lawful, put_replayed}
use Rattle.indexset_events.proofs.RemovalLemmas.{absent_events, some_read, sought_contents, sought_events, taken_lawful, taken_replay}
use Rattle.indexset_events.proofs.AscendingListLemmas.{Each, each-append}
use Rattle.indexset_events.proofs.NodeViewLemmas.{lawful_ascends, lawful_filled}
use Rattle.indexset_core.proofs.CallerLemmas.{pairs_total, gap_found, parted_by_sought}
use Rattle.indexset_core.specs.Places.{located}
use Rattle.indexset_core.specs.LookupKey.{OrdersAsItem, EqualsAtMostOne, acts_as_itself, acts_on, one_as_itself, one_on}

each_filter : {T : Type 0} (P : T → Type 0) (q : T → Bool) (xs : List T) → Each P xs → Each P (filter q xs)
each_filter P q [] h = tt
each_filter P q (x ∷ xs) h = at (q x) (each_filter P q xs h.1)
  where
    at : (b : Bool) → Each P (filter q xs) → Each P (cond b (x ∷ filter q xs) (filter q xs))
    at true rest = (h.0, rest)
    at false rest = rest

-- the replay of the events, numbered from s, gives lawful nodes, and P still holds for each item
pub record Leads {T : Type 0} (cmp : T → T → Ordering) (P : T → Type 0) (size s : ℕ) (ns : List (List T)) (es : List (ChangeEventUnassigned T)) : Type 0 where
  pub after : List (List T)
  pub replayed : replay cmp ns (numbered_from s es) ≡ Some after
  pub lawful : IsLawful cmp size after
  pub kept : Each P (concat after)

module _ {T : Type 0} (cmp : T → T → Ordering) (o : IsTotalOrder cmp) (P : T → Type 0) (size s : ℕ) (two : 2 ≤ size) (ns : List (List T)) (law : IsLawful cmp size ns) (held : Each P (concat ns)) where
  pub nothing_leads : Leads cmp P size s ns []
  nothing_leads = record { after = ns; replayed = refl; lawful = law; kept = held }

  pub put_leads : (v : T) → P v → Leads cmp P size s ns (put_events cmp size ns v)
  unfolding put
  put_leads v new =
      let all : Each P (put cmp (concat ns) v) = each-append P (below cmp (concat ns) v) (v ∷ above cmp (concat ns) v) (each_filter P _ (concat ns) held) (new, each_filter P _ (concat ns) held) in
      record { after = with_put cmp size ns v; replayed = put_replayed o two law v s; lawful = put_lawful o two law v; kept = subst (Each P) (sym (put_contents o two law v)) all }

  pub sought_leads : {Q : Type 0} {order : T → Q → Ordering} {among : Q → Q → Ordering}
      → OrdersAsItem cmp order among → EqualsAtMostOne cmp order → (v : Q)
      → Leads cmp P size s ns (removal_events order size ns v)
  unfolding unequal
  sought_leads {Q = Q} {order = order} acts one v = at (located (λ x. order x v) ns) refl
    where
      at : (r : Result (ℕ × ℕ) (ℕ × ℕ)) → r ≡ located (λ x. order x v) ns → Leads cmp P size s ns (removal_events order size ns v)
      at (Ok p) e =
          let found : IsFoundIn order ns v p.0 p.1 = sought_at acts v size ns law (Ok p) e p refl in
          let read = some_read (node_at ns p.0) p.1 found.here.inside in
          let all : Each P (without order (concat ns) v) = each_filter P _ (concat ns) held in
          rw (sought_events o law found acts read.1) (record {
            after = with_removed size ns p.0 p.1;
            replayed = taken_replay o law p.0 p.1 found.node_in read.1 s;
            lawful = taken_lawful o law p.0 p.1 found.node_in read.1;
            kept = subst (Each P) (sym (sought_contents o law found one read.1)) all;
          })
      at (Err p) e =
          let none = gap_found (λ x. order x v) ns (lawful_filled cmp size ns law) (parted_by_sought acts (concat ns) (lawful_ascends cmp size ns law) v) (Err p) e p refl in
          rw (absent_events order ns v none size) nothing_leads

  pub removal_leads : (v : T) → Leads cmp P size s ns (removal_events cmp size ns v)
  removal_leads = sought_leads (acts_as_itself o) (one_as_itself o)

-- the removal of the pair of a key
pub key_removal_leads : {K V : Type 0} (cmp : K → K → Ordering) → IsTotalOrder cmp
    → (P : Pair K V → Type 0) (size s : ℕ) → 2 ≤ size → (ns : List (List (Pair K V))) → IsLawful (by_key cmp) size ns
    → Each P (concat ns) → (k : K) → Leads (by_key cmp) P size s ns (key_removal_events cmp size ns k)
key_removal_leads cmp o P size s two ns law held =
    sought_leads (by_key cmp) (pairs_total cmp o) P size s two ns law held (acts_on (λ p. p.key) (acts_as_itself o)) (one_on (λ p. p.key) (one_as_itself o))
