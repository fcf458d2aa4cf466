-- The replay of the table's numbered events, from any lawful nodes.
use Rattle.std.proofs.Common.{◌≡◌, ℕ, zero, suc, ◌+◌, ◌≤◌, true, false, if◌then◌else◌, List, [], ◌∷◌, ◌++◌}
use Rattle.std.proofs.Common.{length, get_or, Option, Some, None, Ordering, option_and_then, ◌||◌, refl, ap, sym}
use Rattle.std.proofs.Common.{◌∙◌, subst, inl, inr, arith, length-append, ◌-◌, set, map, Result, Ok, Err, OnOk}
use Rattle.std.proofs.lemmas.List.{get_or_append_left, map-set}
use Rattle.std.proofs.lemmas.Bool.{cases_lt, false≢true}
use Rattle.std.proofs.Math.Seq.{get_or-append_right}
use Rattle.std.specs.List.{list_any, slice_get}
use Rattle.std.proofs.lemmas.Option.{get_or_from_slice_get, slice_get-get_or}
use Rattle.indexset_events.specs.Table.{checked_put_events, put_events, target_events, node_events, replace_events}
use Rattle.indexset_events.specs.declared.change.ChangeEvent.{ChangeEvent}
use Rattle.indexset_events.specs.declared.change.ChangeEventUnassigned.{ChangeEventUnassigned}
use Rattle.indexset_events.specs.declared.change.ChangeEventUnassigned.TheVariants.{InsertAt, RemoveAt, CreateNode, RemoveNode, SplitNode, MergeNodes}
use Rattle.indexset_core.specs.Nodes.{concat, IsLawful, IsNodeList}
use Rattle.indexset_events.specs.Nodes.{are_nodes, last_of, is_filled}
use Rattle.indexset_events.specs.Replay.{edit, step, step_plain, replay_plain, replay, numbered_from, assigned, unassigned, event_number, IsNumberedFrom}
use Rattle.indexset_events.specs.WithoutMerges.{is_merge, replay_without_merges}
use Rattle.indexset_events.proofs.AscendingListLemmas.{tested_nodes, last_answer, Up, up-left, up-right, Ruled, lawful_from}

number_off : {T : Type 0} (s : ℕ) (e : ChangeEventUnassigned T) → unassigned (assigned s e) ≡ e
number_off s (InsertAt m v i) = refl
number_off s (RemoveAt m v i) = refl
number_off s (CreateNode m) = refl
number_off s (RemoveNode m) = refl
number_off s (SplitNode m k) = refl
number_off s (MergeNodes m w) = refl

pub number_on : {T : Type 0} (s : ℕ) (e : ChangeEventUnassigned T) → event_number (assigned s e) ≡ s
number_on s (InsertAt m v i) = refl
number_on s (RemoveAt m v i) = refl
number_on s (CreateNode m) = refl
number_on s (RemoveNode m) = refl
number_on s (SplitNode m k) = refl
number_on s (MergeNodes m w) = refl

numbered_rest : {T : Type 0} (cmp : T → T → Ordering) (s : ℕ) (es : List (ChangeEventUnassigned T))
    (r : Option (List (List T)))
    → ((ns : List (List T)) → replay cmp ns (numbered_from (s + 1) es) ≡ replay_plain cmp ns es)
    → option_and_then (λ ns. replay cmp ns (numbered_from (s + 1) es)) r
    ≡ option_and_then (λ ns. replay_plain cmp ns es) r
numbered_rest cmp s es None h = refl
numbered_rest cmp s es (Some ns) h = h ns

pub numbered_replay : {T : Type 0} (cmp : T → T → Ordering) (ns : List (List T)) (s : ℕ) (es : List (ChangeEventUnassigned T)) → replay cmp ns (numbered_from s es) ≡ replay_plain cmp ns es
numbered_replay cmp ns s [] = refl
numbered_replay cmp ns s (e ∷ es) = rw (number_off s e) (numbered_rest cmp s es (step_plain cmp ns e) (λ r. numbered_replay cmp r (s + 1) es))

pub numbered_is : {T : Type 0} (s : ℕ) (es : List (ChangeEventUnassigned T)) → IsNumberedFrom s (numbered_from s es)
numbered_is s [] i lt d = absurd (omega arith)
numbered_is s (e ∷ es) zero lt d = number_on s e ∙ omega arith
numbered_is s (e ∷ es) (suc i) lt d = numbered_is (s + 1) es i (omega arith) d ∙ omega arith

pub length-numbered : {T : Type 0} (s : ℕ) (es : List (ChangeEventUnassigned T)) → length (numbered_from s es) ≡ length es
length-numbered s [] = refl
length-numbered s (e ∷ es) = simp (length-numbered (s + 1) es)

pub numbered-append : {T : Type 0} (s : ℕ) (a b : List (ChangeEvent T)) → IsNumberedFrom s a → IsNumberedFrom (s + length a) b → IsNumberedFrom s (a ++ b)
numbered-append s a b first second i lt d =
    let size = length-append a b in
    elim (cases_lt i (length a)) [
      | inl inside ↦ rw (get_or_append_left a b d i inside) (first i inside d)
      | inr past ↦ rw (get_or-append_right a b i d past) (second (i - length a) (omega arith) d ∙ omega arith)
    ]

-- at most three events
module _ {T : Type 0} (cmp : T → T → Ordering) (size : ℕ) (v : T) where
  two_at_most : (n : List T) → length (node_events cmp n v) ≤ 2
  unfolding node_events replace_events
  two_at_most n = grind arith

  pub three_at_most : (ns : List (List T)) → length (put_events cmp size ns v) ≤ 3
  unfolding put_events target_events
  three_at_most ns = grind (arith, two_at_most)

  pub three_checked : (ns : List (List T)) → length (checked_put_events cmp size ns v) ≤ 3
  unfolding checked_put_events
  three_checked ns = grind (arith, three_at_most)

pub none_lawful : {T : Type 0} (cmp : T → T → Ordering) (size : ℕ) → IsLawful cmp size []
none_lawful cmp size = lawful_from cmp size [] (record { filled = tt; up = tt }) tt

-- the cases of the table, as the code has them
module _ {T : Type 0} (cmp : T → T → Ordering) (size : ℕ) (v : T) where
  pub put_events_none : (ns : List (List T)) → ns ≡ [] → put_events cmp size ns v ≡ CreateNode v ∷ []
  unfolding put_events
  put_events_none ns none = rw none refl

pub last_some : {T : Type 0} (n : List T) (v x : T) → slice_get n (length n - 1) ≡ Some x → last_of n v ≡ x
last_some n v x h = last_answer n v ∙ get_or_from_slice_get n (length n - 1) x v h

pub on_ok_map : {A E : Type 0} (r : Result A E) {P Q : Type 0} → OnOk r P → (P → Q) → OnOk r Q
on_ok_map (Ok x) p f = f p
on_ok_map (Err e) p f = tt

pub up_node : {T : Type 0} (cmp : T → T → Ordering) (ns : List (List T)) (k : ℕ) → Ruled cmp ns → Up cmp (get_or ns k [])
up_node cmp [] k ruled = tt
up_node cmp (n ∷ ns) zero ruled = up-left cmp n (concat ns) ruled.up
up_node cmp (n ∷ ns) (suc k) ruled = let filled = ruled.filled in up_node cmp ns k (record { filled = filled.1; up = up-right cmp n (concat ns) ruled.up })

pub set_view : {T N : Type 0} (f : N → List T) (items : List N) (nodes : List (List T)) (k : ℕ) (x : N) (y : List T) → map f items ≡ nodes → f x ≡ y → map f (set items k x) ≡ set nodes k y
set_view f items nodes k x y same e = map-set f items k x ∙ rw (same, e) refl

pub no_last : {T : Type 0} (n : List T) → is_filled n ≡ true → slice_get n (length n - 1) ≡ None → ⊥
no_last [] full h = false≢true full
no_last (x ∷ xs) full h = let some = slice_get-get_or (x ∷ xs) (length (x ∷ xs) - 1) x (omega arith) in cc

-- events in two parts
replay_rest : {T : Type 0} (cmp : T → T → Ordering) (a b : List (ChangeEvent T)) (o : Option (List (List T)))
    → ((ns : List (List T)) → replay cmp ns (a ++ b) ≡ option_and_then (λ r. replay cmp r b) (replay cmp ns a))
    → option_and_then (λ r. replay cmp r (a ++ b)) o
    ≡ option_and_then (λ r. replay cmp r b) (option_and_then (λ r. replay cmp r a) o)
replay_rest cmp a b None h = refl
replay_rest cmp a b (Some ns) h = h ns

pub replay-append : {T : Type 0} (cmp : T → T → Ordering) (ns : List (List T)) (a b : List (ChangeEvent T)) → replay cmp ns (a ++ b) ≡ option_and_then (λ r. replay cmp r b) (replay cmp ns a)
replay-append cmp ns [] b = refl
replay-append cmp ns (e ∷ a) b = replay_rest cmp a b (step cmp ns e) (λ r. replay-append cmp r a b)

-- a list without merges
without_merges_rest : {T : Type 0} (cmp : T → T → Ordering) (es : List (ChangeEvent T)) (o : Option (List (List T)))
    → ((ns : List (List T)) → replay_without_merges cmp ns es ≡ replay cmp ns es)
    → option_and_then (λ r. replay_without_merges cmp r es) o ≡ option_and_then (λ r. replay cmp r es) o
without_merges_rest cmp es None h = refl
without_merges_rest cmp es (Some ns) h = h ns

pub without_merges_same : {T : Type 0} (cmp : T → T → Ordering) (ns : List (List T)) (es : List (ChangeEvent T)) → list_any is_merge es ≡ false → replay_without_merges cmp ns es ≡ replay cmp ns es
without_merges_same cmp ns [] none = refl
without_merges_same cmp ns (e ∷ es) none =
    elim (is_merge e)
    as (λ b. is_merge e ≡ b → (b || list_any is_merge es) ≡ false
    → option_and_then (λ r. replay_without_merges cmp r es) (if b then None else step cmp ns e)
    ≡ option_and_then (λ r. replay cmp r es) (step cmp ns e)) [
      | true ↦ λ is h. absurd (false≢true (sym h))
      | false ↦ λ is h. without_merges_rest cmp es (step cmp ns e) (λ r. without_merges_same cmp r es h)
    ] refl none

pub numbers_off : {T : Type 0} (s : ℕ) (es : List (ChangeEventUnassigned T)) → map unassigned (numbered_from s es) ≡ es
numbers_off s [] = refl
numbers_off s (e ∷ es) = rw (number_off s e) (ap (λ q. e ∷ q) (numbers_off (s + 1) es))

module _ {T : Type 0} (cmp : T → T → Ordering) where
  kept_nodes : (after : List (List T)) (o : Option (List (List T))) → option_and_then (λ r. if are_nodes cmp r then Some r else None) o ≡ Some after → IsNodeList cmp after
  kept_nodes after None h = let none : (let n : Option (List (List T)) = None in n) ≡ Some after = h in cc
  kept_nodes after (Some r) h =
      elim (are_nodes cmp r) as (λ b. are_nodes cmp r ≡ b → (if b then Some r else None) ≡ Some after → IsNodeList cmp after) [
        | true ↦ λ t k. let same : r ≡ after = cc in subst (IsNodeList cmp) same (tested_nodes cmp r t)
        | false ↦ λ t k. let none : (let n : Option (List (List T)) = None in n) ≡ Some after = k in cc
      ] refl h

  pub step_nodes : (ns after : List (List T)) (e : ChangeEvent T) → step cmp ns e ≡ Some after → IsNodeList cmp after
  unfolding step_plain
  step_nodes ns after e h = kept_nodes after (edit cmp ns (unassigned e)) h
