-- The state of a run over a list of commands to a logged tree, command by command.
use Rattle.std.proofs.Common.{◌≡◌, ℕ, ◌+◌, ◌*◌, ◌-◌, ◌≤◌, List, [], ◌∷◌, ◌++◌, length, slice_get, Some, Ordering, refl, ap, sym, ◌∙◌, arith, append_assoc, length-append}
use Rattle.std.proofs.lemmas.List.{append-nil}
use Rattle.std.proofs.lemmas.List.Sums.{fold-append}
use Rattle.std.specs.Cmp.{IsTotalOrder}
use Rattle.std.specs.List.{AllZip, AppendsClones, fold}
use Rattle.std.proofs.lemmas.List.Elements.{length_all_zip}
use Rattle.indexset_events.specs.Clones.{IsEventClone}
use Rattle.indexset_events.specs.declared.change.ChangeEvent.{ChangeEvent}
use Rattle.indexset_events.specs.declared.change.ChangeEventUnassigned.{ChangeEventUnassigned}
use Rattle.indexset_events.specs.Replay.{replay, numbered_from, assigned, IsNumberedFrom}
use Rattle.indexset_events.proofs.CallerLemmas.{clones_numbered, few_nodes, length-numbered, replay-append, zip_on}
use Rattle.indexset_core.specs.Nodes.{concat}
use Rattle.indexset_events.specs.Merging.{IsDense}
use Rattle.indexset_replica.specs.Copies.{AreClonesEqual, LeadsToCopies}
use Rattle.indexset_replica.proofs.CallerLemmas.{copies_itself, replay_copies}
use Rattle.indexset_bench.specs.Told.{events_in_turn}

-- ---- the events of the definition, command by command

numbered_from-append : {T : Type 0} (s : ℕ) (a b : List (ChangeEventUnassigned T)) → numbered_from s (a ++ b) ≡ numbered_from s a ++ numbered_from (s + length a) b
numbered_from-append s [] b = ap (λ n. numbered_from n b) (omega arith)
numbered_from-append s (e ∷ a) b =
    let next : (s + 1) + length a ≡ s + length (e ∷ a) = omega arith in
    ap (λ l. assigned s e ∷ l) (numbered_from-append (s + 1) a b ∙ ap (λ n. numbered_from (s + 1) a ++ numbered_from n b) next)

module _ {S C E : Type 0} (left : S → C → S) (events : S → C → List E) where
  events_in_turn-push : (t : S) (cs : List C) (c : C) → events_in_turn left events t (cs ++ c ∷ []) ≡ events_in_turn left events t cs ++ events (fold left t cs) c
  events_in_turn-push t [] c = append-nil (events t c)
  events_in_turn-push t (d ∷ cs) c =
      ap (λ l. events t d ++ l) (events_in_turn-push (left t d) cs c)
      ∙ sym (append_assoc (events t d) (events_in_turn left events (left t d) cs) (events (fold left (left t d) cs) c))

-- the events so far are those of the definition for the commands so far, with clones of its items;
-- replaying them on the nodes before gives the nodes now, and the tree is as the commands left it
pub record LogSoFar {S C T : Type 0} (cmp : T → T → Ordering) (left : S → C → S)
    (events : S → C → List (ChangeEventUnassigned T)) (R : T → T → Type 0) (P : Type 0) (t t' : S)
    (ns now : List (List T)) (from next count : ℕ) (done : List C) (told : List (ChangeEvent T)) : Type 0 where
  pub cloned : AllZip (IsEventClone R) (numbered_from from (events_in_turn left events t done)) told
  pub told_is : P → told ≡ numbered_from from (events_in_turn left events t done)
  pub replayed : replay cmp ns (numbered_from from (events_in_turn left events t done)) ≡ Some now
  pub next_is : next ≡ from + length (events_in_turn left events t done)
  pub at_most_three_events : length told ≤ 3 * count
  pub left_is : t' ≡ fold left t done

module _ {S C T : Type 0} (cmp : T → T → Ordering) (left : S → C → S) (events : S → C → List (ChangeEventUnassigned T)) (R : T → T → Type 0) (P : Type 0) (t : S) (ns : List (List T)) (from : ℕ) where
  pub no_log : LogSoFar cmp left events R P t t ns ns from from 0 [] []
  no_log = record { cloned = tt; told_is = λ p. refl; replayed = refl; next_is = omega arith; at_most_three_events = omega arith; left_is = refl }

  -- one more command
  pub more_log : (t' t'' : S) (now after : List (List T)) (next next' count : ℕ) (done : List C) (c : C) (told told' : List (ChangeEvent T))
      → LogSoFar cmp left events R P t t' ns now from next count done told
      → AppendsClones (IsEventClone R) told told' (numbered_from next (events t' c))
      → (P → told' ≡ told ++ numbered_from next (events t' c))
      → replay cmp now (numbered_from next (events t' c)) ≡ Some after
      → length told' ≤ length told + 3 → next' ≡ next + length (events t' c) → t'' ≡ left t' c
      → LogSoFar cmp left events R P t t'' ns after from next' (count + 1) (done ++ c ∷ []) told'
  more_log t' t'' now after next next' count done c told told' far clones is step few num made =
      let es = events_in_turn left events t done in
      let es' = events t' c in
      let more : events_in_turn left events t (done ++ c ∷ []) ≡ es ++ es' = events_in_turn-push left events t done c ∙ ap (λ q. es ++ events q c) (sym far.left_is) in
      let parts : numbered_from from (events_in_turn left events t (done ++ c ∷ []))
      ≡ numbered_from from es ++ numbered_from next es' =
      ap (numbered_from from) more ∙ numbered_from-append from es es'
      ∙ ap (λ n. numbered_from from es ++ numbered_from n es') (sym far.next_is) in
      record {
        cloned = rw (parts, clones.1) (zip_on (IsEventClone R) (numbered_from from es) (numbered_from next es') told clones.0 far.cloned clones.2);
        told_is = λ p. rw parts (is p ∙ ap (λ l. l ++ numbered_from next es') (far.told_is p));
        replayed = rw (parts, replay-append cmp ns (numbered_from from es) (numbered_from next es'), far.replayed) step;
        next_is = rw more (omega (arith, num, far.next_is, length-append es es'));
        at_most_three_events = omega (arith, few, far.at_most_three_events);
        left_is = made ∙ ap (λ q. left q c) far.left_is ∙ sym (fold-append left t done (c ∷ []));
      }

module _ {S C T : Type 0} {cmp : T → T → Ordering} {left : S → C → S}
    {events : S → C → List (ChangeEventUnassigned T)} {R : T → T → Type 0} {P : Type 0} {t t' : S}
    {ns now : List (List T)} {from next count : ℕ} {done : List C} {told : List (ChangeEvent T)}
    (far : LogSoFar cmp left events R P t t' ns now from next count done told) where
  pub told_numbered : IsNumberedFrom from told
  told_numbered = clones_numbered R from (events_in_turn left events t done) told far.cloned

  pub told_next : next ≡ from + length told
  told_next = omega (
    arith,
    far.next_is,
    length_all_zip (IsEventClone R) (numbered_from from (events_in_turn left events t done)) told far.cloned,
    length-numbered from (events_in_turn left events t done),
  )

  pub told_replayed : P → replay cmp ns told ≡ Some now
  told_replayed p = rw (far.told_is p) far.replayed

  pub told_copies : IsTotalOrder cmp → AreClonesEqual cmp R → LeadsToCopies cmp R ns told now
  told_copies o equal = replay_copies cmp R o equal ns ns now (numbered_from from (events_in_turn left events t done)) told (copies_itself cmp R ns) far.cloned far.replayed

  -- for the first commands, one for each reply
  module _ {first : List C} (same : first ≡ done) where
    pub clones_to_first : AllZip (IsEventClone R) (numbered_from from (events_in_turn left events t first)) told
    clones_to_first = rw same far.cloned

    pub table_to_first : P → told ≡ numbered_from from (events_in_turn left events t first)
    table_to_first p = rw same (far.told_is p)

    pub replay_to_first : replay cmp ns (numbered_from from (events_in_turn left events t first)) ≡ Some now
    replay_to_first = rw same far.replayed

    pub tree_to_first : t' ≡ fold left t first
    tree_to_first = far.left_is ∙ ap (fold left t) (sym same)

-- the bound on the number of nodes, where neighbours stay dense, and so from an empty tree
module _ {T U : Type 0} (h k : ℕ) (ns : List (List T)) (ms : List (List U)) (kept : IsDense h ns → IsDense k ms) where
  pub few_after : IsDense h ns → (length ms - 1) * (k + 1) ≤ 2 * length (concat ms)
  few_after s = few_nodes k ms (kept s)

  pub few_from_none : ns ≡ [] → (length ms - 1) * (k + 1) ≤ 2 * length (concat ms)
  few_from_none e = few_after (λ j lt. absurd (omega (arith, ap (λ l. length l) e)))

-- the command after those that were answered
pub next_command : {C : Type 0} (done rest all : List C) (c : C) (n : ℕ) → done ++ c ∷ rest ≡ all → n ≡ length done → slice_get all n ≡ Some c
next_command done rest all c n given count = rw (← given, count) (at_seam done c rest)
  where
    at_seam : {C : Type 0} (done : List C) (c : C) (rest : List C) → slice_get (done ++ c ∷ rest) (length done) ≡ Some c
    at_seam [] c rest = refl
    at_seam (d ∷ done) c rest = at_seam done c rest
