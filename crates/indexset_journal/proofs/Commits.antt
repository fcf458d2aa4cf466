-- The state after a transaction is committed.
use Rattle.std.proofs.Common.{◌≡◌, ℕ, ◌+◌, Bool, true, false, true≢false, Result, Ok, OnOk, IsTrue, List, ◌++◌, length, map, refl, sym, ap, subst, ◌∙◌}
use Rattle.std.specs.List.{AllByRecursion}
use Rattle.std.proofs.lemmas.List.{map-append}
use Rattle.sqlite_value.specs.Order.{Row}
use Rattle.sqlite_trees.specs.Tree.{Trees}
use Rattle.sqlite_trees.specs.View.{View, Commits}
use Rattle.indexset_journal.specs.Kept.{rows_of, line_of, lines_in, IsLine, AreBelow, next_number}
use Rattle.indexset_journal.specs.State.{IsForLines, IsAtRest, Stages}
use Rattle.indexset_journal.proofs.Rows.{below_after, lines_of_rows, are_lines, next_after}

pub on_ok : {T E P : Type 0} (result : Result T E) (value : T) → OnOk result P → result ≡ Ok value → P
on_ok result value holds is = rw is at holds

pub open_if_sound : (is_open is_broken : Bool) → (is_open ≡ false → IsTrue is_broken) → is_broken ≡ false → IsTrue is_open
open_if_sound true is_broken law sound = refl
open_if_sound false is_broken law sound = absurd (true≢false (sym (law refl) ∙ sound))

pub still_open : (old mid new : View) (rows : List Row) → Stages old mid rows → Commits mid new → IsTrue old.is_open → IsTrue new.is_open
still_open old mid new rows stages commits is_open = ap (λ (v : View). v.is_open) commits.is ∙ ap (λ (v : View). v.is_open) stages.rest ∙ is_open

pub committed_of : (mid new : View) → Commits mid new → new.committed ≡ mid.trees
committed_of mid new commits = ap (λ (v : View). v.committed) commits.is

-- lines are inserted after the rows `before`, whose numbers are less than `start`
module _ (next start : ℕ) (before : List Row) (lines : List (List ℕ)) (old mid : View) (rests : IsAtRest next old) (stages : Stages old mid (before ++ rows_of start lines)) where
  pub lines_put : lines_in mid.trees ≡ map line_of before ++ lines
  lines_put = ap (map line_of) stages.this ∙ map-append line_of before (rows_of start lines) ∙ ap (λ l. map line_of before ++ l) (lines_of_rows start lines)

  pub rests_put : (new : View) → AllByRecursion IsLine before → AreBelow start before → start ≡ next_number before → Commits mid new → IsAtRest (start + length lines) new
  rests_put new are below first commits =
      let rows : before ++ rows_of start lines ≡ new.committed 0 = sym stages.this ∙ ap (λ (t : Trees). t 0) (sym (committed_of mid new commits)) in
      let shape : new.shape ≡ old.shape = ap (λ (v : View). v.shape) commits.is ∙ ap (λ (v : View). v.shape) stages.rest in
      let reals : new.reals ≡ old.reals = ap (λ (v : View). v.reals) commits.is ∙ ap (λ (v : View). v.reals) stages.rest in
      let shapes : new.shape ≡ new.committed_shape = ap (λ (v : View). v.shape) commits.is ∙ sym (ap (λ (v : View). v.committed_shape) commits.is) in
      let all_reals : new.reals ≡ new.committed_reals = ap (λ (v : View). v.reals) commits.is ∙ sym (ap (λ (v : View). v.committed_reals) commits.is) in
      let form : IsForLines new.committed_shape old.committed_reals = subst (λ s. IsForLines s old.committed_reals) (sym rests.shape ∙ sym shape ∙ shapes) rests.holds.form in
      record {
        sound = ap (λ (v : View). v.is_broken) commits.is ∙ commits.sound;
        settled = ap (λ (v : View). v.trees) commits.is ∙ sym (committed_of mid new commits);
        shape = shapes;
        reals = all_reals;
        holds = record {
          form = subst (IsForLines new.committed_shape) (sym rests.reals ∙ sym reals ∙ all_reals) form;
          lines = subst (AllByRecursion IsLine) rows (are_lines start lines before are);
        };
        below = subst (AreBelow (start + length lines)) rows (below_after start lines before below);
        first = sym (next_after start lines before first) ∙ ap next_number rows;
      }

module _ (next : ℕ) (lines : List (List ℕ)) (old mid : View) (rests : IsAtRest next old) where
  pub lines_appended : Stages old mid (old.trees 0 ++ rows_of next lines) → lines_in mid.trees ≡ lines_in old.committed ++ lines
  lines_appended stages = lines_put next next (old.trees 0) lines old mid rests stages ∙ ap (λ (t : Trees). lines_in t ++ lines) rests.settled

  pub rows_appended : (new : View) → Stages old mid (old.trees 0 ++ rows_of next lines) → Commits mid new → new.committed 0 ≡ old.committed 0 ++ rows_of (next_number (old.committed 0)) lines
  rows_appended new stages commits =
      ap (λ (t : Trees). t 0) (committed_of mid new commits) ∙ stages.this ∙ ap (λ (t : Trees). t 0 ++ rows_of next lines) rests.settled
      ∙ ap (λ n. old.committed 0 ++ rows_of n lines) rests.first

  pub rests_appended : (new : View) → Stages old mid (old.trees 0 ++ rows_of next lines) → Commits mid new → IsAtRest (next + length lines) new
  rests_appended new stages =
      let same : old.committed 0 ≡ old.trees 0 = ap (λ (t : Trees). t 0) (sym rests.settled) in
      rests_put next next (old.trees 0) lines old mid rests stages new
      (subst (AllByRecursion IsLine) same rests.holds.lines) (subst (AreBelow next) same rests.below)
      (rests.first ∙ ap next_number same)
