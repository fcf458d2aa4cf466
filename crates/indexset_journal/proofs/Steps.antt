-- The calls of one transaction.
use Rattle.std.proofs.Common.{◌≡◌, ℕ, ◌+◌, ◌<◌, ◌≤◌, List, [], ◌∷◌, ◌++◌, length, take, get_or, Option, Some, None, refl, sym, ap, subst, ◌∙◌, arith, append_assoc}
use Rattle.std.specs.Prelude.{Vec}
use Rattle.std.specs.declared.alloc.Global.{Global}
use Rattle.sqlite_value.specs.Order.{Row}
use Rattle.sqlite_value.specs.declared.keys.Order.{Order}
use Rattle.sqlite_trees.specs.Tree.{Trees, put_row, from_key}
use Rattle.sqlite_trees.specs.View.{View, SetsTree, OnlyWrites, KeepsCommitted, with_cursor, doubt, IsClean}
use Rattle.indexset_journal.specs.Kept.{texts, row_of, rows_of, AreBelow}
use Rattle.indexset_journal.specs.State.{Stages}
use Rattle.indexset_journal.proofs.Rows.{put_behind, below_after, rows_more, texts_taken}

pub clean_before : (old new : View) → doubt old.is_clean ≤ doubt new.is_clean → IsClean new → IsClean old
clean_before old new within clean = omega (arith, within, clean)

pub writes_on : (old mid new : View) → OnlyWrites old mid → OnlyWrites mid new → OnlyWrites old new
writes_on old mid new first second = second ∙ ap (λ (v : View). record v { trees = new.trees; cursors = new.cursors }) first

pub writes_any : (old new : View) (trees : Trees) (cursors : ℕ → Option (List Row)) → new ≡ record old { trees = trees; cursors = cursors } → OnlyWrites old new
writes_any old new trees cursors is = is ∙ ap (λ (v : View). record old { trees = v.trees; cursors = v.cursors }) (sym is)

pub places : (old new : View) (cursor : ℕ) (left : List Row) → new ≡ with_cursor old cursor left → OnlyWrites old new
places old new cursor left is = is ∙ ap (λ (v : View). record old { trees = v.trees; cursors = v.cursors }) (sym is)

-- staged changes leave the last commit unchanged
pub keeps_staged : (old new : View) → OnlyWrites old new → KeepsCommitted old new
keeps_staged old new writes = record {
  shape = ap (λ (v : View). v.shape) writes;
  reals = ap (λ (v : View). v.reals) writes;
  committed_shape = ap (λ (v : View). v.committed_shape) writes;
  committed_reals = ap (λ (v : View). v.committed_reals) writes;
  numbered = ap (λ (v : View). v.is_numbered) writes;
  was_open = λ still. sym (ap (λ (v : View). v.is_open) writes) ∙ still;
  committed = λ still. ap (λ (v : View). v.committed) writes;
  marks = λ still. ap (λ (v : View). v.marks) writes;
}

pub keeps_on : (old mid new : View) → KeepsCommitted old mid → KeepsCommitted mid new → KeepsCommitted old new
keeps_on old mid new first second = record {
  shape = second.shape ∙ first.shape;
  reals = second.reals ∙ first.reals;
  committed_shape = second.committed_shape ∙ first.committed_shape;
  committed_reals = second.committed_reals ∙ first.committed_reals;
  numbered = second.numbered ∙ first.numbered;
  was_open = λ still. first.was_open (second.was_open still);
  committed = λ still. second.committed still ∙ first.committed (second.was_open still);
  marks = λ still. second.marks still ∙ first.marks (second.was_open still);
}

-- another row is inserted at the end
pub put_one : (next : ℕ) (lines : List (Vec ℕ Global)) (i : ℕ) (line : Vec ℕ Global) (old mid new : View) (row : Row) → i < length lines → AreBelow next (old.trees 0)
    → Stages old mid (old.trees 0 ++ rows_of next (texts (take i lines))) → row ≡ row_of (next + i) (get_or lines i line).items → SetsTree mid new 0 (put_row row)
    → Stages old new (old.trees 0 ++ rows_of next (texts (take (i + 1) lines)))
put_one next lines i line old mid new row within below stages is sets =
    let rows = old.trees 0 ++ rows_of next (texts (take i lines)) in
    let here : AreBelow (next + i) rows = subst (λ n. AreBelow (next + n) rows) (texts_taken lines i (omega arith)) (below_after next (texts (take i lines)) (old.trees 0) below) in
    let put : new.trees 0 ≡ put_row row (mid.trees 0) = ap (λ (v : View). v.trees 0) sets.is in
    let pushed : new.trees 0 ≡ rows ++ row_of (next + i) (get_or lines i line).items ∷ [] =
    put ∙ ap (put_row row) stages.this ∙ ap (λ r. put_row r rows) is ∙ put_behind (next + i) (get_or lines i line).items rows here in
    record {
      this = pushed ∙ append_assoc (old.trees 0) _ _ ∙ ap (λ (more : List Row). old.trees 0 ++ more) (sym (rows_more next lines i line within));
      rest = writes_on old mid new stages.rest (writes_any mid new _ _ sets.is);
    }

-- a seek with an empty key finds the first row
pub all_sought : (order : Order) (rows : List Row) → from_key order [] rows ≡ rows
all_sought order [] = refl
all_sought order (row ∷ rows) = refl

left : Option (List Row) → List Row
left (Some rows) = rows
left None = []

pub left_of : (rows others : List Row) → Some rows ≡ Some others → rows ≡ others
unfolding left
left_of rows others same = ap left same

-- if a cursor at the first row has no more rows, there are none
pub none_left : (old mid new : View) (order : Order) → mid ≡ with_cursor old 0 (from_key order [] (old.trees 0)) → (mid.cursors 0 ≡ Some []) × (new ≡ mid) → new.trees 0 ≡ []
none_left old mid new order sought ended =
    let found : mid.cursors 0 ≡ Some (old.trees 0) = ap (λ (v : View). v.cursors 0) sought ∙ ap Some (all_sought order (old.trees 0)) in
    ap (λ (v : View). v.trees 0) (ended.1 ∙ sought) ∙ left_of (old.trees 0) [] (sym found ∙ ended.0)
