-- Reading the rows of a table in order.
use Rattle.std.proofs.Common.{◌≡◌, ℕ, suc, ◌+◌, max, false, List, [], ◌∷◌, ◌++◌, map, Some, refl, sym, ap, subst, ◌∙◌, arith, append-nil, append_assoc}
use Rattle.std.specs.List.{AllByRecursion}
use Rattle.std.proofs.lemmas.List.{map-append}
use Rattle.std.proofs.lemmas.List.Sums.{fold-append}
use Rattle.sqlite_value.specs.Order.{Row}
use Rattle.sqlite_value.specs.declared.keys.Order.{Order}
use Rattle.sqlite_trees.specs.Tree.{rowid, from_key}
use Rattle.sqlite_trees.specs.View.{View, with_cursor}
use Rattle.indexset_journal.specs.Kept.{row_of, line_of, IsLine, AreBelow, next_number, number_in}
use Rattle.indexset_journal.specs.State.{Reads}
use Rattle.indexset_journal.proofs.Rows.{below-push}
use Rattle.indexset_journal.proofs.Steps.{all_sought, left_of}

-- some rows were read, each a line, and the cursor has the others left
pub record IsReadUpTo (old now : View) (lines : List (List ℕ)) (next : ℕ) : Type 0 where
  pub done : List Row
  pub more : List Row
  pub all : done ++ more ≡ old.trees 0
  pub cursor : now.cursors 0 ≡ Some more
  pub sound : old.is_broken ≡ false
  pub rows : AllByRecursion IsLine done
  pub found : lines ≡ map line_of done
  pub below : AreBelow next done
  pub first : next ≡ next_number done
  pub rest : now ≡ record old { cursors = now.cursors }

rows-push : (done : List Row) (row : Row) → AllByRecursion IsLine done → IsLine row → AllByRecursion IsLine (done ++ row ∷ [])
rows-push [] row lines line = (line, tt)
rows-push (first ∷ done) row lines line = (lines.0, rows-push done row lines.1 line)

-- each row of rows that are all lines is a line
pub within_lines : (done more : List Row) (row : Row) → AllByRecursion IsLine (done ++ row ∷ more) → IsLine row
within_lines [] more row all = all.0
within_lines (first ∷ done) more row all = within_lines done more row all.1

pub begin : (old now : View) (order : Order) → old.is_broken ≡ false → now ≡ with_cursor old 0 (from_key order [] (old.trees 0)) → IsReadUpTo old now [] 0
begin old now order sound sought = record {
  done = [];
  more = old.trees 0;
  all = refl;
  cursor = ap (λ (v : View). v.cursors 0) sought ∙ ap Some (all_sought order (old.trees 0));
  sound = sound;
  rows = tt;
  found = refl;
  below = tt;
  first = refl;
  rest = sought ∙ ap (λ (v : View). record old { cursors = v.cursors }) (sym sought);
}

-- the last row has been read
pub ended : (old now new : View) (lines : List (List ℕ)) (next : ℕ) → IsReadUpTo old now lines next → (now.cursors 0 ≡ Some []) × (new ≡ now) → Reads old new lines next
ended old now new lines next read over =
    let none : read.more ≡ [] = left_of read.more [] (sym read.cursor ∙ over.0) in
    let all : read.done ≡ old.trees 0 = sym (append-nil read.done) ∙ ap (λ l. read.done ++ l) (sym none) ∙ read.all in
    record {
      sound = read.sound;
      rows = subst (AllByRecursion IsLine) all read.rows;
      found = read.found ∙ ap (map line_of) all;
      below = subst (AreBelow next) all read.below;
      first = read.first ∙ ap next_number all;
      rest = over.1 ∙ read.rest ∙ ap (λ (v : View). record old { cursors = v.cursors }) (sym over.1);
    }

-- the next row of the cursor
pub row_next : (old now new : View) (lines : List (List ℕ)) (next : ℕ) (row : Row) → (read : IsReadUpTo old now lines next)
    → (given : (rest : List Row) × (now.cursors 0 ≡ Some (row ∷ rest)) × (new ≡ with_cursor now 0 rest)) → read.done ++ row ∷ given.0 ≡ old.trees 0
row_next old now new lines next row read given = ap (λ l. read.done ++ l) (left_of (row ∷ given.0) read.more (sym given.1 ∙ read.cursor)) ∙ read.all

numbered : (number : ℕ) (line : List ℕ) (row : Row) → row ≡ row_of number line → number + 1 ≡ suc (number_in (rowid row))
numbered number line row is =
    let next : number + 1 ≡ suc number = omega arith in
    next ∙ ap (λ (r : Row). suc (number_in (rowid r))) (sym is)

-- another row was read
pub one_more : (old now new : View) (lines after : List (List ℕ)) (next number : ℕ) (line : List ℕ) (row : Row) → IsReadUpTo old now lines next
    → (rest : List Row) × (now.cursors 0 ≡ Some (row ∷ rest)) × (new ≡ with_cursor now 0 rest) → row ≡ row_of number line → after ≡ lines ++ line ∷ []
    → IsReadUpTo old new after (max next (number + 1))
one_more old now new lines after next number line row read given is pushed = record {
  done = read.done ++ row ∷ [];
  more = given.0;
  all = append_assoc read.done (row ∷ []) given.0 ∙ row_next old now new lines next row read given;
  cursor = ap (λ (v : View). v.cursors 0) given.2;
  sound = read.sound;
  rows = rows-push read.done row read.rows (number, line, is);
  found = pushed ∙ ap (λ l. l ++ line ∷ []) read.found ∙ ap (λ l. map line_of read.done ++ l ∷ []) (ap line_of (sym is)) ∙ sym (map-append line_of read.done (row ∷ []));
  below = below-push next (max next (number + 1)) number read.done row read.below (ap rowid is) (omega arith) (omega arith);
  first = ap (λ n. max n (number + 1)) read.first ∙ ap (max (next_number read.done)) (numbered number line row is)
      ∙ sym (fold-append (λ (most : ℕ) (r : Row). max most (suc (number_in (rowid r)))) 0 read.done (row ∷ []));
  rest = given.2 ∙ ap (λ (v : View). record now { cursors = v.cursors }) (sym given.2) ∙ ap (λ (v : View). record v { cursors = new.cursors }) read.rest;
}
