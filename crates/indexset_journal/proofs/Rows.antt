-- Rows with ascending numbers.
use Rattle.std.proofs.Common.{◌≡◌, ℕ, suc, ◌+◌, ◌<◌, ◌≤◌, ◌^◌, max, pos, negsuc, ℤ, nat_abs, int_lt, false}
use Rattle.std.proofs.Common.{true≢false, FitsSigned, w64, Less, List, [], ◌∷◌, ◌++◌, length, map, take, get_or}
use Rattle.std.proofs.Common.{refl, sym, ap, subst, ◌∙◌, arith, append-nil, append_assoc, lt→ltb, length-take-le}
use Rattle.std.specs.Prelude.{Vec}
use Rattle.std.specs.declared.alloc.Global.{Global}
use Rattle.std.specs.Cmp.{int_cmp_is}
use Rattle.std.proofs.lemmas.List.{map_more, length-map}
use Rattle.sqlite_value.specs.declared.value.Value.{Value}
use Rattle.sqlite_value.specs.declared.value.Value.TheVariants.{Int}
use Rattle.sqlite_value.specs.Order.{Row, column, value_cmp}
use Rattle.sqlite_value.proofs.OrderLemmas.{value_cmp-Int}
use Rattle.sqlite_trees.specs.Tree.{rowid, put_row}
use Rattle.indexset_journal.specs.Kept.{texts, row_of, rows_of, line_of, IsLine, AreBelow, next_number, number_in}
use Rattle.std.specs.List.{AllByRecursion}
use Rattle.std.proofs.lemmas.List.Sums.{fold-append}

-- a non-negative number is its magnitude
pub not_negative : (z : ℤ) → int_lt z (pos 0) ≡ false → pos (nat_abs z) ≡ z
not_negative (pos n) within = refl
not_negative (negsuc n) within = absurd (true≢false within)

pub small_number : (z : ℤ) → int_lt z (pos 0) ≡ false → FitsSigned w64 z → nat_abs z < 2 ^ 63
small_number (pos n) within fits = omega (arith, fits)
small_number (negsuc n) within fits = absurd (true≢false within)

-- three values make a row
pub three_values : (row : Row) (id empty text : Value) → length row ≡ 3 → column row 0 ≡ id → column row 1 ≡ empty → column row 2 ≡ text → row ≡ id ∷ empty ∷ text ∷ []
three_values [] id empty text three a b c = absurd (omega (arith, three))
three_values (x ∷ []) id empty text three a b c = absurd (omega (arith, three))
three_values (x ∷ y ∷ []) id empty text three a b c = absurd (omega (arith, three))
three_values (x ∷ y ∷ z ∷ []) id empty text three a b c = rw (a, b, c) refl
three_values (x ∷ y ∷ z ∷ w ∷ more) id empty text three a b c = absurd (omega (arith, three))

rises : (m n : ℕ) → m < n → value_cmp (Int (pos m)) (Int (pos n)) ≡ Less
rises m n less = value_cmp-Int (pos m) (pos n) ∙ sym (int_cmp_is (pos m) (pos n) Less (record { lt = lt→ltb m n less }))

-- a row with a number above all others is inserted at the end
pub put_behind : (number : ℕ) (line : List ℕ) (rows : List Row) → AreBelow number rows → put_row (row_of number line) rows ≡ rows ++ row_of number line ∷ []
put_behind number line [] below = refl
put_behind number line (row ∷ rows) below =
    let less : value_cmp (rowid row) (Int (pos number)) ≡ Less = ap (λ v. value_cmp v (Int (pos number))) below.0.1 ∙ rises below.0.0 number below.0.2 in
    rw less (ap (λ (more : List Row). row ∷ more) (put_behind number line rows below.1))

-- another row, whose number is less than `more`
pub below-push : (next more number : ℕ) (rows : List Row) (row : Row) → AreBelow next rows → rowid row ≡ Int (pos number) → number < more → next ≤ more → AreBelow more (rows ++ row ∷ [])
below-push next more number [] row below is less within = ((number, is, less), tt)
below-push next more number (x ∷ rows) row below is less within =
    ((below.0.0, below.0.1, omega (arith, within, below.0.2)), below-push next more number rows row below.1 is less within)

pub below_after : (next : ℕ) (lines : List (List ℕ)) (rows : List Row) → AreBelow next rows → AreBelow (next + length lines) (rows ++ rows_of next lines)
below_after next [] rows below =
    let same : next ≡ next + length {A = List ℕ} [] = omega arith in
    subst (λ n. AreBelow n (rows ++ [])) same (subst (AreBelow next) (sym (append-nil rows)) below)
below_after next (line ∷ lines) rows below =
    let pushed = below-push next (suc next) next rows (row_of next line) below refl (omega arith) (omega arith) in
    let later = below_after (suc next) lines (rows ++ row_of next line ∷ []) pushed in
    let same : suc next + length lines ≡ next + length (line ∷ lines) = omega arith in
    subst (λ n. AreBelow n (rows ++ rows_of next (line ∷ lines))) same (subst (AreBelow (suc next + length lines)) (append_assoc rows (row_of next line ∷ []) (rows_of (suc next) lines)) later)

pub rows_of-push : (next : ℕ) (lines : List (List ℕ)) (line : List ℕ) → rows_of next (lines ++ line ∷ []) ≡ rows_of next lines ++ row_of (next + length lines) line ∷ []
rows_of-push next [] line = ap (λ n. row_of n line ∷ []) (omega arith)
rows_of-push next (first ∷ lines) line =
    ap (λ (rows : List Row). row_of next first ∷ rows) (rows_of-push (suc next) lines line ∙ ap (λ n. rows_of (suc next) lines ++ row_of n line ∷ []) (omega arith))

pub lines_of_rows : (number : ℕ) (lines : List (List ℕ)) → map line_of (rows_of number lines) ≡ lines
lines_of_rows number [] = refl
lines_of_rows number (line ∷ lines) = ap (λ (more : List (List ℕ)). line ∷ more) (lines_of_rows (suc number) lines)

pub are_lines : (number : ℕ) (lines : List (List ℕ)) (before : List Row) → AllByRecursion IsLine before → AllByRecursion IsLine (before ++ rows_of number lines)
are_lines number [] before all = rw (append-nil before) all
are_lines number (line ∷ lines) [] all = ((number, line, refl), are_lines (suc number) lines [] tt)
are_lines number lines (row ∷ before) all = (all.0, are_lines number lines before all.1)

-- the next number after rows that are numbered from the next number on
pub next_after : (next : ℕ) (lines : List (List ℕ)) (before : List Row) → next ≡ next_number before → next_number (before ++ rows_of next lines) ≡ next + length lines
next_after next [] before first =
    let same : next ≡ next + length {A = List ℕ} [] = omega arith in
    ap next_number (append-nil before) ∙ sym first ∙ same
next_after next (line ∷ lines) before first =
    let one : max next (suc next) ≡ suc next = omega arith in
    let here : suc next ≡ next_number (before ++ row_of next line ∷ []) =
    sym one ∙ ap (λ n. max n (suc next)) first ∙ sym (fold-append (λ (most : ℕ) (r : Row). max most (suc (number_in (rowid r)))) 0 before (row_of next line ∷ [])) in
    let same : suc next + length lines ≡ next + length (line ∷ lines) = omega arith in
    ap next_number (sym (append_assoc before (row_of next line ∷ []) (rows_of (suc next) lines))) ∙ next_after (suc next) lines (before ++ row_of next line ∷ []) here ∙ same

pub texts_taken : (lines : List (Vec ℕ Global)) (i : ℕ) → i ≤ length lines → length (texts (take i lines)) ≡ i
texts_taken lines i within = length-map (take i lines) (λ (v : Vec ℕ Global). v.items) ∙ length-take-le i lines within

-- another line, as a row
pub rows_more : (next : ℕ) (lines : List (Vec ℕ Global)) (i : ℕ) (line : Vec ℕ Global) → i < length lines
    → rows_of next (texts (take (i + 1) lines)) ≡ rows_of next (texts (take i lines)) ++ row_of (next + i) (get_or lines i line).items ∷ []
rows_more next lines i line within =
    ap (rows_of next) (map_more (λ (v : Vec ℕ Global). v.items) lines i line within)
    ∙ rows_of-push next (texts (take i lines)) (get_or lines i line).items
    ∙ ap (λ n. rows_of next (texts (take i lines)) ++ row_of (next + n) (get_or lines i line).items ∷ []) (texts_taken lines i (omega arith))
