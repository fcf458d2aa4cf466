-- Reading a line, piece by piece.
use Rattle.std.proofs.Common.{Option, true, false, cond, None, Some, IfSome, OnSome, ◌≡◌, ◌≢◌, ℕ}
use Rattle.std.proofs.Common.{suc, ◌==◌, not, ◌||◌, ◌+◌, ◌<◌, ◌≤◌, List, [], ◌∷◌, ◌++◌, length}
use Rattle.std.proofs.Common.{take, get_or, refl, sym, ap, subst, ◌∙◌, arith, rules, append_assoc}
use Rattle.std.proofs.Common.{append-nil, eq-eqb, eqb-true, true≢false, length-take-le, get_or-take}
use Rattle.std.proofs.lemmas.List.{take_more}
use Rattle.std.proofs.lemmas.List.Elements.{All-append, All-from_get_or}
use Rattle.std.proofs.lemmas.List.Folds.{list_any-append}
use Rattle.std.proofs.lemmas.List.Sums.{fails_before_first, passes_at_first, prefix_len-le-length}
use Rattle.std.proofs.KnownBytes.{Consumes-kept, Consumes-nil, Consumes-trans}
use Rattle.std.proofs.Transfers.{starts_with_length}
use Rattle.std.proofs.lemmas.Bool.{ltb-false}
use Rattle.std.specs.Prelude.{Bool, nat_lt, unwrap_or}
use Rattle.std.specs.List.{list_any, position, position_or_len}
use Rattle.std.specs.Io.{StartsWith}
use Rattle.std.specs.Io.KnownBytes.{Consumes, IsAtEnd, Keeps}
use Rattle.indexset_lines.specs.declared.line.Part.{Part}
use Rattle.indexset_lines.specs.declared.line.Part.TheVariants.{Whole, Last, End}
use Rattle.indexset_lines.specs.Lines.{HasNoEnd}
use Rattle.indexset_lines.specs.Reading.{Reads, Stops, Moves, Ends, TakesPiece}

-- ---- the first line end among the buffered bytes

-- the index of the first element that passes, or the length
pub position-or_len : (p : ℕ → Bool) (xs : List ℕ) → unwrap_or (position p xs) (length xs) ≡ position_or_len p xs
position-or_len p xs = at (nat_lt (position_or_len p xs) (length xs)) refl
  where
    at : (b : Bool) → nat_lt (position_or_len p xs) (length xs) ≡ b → unwrap_or (cond b (Some (position_or_len p xs)) None) (length xs) ≡ position_or_len p xs
    at true e = refl
    at false e =
        let past = ltb-false (position_or_len p xs) (length xs) e in
        let within = prefix_len-le-length (λ x. not (p x)) xs in
        omega arith

module _ {X : Type 0} (p : X → Bool) where
  -- no element of a concatenation passes if no element of either part does
  pub none_in_both : (xs ys : List X) → list_any p xs ≡ false → list_any p ys ≡ false → list_any p (xs ++ ys) ≡ false
  none_in_both xs ys none also = list_any-append p xs ys ∙ rw (none, also) refl

  step : (b c : Bool) (n m l : ℕ) → (b || c) ≡ false → (c ≡ false → n ≡ l + m) → cond (not b) (1 + n) 0 ≡ suc l + m
  step false c n m l none more = omega (arith, more none)
  step true c n m l none more = absurd (cc)

  -- the index of the first element that passes, after a part of which none does
  pub position_or_len-behind : (xs ys : List X) → list_any p xs ≡ false → position_or_len p (xs ++ ys) ≡ length xs + position_or_len p ys
  position_or_len-behind [] ys none = search rules
  position_or_len-behind (x ∷ xs) ys none = step (p x) (list_any p xs) _ _ (length xs) none (position_or_len-behind xs ys)

module _ (shown : List ℕ) (n : ℕ) (first : n ≡ position_or_len (λ b. b == 10) shown) where
  pub first_end_within : n ≤ length shown
  first_end_within = rw first (prefix_len-le-length (λ b. not (b == 10)) shown)

  -- there is no line end before it
  before_first_end : HasNoEnd (take n shown)
  before_first_end = All-from_get_or (λ x. x ≢ 10) (take n shown) 0 (λ k inside ten.
      let small : k < n = omega (arith, length-take-le n shown first_end_within) in
      let fails = fails_before_first (λ b. b == 10) shown k 0 (omega arith) in
      true≢false (sym (eq-eqb (get_or shown k 0) 10 (sym (get_or-take n shown k 0 small) ∙ ten)) ∙ fails))

  through_first_end : n < length shown → take (n + 1) shown ≡ take n shown ++ 10 ∷ []
  through_first_end some =
      let passes = passes_at_first (λ b. b == 10) shown 0 (omega arith) in
      take_more shown n 0 some ∙ ap (λ y. take n shown ++ y ∷ []) (ap (λ k. get_or shown k 0) first ∙ eqb-true _ _ passes)

  module _ (old new : Option (List ℕ)) (before after : List ℕ) (line : after ≡ before ++ take n shown) where
    pub moves_whole : n < length shown → Consumes old new (take (n + 1) shown) → Moves old new before after (10 ∷ [])
    moves_whole some gone = record { piece = take n shown; no_end = before_first_end; line = line; read = subst (Consumes old new) (through_first_end some) gone }

    pub moves_on : Consumes old new (take n shown) → Moves old new before after []
    moves_on gone = record { piece = take n shown; no_end = before_first_end; line = line; read = subst (Consumes old new) (sym (append-nil (take n shown))) gone }

-- ---- an empty buffer, and bytes that memory runs out for

module _ (r r' : Option (List ℕ)) (shown : List ℕ) where
  pub ends_there : (before : List ℕ) → IfSome r (λ xs. length shown ≡ 0 → xs ≡ []) → length shown ≡ 0 → Keeps r r' → Ends r r' before before
  ends_there before end none kept = record { line = refl; read = Consumes-kept r r r' [] (Consumes-nil r) kept; at_end = at r r' end kept }
    where
      at : (a b : Option (List ℕ)) → IfSome a (λ xs. length shown ≡ 0 → xs ≡ []) → Keeps a b → OnSome a (IsAtEnd b)
      at None b e k = tt
      at (Some xs) None e k = absurd k
      at (Some xs) (Some ys) e k = k ∙ e none

pub no_bytes : (xs : List ℕ) → length xs ≡ 0 → xs ≡ []
no_bytes [] none = refl
no_bytes (x ∷ xs) none = absurd (omega arith)

pub no_room_left : (r : Option (List ℕ)) (shown piece : List ℕ) (room len : ℕ)
    → IfSome r (λ xs. StartsWith xs shown) → length piece ≤ length shown → room < len + length piece
    → IfSome r (λ xs. room < len + length xs)
no_room_left None shown piece room len front within small = tt
no_room_left (Some xs) shown piece room len front within small = omega (arith, starts_with_length xs shown front)

-- ---- consecutive pieces

pub at_end-after : (r r1 r2 : Option (List ℕ)) (bs : List ℕ) → Consumes r r1 bs → OnSome r1 (IsAtEnd r2) → OnSome r (IsAtEnd r2)
at_end-after None r1 r2 bs read end = tt
at_end-after (Some x) None r2 bs read end = absurd read
at_end-after (Some x) (Some y) r2 bs read end = end

module _ (r r1 r2 : Option (List ℕ)) (before after : List ℕ) (far : Stops r r1 before) where
  HasNoEnd-moved : (ending : List ℕ) → Moves r1 r2 before after ending → HasNoEnd after
  HasNoEnd-moved ending moves = subst HasNoEnd (sym moves.line) (All-append (λ x. x ≢ 10) before moves.piece far.0 moves.no_end)

  Consumes-moved : (ending : List ℕ) → Moves r1 r2 before after ending → Consumes r r2 (after ++ ending)
  Consumes-moved ending moves =
      subst (Consumes r r2) (sym (append_assoc before moves.piece ending) ∙ ap (λ l. l ++ ending) (sym moves.line))
      (Consumes-trans r r1 r2 before (moves.piece ++ ending) far.1 moves.read)

  -- the line may continue
  pub stops_further : TakesPiece r1 r2 before after None → Stops r r2 after
  stops_further moves = (HasNoEnd-moved [] moves, subst (Consumes r r2) (append-nil after) (Consumes-moved [] moves))

  Consumes-ended : Ends r1 r2 before after → Consumes r r2 after
  Consumes-ended ends = subst (Consumes r r2) (append-nil before ∙ sym ends.line) (Consumes-trans r r1 r2 before [] far.1 ends.read)

  pub reads_part : (part : Part) → TakesPiece r1 r2 before after (Some part) → Reads r r2 after part
  reads_part (Whole is_used_up) moves = (HasNoEnd-moved (10 ∷ []) moves, Consumes-moved (10 ∷ []) moves)
  reads_part Last taken =
      let ends = taken.0 in
      (subst HasNoEnd (sym ends.line) far.0, Consumes-ended ends, omega (arith, taken.1, ap length ends.line), at_end-after r r1 r2 before far.1 ends.at_end)
  reads_part End taken =
      let ends = taken.0 in
      let none : after ≡ [] = ends.line ∙ taken.1 in
      (none, subst (Consumes r r2) none (Consumes-ended ends), at_end-after r r1 r2 before far.1 ends.at_end)
