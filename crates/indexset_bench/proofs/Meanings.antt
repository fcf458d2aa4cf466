-- `meaning` is the command that a line spells.
use Rattle.std.proofs.Common.{take, take-append-drop, Option, None, Some, MatchOption, ◌≡◌, ◌≢◌, ℕ, ◌+◌, ◌*◌, ◌<◌, ◌^◌}
use Rattle.std.proofs.Common.{true, false, List, [], ◌∷◌, ◌++◌, drop, get_or, length, refl, sym, ap, subst, ◌∙◌, arith}
use lib.Chars.{codes}
use Rattle.std.proofs.Math.Seq.{take-append_seam, drop-append_seam}
use Rattle.std.specs.List.{find}
use Rattle.std.specs.Option.{option_map}
use Rattle.std.specs.Fmt.{decimal}
use Rattle.std.specs.Str.{bytes_eq}
use Rattle.std.proofs.lemmas.Slice.Eq.{bytes_eq-Decides}
use Rattle.std.proofs.lemmas.Fmt.{decimal_is_IsNumeral, decimal_injective}
use Rattle.std.proofs.lemmas.Bool.{ltb-true, lt-ltb}
use Rattle.indexset_bench.proofs.Spellings.{found_spelled, spelled_found, spells}
use Rattle.indexset_bench.specs.declared.command.Command.{Command}
use Rattle.indexset_bench.specs.declared.command.Command.TheVariants.{Add, Del, Has, Rank, At, Len}
use Rattle.indexset_bench.specs.Command.{spelling, FitsU64, fits_u64, candidates, meaning}

-- ---- spellings

FitsU64-from_test : (c : Command) → fits_u64 c ≡ true → FitsU64 c
FitsU64-from_test (Add n) e = grind (arith, ltb-true)
FitsU64-from_test (Del n) e = grind (arith, ltb-true)
FitsU64-from_test (Has n) e = grind (arith, ltb-true)
FitsU64-from_test (Rank n) e = grind (arith, ltb-true)
FitsU64-from_test (At n) e = grind (arith, ltb-true)
FitsU64-from_test Len e = tt

test-from_FitsU64 : (c : Command) → FitsU64 c → fits_u64 c ≡ true
test-from_FitsU64 (Add n) h = lt-ltb n (2 ^ 64) h
test-from_FitsU64 (Del n) h = lt-ltb n (2 ^ 64) h
test-from_FitsU64 (Has n) h = lt-ltb n (2 ^ 64) h
test-from_FitsU64 (Rank n) h = lt-ltb n (2 ^ 64) h
test-from_FitsU64 (At n) h = lt-ltb n (2 ^ 64) h
test-from_FitsU64 Len h = refl

-- the first two bytes distinguish the words
key : List ℕ → ℕ
key line = get_or line 0 0 * 256 + get_or line 1 0

-- two commands with the same spelling are the same
spelling_injective : (x y : Command) → FitsU64 x → FitsU64 y → spelling x ≡ spelling y → x ≡ y
unfolding key
spelling_injective (Add m) (Add n) p q e = ap Add (decimal_injective m n p q (ap (drop 4) e))
spelling_injective (Del m) (Del n) p q e = ap Del (decimal_injective m n p q (ap (drop 4) e))
spelling_injective (Has m) (Has n) p q e = ap Has (decimal_injective m n p q (ap (drop 4) e))
spelling_injective (Rank m) (Rank n) p q e = ap Rank (decimal_injective m n p q (ap (drop 5) e))
spelling_injective (At m) (At n) p q e = ap At (decimal_injective m n p q (ap (drop 3) e))
spelling_injective Len Len p q e = refl
spelling_injective x y p q e = absurd (omega (arith, ap key e))

pub sound : (line : List ℕ) (c : Command) → meaning line ≡ Some c → (line ≡ spelling c) × FitsU64 c
unfolding meaning
sound line c e = found_spelled spelling fits_u64 FitsU64 FitsU64-from_test test-from_FitsU64 line (candidates line) c e

-- the commands that have this number
abbrev each : ℕ → List Command
each n = Add n ∷ Del n ∷ Has n ∷ Rank n ∷ At n ∷ Len ∷ []

-- the command is among the candidates of its spelling
placed : (c : Command) → FitsU64 c → (front : List Command) × (back : List Command) × (candidates (spelling c) ≡ front ++ c ∷ back)
placed (Add n) h = let v = (decimal_is_IsNumeral n h).1 in ([], _, ap each v)
placed (Del n) h = let v = (decimal_is_IsNumeral n h).1 in (Add n ∷ [], _, ap each v)
placed (Has n) h = let v = (decimal_is_IsNumeral n h).1 in (Add n ∷ Del n ∷ [], _, ap each v)
placed (Rank n) h = let v = (decimal_is_IsNumeral n h).1 in (Add n ∷ Del n ∷ Has n ∷ [], _, ap each v)
placed (At n) h = let v = (decimal_is_IsNumeral n h).1 in (Add n ∷ Del n ∷ Has n ∷ Rank n ∷ [], _, ap each v)
placed Len h = (Add 0 ∷ Del 0 ∷ Has 0 ∷ Rank 0 ∷ At 0 ∷ [], [], refl)

pub complete : (line : List ℕ) (c : Command) → line ≡ spelling c → FitsU64 c → meaning line ≡ Some c
unfolding meaning
complete line c e h =
    let place = placed c h in
    ap meaning e ∙ ap (find (spells spelling fits_u64 FitsU64 FitsU64-from_test test-from_FitsU64 (spelling c))) place.2
    ∙ spelled_found spelling fits_u64 FitsU64 FitsU64-from_test test-from_FitsU64 spelling_injective c h place.0 place.1

-- the line spells this command, or no command
abbrev Means : List ℕ → Option Command → Type 0
Means line (Some command) = (line ≡ spelling command) × FitsU64 command
Means line None = (command : Command) → FitsU64 command → line ≢ spelling command

-- the meaning of a line is unique
pub meaning_is : (line : List ℕ) (o : Option Command) → Means line o → o ≡ meaning line
meaning_is line (Some c) h = sym (complete line c h.0 h.1)
meaning_is line None h = at (meaning line) refl
  where
    at : (o : Option Command) → meaning line ≡ o → None ≡ o
    at None e = refl
    at (Some c) e = let told = sound line c e in absurd (h c told.1 told.0)

-- ---- a word and a number

-- the text is that of the number, or of no number
abbrev pub IsNumberOf : List ℕ → Option ℕ → Type 0
IsNumberOf digits o = MatchOption o ((n : ℕ) → n < 2 ^ 64 → digits ≢ decimal n) (λ n. (digits ≡ decimal n) × (n < 2 ^ 64))

-- the word of a command, with the space after it
abbrev pub word : Command → List ℕ
word (Add n) = codes "add "
word (Del n) = codes "del "
word (Has n) = codes "has "
word (Rank n) = codes "rank "
word (At n) = codes "at "
word Len = codes "len"

-- the command's number, if it has one
abbrev number_in : Command → ℕ
number_in (Add n) = n
number_in (Del n) = n
number_in (Has n) = n
number_in (Rank n) = n
number_in (At n) = n
number_in Len = 0

-- the command with its number replaced
abbrev with_number : Command → ℕ → Command
with_number (Add m) n = Add n
with_number (Del m) n = Del n
with_number (Has m) n = Has n
with_number (Rank m) n = Rank n
with_number (At m) n = At n
with_number Len n = Len

-- a line that begins with the word of a command spells a command with that word, or none
same_word : (x c : Command) (digits : List ℕ) → word x ++ digits ≡ spelling c → c ≡ with_number x (number_in c)
unfolding key
same_word (Add m) (Add n) digits e = refl
same_word (Del m) (Del n) digits e = refl
same_word (Has m) (Has n) digits e = refl
same_word (Rank m) (Rank n) digits e = refl
same_word (At m) (At n) digits e = refl
same_word Len Len digits e = refl
same_word x c digits e = absurd (omega (arith, ap key e))

-- the result of `strip_prefix`: the line is the word followed by the digits
abbrev pub IsAfter : List ℕ → List ℕ → List ℕ → Type 0
IsAfter p line digits = (bytes_eq (take (length p) line) p ≡ true) × (digits ≡ drop (length p) line) × (length digits + length p ≡ length line)

pub is_append : (p line digits : List ℕ) → IsAfter p line digits → line ≡ p ++ digits
is_append p line digits cut =
    sym (take-append-drop (length p) line) ∙ ap (λ l. l ++ drop (length p) line) ((bytes_eq-Decides (take (length p) line) p).0 cut.0) ∙ ap (λ l. p ++ l) (sym cut.1)

-- the spelling of the command is its word and its number
abbrev pub Tells : (ℕ → Command) → Type 0
Tells make = (line digits : List ℕ) (o : Option ℕ) (meant : Option Command) → IsAfter (word (make 0)) line digits → IsNumberOf digits o → meant ≡ option_map make o → meant ≡ meaning line

module _ (make : ℕ → Command) (spelled : (n : ℕ) → spelling (make n) ≡ word (make 0) ++ decimal n) (renumbered : (n : ℕ) → with_number (make 0) n ≡ make n)
    (fits : (n : ℕ) → (n < 2 ^ 64 → FitsU64 (make n)) × (FitsU64 (make n) → n < 2 ^ 64)) where
  numbered : Tells make
  numbered line digits o meant cut h mapped = mapped ∙ meaning_is line (option_map make o) (at o h)
    where
      e : line ≡ word (make 0) ++ digits
      e = is_append (word (make 0)) line digits cut

      at : (o : Option ℕ) → IsNumberOf digits o → Means line (option_map make o)
      at (Some n) h = (e ∙ ap (λ ds. word (make 0) ++ ds) h.0 ∙ sym (spelled n), (fits n).0 h.1)
      at None h = λ c fit is.
          let n = number_in c in
          let made : c ≡ make n = same_word (make 0) c digits (sym e ∙ is) ∙ renumbered n in
          h n ((fits n).1 (subst FitsU64 made fit))
          (sym (drop-append_seam (word (make 0)) digits)
          ∙ ap (drop (length (word (make 0)))) (sym e ∙ is ∙ ap spelling made ∙ spelled n)
          ∙ drop-append_seam (word (make 0)) (decimal n))

pub added : Tells Add
added = numbered Add (λ n. refl) (λ n. refl) (λ n. ((λ h. h), (λ h. h)))

pub deleted : Tells Del
deleted = numbered Del (λ n. refl) (λ n. refl) (λ n. ((λ h. h), (λ h. h)))

pub asked : Tells Has
asked = numbered Has (λ n. refl) (λ n. refl) (λ n. ((λ h. h), (λ h. h)))

pub ranked : Tells Rank
ranked = numbered Rank (λ n. refl) (λ n. refl) (λ n. ((λ h. h), (λ h. h)))

pub placed_at : Tells At
placed_at = numbered At (λ n. refl) (λ n. refl) (λ n. ((λ h. h), (λ h. h)))

pub length_asked : (line : List ℕ) → line ≡ codes "len" → Some Len ≡ meaning line
length_asked line e = meaning_is line (Some Len) (e, tt)

pub no_command : (line : List ℕ) → ((digits : List ℕ) → line ≢ codes "add " ++ digits) → ((digits : List ℕ) → line ≢ codes "del " ++ digits)
    → ((digits : List ℕ) → line ≢ codes "has " ++ digits) → ((digits : List ℕ) → line ≢ codes "rank " ++ digits)
    → ((digits : List ℕ) → line ≢ codes "at " ++ digits) → line ≢ codes "len" → None ≡ meaning line
no_command line no_add no_del no_has no_rank no_at no_len = meaning_is line None none
  where
    none : (command : Command) → FitsU64 command → line ≢ spelling command
    none (Add n) fit is = no_add (decimal n) is
    none (Del n) fit is = no_del (decimal n) is
    none (Has n) fit is = no_has (decimal n) is
    none (Rank n) fit is = no_rank (decimal n) is
    none (At n) fit is = no_at (decimal n) is
    none Len fit is = no_len is

-- ---- the tests of the code

pub no_front : (p line : List ℕ) → bytes_eq (take (length p) line) p ≡ false → (rest : List ℕ) → line ≢ p ++ rest
no_front p line other rest e =
    let hit : bytes_eq (take (length p) line) p ≡ true = (bytes_eq-Decides (take (length p) line) p).1 (ap (take (length p)) e ∙ take-append_seam p rest) in
    cc

-- the result of `==`
pub same_line : (line word text : List ℕ) → true ≡ bytes_eq line text → text ≡ word → line ≡ word
same_line line word text same is = (bytes_eq-Decides line text).0 (sym same) ∙ is

pub other_line : (line word text : List ℕ) → false ≡ bytes_eq line text → text ≡ word → line ≢ word
other_line line word text other is e = let hit = (bytes_eq-Decides line text).1 (e ∙ sym is) in cc
