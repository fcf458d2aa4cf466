-- The line of a seal changes no state.
use Rattle.std.proofs.Common.{None, Some, Global, Vec, ◌≡◌, ◌≢◌, ℕ, ◌+◌, ◌-◌, ◌<◌, ◌≤◌, List, [], ◌∷◌, ◌++◌, drop, get_or, length, take, refl, ap, sym, ◌∙◌, arith}
use Rattle.std.proofs.lemmas.Bool.{eq-eqb, ne_eqb}
use Rattle.std.proofs.lemmas.List.{drop-append-le, drop-map, drop-take, drop_all, drop_more, length-map, length-take-le, map_more}
use lib.Chars.{codes}
use Rattle.std.specs.Fmt.{decimal}
use Rattle.std.specs.Hash.DefaultHasher as sip
use Rattle.std.proofs.lemmas.List.Sums.{fold-append}
use Rattle.indexset_lines.specs.Run.{left_by}
use Rattle.indexset_wire.specs.Parts.{cut_at}
use Rattle.indexset_wire.specs.Parts.Laws.{cut_told, lacks_tested}
use Rattle.indexset_follow.specs.Follow.{State, after_line, start_state, state_after}
use Rattle.indexset_follow.proofs.Readings.{no_number}
use Rattle.indexset_keep.specs.Roles.{LeadsTo}
use Rattle.indexset_journal.specs.Kept.{texts as lines_texts}
use Rattle.indexset_keep.specs.Seal.{seal_after, seal_line, seal_of, seal_read}
use Rattle.indexset_keep.proofs.States.{more_lines}
use Rattle.std.specs.declared.hash.DefaultHasher.{DefaultHasher}
use Rattle.std.specs.declared.cmp.Ordering.{Ordering}
use Rattle.indexset_wire.specs.Texts.{Texts}

module _ {T : Type 0} (cmp : T → T → Ordering) (texts : Texts T) where
  seal_still : (s : State T) (n : ℕ) → after_line cmp texts s (seal_line n) ≡ s
  seal_still s n =
      let cut : cut_at 32 (codes "seal " ++ decimal n) ≡ Some (codes "seal", decimal n) = cut_told 32 (codes "seal") (decimal n) (lacks_tested 32 (codes "seal") refl) in
      rw (cut, no_number 115 (codes "eal") (omega arith)) refl

  pub sealed_alike : (s : State T) (lines : List (List ℕ)) (n : ℕ) → state_after cmp texts s (lines ++ seal_line n ∷ []) ≡ state_after cmp texts s lines
  unfolding left_by
  sealed_alike s lines n = more_lines cmp texts s lines (seal_line n ∷ []) ∙ seal_still (state_after cmp texts s lines) n

  -- lines and their seal appended to others
  pub appended : (before after told put : List (List ℕ)) (n : ℕ) (from to : State T) → after ≡ before ++ put
      → put ≡ told ++ seal_line n ∷ [] → LeadsTo cmp texts before from → state_after cmp texts from told ≡ to
      → LeadsTo cmp texts after to
  appended before after told put n from to is all was on =
      ap (state_after cmp texts (start_state 0)) (is ∙ ap (λ ls. before ++ ls) all)
      ∙ more_lines cmp texts (start_state 0) before (told ++ seal_line n ∷ [])
      ∙ ap (λ s. state_after cmp texts s (told ++ seal_line n ∷ [])) was
      ∙ sealed_alike from told n
      ∙ on

  -- lines and their seal instead of others
  pub replaced : (after told put : List (List ℕ)) (n : ℕ) (to : State T) → after ≡ put → put ≡ told ++ seal_line n ∷ [] → LeadsTo cmp texts told to → LeadsTo cmp texts after to
  replaced after told put n to is all leads = ap (state_after cmp texts (start_state 0)) (is ∙ all) ∙ sealed_alike (start_state 0) told n ∙ leads

-- ---- the hash of lines

-- the hash of a concatenation
pub hashed : (h : DefaultHasher) (a b : List ℕ) → sip.write h (a ++ b) ≡ sip.write (sip.write h a) b
unfolding sip.write
hashed h a b = fold-append sip.write_byte h a b

pub hashed_none : (h : DefaultHasher) → sip.write h [] ≡ h
unfolding sip.write
hashed_none h = refl

-- ---- the last seal

module _ (seal : ℕ) (behind : List (List ℕ)) (line : List ℕ) (rest : List (List ℕ)) where
  pub seal_none : seal_read line ≡ None → seal_after seal behind (line ∷ rest) ≡ seal_after seal (behind ++ line ∷ []) rest
  unfolding seal_after
  seal_none is = rw is refl

  pub seal_right : (n : ℕ) → seal_read line ≡ Some n → n ≡ seal_of seal behind → seal_after seal behind (line ∷ rest) ≡ seal_after n [] rest
  unfolding seal_after
  seal_right n is own = rw (is, eq-eqb n (seal_of seal behind) own) refl

  pub seal_wrong : (n : ℕ) → seal_read line ≡ Some n → n ≢ seal_of seal behind → seal_after seal behind (line ∷ rest) ≡ None
  unfolding seal_after
  seal_wrong n is other = rw (is, ne_eqb n (seal_of seal behind) other) refl

pub seal_closed : (seal : ℕ) (behind : List (List ℕ)) → length behind ≡ 0 → seal_after seal behind [] ≡ Some seal
unfolding seal_after
seal_closed seal [] none = refl
seal_closed seal (x ∷ xs) none = absurd (omega (arith, none))

pub seal_lacking : (seal : ℕ) (behind : List (List ℕ)) → 0 < length behind → seal_after seal behind [] ≡ None
unfolding seal_after
seal_lacking seal [] some = absurd (omega (arith, some))
seal_lacking seal (x ∷ xs) some = refl

pub between_is : {X : Type 0} (lines : List X) (from i : ℕ) → from ≤ i → take (i - from) (drop from lines) ≡ drop from (take i lines)
between_is lines from i le = sym (drop-take from (i - from) lines) ∙ ap (λ n. drop from (take n lines)) (omega (arith, le))

-- the lines from a line on, and the lines after the last seal including it
module _ (lines : List (Vec ℕ Global)) (i : ℕ) (item : Vec ℕ Global) (is : item ≡ get_or lines i item) (inside : i < length lines) where
  pub left_lines : lines_texts (drop i lines) ≡ item.items ∷ lines_texts (drop (i + 1) lines)
  left_lines = ap lines_texts (drop_more lines i item inside) ∙ ap (λ v. v.items ∷ lines_texts (drop (i + 1) lines)) (sym is)

  pub behind_lines : (from : ℕ) → from ≤ i → lines_texts (drop from (take (i + 1) lines)) ≡ lines_texts (drop from (take i lines)) ++ item.items ∷ []
  behind_lines from le =
      let few : from ≤ length (lines_texts (take i lines)) = omega (arith, le, inside, length-map (take i lines) (λ v. v.items), length-take-le i lines (omega (arith, inside))) in
      sym (drop-map (λ v. v.items) from (take (i + 1) lines))
      ∙ ap (drop from) (map_more (λ v. v.items) lines i item inside ∙ ap (λ v. lines_texts (take i lines) ++ v.items ∷ []) (sym is))
      ∙ drop-append-le from (lines_texts (take i lines)) (item.items ∷ []) few
      ∙ ap (λ ls. ls ++ item.items ∷ []) (drop-map (λ v. v.items) from (take i lines))

  pub none_behind : lines_texts (drop (i + 1) (take (i + 1) lines)) ≡ []
  none_behind = ap lines_texts (drop_all (i + 1) (take (i + 1) lines) (omega (arith, length-take-le (i + 1) lines (omega (arith, inside)))))
