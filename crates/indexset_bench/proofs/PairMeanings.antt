-- `pair_meaning` is the command to the map that a line spells.
use Rattle.std.proofs.Common.{Option, None, Some, ◌≡◌, ◌≢◌, ℕ, ◌==◌, ◌||◌, Bool, true, false, cond, List, ◌∷◌, ◌++◌, get_or, refl, sym, ap, subst, ◌∙◌, true≢false}
use lib.Chars.{codes}
use Rattle.std.proofs.lemmas.Slice.Eq.{bytes_eq-Decides}
use Rattle.std.specs.Option.{option_map, option_map_or}
use Rattle.std.specs.Str.{bytes_eq}
use Rattle.indexset_wire.specs.Parts.{cut_at}
use Rattle.indexset_wire.specs.Parts.Laws.{cut_sound, cut_told, lacks_tested, map_some, none_some, some_inj}
use Rattle.indexset_bench.specs.declared.pair_command.PairCommand.{PairCommand}
use Rattle.indexset_bench.specs.declared.pair_command.PairCommand.TheVariants.{Put, Cut, Nodes}
use Rattle.indexset_bench.specs.declared.command.Command.{Command}
use Rattle.indexset_bench.specs.declared.command.Command.TheVariants.{Add, Del, Has, Rank, At, Len}
use Rattle.indexset_bench.specs.Command.{meaning, spelling}
use Rattle.indexset_bench.specs.PairCommand.{CommandFits, pair_meaning, pair_spelling, word_command}
use Rattle.indexset_bench.specs.Texts.{two_keys}
use Rattle.indexset_wire.specs.Texts.{AreTokens, Texts, number_texts, number_tokens}
use Rattle.indexset_bench.proofs.KeyTexts.{two_keys_sound, two_keys_told}
use Rattle.indexset_bench.proofs.Meanings.{sound}

same : (word text : List ℕ) → bytes_eq word text ≡ true → word ≡ text
same word text e = (bytes_eq-Decides word text).0 e

module _ {T : Type 0} (texts : Texts T) (words : AreTokens texts) where
  -- the text is that of the command
  abbrev Spells : List ℕ → PairCommand T → Type 0
  Spells text c = (text ≡ pair_spelling texts c) × CommandFits texts c

  word_sound : (word rest : List ℕ) (c : PairCommand T) → word_command texts word rest ≡ Some c → Spells (word ++ 32 ∷ rest) c
  word_sound word rest c h = at (bytes_eq word (codes "put")) (bytes_eq word (codes "cut")) refl refl h
    where
      at : (a b : Bool) → bytes_eq word (codes "put") ≡ a → bytes_eq word (codes "cut") ≡ b
          → cond a (option_map (λ p. Put p.0 p.1) (two_keys texts rest)) (cond b (option_map Cut (texts.parse rest)) None) ≡ Some c → Spells (word ++ 32 ∷ rest) c
      at true b is _ h =
          let made = map_some (two_keys texts rest) (λ p. Put p.0 p.1) c h in
          let read = two_keys_sound texts words rest made.0 made.1 in
          subst (Spells (word ++ 32 ∷ rest)) made.2 ((λ i. same word (codes "put") is i ++ 32 ∷ read.0 i), (read.1, read.2))
      at false true _ is h =
          let made = map_some (texts.parse rest) Cut c h in
          let read = words.items.only rest made.0 made.1 in
          subst (Spells (word ++ 32 ∷ rest)) made.2 ((λ i. same word (codes "cut") is i ++ 32 ∷ read.0 i), read.1)
      at false false _ _ h = none_some c h

  pub pair_sound : (line : List ℕ) (c : PairCommand T) → pair_meaning texts line ≡ Some c → (line ≡ pair_spelling texts c) × CommandFits texts c
  unfolding pair_meaning
  pair_sound line c h = at (cut_at 32 line) refl (bytes_eq line (codes "nodes")) refl h
    where
      at : (o : Option (List ℕ × List ℕ)) → cut_at 32 line ≡ o → (b : Bool) → bytes_eq line (codes "nodes") ≡ b
          → option_map_or (λ cut. word_command texts cut.0 cut.1) o (cond b (Some Nodes) None) ≡ Some c → Spells line c
      at None _ true is h = subst (Spells line) (some_inj Nodes c h) (same line (codes "nodes") is, tt)
      at None _ false _ h = none_some c h
      at (Some cut) is b _ h =
          let read = word_sound cut.0 cut.1 c h in
          (cut_sound 32 line cut.0 cut.1 is ∙ read.0, read.1)

  told : (c : PairCommand T) → CommandFits texts c → pair_meaning texts (pair_spelling texts c) ≡ Some c
  unfolding pair_meaning
  told (Put k v) fit =
      let both = texts.text k ++ 32 ∷ texts.text v in
      let cut : cut_at 32 (pair_spelling texts (Put k v)) ≡ Some (codes "put", both) = cut_told 32 (codes "put") both (lacks_tested 32 (codes "put") refl) in
      rw cut (ap (option_map (λ p. Put p.0 p.1)) (two_keys_told texts words k v fit.0 fit.1))
  told (Cut k) fit =
      let cut : cut_at 32 (pair_spelling texts (Cut k)) ≡ Some (codes "cut", texts.text k) = cut_told 32 (codes "cut") (texts.text k) (lacks_tested 32 (codes "cut") refl) in
      rw cut (ap (option_map Cut) (words.items.reads_back k fit))
  told Nodes fit = refl

  pub pair_complete : (line : List ℕ) (c : PairCommand T) → line ≡ pair_spelling texts c → CommandFits texts c → pair_meaning texts line ≡ Some c
  pair_complete line c e fit = ap (pair_meaning texts) e ∙ told c fit

-- ---- no word is one of both kinds

-- the line begins with a word of a command to the map
begins_pairs : List ℕ → Bool
begins_pairs line = let x = get_or line 0 0 in (x == 112 || x == 99) || x == 110

without_pair_numbers : {T : Type 0} (texts : Texts T) (d : PairCommand T) → begins_pairs (pair_spelling texts d) ≡ true
unfolding begins_pairs
without_pair_numbers texts (Put k v) = refl
without_pair_numbers texts (Cut k) = refl
without_pair_numbers texts Nodes = refl

of_numbers : (c : Command) → begins_pairs (spelling c) ≡ false
unfolding begins_pairs
of_numbers (Add n) = refl
of_numbers (Del n) = refl
of_numbers (Has n) = refl
of_numbers (Rank n) = refl
of_numbers (At n) = refl
of_numbers Len = refl

pub apart : {T : Type 0} (texts : Texts T) (c : Command) (d : PairCommand T) → spelling c ≢ pair_spelling texts d
apart texts c d e = true≢false (sym (without_pair_numbers texts d) ∙ ap begins_pairs (sym e) ∙ of_numbers c)

-- a line that is a command to the set is not a command to the map
pub no_pairs_meant : (line : List ℕ) (c : Command) → meaning line ≡ Some c → pair_meaning number_texts line ≡ None
no_pairs_meant line c meant =
    elim (pair_meaning number_texts line) as (λ o. pair_meaning number_texts line ≡ o → o ≡ None) [
      | None ↦ λ e. refl
      | Some d ↦ λ e. absurd (apart number_texts c d (sym (sound line c meant).0 ∙ (pair_sound number_texts number_tokens line d e).0))
    ] refl
