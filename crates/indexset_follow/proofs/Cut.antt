-- A last line without a line end changes nothing.
use Rattle.std.proofs.Common.{◌≡◌, ◌≢◌, ℕ, ◌<◌, Bool, List, [], ◌∷◌, ◌++◌, length, map, refl, sym, ap, ◌∙◌, arith, append-nil}
use Rattle.std.proofs.lemmas.List.Elements.{All-nil}
use Rattle.indexset_lines.specs.Lines.{HasNoEnd, IsWhole, lines_of}
use Rattle.indexset_lines.specs.Run.{left_by, rest_reply, replies_to}
use Rattle.indexset_lines.proofs.CallerLemmas.{rest_of-append, whole_lines-append}
use Rattle.indexset_follow.specs.Store.{Held, after_input, first_held, held_after, held_cut, input_reply, without_return}
use Rattle.indexset_follow.specs.StoreRun.{store_after, store_text}
use Rattle.indexset_follow.specs.declared.others.Voice.{Voice}
use Rattle.std.specs.declared.cmp.Ordering.{Ordering}
use Rattle.indexset_wire.specs.Texts.{Texts}

module _ {T : Type 0} (cmp : T → T → Ordering) (texts : Texts T) where
  -- reading the lines of the input has the effect of these lines without the bytes 13
  lines_held : (h : Held T) (lines : List (List ℕ)) → left_by (after_input cmp texts) h lines ≡ held_after cmp texts h (map without_return lines)
  unfolding left_by
  lines_held h [] = refl
  lines_held h (line ∷ lines) = lines_held (after_input cmp texts h line) lines

  module _ (size w : ℕ) (leads : Bool) (whole : List ℕ) (is_whole : IsWhole whole) where
    abbrev first : Held T
    first = first_held size w leads

    abbrev bare : List (List ℕ)
    bare = map without_return (lines_of whole)

    pub all_held : store_after cmp texts size w leads whole ≡ held_after cmp texts first bare
    all_held =
        ap (store_after cmp texts size w leads) (sym (append-nil whole))
        ∙ ap (λ ls. held_after cmp texts first (map without_return ls))
        (whole_lines-append [] (All-nil (λ x. x ≢ 10)) whole is_whole)

    module _ (rest : List ℕ) (none : HasNoEnd rest) where
      pub held_whole : store_after cmp texts size w leads (whole ++ rest) ≡ store_after cmp texts size w leads whole
      held_whole = ap (λ ls. held_after cmp texts first (map without_return ls)) (whole_lines-append rest none whole is_whole) ∙ sym all_held

    module _ (v : Voice) where
      abbrev replies : List ℕ
      replies = replies_to (input_reply cmp texts v) (after_input cmp texts) first (lines_of whole)

      answered : (rest : List ℕ) → HasNoEnd rest
          → store_text cmp texts v size w leads (whole ++ rest)
          ≡ replies
          ++ rest_reply (input_reply cmp texts v) (after_input cmp texts) (held_cut cmp texts v)
          (left_by (after_input cmp texts) first (lines_of whole)) rest
      answered rest none = rw (whole_lines-append rest none whole is_whole, rest_of-append rest none whole is_whole) refl

      whole_answered : store_text cmp texts v size w leads whole ≡ replies
      whole_answered = ap (store_text cmp texts v size w leads) (sym (append-nil whole)) ∙ answered [] (All-nil (λ x. x ≢ 10)) ∙ append-nil replies

      is_held : store_after cmp texts size w leads whole ≡ left_by (after_input cmp texts) first (lines_of whole)
      is_held = all_held ∙ sym (lines_held first (lines_of whole))

      pub cut_answered : (rest : List ℕ) → HasNoEnd rest → 0 < length rest
          → store_text cmp texts v size w leads (whole ++ rest)
          ≡ store_text cmp texts v size w leads whole
          ++ held_cut cmp texts v (store_after cmp texts size w leads whole) rest
      cut_answered [] none some = absurd (omega (arith, some))
      cut_answered (x ∷ xs) none some = answered (x ∷ xs) none ∙ sym (λ i. whole_answered i ++ held_cut cmp texts v (is_held i) (x ∷ xs))
