-- A run of a map in either role, defined on the bytes that remain in its reader and on the contents
-- of its writer.
use Rattle.std.specs.Prelude.{Bool, Option, ℕ, List, map}
use Rattle.indexset_lines.specs.Lines.{whole_lines}
use Rattle.indexset_lines.specs.Run as lines
use Rattle.indexset_follow.specs.Store.{Held, after_input, first_held, held_after}
use Rattle.indexset_follow.specs.Store.{held_cut, held_lacks, input_reply, without_return}
use Rattle.indexset_follow.specs.declared.others.Voice.{Voice}
use Rattle.std.specs.declared.cmp.Ordering.{Ordering}
use Rattle.indexset_wire.specs.Texts.{Texts}

module _ {T : Type 0} (cmp : T → T → Ordering) (texts : Texts T) where
  -- the answers to the lines of the input, from the initial map
  abbrev pub store_text : Voice → ℕ → ℕ → Bool → List ℕ → List ℕ
  store_text v size window leads =
      lines.text_of (input_reply cmp texts v) (after_input cmp texts) (held_cut cmp texts v)
      (first_held size window leads)

-- the lines of the input that have a line end
abbrev pub input_lines : List ℕ → List (List ℕ)
input_lines input = map without_return (whole_lines input)

module _ {T : Type 0} (cmp : T → T → Ordering) (texts : Texts T) where
  -- the map after an input; the bytes after its last line end change nothing
  abbrev pub store_after : ℕ → ℕ → Bool → List ℕ → Held T
  store_after size window leads input =
      held_after cmp texts (first_held size window leads) (input_lines input)

  -- the reader returned an input to its end, and the answers were written
  abbrev pub AnswersAll : Voice → ℕ → ℕ → Bool
      → (reader reader' writer writer' : Option (List ℕ)) → Type 0
  AnswersAll v size window leads = lines.AnswersAll (store_text cmp texts v size window leads)

  -- the reader returned whole lines and such a rest, and the answers to the whole lines were
  -- written
  abbrev pub AnswersWholeLines : Voice → ℕ → ℕ → Bool → (List ℕ → Type 0)
      → (reader reader' writer writer' : Option (List ℕ)) → Type 0
  AnswersWholeLines v size window leads =
      lines.AnswersWholeLines (input_reply cmp texts v) (after_input cmp texts)
      (first_held size window leads)

  -- the same, where the rest is the line whose events need more numbers than remain
  abbrev pub LacksNumbers : Voice → ℕ → ℕ → Bool
      → (reader reader' writer writer' : Option (List ℕ)) → Type 0
  LacksNumbers v size window leads =
      lines.LacksNumbers (input_reply cmp texts v) (after_input cmp texts)
      (first_held size window leads) held_lacks
