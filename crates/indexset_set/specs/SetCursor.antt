-- A cursor in a list: it points at a position, or past the end, which is the length.
use Rattle.std.specs.Prelude.{ℕ, ◌+◌, ◌-◌, ◌==◌, List, length, min}
use Rattle.std.specs.Prelude.{Option, refl, slice_get, if◌then◌else◌}
use Rattle.std.specs.Coded.{Coded, code_by, coded×, coded_ℕ, coded_list}

pub record CursorState (X : Type 0) : Type 0 where
  pub list : List X
  pub position : ℕ

module _ {X : Type 0} where
  abbrev pub cursor_state_code : Coded X → Coded (CursorState X)
  cursor_state_code c =
      code_by (List X × ℕ) (coded× (coded_list c) coded_ℕ) (λ s. (s.list, s.position))
      (λ p. record { list = p.0; position = p.1 }) (λ _. refl)

  -- at the position, or past the end if there is no such item
  abbrev pub cursor_state_at : List X → ℕ → CursorState X
  cursor_state_at l i = record { list = l; position = min i (length l) }

  -- the next position; from past the end, the first
  abbrev pub next_state : CursorState X → CursorState X
  next_state s = record {
    list = s.list;
    position = if s.position == length s.list then 0 else s.position + 1;
  }

  -- the previous position; from the first, past the end
  abbrev pub previous_state : CursorState X → CursorState X
  previous_state s = record {
    list = s.list;
    position = if s.position == 0 then length s.list else s.position - 1;
  }

  -- the item that the cursor points at, none past the end
  abbrev pub item_at : CursorState X → Option X
  item_at s = slice_get s.list s.position
