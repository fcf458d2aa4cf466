-- Clones.
use Rattle.std.specs.Prelude.{◌≡◌}

-- each clone is identical to its source
abbrev pub AreIdentical : {T : Type 0} → (T → T → Type 0) → Type 0
AreIdentical {T} C = (x y : T) → C x y → y ≡ x
