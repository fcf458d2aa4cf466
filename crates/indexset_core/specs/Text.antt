-- The texts of pairs and nodes. A parameter gives the text of a value, if it is known.
use Rattle.std.specs.Prelude.{ℕ, Bool, List, [], ◌∷◌, Option, Some, codes, if◌then◌else◌}
use Rattle.std.specs.Fmt.{◌++?◌, decimal}
use Rattle.indexset_core.specs.declared.multipair.MultiPair.{MultiPair}
use Rattle.indexset_core.specs.declared.pair.Pair.{Pair}

-- the key, a colon and the value
abbrev pub pair_shown : {K V : Type 0} → (K → Option (List ℕ)) → (V → Option (List ℕ))
    → Pair K V → Option (List ℕ)
pair_shown key value p = key p.key ++? Some (codes ":") ++? value p.value

-- the key, a colon, the value, a space, a number sign and the number
abbrev pub multi_pair_shown : {K V : Type 0} → (K → Option (List ℕ)) → (V → Option (List ℕ))
    → MultiPair K V → Option (List ℕ)
multi_pair_shown key value p =
    key p.key ++? Some (codes ":") ++? value p.value ++? Some (codes " #")
    ++? Some (decimal p.discriminator)

-- the texts of items, each after a comma and a space
abbrev pub rest_shown : {T : Type 0} → (T → Option (List ℕ)) → List T → Option (List ℕ)
rest_shown shown [] = Some []
rest_shown shown (x ∷ l) = Some (codes ", ") ++? shown x ++? rest_shown shown l

-- the texts of items, separated by a comma and a space
abbrev pub items_shown : {T : Type 0} → (T → Option (List ℕ)) → List T → Option (List ℕ)
items_shown shown [] = Some []
items_shown shown (x ∷ l) = shown x ++? rest_shown shown l

-- the items of a node in brackets, after a space unless it is the first
abbrev pub node_shown : {T : Type 0} → (T → Option (List ℕ)) → Bool → List T → Option (List ℕ)
node_shown shown is_first l =
    Some (if is_first then codes "[" else codes " [") ++? items_shown shown l ++? Some (codes "]")
