-- Lists that are divided into shards by key, and commands that are routed to the shards.
use Rattle.std.specs.Prelude.{◌≡◌, ◌+◌, ◌<◌, ℕ, List, [], ◌∷◌, length, filter, take, drop, not}
use Rattle.std.specs.List.{All, count_by, fold}
use Rattle.std.specs.Ordering.{is_lt}
use Rattle.std.specs.declared.cmp.Ordering.{Ordering}
use Rattle.std.specs.declared.cmp.Ordering.TheVariants.{Less, Greater}
use Rattle.indexset.specs.Words.{concat, put, without}
use Rattle.indexset_uses.specs.declared.shards.Command.{Command}
use Rattle.indexset_uses.specs.declared.shards.Command.TheVariants.{Put, Cut}

-- the item of a command
abbrev pub subject : {T : Type 0} → Command T → T
subject (Put v) = v
subject (Cut v) = v

module _ {T : Type 0} (cmp : T → T → Ordering) where
  -- the list after a command
  abbrev pub after_command : List T → Command T → List T
  after_command l (Put v) = put cmp l v
  after_command l (Cut v) = without cmp l v

  -- the list after the commands, in order
  abbrev pub after_commands : List T → List (Command T) → List T
  after_commands l commands = fold after_command l commands

  -- the elements of each shard, where each border is the first key of the next shard
  abbrev pub parts : {X : Type 0} → (X → T) → List T → List X → List (List X)
  parts key [] xs = xs ∷ []
  parts key (b ∷ borders) xs =
      filter (λ x. is_lt (cmp (key x) b)) xs
      ∷ parts key borders (filter (λ x. not (is_lt (cmp (key x) b))) xs)

  -- the number of borders that are at most v
  abbrev pub not_above : List T → T → ℕ
  not_above borders v = count_by (λ b. not (is_lt (cmp v b))) borders

  -- all items in the shards before the k-th are less than v, and all items in those after it are
  -- greater
  pub record IsOwner (shards : List (List T)) (k : ℕ) (v : T) : Type 0 where
    pub inside : k < length shards
    pub below : All (λ x. cmp x v ≡ Less) (concat (take k shards))
    pub above : All (λ x. cmp x v ≡ Greater) (concat (drop (k + 1) shards))
