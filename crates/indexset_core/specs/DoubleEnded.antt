-- Calls of `next` and `next_back` of an iterator.
use Rattle.std.specs.Prelude.{◌≡◌, ◌-◌, Bool, true, false, List, []}
use Rattle.std.specs.Prelude.{◌∷◌, ◌++◌, length, Option, Some, None}
use Rattle.std.specs.Map.Iter.{TakesFirst, TakesLast}

module _ {A X : Type 0} (next back : List X → Option A → List X → Type 0) where
  -- the calls of `next`, for true, and of `next_back`, for false, returned rs and changed s to t
  abbrev pub CallsBy : List Bool → List X → List (Option A) → List X → Type 0
  CallsBy [] s [] t = s ≡ t
  CallsBy [] s (r ∷ rs) t = ⊥
  CallsBy (end ∷ ends) s [] t = ⊥
  CallsBy (true ∷ ends) s (r ∷ rs) t = (u : List X) × next s r u × CallsBy ends u rs t
  CallsBy (false ∷ ends) s (r ∷ rs) t = (u : List X) × back s r u × CallsBy ends u rs t

module _ {A X : Type 0} (shows : A → X) where
  -- the calls of `next`, for true, and of `next_back`, for false, of an iterator that yields its
  -- items in order from both ends, returned rs and changed s to t
  abbrev pub Calls : List Bool → List X → List (Option A) → List X → Type 0
  Calls ends s rs t = CallsBy (TakesFirst shows) (TakesLast shows) ends s rs t

  -- what the calls of `next` returned, in order
  abbrev pub front_items : List Bool → List (Option A) → List X
  front_items [] rs = []
  front_items (end ∷ ends) [] = []
  front_items (end ∷ ends) (None ∷ rs) = front_items ends rs
  front_items (true ∷ ends) (Some x ∷ rs) = shows x ∷ front_items ends rs
  front_items (false ∷ ends) (Some x ∷ rs) = front_items ends rs

  -- what the calls of `next_back` returned, in reverse
  abbrev pub back_items : List Bool → List (Option A) → List X
  back_items [] rs = []
  back_items (end ∷ ends) [] = []
  back_items (end ∷ ends) (None ∷ rs) = back_items ends rs
  back_items (true ∷ ends) (Some x ∷ rs) = back_items ends rs
  back_items (false ∷ ends) (Some x ∷ rs) = back_items ends rs ++ shows x ∷ []

-- for any calls of `next` and `next_back`, the iterator yields each item once; each call leaves one
-- item less; with no item remaining both return `None`
pub record IsDoubleEnded {A X : Type 0} (shows : A → X)
    (next back : List X → Option A → List X → Type 0) : Type 0 where
  pub each_once : (ends : List Bool) (s t : List X) (rs : List (Option A))
      → CallsBy next back ends s rs t
      → s ≡ front_items shows ends rs ++ (t ++ back_items shows ends rs)
  pub ends : (ends : List Bool) (s t : List X) (rs : List (Option A))
      → CallsBy next back ends s rs t → length t ≡ length s - length ends
  pub fused : (r : Option A) (t : List X) → next [] r t → (r ≡ None) × (t ≡ [])
  pub fused_back : (r : Option A) (t : List X) → back [] r t → (r ≡ None) × (t ≡ [])
