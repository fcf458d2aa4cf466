-- The merge of two ascending lists, and the lists that are read from it.
use Rattle.std.specs.Prelude.{List, [], ◌∷◌, map, Option, Some, None}
use Rattle.std.specs.List.{filter_map}
use Rattle.std.specs.Ordering.{match_ordering}
use Rattle.std.specs.declared.cmp.Ordering.{Ordering}
use Rattle.indexset_set.specs.declared.algebra.merge.MergeItem.{MergeItem}
use Rattle.indexset_set.specs.declared.algebra.merge.MergeItem.TheVariants.{Left, Right, Both}

abbrev pub map_merge_item : {X Y : Type 0} → (X → Y) → MergeItem X → MergeItem Y
map_merge_item f (Left x) = Left (f x)
map_merge_item f (Right y) = Right (f y)
map_merge_item f (Both x y) = Both (f x) (f y)

module _ {X : Type 0} where
  -- the item of the left list, or of the right list, if any
  abbrev pub of_left : MergeItem X → Option X
  of_left (Left x) = Some x
  of_left (Right y) = None
  of_left (Both x y) = Some x

  abbrev pub of_right : MergeItem X → Option X
  of_right (Left x) = None
  of_right (Right y) = Some y
  of_right (Both x y) = Some y

  -- the item of either list; of two the left one
  abbrev pub of_either : MergeItem X → Option X
  of_either (Left x) = Some x
  of_either (Right y) = Some y
  of_either (Both x y) = Some x

  -- the left item, if both lists have one
  abbrev pub of_both : MergeItem X → Option X
  of_both (Left x) = None
  of_both (Right y) = None
  of_both (Both x y) = Some x

  -- the left item, if only the left list has one
  abbrev pub of_left_alone : MergeItem X → Option X
  of_left_alone (Left x) = Some x
  of_left_alone (Right y) = None
  of_left_alone (Both x y) = None

  -- the item, if only one list has one
  abbrev pub of_one_alone : MergeItem X → Option X
  of_one_alone (Left x) = Some x
  of_one_alone (Right y) = Some y
  of_one_alone (Both x y) = None

  -- what f reads from each item, in order
  abbrev pub read : (MergeItem X → Option X) → List (MergeItem X) → List X
  read f m = filter_map f m

module _ {T : Type 0} (cmp : T → T → Ordering) where
  -- x and more, merged with a list, where `after` is the merge of more
  abbrev pub merged_from : T → List T → (List T → List (MergeItem T)) → List T → List (MergeItem T)
  merged_from x more after [] = map Left (x ∷ more)
  merged_from x more after (y ∷ ys) =
      match_ordering (cmp x y) (Left x ∷ after (y ∷ ys)) (Both x y ∷ after ys)
      (Right y ∷ merged_from x more after ys)

  -- the items of two lists, merged, each with the lists that have it
  abbrev pub merged : List T → List T → List (MergeItem T)
  merged [] r = map Right r
  merged (x ∷ xs) r = merged_from x xs (merged xs) r
