-- The rank and the position of an item in a list that a comparator partitions.
use Rattle.std.proofs.Common.{◌≡◌, ℕ, ◌<◌, Bool, true, false, if◌then◌else◌, List, length, Ordering, Option, Some, None}
use Rattle.std.proofs.Common.{IfSome, Result, Ok, Err, IfOk, IfErr, is_some, slice_get, refl, ap, sym, inl, inr, ◌∙◌}
use Rattle.std.specs.declared.cmp.Ordering.TheVariants.{Less}
use Rattle.std.specs.List.{AllWithin, find, list_any, position}
use Rattle.std.specs.Ordering.{is_eq, is_lt}
use Rattle.std.specs.Result.{result_ok}
use Rattle.std.proofs.lemmas.Bool.{cases_lt, false≢true}
use Rattle.std.proofs.lemmas.Option.{none-some, same_Some, slice_get_past}
use Rattle.indexset_core.specs.Nodes.{equal_at}
use Rattle.indexset_core.specs.Parted.{IsParted, less_count}
use Rattle.indexset_core.proofs.AscendingLemmas.{equal_inside, is_some-find, position_absent, position_found}
use Rattle.indexset_core.proofs.OrderLemmas.{less_from}
use Rattle.indexset_core.proofs.PairLemmas.{any_position, find_absent, find_position}
use Rattle.indexset_core.proofs.PartedLemmas.{Parts, count_parts, front-is_lt}

module _ {T : Type 0} (answer : T → Ordering) (l : List T) where
  abbrev equal : T → Bool
  equal x = is_eq (answer x)

  -- i is how many items compare Less: the first that compares Equal, if any, is at i
  pub record IsRank (i : ℕ) : Type 0 where
    pub there : list_any equal l ≡ true → slice_get l i ≡ find equal l
    pub inside : list_any equal l ≡ true → i < length l
    pub before : AllWithin (λ x. answer x ≡ Less) l 0 i

  -- the same for the position of the first that compares Equal
  pub record IsIndex (o : Option ℕ) : Type 0 where
    pub value : o ≡ (if list_any equal l then Some (less_count answer l) else None)
    pub there : IfSome o (λ i. slice_get l i ≡ find equal l)
    pub inside : IfSome o (λ i. i < length l)

  module _ (parted : IsParted answer l) where
    first_there : list_any equal l ≡ true → position equal l ≡ Some (less_count answer l)
    first_there some = elim (equal_at answer l (less_count answer l)) as (λ b. equal_at answer l (less_count answer l) ≡ b → position equal l ≡ Some (less_count answer l)) [
      | true ↦ λ e. position_found answer l (less_count answer l) parted refl e
      | false ↦ λ e. absurd (false≢true (ap is_some (sym (find_absent equal l (position_absent answer l (less_count answer l) parted refl e))) ∙ (is_some-find equal l ∙ some)))
    ] refl

    rank_there : list_any equal l ≡ true → slice_get l (less_count answer l) ≡ find equal l
    rank_there some = sym (find_position equal l (less_count answer l) (first_there some))

    rank_inside : list_any equal l ≡ true → less_count answer l < length l
    rank_inside some = elim (cases_lt (less_count answer l) (length l)) [
      | inl lt ↦ lt
      | inr ge ↦ absurd (false≢true (ap is_some (sym (slice_get_past l (less_count answer l) ge) ∙ rank_there some) ∙ (is_some-find equal l ∙ some)))
    ]

    pub rank_is : (i : ℕ) → i ≡ less_count answer l → IsRank i
    rank_is i place =
        let parts : Parts (λ x. is_lt (answer x)) l (less_count answer l) = count_parts is_lt front-is_lt answer l parted in
        rw place (record {
          there = rank_there;
          inside = rank_inside;
          before = λ k d low high. less_from _ (parts.before k d low high);
        })

    -- as a search returns it
    pub index_is : (r : Result ℕ ℕ) → IfOk r (λ i. position equal l ≡ Some i) → IfErr r (λ _. position equal l ≡ None) → IsIndex (result_ok r)
    index_is (Err i) found absent =
        let none = find_absent equal l absent in
        let any : list_any equal l ≡ false = sym (is_some-find equal l) ∙ ap is_some none in
        record { value = rw any refl; there = tt; inside = tt }
    index_is (Ok i) found absent = elim (equal_at answer l (less_count answer l)) as (λ b. equal_at answer l (less_count answer l) ≡ b → IsIndex (Some i)) [
      | true ↦ λ e.
          let same : i ≡ less_count answer l = same_Some i (less_count answer l) (sym found ∙ position_found answer l (less_count answer l) parted refl e) in
          let lt : i < length l = rw same (equal_inside answer l (less_count answer l) e) in
          let there = sym (find_position equal l i found) in
          let any = any_position equal l i found there lt in
          record { value = rw any (ap Some same); there = there; inside = lt }
      | false ↦ λ e. absurd (none-some i (sym (position_absent answer l (less_count answer l) parted refl e) ∙ found))
    ] refl
