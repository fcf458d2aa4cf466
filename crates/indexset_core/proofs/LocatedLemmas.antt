-- The end of a search of a list of nodes, and what it finds.
use Rattle.std.proofs.Common.{◌≡◌, ℕ, ◌+◌, ◌<◌, ◌≤◌, Bool, true, false, if◌then◌else◌, List}
use Rattle.std.proofs.Common.{[], ◌∷◌, length, Result, Ok, Err, IfOk, IfErr, Ordering, Some}
use Rattle.std.proofs.Common.{None, slice_get, refl, sym, ◌∙◌, subst, arith, inl, inr}
use Rattle.std.specs.List.{All, find, position}
use Rattle.std.specs.Ordering.{is_lt, is_eq}
use Rattle.std.proofs.lemmas.Bool.{cases_lt, false≢true}
use Rattle.std.proofs.lemmas.List.Sums.{count_by-le-length}
use Rattle.std.proofs.lemmas.Option.{slice_get_past}
use Rattle.indexset_core.specs.Nodes.{concat, node_lengths, node_at, node_for, equal_at}
use Rattle.indexset_core.specs.Parted.{IsParted, less_count}
use Rattle.indexset_core.specs.Places.{IsPlace, items_before, located}
use Rattle.indexset_core.proofs.AscendingLemmas.{equal_inside, position_absent, position_found}
use Rattle.indexset_core.proofs.LocateLemmas.{ends_for, place_for}
use Rattle.indexset_core.proofs.NodeLemmas.{get_in_node}
use Rattle.indexset_core.proofs.PairLemmas.{find_absent, find_position}

-- a search of the whole list has the result of one of the node
module _ {T : Type 0} (answer : T → Ordering) (ns : List (List T)) (some : 1 ≤ length ns) (filled : All (λ n. 1 ≤ n) (node_lengths ns)) (parted : IsParted answer (concat ns)) where
  pub node_inside : node_for answer ns < length ns
  node_inside = omega (arith, some)

  pub read_joined : slice_get (concat ns) (less_count answer (concat ns)) ≡ slice_get (node_at ns (node_for answer ns)) (less_count answer (node_at ns (node_for answer ns)))
  read_joined =
      let k = node_for answer ns in
      let n = node_at ns k in
      let o = less_count answer n in
      let place = place_for answer ns some (λ _. filled) parted in
      elim (cases_lt o (length n)) [
        | inl lt ↦ rw (← place) (get_in_node ns k o node_inside lt)
        | inr ge ↦
            let past = ends_for answer ns some (λ _. filled) parted ge in
            slice_get_past (concat ns) _ (omega (arith, place, past)) ∙ sym (slice_get_past n o ge)
      ]

  pub equal_joined : equal_at answer (concat ns) (less_count answer (concat ns)) ≡ equal_at answer (node_at ns (node_for answer ns)) (less_count answer (node_at ns (node_for answer ns)))
  equal_joined = rw read_joined refl

-- the end of a search: the place before the first item that does not compare Less, which the next
-- place follows if that item compares Equal
module _ {T : Type 0} (answer : T → Ordering) where
  pub record IsEnd (found : Bool) (ns : List (List T)) (p : ℕ × ℕ) : Type 0 where
    pub node_is : p.0 ≡ node_for answer ns
    pub offset_is : p.1 ≡ less_count answer (node_at ns p.0)
    pub place : IsPlace ns p
    pub after : found ≡ true → IsPlace ns (p.0, p.1 + 1)
    pub before : items_before ns p ≡ less_count answer (concat ns)
    pub equal : equal_at answer (concat ns) (less_count answer (concat ns)) ≡ found

  abbrev Ends : List (List T) → Result (ℕ × ℕ) (ℕ × ℕ) → Type 0
  Ends ns r = IfOk r (IsEnd true ns) × IfErr r (IsEnd false ns)

  some_end : (ns : List (List T)) → All (λ n. 1 ≤ n) (node_lengths ns) → IsParted answer (concat ns) → 1 ≤ length ns → Ends ns (located answer ns)
  some_end ns filled parted some =
      let k = node_for answer ns in
      let i = less_count answer (node_at ns k) in
      let inside : k < length ns = node_inside answer ns some filled parted in
      let fits : i ≤ length (node_at ns k) = count_by-le-length (λ x. is_lt (answer x)) (node_at ns k) in
      let at : items_before ns (k, i) ≡ less_count answer (concat ns) = place_for answer ns some (λ _. filled) parted in
      let whole = equal_joined answer ns some filled parted in
      let told : Bool → Result (ℕ × ℕ) (ℕ × ℕ) = λ b. if b then Ok (k, i) else Err (k, i) in
      let end : (b : Bool) → equal_at answer (node_at ns k) i ≡ b → IsEnd b ns (k, i) = λ b e.
      record {
        node_is = refl;
        offset_is = refl;
        place = record { node_in = omega (arith, inside); offset_in = fits };
        after = λ yes. record { node_in = omega (arith, inside); offset_in = omega (arith, equal_inside answer (node_at ns k) i (e ∙ yes)) };
        before = at;
        equal = whole ∙ e;
      } in
      elim (equal_at answer (node_at ns k) i) as (λ b. equal_at answer (node_at ns k) i ≡ b → Ends ns (told b)) [
        | true ↦ λ e. (end true e, tt)
        | false ↦ λ e. (tt, end false e)
      ] refl

  pub located_end : (ns : List (List T)) → All (λ n. 1 ≤ n) (node_lengths ns) → IsParted answer (concat ns) → Ends ns (located answer ns)
  located_end [] filled parted = (
    tt,
    record { node_is = refl; offset_is = refl; place = record { node_in = omega arith; offset_in = omega arith }; after = λ yes. absurd (false≢true yes); before = refl; equal = refl },
  )
  located_end (n ∷ ns) filled parted = some_end (n ∷ ns) filled parted (omega arith)

-- a place that is not at the end of its node is in an existing node
pub place_inside : {T : Type 0} (ns : List (List T)) (p : ℕ × ℕ) → IsPlace ns (p.0, p.1 + 1) → p.0 < length ns
place_inside [] p after = absurd (omega (arith, after.offset_in))
place_inside (n ∷ ns) p after = omega (arith, after.node_in)

-- what a search finds
module _ {T : Type 0} (answer : T → Ordering) (ns : List (List T)) (filled : All (λ n. 1 ≤ n) (node_lengths ns))
    (parted : IsParted answer (concat ns)) (r : Result (ℕ × ℕ) (ℕ × ℕ)) (e : r ≡ located answer ns) (p : ℕ × ℕ) where
  pub end_at : r ≡ Ok p → IsEnd answer true ns p
  end_at is = subst (λ q. IfOk q (IsEnd answer true ns)) (sym e ∙ is) (located_end answer ns filled parted).0

  pub end_gap : r ≡ Err p → IsEnd answer false ns p
  end_gap is = subst (λ q. IfErr q (IsEnd answer false ns)) (sym e ∙ is) (located_end answer ns filled parted).1

  module _ (is : r ≡ Ok p) where
    pub end_node : p.0 < length ns
    end_node = let end = end_at is in place_inside ns p (end.after refl)

    pub end_offset : p.1 < length (node_at ns p.0)
    end_offset = let end = end_at is in let after = end.after refl in omega (arith, after.offset_in)

    pub end_read : slice_get (concat ns) (less_count answer (concat ns)) ≡ slice_get (node_at ns p.0) p.1
    end_read = let end = end_at is in rw (← end.before) (get_in_node ns p.0 p.1 end_node end_offset)

    pub end_position : position (λ x. is_eq (answer x)) (concat ns) ≡ Some (less_count answer (concat ns))
    end_position = let end = end_at is in position_found answer (concat ns) (less_count answer (concat ns)) parted refl end.equal

    pub end_found : find (λ x. is_eq (answer x)) (concat ns) ≡ slice_get (node_at ns p.0) p.1
    end_found = find_position (λ x. is_eq (answer x)) (concat ns) (less_count answer (concat ns)) end_position ∙ end_read

  module _ (is : r ≡ Err p) where
    pub gap_position : position (λ x. is_eq (answer x)) (concat ns) ≡ None
    gap_position = let end = end_gap is in position_absent answer (concat ns) (less_count answer (concat ns)) parted refl end.equal

    pub gap_found : find (λ x. is_eq (answer x)) (concat ns) ≡ None
    gap_found = find_absent (λ x. is_eq (answer x)) (concat ns) gap_position
