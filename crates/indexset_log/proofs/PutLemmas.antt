-- A put into a tree, by its aim.
use Rattle.std.proofs.Common.{◌≡◌, ℕ, suc, ◌+◌, ◌/◌, ◌<◌, ◌≤◌, Bool, true, false, cond, if◌then◌else◌, List, []}
use Rattle.std.proofs.Common.{◌∷◌, ◌++◌, length, set, take, eqb, Option, Some, None, is_some, is_err, is_ok}
use Rattle.std.proofs.Common.{Ordering, Result, Ok, Err, refl, ap, sym, ◌∙◌, subst, arith, length-append}
use Rattle.std.specs.Cmp.{IsTotalOrder}
use Rattle.std.specs.Ordering.{is_eq}
use Rattle.std.proofs.lemmas.Bool.{eqb-false, false≢true}
use Rattle.indexset_core.specs.Nodes.{concat, node_at}
use Rattle.indexset_core.specs.Order.{IsAscending, put, has_equal, equal_element}
use Rattle.indexset_core.proofs.CallerLemmas.{is_some-find, has_equal_found}
use Rattle.indexset_log.specs.declared.insert_plan.InsertPlan.{InsertPlan}
use Rattle.indexset_events.specs.declared.change.ChangeEventUnassigned.{ChangeEventUnassigned}
use Rattle.indexset_events.specs.declared.change.ChangeEventUnassigned.TheVariants.{SplitNode}
use Rattle.indexset_log.specs.InsertPlan.{IsInsertPlan, IsPlanned, count_for}
use Rattle.indexset_events.specs.Edits.{with_halved, with_room, with_put}
use Rattle.indexset_events.specs.Nodes.{is_filled, last_of}
use Rattle.indexset_log.specs.Tree.{IsTree}
use Rattle.indexset_events.specs.Replay.{numbered_from, assigned}
use Rattle.indexset_events.specs.Table.{target, half_of, part_for, is_after_last, halving_events, node_events, target_events, put_events}
use Rattle.indexset_events.proofs.CallerLemmas.{Roomy, Ruled, ascends, each_all, equal_in_target, filled_length}
use Rattle.indexset_events.proofs.CallerLemmas.{half_and, lawful_bounded, lawful_ruled, lawful_small, length_filled}
use Rattle.indexset_events.proofs.CallerLemmas.{ne_from, node_count, put_events_none, roomy, up_node}

numbered-append : {T : Type 0} (s : ℕ) (xs ys : List (ChangeEventUnassigned T)) → numbered_from s (xs ++ ys) ≡ numbered_from s xs ++ numbered_from (s + length xs) ys
numbered-append s [] ys = ap (λ k. numbered_from k ys) (omega arith)
numbered-append s (x ∷ xs) ys =
    let next : s + 1 + length xs ≡ s + suc (length xs) = omega arith in
    ap (λ q. assigned s x ∷ q) (numbered-append (s + 1) xs ys ∙ ap (λ k. numbered_from (s + 1) xs ++ numbered_from k ys) next)

-- a put adds one item if no equal one is present
pub grown : (at : Result ℕ ℕ) → is_err at ≡ true → 1 ≤ cond (is_ok at) 0 1
grown (Ok i) none = absurd (false≢true none)
grown (Err i) none = omega arith

-- a put into a tree, as the code makes it
module _ {T : Type 0} {cmp : T → T → Ordering} {most size len : ℕ} {ns : List (List T)} (o : IsTotalOrder cmp) (t : IsTree cmp most ns size len) where
  ruled : Ruled cmp ns
  ruled = lawful_ruled cmp size ns t.lawful

  module _ {v : T} {a : InsertPlan} (h : IsInsertPlan cmp size ns v a) where
    some : is_filled ns ≡ true
    some = length_filled ns (omega (arith, h.node_in))

    r : Roomy cmp o v size ns (node_at ns (target cmp ns v)) (target cmp ns v) (with_room cmp size ns v)
    r = roomy cmp o v size t.two ns ruled (lawful_bounded cmp size ns t.lawful) some

    place_in : target cmp (with_room cmp size ns v) v < length (with_room cmp size ns v)
    place_in = let d = r in omega (arith, filled_length (with_room cmp size ns v) d.some)

    part_is : node_at (with_room cmp size ns v) (target cmp (with_room cmp size ns v) v) ≡ part_for cmp size (node_at ns a.node) v
    part_is = let d = r in rw h.node_is d.part

    pub half_is : half_of a.full a.right (node_at ns a.node) ≡ part_for cmp size (node_at ns a.node) v
    half_is = rw (h.full_is, h.right_is) (half_and (eqb (length (node_at ns a.node)) size) (is_after_last cmp (take (length (node_at ns a.node) / 2) (node_at ns a.node)) v) (node_at ns a.node))

    pub part_up : IsAscending cmp (part_for cmp size (node_at ns a.node) v)
    part_up = let d = r in subst (IsAscending cmp) part_is (ascends cmp _ (up_node cmp (with_room cmp size ns v) (target cmp (with_room cmp size ns v) v) d.ruled))

    pub part_some : 1 ≤ length (part_for cmp size (node_at ns a.node) v)
    part_some = let d = r in let ruled : Ruled cmp (with_room cmp size ns v) = d.ruled in
        subst (λ q. 1 ≤ length q) part_is
        (filled_length _
        (each_all _ (with_room cmp size ns v) ruled.filled (target cmp (with_room cmp size ns v) v) [] place_in))

    -- the events of the put, in two parts
    pub events_parts : put_events cmp size ns v ≡ halving_events size (node_at ns a.node) v ++ node_events cmp (part_for cmp size (node_at ns a.node) v) v
    unfolding put_events target_events
    events_parts = rw (some, h.node_is) refl

    halving_count : (n : List T) → length (halving_events size n v) ≡ cond (eqb (length n) size) 1 0
    halving_count n = elim (eqb (length n) size) as (λ t. length (if t then SplitNode (last_of n v) (length n / 2) ∷ [] else []) ≡ cond t 1 0) [
      | true ↦ refl
      | false ↦ refl
    ]

    pub events_numbered : (s : ℕ)
        → numbered_from s (put_events cmp size ns v)
        ≡ numbered_from s (halving_events size (node_at ns a.node) v)
        ++ numbered_from (s + cond (eqb (length (node_at ns a.node)) size) 1 0)
        (node_events cmp (part_for cmp size (node_at ns a.node) v) v)
    events_numbered s =
        ap (numbered_from s) events_parts
        ∙ (numbered-append s (halving_events size (node_at ns a.node) v)
        (node_events cmp (part_for cmp size (node_at ns a.node) v) v)
        ∙ rw (halving_count (node_at ns a.node)) refl)

    pub parts_length : length (put_events cmp size ns v) ≡ cond (eqb (length (node_at ns a.node)) size) 1 0 + length (node_events cmp (part_for cmp size (node_at ns a.node) v) v)
    parts_length =
        ap (λ q. length q) events_parts
        ∙ (length-append (halving_events size (node_at ns a.node) v)
        (node_events cmp (part_for cmp size (node_at ns a.node) v) v)
        ∙ rw (halving_count (node_at ns a.node)) refl)

    pub events_count : length (put_events cmp size ns v) ≡ cond a.full 1 0 + cond (is_ok a.at) 2 1
    events_count =
        let part = part_for cmp size (node_at ns a.node) v in
        let puts : length (node_events cmp part v) ≡ cond (is_ok a.at) 2 1 = node_count cmp o v part ∙ ap (λ b. cond b 2 1) (sym (has_equal_found cmp part v a.at h.found h.gap)) in
        parts_length ∙ rw (puts, ← h.full_is) refl

    pub element_is : equal_element cmp (part_for cmp size (node_at ns a.node) v) v ≡ equal_element cmp (concat ns) v
    element_is = let d = r in ap (λ q. equal_element cmp q v) (sym part_is) ∙ (sym (equal_in_target cmp o v (with_room cmp size ns v) d.ruled d.some) ∙ ap (λ q. equal_element cmp q v) d.same)

    pub equal_is : has_equal cmp (concat ns) v ≡ is_ok a.at
    equal_is =
        let part = part_for cmp size (node_at ns a.node) v in
        let test : T → Bool = λ x. is_eq (cmp x v) in
        sym (is_some-find test (concat ns)) ∙ (ap is_some (sym element_is) ∙ (is_some-find test part ∙ sym (has_equal_found cmp part v a.at h.found h.gap)))

    pub whole_room : a.full ≡ false → length (node_at ns a.node) < size
    whole_room e = omega (arith, ne_from (length (node_at ns a.node)) size (eqb-false (length (node_at ns a.node)) size (sym h.full_is ∙ e)) (lawful_small cmp size ns t.lawful a.node h.node_in))

    -- the nodes after the code made room, and the place of the node that the item is inserted into
    module _ (seen : List (List T)) (p : ℕ) where
      pub record Spot : Type 0 where
        pub inside : p < length seen
        pub part : node_at seen p ≡ part_for cmp size (node_at ns a.node) v
        pub same : concat seen ≡ concat ns
        pub made : set seen p (put cmp (node_at seen p) v) ≡ with_put cmp size ns v

      pub spot : {olds : List (List T)} → olds ≡ ns → seen ≡ (if a.full then with_halved olds a.node else olds) → p ≡ a.node + cond a.right 1 0 → Spot
      unfolding with_put
      spot same held place =
          let d = r in
          let ms = with_room cmp size ns v in
          let sees : seen ≡ ms = held ∙ rw (same, h.full_is, h.node_is) refl in
          let aims : p ≡ target cmp ms v = place ∙ rw (h.right_is, h.node_is) (sym d.place) in
          rw sees (record {
            inside = omega (arith, aims, place_in);
            part = ap (node_at ms) aims ∙ part_is;
            same = d.same;
            made = rw some (ap (λ k. set ms k (put cmp (node_at ms k) v)) aims);
          })

  -- by its aim
  pub count_aimed : (v : T) (aim : Option InsertPlan) → IsPlanned cmp size ns v aim → length (put_events cmp size ns v) ≡ count_for aim
  count_aimed v None none = ap (λ q. length q) (put_events_none cmp size v ns none)
  count_aimed v (Some a) h = events_count h
