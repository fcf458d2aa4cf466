-- Pairs appended to a map, one by one or as a run of its set.
use Rattle.std.proofs.Common.{◌≡◌, ℕ, ◌+◌, ◌-◌, ◌≤◌, List, [], ◌∷◌, ◌++◌, length, map, Ordering, refl, ap, sym, subst, ◌∙◌, arith}
use Rattle.std.specs.Cmp.{IsTotalOrder}
use Rattle.std.specs.List.{insert}
use Rattle.std.proofs.lemmas.List.{length-map, map-append, take_all}
use Rattle.std.proofs.lemmas.List.Edits.{insert_end}
use Rattle.std.proofs.lemmas.List.Sums.{fold-append}
use Rattle.indexset_core.specs.declared.pair.Pair.{Pair}
use Rattle.indexset_core.specs.Nodes.{concat, node_lengths}
use Rattle.indexset_core.specs.Order.{IsAscending}
use Rattle.indexset_core.specs.Pairs.{by_key, entry_of}
use Rattle.indexset_core.proofs.CallerLemmas.{gap_has_equal, gap_rank, length-concat-more}
use Rattle.indexset_spine.specs.NodeList.{NodeList, AreNodeLengths, node_list, end_spot, items, position_of, with_all_last, with_last}
use Rattle.indexset_spine.specs.Lengths.{IsPlace}
use Rattle.indexset_spine.proofs.CallerLemmas.{cut_last, joined_last, place_position, spot_place}
use Rattle.indexset_set.proofs.CallerLemmas.{all_nodes, front_ascending, gap_behind, still_up}
use Rattle.indexset_map.specs.Contents.{Contents, contents, with_all, with_entry}
use Rattle.indexset_map.proofs.SpotLemmas.{put_in}

-- the spot at the end of a node list is a place
module _ {X : Type 0} (ns : List (List X)) (some : 1 ≤ length ns) where
  behind_all : position_of ns (end_spot ns) ≡ length (concat ns)
  behind_all = omega (arith, length-concat-more ns (length ns - 1) (omega arith), ap (λ (l : List (List X)). length (concat l)) (take_all (length ns - 1 + 1) ns (omega arith)))

  behind_place : IsPlace (node_lengths ns) (end_spot ns)
  behind_place = spot_place ns (end_spot ns) (record { node_in = omega arith; offset_in = omega arith }) (λ _. omega arith)

module _ {K V : Type 0} (cmp : K → K → Ordering) (total : IsTotalOrder cmp) where
  module _ (size : ℕ) where
    -- a pair above all is inserted at the end
    one_behind : (ns : List (List (Pair K V))) (p : Pair K V) (rest : List (Pair K V))
        → AreNodeLengths (node_lengths ns) size → IsAscending (by_key cmp) (concat ns ++ p ∷ rest)
        → contents (node_list (with_last size ns p) size) ≡ with_entry cmp (contents (node_list ns size)) p.key p.value
    one_behind ns p rest is up =
        let some : 1 ≤ length ns = omega (arith, is.some, length-map ns (λ (n : List (Pair K V)). length n)) in
        let gap = gap_behind (by_key cmp) (concat ns) p rest up in
        let at = behind_all ns some in
        put_in cmp total (contents (node_list ns size)) p.key (end_spot ns) (gap_has_equal (by_key cmp) (concat ns) p _ gap) (front_ascending (by_key cmp) [] (concat ns) (p ∷ rest) up)
        (behind_place ns some) (place_position ns (end_spot ns) ∙ (at ∙ sym (gap_rank (by_key cmp) (concat ns) p _ gap))) (node_list ns size) (node_list (with_last size ns p) size) p.value refl
        (joined_last size ns p some ∙ (sym (insert_end (concat ns) p) ∙ ap (λ i. insert (concat ns) i p) (sym at))) refl refl

    -- the pairs of a run are inserted at the end, one by one
    run_behind : (ns : List (List (Pair K V))) (run : List (Pair K V)) → AreNodeLengths (node_lengths ns) size
        → IsAscending (by_key cmp) (concat ns ++ run)
        → contents (node_list (with_all_last size ns run) size)
        ≡ with_all cmp (contents (node_list ns size)) (map entry_of run)
    unfolding with_all_last
    run_behind ns [] is up = refl
    run_behind ns (p ∷ run) is up =
        run_behind (with_last size ns p) run (cut_last size ns p is) (still_up (by_key cmp) size ns p run is up)
        ∙ ap (λ (m : Contents K V). with_all cmp m (map entry_of run)) (one_behind ns p run is up)

  -- the set s of a map, with a run behind it, became t
  module _ (s t : NodeList (Pair K V)) (m : Contents K V) (e : contents s ≡ m) (sizes : t.size ≡ s.size) (run others : List (Pair K V)) (is : AreNodeLengths (node_lengths s.nodes) s.size) where
    resized : (ns : List (List (Pair K V))) → t.nodes ≡ ns → contents t ≡ contents (node_list ns s.size)
    resized ns same = ap (λ n. contents (node_list t.nodes n)) sizes ∙ ap (λ z. contents (node_list z s.size)) same

    -- after the move of the whole run
    pub run_moved : IsAscending (by_key cmp) (items s ++ run) → t.nodes ≡ with_all_last s.size s.nodes run → contents t ≡ with_all cmp m (map entry_of run)
    run_moved up moved =
        resized _ moved ∙ (run_behind s.size s.nodes run is up ∙ ap (λ (n : Contents K V). with_all cmp n (map entry_of run)) e)

    pub run_taken : IsAscending (by_key cmp) (items s ++ run) → others ≡ [] → with_all_last s.size t.nodes others ≡ with_all_last s.size s.nodes run → contents t ≡ with_all cmp m (map entry_of run)
    run_taken up none same = run_moved up (all_nodes others none s.size t.nodes _ same)

    -- with p at the end of the run, of which a prefix may have been inserted
    pub run_joined : (p : Pair K V) → AreNodeLengths (node_lengths t.nodes) t.size
        → IsAscending (by_key cmp) (items t ++ others) → items t ++ others ≡ items s ++ (run ++ p ∷ [])
        → with_all_last s.size t.nodes others ≡ with_all_last s.size s.nodes (run ++ p ∷ [])
        → with_all cmp (contents t) (map entry_of others) ≡ with_entry cmp (with_all cmp m (map entry_of run)) p.key p.value
    run_joined p still up all same =
        ap (λ (n : Contents K V). with_all cmp n (map entry_of others)) (resized t.nodes refl)
        ∙ (sym (run_behind s.size t.nodes others (subst (AreNodeLengths (node_lengths t.nodes)) sizes still) up)
        ∙ (ap (λ z. contents (node_list z s.size)) same
        ∙ (run_behind s.size s.nodes (run ++ p ∷ []) is (subst (IsAscending (by_key cmp)) all up)
        ∙ (ap (λ l. with_all cmp (contents s) l) (map-append entry_of run (p ∷ []))
        ∙ (fold-append (λ n e. with_entry cmp n e.0 e.1) (contents s) (map entry_of run) (entry_of p ∷ [])
        ∙ ap (λ (n : Contents K V). with_entry cmp (with_all cmp n (map entry_of run)) p.key p.value) e)))))

    -- with q, which is p, inserted after the move of the whole run
    pub run_then_put : (p q : Pair K V) (n : Contents K V) → q ≡ p → others ≡ []
        → IsAscending (by_key cmp) (items s ++ run) → t.nodes ≡ with_all_last s.size s.nodes run
        → n ≡ with_entry cmp (contents t) q.key q.value
        → with_all cmp n (map entry_of others) ≡ with_entry cmp (with_all cmp m (map entry_of run)) p.key p.value
    run_then_put p q n same none up moved put =
        ap (λ l. with_all cmp n (map entry_of l)) none
        ∙ (put
        ∙ (ap (λ (c : Contents K V). with_entry cmp c q.key q.value) (run_moved up moved)
        ∙ ap (λ (r : Pair K V). with_entry cmp (with_all cmp m (map entry_of run)) r.key r.value) same))
