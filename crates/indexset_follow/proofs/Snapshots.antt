-- A follower that reads a snapshot has its state.
use Rattle.std.specs.Option.{option_map_or}
use Rattle.std.specs.Prelude.{nat_lt}
use Rattle.std.proofs.Common.{◌≡◌, ◌≢◌, ◌⊎◌, ◌==◌, inl, inr, Option, Bool, false, None, Some, IfSome}
use Rattle.std.proofs.Common.{IsSomeAnd, ℕ, ◌<◌, ◌^◌, true, if◌then◌else◌, List, [], ◌∷◌, ◌++◌, length, map}
use Rattle.std.proofs.Common.{insert, Ordering, refl, sym, ap, subst, ◌∙◌, arith, append_assoc, append-nil}
use lib.Chars.{codes}
use Rattle.std.specs.declared.cmp.Ordering.TheVariants.{Less}
use Rattle.std.proofs.lemmas.List.Edits.{insert_end}
use Rattle.std.proofs.lemmas.List.Elements.{All-append, All-cons, All-head, All-nil, All-tail}
use Rattle.std.proofs.lemmas.List.Sums.{sum_by-cons}
use Rattle.std.specs.Fmt.{decimal}
use Rattle.std.specs.List.{All, list_all}
use Rattle.std.specs.Ordering.{is_lt}
use Rattle.indexset_lines.specs.Run.{left_by}
use Rattle.indexset_lines.proofs.CallerLemmas.{left_by-append, lines_of-line}
use Rattle.std.proofs.lemmas.Bool.{eq-eqb, eqb-true}
use Rattle.indexset_lines.specs.Lines.{HasNoEnd, lines_of}
use Rattle.indexset_bench.specs.PairText.{ended, lines_for, node_text, pair_text}
use Rattle.indexset_core.proofs.CallerLemmas.{concat-append}
use Rattle.indexset_core.specs.Nodes.{IsNodeList, concat}
use Rattle.indexset_core.specs.Pairs.{by_key}
use Rattle.indexset_core.specs.declared.pair.Pair.{Pair}
use Rattle.indexset_events.proofs.CallerLemmas.{Each, Ruled, Up, each-left, each-right, nodes_ruled, not_refused, up-between, up-left, up-right, up_true}
use Rattle.indexset_events.specs.Attach.{attach_index, attach_refusal, attached, lies_apart, lies_below}
use Rattle.indexset_events.specs.Nodes.{is_filled}
use Rattle.indexset_follow.specs.EventLine.{Event, event_of}
use Rattle.indexset_follow.specs.Copy.{Copy, body_text, copy, end_line, snapshot_text, sum_of, unsummed_text}
use Rattle.indexset_follow.specs.Follow.{State, after_event, after_line, after_mark, after_node, has_sum, holding, put_in_place, state_after, with_coming, with_done}
use Rattle.indexset_follow.specs.NodeLine.{NodeFits, node_line, node_of}
use Rattle.indexset_wire.specs.Parts.{cut_at}
use Rattle.indexset_follow.specs.Numbers.{tail_text}
use Rattle.indexset_bench.specs.Texts.{PairFits}
use Rattle.indexset_wire.specs.Texts.{AreTokens, Texts}
use Rattle.indexset_follow.specs.Mark.{LacksEnd, MarkFits, mark_line, mark_of, sum_text}
use Rattle.indexset_follow.specs.declared.mark.Mark.TheVariants.{Start, End, Done}
use Rattle.indexset_follow.specs.declared.mark.Mark.{Mark}
use Rattle.indexset_follow.proofs.MarkLines.{end_cut, mark_told, start_cut}
use Rattle.indexset_follow.proofs.NodeLines.{node_told}
use Rattle.indexset_follow.proofs.Sums.{sum_small}
use Rattle.indexset_wire.specs.Numbers.Laws.{number_lacks}
use Rattle.indexset_wire.specs.Parts.Laws.{Lacks, cut_told, lacks_tested}
use Rattle.indexset_follow.proofs.Readings.{end_apart, no_number, pair_lacks}

-- ---- consecutive nodes

module _ {T : Type 0} (cmp : T → T → Ordering) where
  row_below : (x : T) (ys : List T) → Each (λ y. cmp x y ≡ Less) ys → list_all (λ y. is_lt (cmp x y)) ys ≡ true
  row_below x [] h = refl
  row_below x (y ∷ ys) h = rw h.0 (row_below x ys h.1)

  one_below : (m n : List T) → Each (λ x. Each (λ y. cmp x y ≡ Less) n) m → lies_below cmp m n ≡ true
  one_below [] n h = refl
  one_below (x ∷ m) n h = rw (row_below x n h.0) (one_below m n h.1)

  all_below : (done : List (List T)) (n : List T) → Each (λ x. Each (λ y. cmp x y ≡ Less) n) (concat done) → Each (λ m. lies_below cmp m n ≡ true) done
  all_below [] n h = tt
  all_below (m ∷ done) n h = (one_below m n (each-left (λ x. Each (λ y. cmp x y ≡ Less) n) m (concat done) h), all_below done n (each-right (λ x. Each (λ y. cmp x y ≡ Less) n) m (concat done) h))

  count_all : (done : List (List T)) (n : List T) → Each (λ m. lies_below cmp m n ≡ true) done → attach_index cmp done n ≡ length done
  unfolding attach_index
  count_all [] n h = refl
  count_all (m ∷ done) n h = sum_by-cons (λ m. if lies_below cmp m n then 1 else 0) m done ∙ rw h.0 (omega (arith, count_all done n h.1))

  all_apart : (done : List (List T)) (n : List T) → Each (λ m. lies_below cmp m n ≡ true) done → lies_apart cmp done n ≡ true
  unfolding lies_apart
  all_apart [] n h = refl
  all_apart (m ∷ done) n h = rw h.0 (all_apart done n h.1)

  front_of : (n rest : List T) (xs : List T) → Each (λ x. Each (λ y. cmp x y ≡ Less) (n ++ rest)) xs → Each (λ x. Each (λ y. cmp x y ≡ Less) n) xs
  front_of n rest [] h = tt
  front_of n rest (x ∷ xs) h = (each-left (λ y. cmp x y ≡ Less) n rest h.0, front_of n rest xs h.1)

  -- the next node is appended to those so far
  module _ (done rest : List (List T)) (n : List T) (rule : Ruled cmp (done ++ n ∷ rest)) where
    whole : Up cmp (concat done ++ (n ++ concat rest))
    whole = subst (Up cmp) (concat-append done (n ∷ rest)) rule.up

    below : Each (λ m. lies_below cmp m n ≡ true) done
    below = all_below done n (front_of n (concat rest) (concat done) (up-between cmp (concat done) (n ++ concat rest) whole))

    pub goes_behind : attached cmp done n ≡ done ++ n ∷ []
    goes_behind = ap (λ i. insert done i n) (count_all done n below) ∙ insert_end done n

    pub fits_behind : attach_refusal cmp (length n) done n ≡ None
    fits_behind =
        let full = (each-right (λ m. is_filled m ≡ true) done (n ∷ rest) rule.filled).0 in
        let rise = up_true cmp n (up-left cmp n (concat rest) (up-right cmp (concat done) (n ++ concat rest) whole)) in
        not_refused cmp (length n) done n full (omega arith) rise (all_apart done n below)

module _ {T : Type 0} where
  -- ---- lines

  -- a snapshot has begun
  abbrev coming : State T → Copy T → ℕ → State T
  coming s came d = with_coming s (Some came) d

module _ {T : Type 0} (cmp : T → T → Ordering) (texts : Texts T) where
  mark_line_told : (s : State T) (m : Mark) → MarkFits m → event_of texts (mark_line m) ≡ None → node_of texts (mark_line m) ≡ None → after_line cmp texts s (mark_line m) ≡ after_mark texts s m
  mark_line_told s m fit event node = rw (event, node, mark_told m fit) refl

  start_told : (s : State T) (n d : ℕ) → n < 2 ^ 64 → d < 2 ^ 64 → after_line cmp texts s (mark_line (Start n d)) ≡ coming s (copy [] n) d
  start_told s n d small less =
      let word = no_number 115 (codes "tart") (omega arith) in
      mark_line_told s (Start n d) (small, less) (rw (start_cut n d, word) refl) (rw (start_cut n d) refl)

  end_told : (s : State T) (count : ℕ) (sum : Option ℕ) → count < 2 ^ 64 → IfSome sum (λ x. x < 2 ^ 64) → after_line cmp texts s (mark_line (End count sum)) ≡ after_mark texts s (End count sum)
  end_told s count sum few small =
      let word = no_number 101 (codes "nd") (omega arith) in
      mark_line_told s (End count sum) (few, small) (rw (end_cut count sum, word) refl) (rw (end_cut count sum) refl)

module _ {T : Type 0} (texts : Texts T) where
  -- a complete snapshot replaces the state
  whole_put : (s : State T) (came : Copy T) (d : ℕ) (sum : Option ℕ) → has_sum texts sum came d ≡ true → after_mark texts (coming s came d) (End (length came.nodes) sum) ≡ holding s.window came d
  whole_put s came d sum has = rw (eq-eqb (length came.nodes) (length came.nodes) refl, has) refl

module _ {T : Type 0} (cmp : T → T → Ordering) (texts : Texts T) (spelled : AreTokens texts) where
  node_line_told : (s : State T) (n : List (Pair T T)) → NodeFits texts n → after_line cmp texts s (node_line texts n) ≡ after_node cmp s n
  node_line_told s n fit =
      let cut : cut_at 32 (node_line texts n) ≡ Some (codes "node", node_text texts n) = cut_told 32 (codes "node") (node_text texts n) (lacks_tested 32 (codes "node") refl) in
      let word = no_number 110 (codes "ode") (omega arith) in
      let event : event_of texts (node_line texts n) ≡ None = rw (cut, word) refl in
      rw (event, node_told texts spelled n fit) refl

  -- the nodes, one line after the other
  filled_up : (s : State T) (next d : ℕ) (done rest : List (List (Pair T T))) → Ruled (by_key cmp) (done ++ rest)
      → All (NodeFits texts) rest
      → state_after cmp texts (coming s (copy done next) d) (map (node_line texts) rest)
      ≡ coming s (copy (done ++ rest) next) d
  unfolding left_by
  filled_up s next d done [] rule fit = ap (λ ns. coming s (copy ns next) d) (sym (append-nil done))
  filled_up s next d done (n ∷ rest) rule fit =
      let one = node_line_told (coming s (copy done next) d) n (All-head (NodeFits texts) n rest fit) in
      let held : after_node cmp (coming s (copy done next) d) n ≡ coming s (copy (done ++ n ∷ []) next) d =
      rw (fits_behind (by_key cmp) done rest n rule, goes_behind (by_key cmp) done rest n rule) refl in
      let more : (done ++ n ∷ []) ++ rest ≡ done ++ n ∷ rest = append_assoc done (n ∷ []) rest in
      ap (λ r. state_after cmp texts r (map (node_line texts) rest)) (one ∙ held)
      ∙ filled_up s next d (done ++ n ∷ []) rest (subst (Ruled (by_key cmp)) (sym more) rule) (All-tail (NodeFits texts) n rest fit)
      ∙ ap (λ ns. coming s (copy ns next) d) more

module _ {T : Type 0} (texts : Texts T) (spelled : AreTokens texts) where
  -- ---- the text of a snapshot is split into its lines

  pub row_lacks : (ps : List (Pair T T)) → All (PairFits texts) ps → Lacks 10 (node_text texts ps)
  row_lacks [] fit = All-nil (λ x. x ≢ 10)
  row_lacks (p ∷ []) fit = pair_lacks texts 10 (end_apart texts spelled) p (All-head (PairFits texts) p [] fit)
  row_lacks (p ∷ q ∷ ps) fit =
      All-append (λ x. x ≢ 10) (pair_text texts p) (32 ∷ node_text texts (q ∷ ps)) (pair_lacks texts 10 (end_apart texts spelled) p (All-head (PairFits texts) p (q ∷ ps) fit))
      (All-cons (λ x. x ≢ 10) 32 (node_text texts (q ∷ ps)) (omega arith) (row_lacks (q ∷ ps) (All-tail (PairFits texts) p (q ∷ ps) fit)))

  node_line_lacks : (n : List (Pair T T)) → NodeFits texts n → HasNoEnd (node_line texts n)
  node_line_lacks n fit = All-append (λ x. x ≢ 10) (codes "node ") (node_text texts n) (lacks_tested 10 (codes "node ") refl) (row_lacks n fit.1)

pub first_line : (line rest : List ℕ) → HasNoEnd line → lines_of (ended line ++ rest) ≡ line ∷ lines_of rest
first_line line rest none = ap lines_of (append_assoc line (10 ∷ []) rest) ∙ lines_of-line line rest none

module _ {T : Type 0} (texts : Texts T) (spelled : AreTokens texts) where
  node_lines : (ns : List (List (Pair T T))) (rest : List ℕ) → All (NodeFits texts) ns → lines_of (lines_for (node_line texts) ns ++ rest) ≡ map (node_line texts) ns ++ lines_of rest
  node_lines [] rest fit = refl
  node_lines (n ∷ ns) rest fit =
      ap lines_of (append_assoc (ended (node_line texts n)) (lines_for (node_line texts) ns) rest)
      ∙ first_line (node_line texts n) (lines_for (node_line texts) ns ++ rest) (node_line_lacks texts spelled n (All-head (NodeFits texts) n ns fit))
      ∙ ap (λ ls. node_line texts n ∷ ls) (node_lines ns rest (All-tail (NodeFits texts) n ns fit))

tail_lacks : (d : ℕ) → d < 2 ^ 64 → (b : Bool) → HasNoEnd (if b then [] else 32 ∷ decimal d)
tail_lacks d less true = All-nil (λ x. x ≢ 10)
tail_lacks d less false = All-cons (λ x. x ≢ 10) 32 (decimal d) (omega arith) (number_lacks 10 (omega arith) d less)

sum_lacks : (sum : Option ℕ) → IfSome sum (λ s. s < 2 ^ 64) → HasNoEnd (sum_text sum)
sum_lacks None fit = All-nil (λ x. x ≢ 10)
sum_lacks (Some sum) fit = All-cons (λ x. x ≢ 10) 32 (decimal sum) (omega arith) (number_lacks 10 (omega arith) sum fit)

mark_lacks : (m : Mark) → MarkFits m → HasNoEnd (mark_line m)
mark_lacks (Start n d) fit =
    All-append (λ x. x ≢ 10) (codes "start ") (decimal n ++ tail_text d) (lacks_tested 10 (codes "start ") refl)
    (All-append (λ x. x ≢ 10) (decimal n) (tail_text d) (number_lacks 10 (omega arith) n fit.0) (tail_lacks d fit.1 (d == 0)))
mark_lacks (End count sum) fit =
    All-append (λ x. x ≢ 10) (codes "end ") (decimal count ++ sum_text sum) (lacks_tested 10 (codes "end ") refl)
    (All-append (λ x. x ≢ 10) (decimal count) (sum_text sum) (number_lacks 10 (omega arith) count fit.0) (sum_lacks sum fit.1))
mark_lacks (Done d n) fit =
    All-append (λ x. x ≢ 10) (codes "done ") (decimal d ++ 32 ∷ decimal n) (lacks_tested 10 (codes "done ") refl)
    (All-append (λ x. x ≢ 10) (decimal d) (32 ∷ decimal n) (number_lacks 10 (omega arith) d fit.0)
    (All-cons (λ x. x ≢ 10) 32 (decimal n) (omega arith) (number_lacks 10 (omega arith) n fit.1)))

module _ {T : Type 0} (cmp : T → T → Ordering) (texts : Texts T) (spelled : AreTokens texts) where
  module _ (c : Copy T) (d : ℕ) (small : c.next < 2 ^ 64) (less : d < 2 ^ 64) (few : length c.nodes < 2 ^ 64) (fit : All (NodeFits texts) c.nodes) where
    module _ (sum : Option ℕ) (fits : IfSome sum (λ s. s < 2 ^ 64)) where
      its_lines : lines_of (body_text texts c d ++ ended (end_line c sum)) ≡ mark_line (Start c.next d) ∷ (map (node_line texts) c.nodes ++ end_line c sum ∷ [])
      unfolding lines_of
      its_lines =
          ap lines_of (append_assoc (ended (mark_line (Start c.next d))) (lines_for (node_line texts) c.nodes) (ended (end_line c sum)))
          ∙ first_line (mark_line (Start c.next d)) (lines_for (node_line texts) c.nodes ++ ended (end_line c sum)) (mark_lacks (Start c.next d) (small, less))
          ∙ ap (λ ls. mark_line (Start c.next d) ∷ ls)
          (node_lines texts spelled c.nodes (ended (end_line c sum)) fit
          ∙ ap (λ ls. map (node_line texts) c.nodes ++ ls)
          (lines_of-line (end_line c sum) [] (mark_lacks (End (length c.nodes) sum) (few, fits))))

      it_is_taken : has_sum texts sum c d ≡ true → (t : State T) → IsNodeList (by_key cmp) c.nodes
          → state_after cmp texts t (lines_of (body_text texts c d ++ ended (end_line c sum))) ≡ holding t.window c d
      unfolding left_by
      it_is_taken has t lawful =
          ap (state_after cmp texts t) its_lines
          ∙ ap (λ r. state_after cmp texts r (map (node_line texts) c.nodes ++ end_line c sum ∷ [])) (start_told cmp texts t c.next d small less)
          ∙ left_by-append (after_line cmp texts) (coming t (copy [] c.next) d) (map (node_line texts) c.nodes) (end_line c sum ∷ [])
          ∙ ap (λ r. after_line cmp texts r (end_line c sum)) (filled_up cmp texts spelled t c.next d [] c.nodes (nodes_ruled (by_key cmp) c.nodes lawful) fit)
          ∙ end_told cmp texts (coming t c d) (length c.nodes) sum few fits
          ∙ whole_put texts t c d sum has

    pub snapshot_taken : (t : State T) → IsNodeList (by_key cmp) c.nodes → state_after cmp texts t (lines_of (snapshot_text texts c d)) ≡ holding t.window c d
    snapshot_taken = it_is_taken (Some (sum_of texts c d)) (sum_small texts c d) (eq-eqb (sum_of texts c d) (sum_of texts c d) refl)

    pub unsummed_taken : (t : State T) → IsNodeList (by_key cmp) c.nodes → state_after cmp texts t (lines_of (unsummed_text texts c d)) ≡ holding t.window c d
    unsummed_taken = it_is_taken None tt refl

module _ {T : Type 0} (cmp : T → T → Ordering) (texts : Texts T) where
  -- ---- before the end of a snapshot

  held_still : (s : State T) (line : List ℕ) → LacksEnd texts line → (after_line cmp texts s line).held ≡ s.held
  held_still s line lacks = at (event_of texts line) lacks.0 (node_of texts line) (mark_of line) lacks.1
    where
      told : (d : ℕ) (b : Bool) → (if b then s else with_done s d).held ≡ s.held
      told d true = refl
      told d false = refl

      at : (e : Option (Event T)) → e ≡ None → (n : Option (List (Pair T T))) (m : Option Mark) → ((count : ℕ) (sum : Option ℕ) → m ≢ Some (End count sum))
          → (option_map_or {U = State T} (after_event cmp s) e (option_map_or (after_node cmp s) n (option_map_or (after_mark texts s) m s))).held ≡ s.held
      at (Some e) none n m no_end = absurd (cc)
      at None none (Some n) m no_end = refl
      at None none None None no_end = refl
      at None none None (Some (Start n d)) no_end = refl
      at None none None (Some (End count sum)) no_end = absurd (no_end count sum refl)
      at None none None (Some (Done d n)) no_end = told d (nat_lt s.held.next n)

  pub held_before : (s : State T) (lines : List (List ℕ)) → All (LacksEnd texts) lines → (state_after cmp texts s lines).held ≡ s.held
  unfolding left_by
  held_before s [] lack = refl
  held_before s (line ∷ lines) lack = held_before (after_line cmp texts s line) lines (All-tail (LacksEnd texts) line lines lack) ∙ held_still s line (All-head (LacksEnd texts) line lines lack)

module _ {T : Type 0} (texts : Texts T) where
  not_its_sum : (sum : Option ℕ) (came : Copy T) (d : ℕ) → IsSomeAnd sum (λ told. sum_of texts came d ≢ told) → has_sum texts sum came d ≡ true → ⊥
  not_its_sum None came d apart same = apart
  not_its_sum (Some told) came d apart same = apart (eqb-true (sum_of texts came d) told same)

  pub wrong_end : (s : State T) (came : Copy T) (count : ℕ) (sum : Option ℕ) → s.coming ≡ Some came
      → (length came.nodes ≢ count) ⊎ IsSomeAnd sum (λ told. sum_of texts came s.coming_done ≢ told)
      → after_mark texts s (End count sum) ≡ with_coming s None 0
  wrong_end s came count sum is other = rw is (at (length came.nodes == count) refl (has_sum texts sum came s.coming_done) refl)
    where
      at : (a : Bool) → (length came.nodes == count) ≡ a → (b : Bool) → has_sum texts sum came s.coming_done ≡ b → put_in_place texts count sum s came ≡ with_coming s None 0
      at false few b same = rw few refl
      at true few false same = rw (few, same) refl
      at true few true same =
          elim other [
            | inl many ↦ absurd (many (eqb-true (length came.nodes) count few))
            | inr apart ↦ absurd (not_its_sum sum came s.coming_done apart same)
          ]
