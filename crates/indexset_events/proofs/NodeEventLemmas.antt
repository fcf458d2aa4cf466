-- A node after the table's events for it.
use Rattle.std.proofs.Common.{◌≡◌, suc, ◌+◌, ◌-◌, ◌≤◌, true, false, List, [], ◌∷◌, ◌++◌, length, get_or, eqb, Some, Ordering, refl, ap, sym, ◌∙◌, subst, arith, length-append}
use Rattle.std.specs.declared.cmp.Ordering.TheVariants.{Less, Equal}
use Rattle.std.specs.Cmp.{IsTotalOrder}
use Rattle.std.proofs.lemmas.Bool.{eq-eqb, ne_eqb}
use Rattle.std.proofs.lemmas.List.{append-nil}
use Rattle.std.proofs.Math.Seq.{get_or-append_seam}
use Rattle.indexset_core.specs.Order.{rank, has_equal, put}
use Rattle.indexset_events.specs.declared.change.ChangeEventUnassigned.TheVariants.{InsertAt, RemoveAt, CreateNode, RemoveNode}
use Rattle.indexset_core.specs.Nodes.{concat}
use Rattle.indexset_events.specs.Nodes.{last_of, is_filled}
use Rattle.indexset_events.specs.Replay.{replay_plain}
use Rattle.indexset_events.specs.Table.{node_events, replace_events}
use Rattle.indexset_events.proofs.AscendingListLemmas.{Each, each-append, last-append, filled-append, up-left, up-right, around, parts-put, parts-rank, parts-has_equal}
use Rattle.indexset_events.proofs.StepLemmas.{At, insert_step, remove_step, remove_node_step, create_step}

before_last : {T : Type 0} (y : T) (l t : List T) (d : T) → get_or ((y ∷ l) ++ t) (length l) d ≡ last_of l y
before_last y [] t d = refl
before_last y (z ∷ l) t d = before_last z l t d

module _ {T : Type 0} (cmp : T → T → Ordering) (o : IsTotalOrder cmp) (v : T) where
  replace_as : (l : List T) (x : T) (r : List T) → rank cmp (l ++ x ∷ r) v ≡ length l → 1 ≤ length l + length r
      → replace_events cmp (l ++ x ∷ r) v
      ≡ RemoveAt (last_of (l ++ x ∷ r) v) x (length l) ∷ InsertAt (last_of (l ++ r) v) v (length l) ∷ []
  unfolding replace_events
  replace_as l x (z ∷ r) place some =
      let size = length-append l (x ∷ z ∷ r) in
      let more : eqb (length (l ++ x ∷ z ∷ r)) 1 ≡ false = ne_eqb _ _ (λ e. omega (arith, size)) in
      let inner : eqb (length l + 1) (length (l ++ x ∷ z ∷ r)) ≡ false = ne_eqb _ _ (λ e. omega (arith, size)) in
      let name : last_of (l ++ x ∷ z ∷ r) v ≡ last_of (l ++ z ∷ r) v = last-append l (x ∷ z ∷ r) v v refl ∙ sym (last-append l (z ∷ r) v v refl) in
      rw (place, get_or-append_seam l x (z ∷ r) v, more, inner) (ap (λ m. RemoveAt (last_of (l ++ x ∷ z ∷ r) v) x (length l) ∷ InsertAt m v (length l) ∷ []) name)
  replace_as [] x [] place some = absurd (omega arith)
  replace_as (y ∷ l) x [] place some =
      let size = length-append (y ∷ l) (x ∷ []) in
      let more : eqb (length ((y ∷ l) ++ x ∷ [])) 1 ≡ false = ne_eqb _ _ (λ e. omega (arith, size)) in
      let inner : eqb (length (y ∷ l) + 1) (length ((y ∷ l) ++ x ∷ [])) ≡ true = eq-eqb _ _ (omega (arith, size)) in
      let name : get_or ((y ∷ l) ++ x ∷ []) (length (y ∷ l) - 1) v ≡ last_of ((y ∷ l) ++ []) v =
      subst (λ k. get_or ((y ∷ l) ++ x ∷ []) k v ≡ last_of ((y ∷ l) ++ []) v) {x = length l}
      {y = length (y ∷ l) - 1} (omega arith) (before_last y l (x ∷ []) v ∙ rw (append-nil l) refl) in
      rw (place, get_or-append_seam (y ∷ l) x [] v, more, inner) (ap (λ m. RemoveAt (last_of ((y ∷ l) ++ x ∷ []) v) x (length (y ∷ l)) ∷ InsertAt m v (length (y ∷ l)) ∷ []) name)

  module _ (l r : List T) (low : Each (λ x. cmp x v ≡ Less) l) (high : Each (λ x. cmp v x ≡ Less) r) where
    pub absent_events : node_events cmp (l ++ r) v ≡ InsertAt (last_of (l ++ r) v) v (length l) ∷ []
    unfolding node_events
    absent_events = rw (parts-has_equal cmp o l [] r v low tt high, parts-rank cmp o l [] r v low tt high) refl

    module _ (x : T) (same : cmp x v ≡ Equal) where
      long : length (l ++ x ∷ r) ≡ suc (length l + length r)
      long = rw (length-append l (x ∷ r)) (omega arith)

      present_is : has_equal cmp (l ++ x ∷ r) v ≡ true
      present_is = parts-has_equal cmp o l (x ∷ []) r v low (same, tt) high

      place_is : rank cmp (l ++ x ∷ r) v ≡ length l
      place_is = parts-rank cmp o l (x ∷ []) r v low (same, tt) high

      -- the replacement of a last or an inner item
      pub two_events : 1 ≤ length l + length r → node_events cmp (l ++ x ∷ r) v ≡ RemoveAt (last_of (l ++ x ∷ r) v) x (length l) ∷ InsertAt (last_of (l ++ r) v) v (length l) ∷ []
      unfolding node_events
      two_events some = rw present_is (replace_as l x r place_is some)

      -- the replacement of an only item
      pub only_events : (l ≡ []) → (r ≡ []) → node_events cmp (l ++ x ∷ r) v ≡ RemoveNode x ∷ CreateNode v ∷ []
      unfolding node_events replace_events
      only_events none past =
          let only : eqb (length (l ++ x ∷ r)) 1 ≡ true = eq-eqb _ _ (long ∙ rw (none, past) refl) in
          rw (present_is, place_is, get_or-append_seam l x r v, only) refl

  module _ (b a : List (List T)) (below : Each (λ x. cmp x v ≡ Less) (concat b)) (above : Each (λ x. cmp v x ≡ Less) (concat a)) where
    -- the events of a put change only the node
    abbrev pub Puts : List T → Type 0
    Puts n = At cmp o b n a → At cmp o b (put cmp n v) a × (replay_plain cmp (b ++ n ∷ a) (node_events cmp n v) ≡ Some (b ++ put cmp n v ∷ a))

    puts_absent : (l r : List T) → Each (λ x. cmp x v ≡ Less) l → Each (λ x. cmp v x ≡ Less) r → Puts (l ++ r)
    puts_absent l r low high at =
        let made = insert_step cmp o b a l r v v at (each-append _ (concat b) l below low) (each-append _ r (concat a) high above) in
        rw (parts-put cmp o l [] r v low tt high, absent_events l r low high) (made.0, rw made.1 refl)

    puts_two : (l : List T) (x : T) (r : List T) → Each (λ x. cmp x v ≡ Less) l → cmp x v ≡ Equal
        → Each (λ x. cmp v x ≡ Less) r → 1 ≤ length l + length r → is_filled (l ++ r) ≡ true → Puts (l ++ x ∷ r)
    puts_two l x r low same high some full at =
        let gone = remove_step cmp o b a l x r v at full in
        let made = insert_step cmp o b a l r v v gone.0 (each-append _ (concat b) l below low) (each-append _ r (concat a) high above) in
        rw (parts-put cmp o l (x ∷ []) r v low (same, tt) high, two_events l r low high x same some) (made.0, rw (gone.1, made.1) refl)

    puts_present : (l : List T) (x : T) (r : List T) → Each (λ x. cmp x v ≡ Less) l → cmp x v ≡ Equal → Each (λ x. cmp v x ≡ Less) r → Puts (l ++ x ∷ r)
    puts_present l x (z ∷ r) low same high at = puts_two l x (z ∷ r) low same high (omega arith) (filled-append l z r) at
    puts_present (y ∷ l) x [] low same high at = puts_two (y ∷ l) x [] low same high (omega arith) refl at
    puts_present [] x [] low same high at =
        let gone = remove_node_step cmp o b a (x ∷ []) x at in
        let made = create_step cmp o b a v gone.0 below above in
        rw (parts-put cmp o [] (x ∷ []) [] v tt (same, tt) tt, only_events [] [] tt tt x same refl refl) (made.0, rw (gone.1, made.1) refl)

    pub puts : (n : List T) → Puts n
    puts n at = around cmp o v Puts puts_absent puts_present n (up-left cmp n (concat a) (up-right cmp (concat b) (n ++ concat a) at.up)) at
