-- The remaining items of an owning iterator after it yields one.
use Rattle.std.proofs.Common.{◌≡◌, ℕ, ◌+◌, ◌-◌, ◌<◌, ◌≤◌, List, [], ◌∷◌, ◌++◌, length, refl, sym, ap, ◌∙◌, arith, append_assoc, length-append}
use Rattle.std.proofs.lemmas.List.{append-nil, nil_from_length}
use Rattle.std.specs.declared.vec.Vec.{Vec}
use Rattle.indexset_core.specs.Nodes.{concat, vec_items}

module _ {X : Type 0} where
  -- the first item of the front node, and the last of the back one
  pub front_gives : (front rest left all : List X) (x : X) → front ++ rest ≡ all → front ≡ x ∷ left → all ≡ x ∷ (left ++ rest)
  front_gives front rest left all x e f = sym e ∙ ap (λ l. l ++ rest) f

  pub back_gives : (front mid back left all : List X) (x : X) → front ++ (mid ++ back) ≡ all → back ≡ left ++ x ∷ [] → all ≡ (front ++ (mid ++ left)) ++ x ∷ []
  back_gives front mid back left all x e f =
      sym e
      ∙ (ap (λ l. front ++ (mid ++ l)) f ∙ (ap (λ l. front ++ l) (sym (append_assoc mid left (x ∷ []))) ∙ sym (append_assoc front (mid ++ left) (x ∷ []))))

  -- one item fewer
  pub one_gone : (n : ℕ) (all left : List X) (x : X) → n ≡ length all → all ≡ x ∷ left → 1 ≤ n × (n - 1 ≡ length left)
  one_gone n all left x is e = let long : length all ≡ length left + 1 = omega (arith, ap (λ (l : List X). length l) e) in (omega arith, omega arith)

  pub last_gone : (n : ℕ) (all left : List X) (x : X) → n ≡ length all → all ≡ left ++ x ∷ [] → 1 ≤ n × (n - 1 ≡ length left)
  last_gone n all left x is e =
      let long : length all ≡ length left + 1 = omega (arith, ap (λ (l : List X). length l) e, length-append left (x ∷ [])) in (omega arith, omega arith)

  pub fewer : (all left : List X) (x : X) → all ≡ x ∷ left → length left < length all
  fewer all left x e = omega (arith, ap (λ (l : List X). length l) e)

  pub fewer_last : (all left : List X) (x : X) → all ≡ left ++ x ∷ [] → length left < length all
  fewer_last all left x e = omega (arith, ap (λ (l : List X). length l) e, length-append left (x ∷ []))

  -- there are no nodes between, before and after a step that takes none
  module _ {Z : Type 0} where
    no_nodes : (mid : List (Vec X Z)) → length mid ≡ 0 → concat (vec_items mid) ≡ []
    no_nodes [] e = refl
    no_nodes (v ∷ mid) e = absurd (omega arith)

    none_behind : (mid : List (Vec X Z)) (back : List X) → length mid ≡ 0 → length back ≡ 0 → concat (vec_items mid) ++ back ≡ []
    none_behind mid back m b = ap (λ l. l ++ back) (no_nodes mid m) ∙ nil_from_length back b

    -- the front node yields its last item, if only it has items
    pub alone_gives_last : (mid mid' : List (Vec X Z)) (front left back back' all : List X) (x : X) → length mid ≡ 0 → length mid' ≡ 0 → length back ≡ 0 → length back' ≡ 0
        → front ++ (concat (vec_items mid) ++ back) ≡ all → front ≡ left ++ x ∷ [] → all ≡ (left ++ (concat (vec_items mid') ++ back')) ++ x ∷ []
    alone_gives_last mid mid' front left back back' all x m m' b b' e f =
        sym e
        ∙ (ap (λ l. front ++ l) (none_behind mid back m b) ∙ (append-nil front ∙ (f ∙ ap (λ l. l ++ x ∷ []) (sym (ap (λ l. left ++ l) (none_behind mid' back' m' b') ∙ append-nil left)))))

    -- the back node yields its first item, if only it has items
    pub alone_gives_first : (mid mid' : List (Vec X Z)) (front front' back left all : List X) (x : X) → length mid ≡ 0 → length mid' ≡ 0 → length front ≡ 0 → length front' ≡ 0
        → front ++ (concat (vec_items mid) ++ back) ≡ all → back ≡ x ∷ left → all ≡ x ∷ (front' ++ (concat (vec_items mid') ++ left))
    alone_gives_first mid mid' front front' back left all x m m' b b' e f =
        let before : front ++ (concat (vec_items mid) ++ back) ≡ back = ap (λ l. l ++ (concat (vec_items mid) ++ back)) (nil_from_length front b) ∙ ap (λ l. l ++ back) (no_nodes mid m) in
        let after : front' ++ (concat (vec_items mid') ++ left) ≡ left = ap (λ l. l ++ (concat (vec_items mid') ++ left)) (nil_from_length front' b') ∙ ap (λ l. l ++ left) (no_nodes mid' m') in
        sym e ∙ (before ∙ (f ∙ ap (λ l. x ∷ l) (sym after)))

    pub none_left : (mid : List (Vec X Z)) (front back : List X) → length front ≡ 0 → length mid ≡ 0 → length back ≡ 0 → front ++ (concat (vec_items mid) ++ back) ≡ []
    none_left mid front back f m b = ap (λ l. l ++ (concat (vec_items mid) ++ back)) (nil_from_length front f) ∙ (ap (λ l. l ++ back) (no_nodes mid m) ∙ nil_from_length back b)

    -- the next node becomes the front one
    pub front_turn : (mid rest : List (Vec X Z)) (v : Vec X Z) (front now back all : List X) → now ≡ v.items
        → mid ≡ v ∷ rest → length front ≡ 0 → front ++ (concat (vec_items mid) ++ back) ≡ all
        → now ++ (concat (vec_items rest) ++ back) ≡ all
    front_turn mid rest v front now back all n m f e =
        ap (λ l. l ++ (concat (vec_items rest) ++ back)) n
        ∙ (sym (append_assoc v.items (concat (vec_items rest)) back)
        ∙ (ap (λ vs. concat (vec_items vs) ++ back) (sym m) ∙ (sym (ap (λ l. l ++ (concat (vec_items mid) ++ back)) (nil_from_length front f)) ∙ e)))
