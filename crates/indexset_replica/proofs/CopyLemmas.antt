-- Copies of items: the items themselves, equal clones of them, clones of such clones, and so on.
use Rattle.std.proofs.Common.{◌≡◌, ℕ, zero, suc, List, [], ◌∷◌, map, Some, Ordering, refl, ap, sym, ◌∙◌, subst}
use Rattle.std.specs.Cmp.{IsTotalOrder}
use Rattle.std.specs.List.{AllZip}
use Rattle.std.specs.declared.cmp.Ordering.TheVariants.{Equal}
use Rattle.std.proofs.lemmas.Cmp.{tied_back, tied_itself}
use Rattle.indexset_events.specs.Clones.{IsEventClone}
use Rattle.indexset_events.specs.Replay.{replay, step, unassigned}
use Rattle.indexset_events.specs.declared.change.ChangeEvent.{ChangeEvent}
use Rattle.indexset_replica.specs.Copies.{AreClonesEqual, AreCopies, IsCloneAfter, IsCopy, LeadsToCopies}
use Rattle.indexset_replica.specs.Replica.{IsClonedStep, IsEqualClone}
use Rattle.indexset_replica.proofs.RelatedNodeLemmas.{AreAlike, adds_alike, step_alike, zip_itself, zip_weaker}
use Rattle.indexset_replica.proofs.ClonedReplayLemmas.{clone_alike, replay_clones}

module _ {T : Type 0} (cmp : T → T → Ordering) (C : T → T → Type 0) where
  pub copy_itself : (x : T) → IsCopy cmp C x x
  copy_itself x = (0, refl)

  -- an equal clone of a copy is a copy
  pub copy_on : (x y z : T) → IsCopy cmp C x y → IsEqualClone cmp C y z → IsCopy cmp C x z
  copy_on x y z c e = (suc c.0, (y, c.1, e))

  pub copies_itself : (ns : List (List T)) → AreCopies cmp C ns ns
  copies_itself ns = zip_itself (AllZip (IsCopy cmp C)) (zip_itself (IsCopy cmp C) copy_itself) ns

  -- a copy of a copy is a copy
  copy_after : (n : ℕ) (x y z : T) → IsCopy cmp C x y → IsCloneAfter cmp C n y z → IsCopy cmp C x z
  copy_after zero x y z c d = subst (IsCopy cmp C x) (sym d) c
  copy_after (suc n) x y z c d = copy_on x d.0 z (copy_after n x y d.0 c d.1) d.2

  copies_one : (xs ys zs : List T) → AllZip (IsCopy cmp C) xs ys → AllZip (IsCopy cmp C) ys zs → AllZip (IsCopy cmp C) xs zs
  copies_one [] [] zs c d = d
  copies_one [] (y ∷ ys) zs c d = absurd c
  copies_one (x ∷ xs) [] zs c d = absurd c
  copies_one (x ∷ xs) (y ∷ ys) [] c d = absurd d
  copies_one (x ∷ xs) (y ∷ ys) (z ∷ zs) c d = (copy_after d.0.0 x y z c.0 d.0.1, copies_one xs ys zs c.1 d.1)

  pub copies_again : (ns ms ks : List (List T)) → AreCopies cmp C ns ms → AreCopies cmp C ms ks → AreCopies cmp C ns ks
  copies_again [] [] ks c d = d
  copies_again [] (m ∷ ms) ks c d = absurd c
  copies_again (n ∷ ns) [] ks c d = absurd c
  copies_again (n ∷ ns) (m ∷ ms) [] c d = absurd d
  copies_again (n ∷ ns) (m ∷ ms) (k ∷ ks) c d = (copies_one n m k c.0 d.0, copies_again ns ms ks c.1 d.1)

  -- copies keep each property that clones keep
  module _ {U : Type 0} (f : T → U) (kept : (x y : T) → C x y → f y ≡ f x) where
    keep_after : (n : ℕ) (x y : T) → IsCloneAfter cmp C n x y → f y ≡ f x
    keep_after zero x y e = ap f e
    keep_after (suc n) x y e = kept e.0 y e.2.0 ∙ keep_after n x e.0 e.1

    keep_one : (xs ys : List T) → AllZip (IsCopy cmp C) xs ys → map f ys ≡ map f xs
    keep_one [] [] c = refl
    keep_one [] (y ∷ ys) c = absurd c
    keep_one (x ∷ xs) [] c = absurd c
    keep_one (x ∷ xs) (y ∷ ys) c = λ i. keep_after c.0.0 x y c.0.1 i ∷ keep_one xs ys c.1 i

    pub copies_keep : (ns ms : List (List T)) → AreCopies cmp C ns ms → map (map f) ms ≡ map (map f) ns
    copies_keep [] [] c = refl
    copies_keep [] (m ∷ ms) c = absurd c
    copies_keep (n ∷ ns) [] c = absurd c
    copies_keep (n ∷ ns) (m ∷ ms) c = λ i. keep_one n m c.0 i ∷ copies_keep ns ms c.1 i

  -- a copy equals its source
  module _ (o : IsTotalOrder cmp) where
    equal_after : (n : ℕ) (x y : T) → IsCloneAfter cmp C n x y → cmp x y ≡ Equal
    equal_after zero x y e = subst (λ z. cmp x z ≡ Equal) (sym e) (tied_itself o x)
    equal_after (suc n) x y e = o.congr x e.0 y (equal_after n x e.0 e.1) ∙ tied_back o y e.0 e.2.1

    pub copy_equal : (x y : T) → IsCopy cmp C x y → cmp x y ≡ Equal
    copy_equal x y c = equal_after c.0 x y c.1

    pub copies_equal : (ns ms : List (List T)) → AreCopies cmp C ns ms → AllZip (AllZip (λ x y. cmp x y ≡ Equal)) ns ms
    copies_equal ns ms c = zip_weaker ns ms c (λ n m d. zip_weaker n m d copy_equal)

    module _ (equal : AreClonesEqual cmp C) where
      copy_once : (x y : T) → C x y → IsCopy cmp C x y
      copy_once x y c = copy_on x x y (copy_itself x) (c, tied_back o x y (equal x y c))

      -- the replay of clones of events gives copies of the nodes after the events
      pub replay_copies : (ns ms after : List (List T)) (es fs : List (ChangeEvent T)) → AreCopies cmp C ns ms
          → AllZip (IsEventClone C) es fs → replay cmp ns es ≡ Some after → LeadsToCopies cmp C ms fs after
      replay_copies = replay_clones cmp o C (IsCopy cmp C) copy_equal copy_once

      -- a replica that adds clones of their items has such copies too
      pub step_copies : (ns ms after new : List (List T)) (e f : ChangeEvent T) → AreCopies cmp C ns ms
          → IsEventClone C e f → step cmp ns e ≡ Some after → IsClonedStep cmp C ms (unassigned f) new
          → AreCopies cmp C after new
      step_copies ns ms after new e f near h made d =
          let told = clone_alike cmp o C (IsCopy cmp C) copy_equal copy_once e f h in
          let both =
          step_alike cmp o (IsCopy cmp C) copy_equal ns ms near (unassigned e) d.event
          (adds_alike cmp o (IsCopy cmp C) copy_equal C copy_on (unassigned e) (unassigned f) d.event told
          d.adds) in
          subst (λ t. AreAlike (AreCopies cmp C) t (Some new)) made (subst (λ t. AreAlike (AreCopies cmp C) (step cmp ns e) t) d.made both)
