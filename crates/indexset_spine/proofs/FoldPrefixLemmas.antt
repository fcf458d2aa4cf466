-- Items that are taken in order, up to some of them or all.
use Rattle.std.proofs.Common.{◌≡◌, ◌<◌, ◌≤◌, List, [], ◌∷◌, ◌++◌, length, drop, slice_get, refl, sym, ap, ◌∙◌, arith, append_assoc, length-append}
use Rattle.std.proofs.lemmas.List.{append-nil}
use Rattle.std.proofs.lemmas.List.Sums.{fold-append}
use Rattle.std.specs.List.{fold}
use Rattle.std.specs.Option.{IfSome}
use Rattle.indexset_spine.specs.Edits.{FoldsPrefix}

module _ {A B : Type 0} (f : B → A → B) where
  pub takes_none : (a : B) (xs : List A) → FoldsPrefix f a xs a xs
  takes_none a xs = ([], refl, refl)

  pub takes_more : (a b c : B) (xs rest left : List A) → FoldsPrefix f a xs b rest → FoldsPrefix f b rest c left → FoldsPrefix f a xs c left
  takes_more a b c xs rest left h more =
      (h.0 ++ more.0, h.1 ∙ (ap (λ l. h.0 ++ l) more.1 ∙ sym (append_assoc h.0 more.0 left)), more.2 ∙ (ap (λ z. fold f z more.0) h.2 ∙ sym (fold-append f a h.0 more.0)))

  pub takes_all : (a b : B) (xs rest : List A) → FoldsPrefix f a xs b rest → rest ≡ [] → b ≡ fold f a xs
  takes_all a b xs rest h none = h.2 ∙ ap (fold f a) (sym (h.1 ∙ (ap (λ l. h.0 ++ l) none ∙ append-nil h.0)))

  -- then the rest is taken
  pub takes_rest : (a b : B) (xs rest : List A) → FoldsPrefix f a xs b rest → fold f b rest ≡ fold f a xs
  takes_rest a b xs rest h = ap (λ z. fold f z rest) h.2 ∙ (sym (fold-append f a h.0 rest) ∙ ap (fold f a) (sym h.1))

  -- and others follow
  pub takes_within : (a b : B) (xs rest more : List A) → FoldsPrefix f a xs b rest → FoldsPrefix f a (xs ++ more) b (rest ++ more)
  takes_within a b xs rest more h = (h.0, ap (λ l. l ++ more) h.1 ∙ append_assoc h.0 rest more, h.2)

  -- the first is taken
  pub takes_first : (a b : B) (xs rest : List A) → 0 < length xs → IfSome (slice_get xs 0) (λ x. b ≡ f a x) → rest ≡ drop 1 xs → FoldsPrefix f a xs b rest
  takes_first a b [] rest some put is = absurd (omega arith)
  takes_first a b (x ∷ xs) rest some put is = (x ∷ [], ap (λ l. x ∷ l) (sym is), put)

  -- the rest is not longer
  pub taken_shorter : (a b : B) (xs rest : List A) → FoldsPrefix f a xs b rest → length rest ≤ length xs
  taken_shorter a b xs rest h = omega (arith, ap (λ (l : List A). length l) h.1, length-append h.0 rest)
