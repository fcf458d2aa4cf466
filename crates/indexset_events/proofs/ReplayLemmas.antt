-- The replay of the table's events makes the change.
use Rattle.std.proofs.Common.{◌≡◌, ℕ, ◌+◌, ◌<◌, ◌≤◌, ◌⊎◌, Bool, true, false, List, [], ◌∷◌, ◌++◌, length, get_or, set, Some, Ordering, refl, ap, sym, inl, inr, ◌∙◌, subst, arith, length-append}
use Rattle.std.specs.declared.cmp.Ordering.TheVariants.{Less, Equal, Greater}
use Rattle.std.specs.List.{position_or_len}
use Rattle.std.specs.Ordering.{ordering_reverse, is_lt, is_gt}
use Rattle.std.specs.Cmp.{IsTotalOrder}
use Rattle.std.proofs.lemmas.Bool.{false≢true}
use Rattle.std.proofs.Math.Seq.{get_or-append_seam, set-append_seam}
use Rattle.indexset_core.specs.Order.{put}
use Rattle.indexset_core.specs.Nodes.{concat}
use Rattle.indexset_core.proofs.CallerLemmas.{concat-append, less_from}
use Rattle.indexset_events.specs.Nodes.{last_of, is_filled}
use Rattle.indexset_events.specs.Replay.{reaches, replay_plain}
use Rattle.indexset_events.specs.Table.{target, node_events, is_after_last}
use Rattle.indexset_events.proofs.AscendingListLemmas.{Each, each-append, each-left, each-right, each-map, each_last}
use Rattle.indexset_events.proofs.AscendingListLemmas.{ends_by, Up, up-left, up-right, up-between, Ruled, lesser}
use Rattle.indexset_events.proofs.AscendingListLemmas.{equal_below, upto_last, around, parts-put, put-within}
use Rattle.indexset_events.proofs.StepLemmas.{At, at_ruled, ruled_at, place_at, unreached}
use Rattle.indexset_events.proofs.NodeEventLemmas.{puts}

pub ne_from : (a b : ℕ) → (a ≡ b → ⊥) → a ≤ b → a < b
ne_from a b h le = grind arith

place_bound : {X : Type 0} (p : X → Bool) (b t : List X) → Each (λ x. p x ≡ false) b → length b ≤ position_or_len p (b ++ t)
place_bound p [] t h = omega arith
place_bound p (x ∷ b) t h = rw h.0 (omega (arith, place_bound p b t h.1))

module _ {T : Type 0} (cmp : T → T → Ordering) (o : IsTotalOrder cmp) (v : T) where
  -- an item above one that is not below v is above v
  over : (x y : T) → is_lt (cmp x v) ≡ false → cmp x y ≡ Less → cmp v y ≡ Less
  over x y h k =
      elim (cmp x v) as (λ a. cmp x v ≡ a → is_lt a ≡ false → cmp v y ≡ Less) [
        | Less ↦ λ e g. absurd (false≢true (sym g))
        | Equal ↦ λ e g. equal_below cmp o x v y e k
        | Greater ↦ λ e g. o.trans v x y (lesser cmp o x v e) k
      ] refl h

  pub over_rest : (n q : List T) → is_filled n ≡ true → Up cmp (n ++ q) → is_lt (cmp (last_of n v) v) ≡ false → Each (λ y. cmp v y ≡ Less) q
  over_rest n q full up h = each-map _ _ (λ y. over (last_of n v) y h) q (each_last (λ x. Each (λ y. cmp x y ≡ Less) q) n v full (up-between cmp n q up))

  pub not_reaching : (n : List T) → is_filled n ≡ true → reaches cmp v n ≡ false → cmp (last_of n v) v ≡ Less
  not_reaching n full h =
      let ends = sym (ends_by (λ x. cmp x v) n v full) in
      less_from (cmp (last_of n v) v) (grind arith)

  pub reaching : (n : List T) → is_filled n ≡ true → reaches cmp v n ≡ true → is_lt (cmp (last_of n v) v) ≡ false
  reaching n full h =
      let ends = sym (ends_by (λ x. cmp x v) n v full) in
      grind arith

  pub past_last : (n : List T) → is_after_last cmp n v ≡ true → cmp (last_of n v) v ≡ Less
  past_last n h =
      elim (cmp v (last_of n v)) as (λ a. cmp v (last_of n v) ≡ a → is_gt a ≡ true → cmp (last_of n v) v ≡ Less) [
        | Less ↦ λ e g. absurd (false≢true g)
        | Equal ↦ λ e g. absurd (false≢true g)
        | Greater ↦ λ e g. lesser cmp o v (last_of n v) e
      ] refl h

  pub past_not : (n : List T) → is_after_last cmp n v ≡ false → is_lt (cmp (last_of n v) v) ≡ false
  past_not n h = rw (o.antisymm (last_of n v) v)
      (elim (cmp v (last_of n v)) as (λ a. is_gt a ≡ false → is_lt (ordering_reverse a) ≡ false) [
        | Less ↦ λ g. refl
        | Equal ↦ λ g. refl
        | Greater ↦ λ g. absurd (false≢true (sym g))
      ] h)

  -- the nodes around the target
  pub aim : (P : List (List T) → Type 0)
      → ((b : List (List T)) (n : List T) (a : List (List T)) → Each (λ x. cmp x v ≡ Less) (concat b) → Each (λ x. cmp v x ≡ Less) (concat a) → (reaches cmp v n ≡ true) ⊎ (a ≡ []) → P (b ++ n ∷ a))
      → (n : List T) (ns : List (List T)) → Ruled cmp (n ∷ ns) → P (n ∷ ns)
  aim P hit n [] ruled = hit [] n [] tt tt (inr refl)
  aim P hit n (m ∷ ns) ruled =
      let filled = ruled.filled in
      elim (reaches cmp v n) as (λ t. reaches cmp v n ≡ t → P (n ∷ m ∷ ns)) [
        | true ↦ λ e. hit [] n (m ∷ ns) tt (over_rest n (concat (m ∷ ns)) filled.0 ruled.up (reaching n filled.0 e)) (inl e)
        | false ↦ λ e.
            let low = upto_last cmp o n v v (up-left cmp n (concat (m ∷ ns)) ruled.up) (not_reaching n filled.0 e) in
            aim (λ q. P (n ∷ q))
            (λ b c a below above stop. hit (n ∷ b) c a (each-append _ n (concat b) low below) above stop) m ns
            (record { filled = filled.1; up = up-right cmp n (concat (m ∷ ns)) ruled.up })
      ] refl

  pub target_at : (b : List (List T)) (n : List T) (a : List (List T)) → At cmp o b n a
      → Each (λ x. cmp x v ≡ Less) (concat b) → (reaches cmp v n ≡ true) ⊎ (a ≡ [])
      → target cmp (b ++ n ∷ a) v ≡ length b
  target_at b n a at low stop =
      let before = unreached cmp o v b at.before low in
      let size = length-append b (n ∷ a) in
      elim stop [
        | inl e ↦ rw (place_at (reaches cmp v) b n a before e) (omega (arith, size))
        | inr e ↦
            let least = place_bound (reaches cmp v) b (n ∷ a) before in
            let none : length a ≡ 0 = rw e refl in
            omega (arith, size, least, none)
      ]

  -- the length of a node after a put
  put_length : (n : List T) → Up cmp n → length (put cmp n v) ≤ length n + 1
  put_length = around cmp o v (λ n. length (put cmp n v) ≤ length n + 1)
      (λ l r low high. rw (parts-put cmp o l [] r v low tt high) (omega (arith, length-append l (v ∷ r), length-append l r)))
      (λ l x r low same high. rw (parts-put cmp o l (x ∷ []) r v low (same, tt) high) (omega (arith, length-append l (v ∷ r), length-append l (x ∷ r))))

  module _ (size : ℕ) where
    abbrev pub Small : List (List T) → Type 0
    Small ns = Each (λ n. length n ≤ size) ns

    -- a put without a halving, at an index of the list
    pub record Placed (ns : List (List T)) (p : ℕ) (n : List T) : Type 0 where
      pub replayed : replay_plain cmp ns (node_events cmp n v) ≡ Some (set ns p (put cmp n v))
      pub ruled : Ruled cmp (set ns p (put cmp n v))
      pub small : Small (set ns p (put cmp n v))
      pub holds : concat (set ns p (put cmp n v)) ≡ put cmp (concat ns) v

    pub put_set : (ns : List (List T)) → Ruled cmp ns → Small ns → is_filled ns ≡ true → length (get_or ns (target cmp ns v) []) < size → Placed ns (target cmp ns v) (get_or ns (target cmp ns v) [])
    put_set [] ruled small some room = absurd (false≢true some)
    put_set (n ∷ ns) ruled small some room =
        aim (λ q. Ruled cmp q → Small q → length (get_or q (target cmp q v) []) < size → Placed q (target cmp q v) (get_or q (target cmp q v) []))
        (λ b n a low high stop ruled small room.
        let at = ruled_at cmp o b n a ruled in
        let rest : Small (n ∷ a) = each-right _ b (n ∷ a) small in
        let is = target_at b n a at low stop in
        let node : get_or (b ++ n ∷ a) (target cmp (b ++ n ∷ a) v) [] ≡ n = rw is (get_or-append_seam b n a []) in
        let room2 : length n < size = subst (λ k. length k < size) node room in
        let did = puts cmp o v b a low high n at in
        let here : length (put cmp n v) ≤ size = omega (arith, put_length n (up-left cmp n (concat a) (up-right cmp (concat b) (n ++ concat a) at.up))) in
        let made : set (b ++ n ∷ a) (length b) (put cmp n v) ≡ b ++ put cmp n v ∷ a = set-append_seam b n a (put cmp n v) in
        subst (λ k. Placed (b ++ n ∷ a) k (get_or (b ++ n ∷ a) k [])) (sym is)
        (subst (λ k. Placed (b ++ n ∷ a) (length b) k) (sym (get_or-append_seam b n a [])) (record {
          replayed = did.1 ∙ ap Some (sym made);
          ruled = subst (Ruled cmp) (sym made) (at_ruled cmp o b (put cmp n v) a did.0);
          small = subst Small (sym made) (each-append _ b (put cmp n v ∷ a) (each-left _ b (n ∷ a) small) (here, rest.1));
          holds = ap concat made ∙ rw (concat-append b (put cmp n v ∷ a), concat-append b (n ∷ a), put-within cmp o (concat b) n (concat a) v low high) refl;
        })))
        n ns ruled ruled small room
