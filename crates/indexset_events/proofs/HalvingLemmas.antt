-- The place of an item after a full target is halved.
use Rattle.std.proofs.Common.{◌≡◌, ℕ, ◌+◌, ◌/◌, ◌<◌, ◌≤◌, ◌⊎◌, true, false, not, cond, if◌then◌else◌, List, []}
use Rattle.std.proofs.Common.{◌∷◌, ◌++◌, ◌&&◌, length, take, drop, eqb, Some, Ordering, refl, ap, sym, inl}
use Rattle.std.proofs.Common.{inr, ◌∙◌, subst, arith, append_assoc, length-append, length-take, length-drop}
use Rattle.std.specs.declared.cmp.Ordering.TheVariants.{Less}
use Rattle.std.specs.Cmp.{IsTotalOrder}
use Rattle.std.specs.Ordering.{is_lt}
use Rattle.std.specs.List.{splice}
use Rattle.std.proofs.lemmas.Bool.{false≢true, eq-eqb, eqb-true, eqb-false}
use Rattle.std.proofs.lemmas.List.{append-nil, take-append-drop}
use Rattle.std.proofs.Math.Seq.{get_or-append_seam, take-append_seam, drop-append_seam}
use Rattle.indexset_core.specs.Order.{put}
use Rattle.indexset_core.specs.Nodes.{concat, node_at}
use Rattle.indexset_core.proofs.CallerLemmas.{concat-append}
use Rattle.indexset_events.specs.declared.change.ChangeEventUnassigned.{ChangeEventUnassigned}
use Rattle.indexset_events.specs.Nodes.{is_filled}
use Rattle.indexset_events.specs.Replay.{reaches, replay_plain}
use Rattle.indexset_events.specs.Table.{target, halving_events, part_for, is_after_last, target_events, put_events, node_events}
use Rattle.indexset_events.specs.Edits.{with_room, put_into_target, with_put}
use Rattle.indexset_events.proofs.AscendingListLemmas.{parts-put, Each, each-append, each-left, each-right, ends_by, last-append, filled-append, Up, up-left, up-right, Ruled, upto_last, length_filled}
use Rattle.indexset_events.proofs.StepLemmas.{At, at_ruled, ruled_at, split_step, splice_at, create_step}
use Rattle.indexset_events.proofs.ReplayLemmas.{Small, aim, target_at, past_last, past_not, ne_from, put_set}

module _ {T : Type 0} (cmp : T → T → Ordering) (o : IsTotalOrder cmp) (v : T) (size : ℕ) where
  -- the node n at index p of ns is the target, and ms are the nodes with room for v
  pub record Roomy (ns : List (List T)) (n : List T) (p : ℕ) (ms : List (List T)) : Type 0 where
    pub ruled : Ruled cmp ms
    pub small : Small cmp o v size ms
    pub some : is_filled ms ≡ true
    pub place : target cmp ms v ≡ p + cond (eqb (length n) size && is_after_last cmp (take (length n / 2) n) v) 1 0
    pub part : node_at ms (target cmp ms v) ≡ part_for cmp size n v
    pub room : length (part_for cmp size n v) < size
    pub first : (es : List (ChangeEventUnassigned T)) → replay_plain cmp ns (halving_events size n v ++ es) ≡ replay_plain cmp ms es
    pub same : concat ms ≡ concat ns

  reach_right : (l r : List T) (a : List (List T)) → is_filled r ≡ true → (reaches cmp v (l ++ r) ≡ true) ⊎ (a ≡ []) → (reaches cmp v r ≡ true) ⊎ (a ≡ [])
  reach_right l r a full stop = elim stop [
    | inr none ↦ inr none
    | inl e ↦
        let answer : T → Ordering = λ x. cmp x v in
        let both : reaches cmp v (l ++ r) ≡ reaches cmp v r =
        ap not
        (ends_by answer (l ++ r) v (filled-end l r full)
        ∙ (ap (λ x. is_lt (cmp x v)) (last-append l r v v full) ∙ sym (ends_by answer r v full))) in
        inl (sym both ∙ e)
  ]
    where
      filled-end : {X : Type 0} (l r : List X) → is_filled r ≡ true → is_filled (l ++ r) ≡ true
      filled-end [] r full = full
      filled-end (x ∷ l) r full = refl

  module _ (b : List (List T)) (a : List (List T)) (low : Each (λ x. cmp x v ≡ Less) (concat b))
      (high : Each (λ x. cmp v x ≡ Less) (concat a)) (sb : Small cmp o v size b) (sa : Small cmp o v size a) where
    roomy_halved : (l r : List T) → At cmp o b (l ++ r) a → (reaches cmp v (l ++ r) ≡ true) ⊎ (a ≡ [])
        → is_filled l ≡ true → is_filled r ≡ true → length l < size → length r < size → length (l ++ r) ≡ size
        → length (l ++ r) / 2 ≡ length l → Roomy (b ++ (l ++ r) ∷ a) (l ++ r) (length b) (b ++ l ∷ r ∷ a)
    roomy_halved l r at stop left right fewer less full half =
        let did = split_step cmp o b a l r v at left right in
        let mid = ruled_at cmp o b l (r ∷ a) did.0 in
        let inner : Up cmp (l ++ (r ++ concat a)) = up-right cmp (concat b) (l ++ (r ++ concat a)) mid.up in
        let same : concat (b ++ l ∷ r ∷ a) ≡ concat (b ++ (l ++ r) ∷ a) = rw (concat-append b (l ∷ r ∷ a), concat-append b ((l ++ r) ∷ a)) (simp append_assoc) in
        let first : (es : List (ChangeEventUnassigned T))
        → replay_plain cmp (b ++ (l ++ r) ∷ a) (halving_events size (l ++ r) v ++ es)
        ≡ replay_plain cmp (b ++ l ∷ r ∷ a) es =
        λ es. rw (eq-eqb (length (l ++ r)) size full, half, did.1) refl in
        let spot : (target cmp (b ++ l ∷ r ∷ a) v ≡ length b + cond (is_after_last cmp l v) 1 0)
        × (node_at (b ++ l ∷ r ∷ a) (length b + cond (is_after_last cmp l v) 1 0)
        ≡ (if is_after_last cmp l v then r else l))
        × (length (if is_after_last cmp l v then r else l) < size) =
        elim (is_after_last cmp l v)
        as (λ t. is_after_last cmp l v ≡ t
        → (target cmp (b ++ l ∷ r ∷ a) v ≡ length b + cond t 1 0)
        × (node_at (b ++ l ∷ r ∷ a) (length b + cond t 1 0) ≡ (if t then r else l))
        × (length (if t then r else l) < size)) [
          | true ↦ λ e.
              let low2 : Each (λ x. cmp x v ≡ Less) (concat (b ++ l ∷ [])) =
              rw (concat-append b (l ∷ []), append-nil l)
              (each-append _ (concat b) l low
              (upto_last cmp o l v v (up-left cmp l (r ++ concat a) inner) (past_last cmp o v l e))) in
              let regrouped : (b ++ l ∷ []) ++ r ∷ a ≡ b ++ l ∷ r ∷ a = append_assoc b (l ∷ []) (r ∷ a) in
              let at2 = ruled_at cmp o (b ++ l ∷ []) r a (subst (Ruled cmp) (sym regrouped) did.0) in (
                subst (λ q. target cmp q v ≡ length b + 1) regrouped (target_at cmp o v (b ++ l ∷ []) r a at2 low2 (reach_right l r a right stop) ∙ length-append b (l ∷ [])),
                subst (λ q. node_at q (length b + 1) ≡ r) regrouped (rw (← length-append b (l ∷ [])) (get_or-append_seam (b ++ l ∷ []) r a [])),
                less,
              )
          | false ↦ λ e.
              let reach : reaches cmp v l ≡ true = ap not (ends_by (λ x. cmp x v) l v left ∙ past_not cmp o v l e) in
              let here : length b + 0 ≡ length b = omega arith in
              (target_at cmp o v b l (r ∷ a) mid low (inl reach) ∙ sym here, rw here (get_or-append_seam b l (r ∷ a) []), fewer)
        ] refl in
        record {
          ruled = did.0;
          small = each-append _ b (l ∷ r ∷ a) sb (omega arith, (omega arith, sa));
          some = filled-append b l (r ∷ a);
          place = rw (spot.0, eq-eqb (length (l ++ r)) size full, half, take-append_seam l r) refl;
          part = rw (spot.0, spot.1, eq-eqb (length (l ++ r)) size full, half, take-append_seam l r, drop-append_seam l r) refl;
          room = rw (eq-eqb (length (l ++ r)) size full, half, take-append_seam l r, drop-append_seam l r) spot.2;
          first = first;
          same = same;
        }

    roomy_at : (n : List T) → 2 ≤ size → At cmp o b n a → (reaches cmp v n ≡ true) ⊎ (a ≡ []) → length n ≤ size
        → Roomy (b ++ n ∷ a) n (length b)
        (if eqb (length n) size
        then splice (b ++ n ∷ a) (length b) (length b + 1) (take (length n / 2) n ∷ drop (length n / 2) n ∷ [])
        else (b ++ n ∷ a))
    roomy_at n two at stop fits =
        elim (eqb (length n) size)
        as (λ t. eqb (length n) size ≡ t
        → Roomy (b ++ n ∷ a) n (length b)
        (if t
        then splice (b ++ n ∷ a) (length b) (length b + 1) (take (length n / 2) n ∷ drop (length n / 2) n ∷ [])
        else (b ++ n ∷ a))) [
          | true ↦ λ e.
              let k = length n / 2 in
              let full : length n ≡ size = eqb-true (length n) size e in
              let whole = take-append-drop k n in
              let left = length-take k n in
              let right = length-drop k n in
              rw (splice_at b n a (take k n ∷ drop k n ∷ []))
              (subst
              (λ q. At cmp o b q a → (reaches cmp v q ≡ true) ⊎ (a ≡ []) → length q ≡ size
              → length q / 2 ≡ length (take k n) → Roomy (b ++ q ∷ a) q (length b) (b ++ take k n ∷ drop k n ∷ a))
              whole
              (λ at stop full half. roomy_halved (take k n) (drop k n) at stop (length_filled (take k n) (omega arith)) (length_filled (drop k n) (omega arith)) (omega arith) (omega arith) full half)
              at stop full (omega arith))
          | false ↦ λ e.
              let less : length n < size = omega (arith, ne_from (length n) size (eqb-false (length n) size e) fits) in
              record {
                ruled = at_ruled cmp o b n a at;
                small = each-append _ b (n ∷ a) sb (omega arith, sa);
                some = filled-append b n a;
                place = rw (target_at cmp o v b n a at low stop, e) (omega arith);
                part = rw (target_at cmp o v b n a at low stop, e) (get_or-append_seam b n a []);
                room = rw e less;
                first = λ es. rw e refl;
                same = refl;
              }
        ] refl

  pub roomy : 2 ≤ size → (ns : List (List T)) → Ruled cmp ns → Small cmp o v size ns → is_filled ns ≡ true → Roomy ns (node_at ns (target cmp ns v)) (target cmp ns v) (with_room cmp size ns v)
  roomy two [] ruled small some = absurd (false≢true some)
  roomy two (n ∷ ns) ruled small some =
      aim cmp o v (λ q. Ruled cmp q → Small cmp o v size q → Roomy q (node_at q (target cmp q v)) (target cmp q v) (with_room cmp size q v))
      (λ b n a low high stop ruled small.
      let at = ruled_at cmp o b n a ruled in
      let rest : Small cmp o v size (n ∷ a) = each-right _ b (n ∷ a) small in
      rw (target_at cmp o v b n a at low stop, get_or-append_seam b n a []) (roomy_at b a low high (each-left _ b (n ∷ a) small) rest.1 n two at stop rest.0))
      n ns ruled ruled small

  -- the replay of the events turns ns into the lawful nodes `after`, which hold the list
  pub record Makes (ns : List (List T)) (es : List (ChangeEventUnassigned T)) (after : List (List T)) (list : List T) : Type 0 where
    pub replayed : replay_plain cmp ns es ≡ Some after
    pub ruled : Ruled cmp after
    pub small : Small cmp o v size after
    pub holds : concat after ≡ list

  pub target_makes : 2 ≤ size → (ns : List (List T)) → Ruled cmp ns → Small cmp o v size ns → is_filled ns ≡ true
      → Makes ns (target_events cmp size (node_at ns (target cmp ns v)) v)
      (put_into_target cmp (with_room cmp size ns v) v) (put cmp (concat ns) v)
  unfolding target_events
  target_makes two ns ruled small some =
      let r = roomy two ns ruled small some in
      let room : length (node_at (with_room cmp size ns v) (target cmp (with_room cmp size ns v) v)) < size = rw r.part r.room in
      let did = put_set cmp o v size (with_room cmp size ns v) r.ruled r.small r.some room in
      record {
        replayed = r.first _ ∙ (ap (λ q. replay_plain cmp (with_room cmp size ns v) (node_events cmp q v)) (sym r.part) ∙ did.replayed);
        ruled = did.ruled;
        small = did.small;
        holds = did.holds ∙ ap (λ l. put cmp l v) r.same;
      }

  pub put_makes : 2 ≤ size → (ns : List (List T)) → Ruled cmp ns → Small cmp o v size ns → Makes ns (put_events cmp size ns v) (with_put cmp size ns v) (put cmp (concat ns) v)
  unfolding put_events with_put
  put_makes two [] ruled small =
      let did = create_step cmp o [] [] v ruled tt tt in
      record { replayed = rw did.1 refl; ruled = at_ruled cmp o [] (v ∷ []) [] did.0; small = (omega arith, tt); holds = sym (parts-put cmp o [] [] [] v tt tt tt) }
  put_makes two (n ∷ ns) ruled small = target_makes two (n ∷ ns) ruled small refl
