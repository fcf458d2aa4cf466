-- Items that are appended to a single empty node, in blocks.
use native.Mathlib.Nat.{add-mul}
use Rattle.std.proofs.Common.{◌≡◌, ℕ, zero, suc, ◌+◌, ◌-◌, ◌*◌, ◌/◌, ◌<◌, ◌≤◌, true, false, nat_lt}
use Rattle.std.proofs.Common.{if◌then◌else◌, List, [], ◌∷◌, ◌++◌, length, take, drop, reverse, refl}
use Rattle.std.proofs.Common.{sym, ap, ◌∙◌, subst, arith, append_assoc, length-append, length-drop}
use Rattle.std.proofs.lemmas.Bool.Decides.{nat_tests}
use Rattle.std.proofs.lemmas.List.{drop-append-le, drop_at, length-take-le, map-append, reverse-append, take-append-drop, take_at}
use Rattle.std.proofs.lemmas.List.Edits.{insert_end}
use Rattle.std.proofs.lemmas.List.Elements.{All-cons, All-nil}
use Rattle.std.proofs.lemmas.List.Sums.{fold-append}
use Rattle.std.specs.List.{fold, insert, splice}
use Rattle.std.specs.declared.vec.Vec.{Vec}
use Rattle.indexset_core.specs.Nodes.{node_lengths, vec_items}
use Rattle.indexset_index.proofs.CallerLemmas.{count-lengths}
use Rattle.indexset_spine.specs.NodeList.{AreNodeLengths, IsSpine, parts_with, with_all_last, with_inserted, with_last}
use Rattle.indexset_spine.proofs.AppendLemmas.{block_more, cut_all_last, cut_last, spine_all_last}

-- one empty node is lawful
pub empty_cut : (size : ℕ) → 2 ≤ size → AreNodeLengths (0 ∷ []) size
empty_cut size two = record {
  two = two;
  some = omega arith;
  bounded = All-cons (λ n. n ≤ size) 0 [] (omega arith) (All-nil (λ n. n ≤ size));
  filled = λ more. absurd (omega (arith, more));
}

module _ {X : Type 0} (size : ℕ) (two : 2 ≤ size) where
  abbrev put_all : List (List X) → List X → List (List X)
  put_all ns xs = fold (with_last size) ns xs

  -- as many items as the size are one node
  one_node : (xs : List X) → length xs ≤ size → put_all ([] ∷ []) xs ≡ xs ∷ []
  one_node xs fits = block_more size ([] ∷ []) (omega arith) [] xs (omega (arith, fits))

  -- the nodes before the last stay
  before_last : (n : List X) (ns : List (List X)) (v : X) → 1 ≤ length ns → with_last size (n ∷ ns) v ≡ n ∷ with_last size ns v
  unfolding with_inserted
  before_last n [] v some = absurd (omega (arith, some))
  before_last n (m ∷ ms) v some =
      let more : suc (suc (length ms)) - 1 ≡ suc (length ms) = omega arith in
      let one : suc (length ms) - 1 ≡ length ms = omega arith in
      let next : suc (length ms) + 1 ≡ suc (suc (length ms)) = omega arith in
      let past : length ms + 1 ≡ suc (length ms) = omega arith in
      rw (more, one, next, past) refl

  before_all : (n : List X) (ns : List (List X)) (xs : List X) → AreNodeLengths (node_lengths ns) size → put_all (n ∷ ns) xs ≡ n ∷ put_all ns xs
  before_all n ns [] is = refl
  before_all n ns (x ∷ xs) is =
      ap (λ ms. put_all ms xs) (before_last n ns x (omega (arith, is.some, count-lengths ns)))
      ∙ before_all n (with_last size ns x) xs (cut_last size ns x is)

  -- a full node is halved by one more item
  full_halved : (us cs : List X) (v : X) → length us ≡ size / 2 → length us + length cs ≡ size → with_last size ((us ++ cs) ∷ []) v ≡ us ∷ (cs ++ v ∷ []) ∷ []
  unfolding with_inserted parts_with
  full_halved us cs v half full =
      let n = us ++ cs in
      let long : length n ≡ size = omega (arith, full, length-append us cs) in
      let none : nat_lt (length n) size ≡ false = grind (arith, nat_tests, long) in
      let above : nat_lt (length n / 2) (length n) ≡ true = grind (arith, nat_tests, long, two) in
      let at : length us ≡ length n / 2 = omega (arith, half, long) in
      let end : length n - length n / 2 ≡ length cs = omega (arith, at, full, long) in
      rw (none, above)
      (ap (λ l. l ∷ insert (drop (length n / 2) n) (length n - length n / 2) v ∷ []) (take_at us cs (length n / 2) at)
      ∙ ap (λ l. us ∷ l ∷ []) (ap (λ l. insert l (length n - length n / 2) v) (drop_at us cs (length n / 2) at) ∙ (ap (λ i. insert cs i v) end ∙ insert_end cs v)))

  halved_before : (us cs rest : List X) (v : X) → length us ≡ size / 2 → length us + length cs ≡ size → put_all ([] ∷ []) ((us ++ cs) ++ v ∷ rest) ≡ us ∷ put_all ([] ∷ []) ((cs ++ v ∷ []) ++ rest)
  halved_before us cs rest v half full =
      let right : put_all ([] ∷ []) (cs ++ v ∷ []) ≡ (cs ++ v ∷ []) ∷ [] = one_node (cs ++ v ∷ []) (omega (arith, half, full, two, length-append cs (v ∷ []))) in
      let is : AreNodeLengths (node_lengths ((cs ++ v ∷ []) ∷ [])) size = subst (λ ns. AreNodeLengths (node_lengths ns) size) right (cut_all_last size ([] ∷ []) (cs ++ v ∷ []) (empty_cut size two)) in
      fold-append (with_last size) ([] ∷ []) (us ++ cs) (v ∷ rest)
      ∙ (ap (λ ns. put_all (with_last size ns v) rest) (one_node (us ++ cs) (omega (arith, full, length-append us cs)))
      ∙ (ap (λ ns. put_all ns rest) (full_halved us cs v half full)
      ∙ (before_all us ((cs ++ v ∷ []) ∷ []) rest is
      ∙ ap (λ ns. us ∷ ns) (ap (λ ns. put_all ns rest) (sym right) ∙ sym (fold-append (with_last size) ([] ∷ []) (cs ++ v ∷ []) rest)))))

  -- of more items than the size, half of it is the first node
  half_first : (us bs : List X) → length us ≡ size / 2 → size < length us + length bs → put_all ([] ∷ []) (us ++ bs) ≡ us ∷ put_all ([] ∷ []) bs
  half_first us bs half more =
      let i = size - length us in
      let front : length (take i bs) ≡ i = length-take-le i bs (omega (arith, more, half)) in
      let split : take i bs ++ drop i bs ≡ bs = take-append-drop i bs in
      elim (drop i bs) as (λ l. drop i bs ≡ l → put_all ([] ∷ []) (us ++ bs) ≡ us ∷ put_all ([] ∷ []) bs) [
        | [] ↦ λ e. absurd (omega (arith, more, half, length-drop i bs, ap (λ (l : List X). length l) e))
        | v ∷ rest ↦ λ e.
            let cs = take i bs in
            let parts : bs ≡ (cs ++ v ∷ []) ++ rest = sym split ∙ (ap (λ l. cs ++ l) e ∙ sym (append_assoc cs (v ∷ []) rest)) in
            let all : us ++ bs ≡ (us ++ cs) ++ v ∷ rest = ap (λ l. us ++ l) (sym split ∙ ap (λ l. cs ++ l) e) ∙ sym (append_assoc us cs (v ∷ rest)) in
            ap (put_all ([] ∷ [])) all
            ∙ (halved_before us cs rest v half (omega (arith, front, half)) ∙ ap (λ l. us ∷ put_all ([] ∷ []) l) (sym parts))
      ] refl

  -- the last node, and the node before those that are there
  pub last_block : (xs rest : List X) → rest ≡ xs → length xs ≤ size → rest ∷ [] ≡ with_all_last size ([] ∷ []) xs
  unfolding with_all_last
  last_block xs rest is fits = ap (λ l. l ∷ []) is ∙ sym (one_node xs fits)

  pub block_before : (xs : List X) (i j : ℕ) (ns : List (List X)) → i ≤ j → j ≤ length xs → j - i ≡ size / 2 → size + i < length xs → ns ≡ with_all_last size ([] ∷ []) (drop j xs)
      → drop i (take j xs) ∷ ns ≡ with_all_last size ([] ∷ []) (drop i xs)
  unfolding with_all_last
  block_before xs i j ns upto inside half more is =
      let us = drop i (take j xs) in
      let front : length (take j xs) ≡ j = length-take-le j xs inside in
      let long : length us ≡ size / 2 = omega (arith, half, front, length-drop i (take j xs)) in
      let parts : drop i xs ≡ us ++ drop j xs = ap (drop i) (sym (take-append-drop j xs)) ∙ drop-append-le i (take j xs) (drop j xs) (omega (arith, upto, front)) in
      ap (λ l. us ∷ l) is
      ∙ (sym (half_first us (drop j xs) long (omega (arith, long, half, upto, inside, more, length-drop j xs))) ∙ ap (put_all ([] ∷ [])) (sym parts))

  -- what is built of the nodes
  pub blocks_spine : (xs : List X) → IsSpine (node_lengths (with_all_last size ([] ∷ []) xs)) size (length xs)
  unfolding with_all_last
  blocks_spine xs = spine_all_last size 0 (length xs) ([] ∷ []) xs (record { is_cut = empty_cut size two; total_is = refl }) (omega arith)

-- nodes that are gathered from the last to the first
module _ {X Z : Type 0} where
  pub gathered : (vs : List (Vec X Z)) (v : Vec X Z) → reverse (vec_items (vs ++ v ∷ [])) ≡ v.items ∷ reverse (vec_items vs)
  gathered vs v = ap reverse (map-append (λ (w : Vec X Z). w.items) vs (v ∷ [])) ∙ reverse-append (vec_items vs) (v.items ∷ [])

  pub turned : (vs : List (Vec X Z)) → vec_items (reverse vs) ≡ reverse (vec_items vs)
  turned [] = refl
  turned (v ∷ vs) =
      ap vec_items (reverse-append (v ∷ []) vs)
      ∙ (map-append (λ (w : Vec X Z). w.items) (reverse vs) (v ∷ [])
      ∙ (ap (λ l. l ++ v.items ∷ []) (turned vs) ∙ sym (reverse-append (v.items ∷ []) (vec_items vs))))

pub less_one : (n half : ℕ) → 0 < n → n * half ≡ (n - 1) * half + half
less_one n half some =
    let next : n ≡ (n - 1) + 1 = omega (arith, some) in
    ap (λ k. k * half) next ∙ omega (arith, add-mul (n - 1) 1 half)

pub none_of : {n : ℕ} (half : ℕ) → n ≡ 0 → n * half ≡ 0
none_of half is = rw is (omega arith)
