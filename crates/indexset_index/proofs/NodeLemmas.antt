-- The lengths of nodes, if a node is inserted, removed, split in two or merged from two.
use Rattle.std.proofs.Common.{◌≡◌, ℕ, suc, ◌+◌, ◌-◌, ◌<◌, ◌≤◌, List, ◌∷◌, ◌++◌, length, take, drop, set, get_or, insert, remove, refl, ap, sym, ◌∙◌, arith}
use Rattle.std.proofs.lemmas.List.{length-take-le, map-append, set_split, take-append-drop, take-append-le, take-map, take-take, drop-map}
use Rattle.std.proofs.lemmas.List.Edits.{insert-append_right, remove-append_right, length-remove}
use Rattle.std.proofs.Math.Seq.{drop-append_seam, drop-cons}
use Rattle.indexset_core.specs.Nodes.{node_at, node_lengths}
use Rattle.indexset_index.proofs.PlaceLemmas.{count-lengths, length-at}

remove-insert : {A : Type 0} (xs : List A) (k : ℕ) (x : A) → k ≤ length xs → remove (insert xs k x) k ≡ xs
remove-insert xs k x h =
    let zero-left : k - k ≡ 0 = omega arith in
    remove-append_right (take k xs) (x ∷ drop k xs) k k (length-take-le k xs h) (omega arith) ∙ (ap (λ i. take k xs ++ remove (x ∷ drop k xs) i) zero-left ∙ take-append-drop k xs)

insert-remove : {A : Type 0} (xs : List A) (k : ℕ) (d : A) → k < length xs → insert (remove xs k) k (get_or xs k d) ≡ xs
insert-remove xs k d h =
    let zero-left : k - k ≡ 0 = omega arith in
    insert-append_right (take k xs) (drop (suc k) xs) k k (get_or xs k d) (length-take-le k xs (omega arith))
    (omega arith)
    ∙ (ap (λ i. take k xs ++ insert (drop (suc k) xs) i (get_or xs k d)) zero-left
    ∙ (ap (λ l. take k xs ++ l) (sym (drop-cons xs k d h)) ∙ take-append-drop k xs))

-- the list without the element after place k, where a and b replaced one element
remove-second : {A : Type 0} (xs : List A) (k : ℕ) (a b : A) → k < length xs → remove (take k xs ++ a ∷ b ∷ drop (k + 1) xs) (k + 1) ≡ set xs k a
remove-second xs k a b h =
    let one : k + 1 - k ≡ 1 = omega arith in
    let next : k + 1 ≡ suc k = omega arith in
    remove-append_right (take k xs) (a ∷ b ∷ drop (k + 1) xs) k (k + 1) (length-take-le k xs (omega arith))
    (omega arith)
    ∙ (ap (λ i. take k xs ++ remove (a ∷ b ∷ drop (k + 1) xs) i) one
    ∙ (ap (λ i. take k xs ++ a ∷ drop i xs) next ∙ sym (set_split xs k a h)))

-- one in the place of two
set-first : {A : Type 0} (xs : List A) (j : ℕ) (a : A) → j + 1 < length xs → set (remove xs (j + 1)) j a ≡ take j xs ++ a ∷ drop (j + 2) xs
set-first xs j a h =
    let long : length (take (j + 1) xs) ≡ suc j = length-take-le (j + 1) xs (omega arith) ∙ omega arith in
    let front : take j (remove xs (j + 1)) ≡ take j xs = take-append-le j (take (j + 1) xs) (drop (suc (j + 1)) xs) (omega (arith, long)) ∙ take-take j (j + 1) xs (omega arith) in
    let back : drop (suc j) (remove xs (j + 1)) ≡ drop (suc (j + 1)) xs = rw (← long) (drop-append_seam (take (j + 1) xs) (drop (suc (j + 1)) xs)) in
    let two : suc (j + 1) ≡ j + 2 = omega arith in
    set_split (remove xs (j + 1)) j a (omega (arith, length-remove xs (j + 1) h)) ∙ rw (front, back, two) refl

module _ {X : Type 0} where
  around : (ns rest : List (List X)) (k : ℕ) → node_lengths (take k ns ++ rest) ≡ take k (node_lengths ns) ++ node_lengths rest
  around ns rest k = map-append (λ (n : List X). length n) (take k ns) rest ∙ ap (λ l. l ++ node_lengths rest) (sym (take-map (λ (n : List X). length n) k ns))

  behind : (ns : List (List X)) (k : ℕ) → node_lengths (drop k ns) ≡ drop k (node_lengths ns)
  behind ns k = sym (drop-map (λ (n : List X). length n) k ns)

  pub lengths-insert : (ns : List (List X)) (k : ℕ) (n : List X) → node_lengths (insert ns k n) ≡ insert (node_lengths ns) k (length n)
  lengths-insert ns k n = around ns (n ∷ drop k ns) k ∙ ap (λ l. take k (node_lengths ns) ++ length n ∷ l) (behind ns k)

  pub lengths-remove : (ns : List (List X)) (k : ℕ) → node_lengths (remove ns k) ≡ remove (node_lengths ns) k
  lengths-remove ns k = around ns (drop (suc k) ns) k ∙ ap (λ l. take k (node_lengths ns) ++ l) (behind ns (suc k))

  -- without a node that was inserted, and with one that was removed
  pub without-inserted : (ns : List (List X)) (k : ℕ) (n : List X) → k ≤ length ns → remove (node_lengths (insert ns k n)) k ≡ node_lengths ns
  without-inserted ns k n h = ap (λ l. remove l k) (lengths-insert ns k n) ∙ remove-insert (node_lengths ns) k (length n) (omega (arith, h, count-lengths ns))

  pub with-removed : (ns : List (List X)) (k : ℕ) → k < length ns → insert (node_lengths (remove ns k)) k (length (node_at ns k)) ≡ node_lengths ns
  with-removed ns k h =
      ap (λ l. insert l k (length (node_at ns k))) (lengths-remove ns k)
      ∙ (ap (insert (remove (node_lengths ns) k) k) (sym (length-at ns k h))
      ∙ insert-remove (node_lengths ns) k 0 (omega (arith, h, count-lengths ns)))

  -- a node split in two, without the second
  pub without-half : (ns : List (List X)) (k : ℕ) (a b : List X) → k < length ns → remove (node_lengths (take k ns ++ a ∷ b ∷ drop (k + 1) ns)) (k + 1) ≡ set (node_lengths ns) k (length a)
  without-half ns k a b h =
      ap (λ l. remove l (k + 1))
      (around ns (a ∷ b ∷ drop (k + 1) ns) k
      ∙ ap (λ l. take k (node_lengths ns) ++ length a ∷ length b ∷ l) (behind ns (k + 1)))
      ∙ remove-second (node_lengths ns) k (length a) (length b) (omega (arith, h, count-lengths ns))

  -- a node merged from two
  pub made-of-two : (ns : List (List X)) (j : ℕ) (m : List X) → j + 1 < length ns → node_lengths (take j ns ++ m ∷ drop (j + 2) ns) ≡ set (node_lengths (remove ns (j + 1))) j (length m)
  made-of-two ns j m h =
      around ns (m ∷ drop (j + 2) ns) j
      ∙ (ap (λ l. take j (node_lengths ns) ++ length m ∷ l) (behind ns (j + 2))
      ∙ (sym (set-first (node_lengths ns) j (length m) (omega (arith, h, count-lengths ns)))
      ∙ ap (λ l. set l j (length m)) (sym (lengths-remove ns (j + 1)))))
