-- Nodes without the items of a range.
use Rattle.std.proofs.Common.{◌≡◌, ℕ, zero, suc, ◌+◌, ◌<◌, ◌≤◌, Bool, true, false, not, ◌==◌}
use Rattle.std.proofs.Common.{List, [], ◌∷◌, ◌++◌, length, take, drop, get_or, set, map, filter}
use Rattle.std.proofs.Common.{Ordering, refl, ap, sym, ◌∙◌, subst, arith, length-append}
use Rattle.std.specs.declared.cmp.Ordering.TheVariants.{Less}
use Rattle.std.proofs.lemmas.List.Elements.{All-filter, filter-append}
use Rattle.std.proofs.lemmas.List.Sums.{count_by-le-length, length-filter}
use Rattle.indexset_core.specs.Nodes.{concat, IsLawful}
use Rattle.std.proofs.lemmas.Bool.{ne_eqb}
use Rattle.std.proofs.lemmas.List.{length-map, map-set, take_all, drop_all, append-nil}
use Rattle.indexset_core.proofs.CallerLemmas.{length-concat-take}
use Rattle.indexset_events.specs.Nodes.{is_filled}
use Rattle.indexset_events.proofs.CallerLemmas.{Each, Up, all_each, each_all, lawful_bounded, lawful_from, lawful_ruled, node_is}

module _ {T : Type 0} (p : T → Bool) where
  filter_le : (l : List T) → length (filter p l) ≤ length l
  filter_le l = rw (length-filter p l) (count_by-le-length p l)

  each_filter : (P : T → Type 0) (l : List T) → Each P l → Each P (filter p l)
  each_filter P l h = all_each P (filter p l) (All-filter p P l (each_all P l h))

  up_filter : (cmp : T → T → Ordering) (l : List T) → Up cmp l → Up cmp (filter p l)
  up_filter cmp [] h = tt
  up_filter cmp (x ∷ l) h = elim (p x) as (λ b. p x ≡ b → Up cmp (filter p (x ∷ l))) [
    | true ↦ λ e. rw e (each_filter (λ y. cmp x y ≡ Less) l h.0, up_filter cmp l h.1)
    | false ↦ λ e. rw e (up_filter cmp l h.1)
  ] refl

  -- a filter of each node is a filter of the whole list
  pub concat-filter : (ns : List (List T)) → concat (map (filter p) ns) ≡ filter p (concat ns)
  concat-filter [] = refl
  concat-filter (n ∷ ns) = ap (λ q. filter p n ++ q) (concat-filter ns) ∙ sym (filter-append p n (concat ns))

  pub joined_fewer : (ns : List (List T)) → length (concat (map (filter p) ns)) ≤ length (concat ns)
  joined_fewer ns = rw (concat-filter ns) (filter_le (concat ns))

  -- the nodes after the first i are filtered
  pub filtered_so_far : (ns : List (List T)) (i : ℕ) (d : List T) → i < length ns
      → set (take i (map (filter p) ns) ++ drop i ns) i
      (filter p (get_or (take i (map (filter p) ns) ++ drop i ns) i d))
      ≡ take (suc i) (map (filter p) ns) ++ drop (suc i) ns
  filtered_so_far [] i d lt = absurd (omega arith)
  filtered_so_far (n ∷ ns) zero d lt = refl
  filtered_so_far (n ∷ ns) (suc i) d lt = ap (λ q. filter p n ∷ q) (filtered_so_far ns i d (omega arith))

  pub filtered_length : (ns : List (List T)) (i : ℕ) (d : List T) → i < length ns
      → length (concat (take (suc i) (map (filter p) ns)))
      ≡ length (concat (take i (map (filter p) ns)))
      + length (filter p (get_or (take i (map (filter p) ns) ++ drop i ns) i d))
  filtered_length [] i d lt = absurd (omega arith)
  filtered_length (n ∷ ns) zero d lt = omega (arith, length-append (filter p n) [])
  filtered_length (n ∷ ns) (suc i) d lt = omega (
    arith,
    filtered_length ns i d (omega arith),
    length-append (filter p n) (concat (take (suc i) (map (filter p) ns))),
    length-append (filter p n) (concat (take i (map (filter p) ns))),
  )

-- the nodes without the empty ones
pub joined_filled : {T : Type 0} (ns : List (List T)) → concat (filter is_filled ns) ≡ concat ns
joined_filled [] = refl
joined_filled ([] ∷ ns) = joined_filled ns
joined_filled ((x ∷ n) ∷ ns) = ap (λ q. (x ∷ n) ++ q) (joined_filled ns)

all_filled : {T : Type 0} (ns : List (List T)) → Each (λ n. is_filled n ≡ true) (filter is_filled ns)
all_filled [] = tt
all_filled ([] ∷ ns) = all_filled ns
all_filled ((x ∷ n) ∷ ns) = (refl, all_filled ns)

each_fewer : {T : Type 0} (p : T → Bool) (size : ℕ) (ns : List (List T)) → Each (λ n. length n ≤ size) ns → Each (λ n. length n ≤ size) (map (filter p) ns)
each_fewer p size [] h = tt
each_fewer p size (n ∷ ns) h = (omega (arith, filter_le p n, h.0), each_fewer p size ns h.1)

pub ranged_lawful : {T : Type 0} (cmp : T → T → Ordering) (p : T → Bool) (size : ℕ) (ns : List (List T)) → IsLawful cmp size ns → IsLawful cmp size (filter is_filled (map (filter p) ns))
ranged_lawful cmp p size ns law =
    let rule = lawful_ruled cmp size ns law in
    lawful_from cmp size _
    (record {
      filled = all_filled (map (filter p) ns);
      up = rw (joined_filled (map (filter p) ns), concat-filter p ns) (up_filter p cmp (concat ns) rule.up);
    })
    (each_filter is_filled (λ n. length n ≤ size) (map (filter p) ns)
    (each_fewer p size ns (lawful_bounded cmp size ns law)))

-- the nodes without the empty ones, as the code holds them
pub filled-map : {T N : Type 0} (f : N → List T) (q : N → Bool) → ((v : N) → q v ≡ is_filled (f v)) → (vs : List N) → map f (filter q vs) ≡ filter is_filled (map f vs)
filled-map f q same [] = refl
filled-map f q same (v ∷ vs) =
    elim (is_filled (f v)) as (λ b. is_filled (f v) ≡ b → map f (filter q (v ∷ vs)) ≡ filter is_filled (map f (v ∷ vs))) [
      | true ↦ λ e. rw (same v ∙ e, e) (ap (λ l. f v ∷ l) (filled-map f q same vs))
      | false ↦ λ e. rw (same v ∙ e, e) (filled-map f q same vs)
    ] refl

-- an iteration of the loop that filters one node after another, in the nodes as the code holds
-- them: it leaves w at the place
pub record Turned {T N : Type 0} (f : N → List T) (p : T → Bool) (old nodes : List N) (i : ℕ) (w : N) : Type 0 where
  pub nodes_are : map f (set nodes i w) ≡ take (i + 1) (map (filter p) (map f old)) ++ drop (i + 1) (map f old)
  pub count : length (concat (take i (map (filter p) (map f old)))) + length (f w) ≡ length (concat (take (i + 1) (map (filter p) (map f old))))
  pub fits : length (concat (take i (map (filter p) (map f old)))) + length (f w) ≤ length (concat (map f old))

pub turned : {T N : Type 0} (f : N → List T) (p : T → Bool) (old nodes : List N) (i : ℕ) (v w : N) → i < length old
    → length nodes ≡ length old → map f nodes ≡ take i (map (filter p) (map f old)) ++ drop i (map f old)
    → v ≡ get_or nodes i v → f w ≡ filter p (f v) → Turned f p old nodes i w
turned f p old nodes i v w inside long so_far read made =
    let was = node_is f nodes (take i (map (filter p) (map f old)) ++ drop i (map f old)) i v so_far (omega arith) read in
    let within : i < length (map f old) = omega (arith, length-map old f) in
    let next : suc i ≡ i + 1 = omega arith in
    let count =
    subst
    (λ j. length (concat (take i (map (filter p) (map f old)))) + length (f w)
    ≡ length (concat (take j (map (filter p) (map f old)))))
    next (rw (made, was) (sym (filtered_length p (map f old) i [] within))) in
    record {
      nodes_are =
          subst (λ j. map f (set nodes i w) ≡ take j (map (filter p) (map f old)) ++ drop j (map f old)) next
          (map-set f nodes i w ∙ rw (so_far, made, was) (filtered_so_far p (map f old) i [] within));
      count = count;
      fits = omega (arith, count, length-concat-take (map (filter p) (map f old)) (i + 1), joined_fewer p (map f old));
    }

-- all iterations done
module _ {T N : Type 0} (f : N → List T) (h : List T → List T) (old : List N) (i : ℕ) (past : length old ≤ i) where
  pub turned_take : take i (map h (map f old)) ≡ map h (map f old)
  turned_take = take_all i (map h (map f old)) (omega (arith, length-map (map f old) h, length-map old f))

  pub all_turned : take i (map h (map f old)) ++ drop i (map f old) ≡ map h (map f old)
  all_turned = rw (turned_take, drop_all i (map f old) (omega (arith, length-map old f))) (append-nil (map h (map f old)))

pub has_items : {X : Type 0} (n : ℕ) (l : List X) → n ≡ length l → not (n == 0) ≡ is_filled l
has_items n [] e = rw e refl
has_items n (x ∷ l) e = let some : (n == 0) ≡ false = ne_eqb n 0 (λ z. omega (arith, e)) in rw some refl
