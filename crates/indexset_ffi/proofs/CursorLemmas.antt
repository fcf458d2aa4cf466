-- The position of a cursor among nodes.
use Rattle.std.proofs.Common.{◌≡◌, ℕ, zero, suc, ◌+◌, ◌-◌, ◌<◌, ◌≤◌, List, [], ◌∷◌, length, min, sum, take, get_or, refl, sym, ap, ◌∙◌, arith}
use Rattle.std.proofs.Math.ListN as lists
use Rattle.std.proofs.Math.Logic.{inl, inr}
use Rattle.std.proofs.lemmas.Bool.{cases_lt}
use Rattle.std.proofs.lemmas.List.{length-drop, length-map, take-map, take_all}
use Rattle.std.proofs.lemmas.List.Sums.{sum_by_more, sum_by_more_le}
use Rattle.std.specs.declared.vec.Vec.{Vec}
use Rattle.indexset_core.specs.Nodes.{concat, node_at, node_lengths, vec_items}
use Rattle.indexset_core.specs.Places.{IsPlace, items_before}
use Rattle.indexset_core.proofs.NodeLemmas.{length-concat, node_read}
use Rattle.indexset_ffi.specs.Cursors.{cursor_position, items_from}
use Rattle.indexset_ffi.specs.declared.cursor.Cursor.{Cursor}

past : (ls : List ℕ) (k : ℕ) → length ls ≤ k → get_or ls k 0 ≡ 0
past [] k h = refl
past (n ∷ ls) zero h = let no : ⊥ = omega (arith, h) in absurd no
past (n ∷ ls) (suc k) h = past ls k (omega (arith, h))

module _ {X : Type 0} (ns : List (List X)) (c : Cursor) where
  abbrev lengths : List ℕ
  lengths = node_lengths ns

  size : get_or lengths c.node 0 ≡ length (node_at ns c.node)
  size = lists.get_or-map (λ (n : List X). length n) ns c.node []

  before : sum (take c.node lengths) ≡ length (concat (take c.node ns))
  before = ap sum (take-map (λ (n : List X). length n) c.node ns) ∙ sym (length-concat (take c.node ns))

  -- a cursor between two items
  pub at_place : IsPlace ns (c.node, c.offset) → cursor_position lengths c ≡ items_before ns (c.node, c.offset)
  at_place place = omega (arith, before, size, place.offset_in)

  -- a cursor after all nodes is at the end
  pub ends : length ns ≤ c.node → cursor_position lengths c ≡ length (concat ns)
  ends h =
      let long : length lengths ≤ c.node = omega (arith, h, length-map ns (λ (n : List X). length n)) in
      let none : get_or lengths c.node 0 ≡ 0 = past lengths c.node long in
      let all : sum (take c.node lengths) ≡ sum lengths = ap sum (take_all c.node lengths long) in
      omega (arith, none, all, length-concat ns)

  -- no cursor is past the end
  pub within : cursor_position lengths c ≤ length (concat ns)
  within = elim (cases_lt c.node (length lengths)) [
    | inl inside ↦ omega (arith, sum_by_more_le (λ (n : ℕ). n) lengths c.node 0 inside, length-concat ns)
    | inr outside ↦ omega (arith, ends (omega (arith, outside, length-map ns (λ (n : List X). length n))))
  ]

  -- the number of items after the cursor
  pub few : (count : ℕ) → count ≤ length (items_from lengths c (concat ns)) → min (cursor_position lengths c + count) (length (concat ns)) ≡ cursor_position lengths c + count
  few count h = omega (arith, h, within, length-drop (cursor_position lengths c) (concat ns))

-- a cursor in a node that was read, with the offset o
module _ {X Z : Type 0} (vs : List (Vec X Z)) (c : Cursor) (v : Vec X Z) (len o : ℕ) (inside : c.node < length vs)
    (read : v ≡ get_or vs c.node v) (long : len ≡ length v.items) (least : o ≡ min c.offset len) where
  abbrev ns : List (List X)
  ns = vec_items vs

  abbrev ls : List ℕ
  ls = node_lengths ns

  there : c.node < length ls
  there = omega (arith, inside, length-map ns (λ (n : List X). length n), length-map vs (λ (w : Vec X Z). w.items))

  node : length (node_at ns c.node) ≡ len
  node = ap (λ (n : List X). length n) (node_read (λ (w : Vec X Z). w.items) vs c.node v inside read []) ∙ sym long

  pub here : cursor_position ls c ≡ length (concat (take c.node ns)) + o
  here = omega (arith, before ns c, size ns c, node, least)

  pub in_node : o ≤ length (node_at ns c.node)
  in_node = omega (arith, least, node)

  -- the cursor moves within its node
  pub on : (left : ℕ) → left ≤ len - o → cursor_position ls (record { node = c.node; offset = o + left }) ≡ cursor_position ls c + left
  on left few = omega (arith, size ns c, node, least, few)

  -- the cursor moves to the next node
  pub over : cursor_position ls (record { node = c.node + 1; offset = 0 }) ≡ cursor_position ls c + (len - o)
  over = omega (arith, size ns c, node, least, sum_by_more (λ (n : ℕ). n) ls c.node 0 there)
