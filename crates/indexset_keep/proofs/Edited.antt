-- An event or an attached node whose numbers have at most 64 bits leaves lawful nodes with such
-- numbers.
use Rattle.std.proofs.Common.{Option, None, Some, IfSome, ◌≡◌, ℕ, zero, suc, ◌+◌, ◌==◌, Bool}
use Rattle.std.proofs.Common.{true, false, if◌then◌else◌, List, [], ◌∷◌, ◌++◌, ◌&&◌, length}
use Rattle.std.proofs.Common.{get_or, take, drop, insert, remove, ltb, leb, refl, sym, subst}
use Rattle.std.proofs.lemmas.Bool.{false≢true}
use Rattle.std.proofs.lemmas.List.{take-append-drop}
use Rattle.std.specs.Cmp.{IsTotalOrder}
use Rattle.std.specs.List.{position_or_len, splice}
use Rattle.std.specs.Option.{option_and_then, option_map}
use Rattle.std.specs.Ordering.{is_eq}
use Rattle.indexset_core.specs.Nodes.{IsNodeList, concat, node_at}
use Rattle.indexset_core.specs.declared.pair.Pair.{Pair}
use Rattle.indexset_core.proofs.CallerLemmas.{pairs_total}
use Rattle.indexset_events.specs.Attach.{attach_index, attach_refusal, attached}
use Rattle.indexset_events.specs.Merging.{with_merged}
use Rattle.indexset_events.specs.Nodes.{are_nodes, last_of}
use Rattle.indexset_events.specs.Replay.{edit, node_named, reaches, step, step_plain, unassigned}
use Rattle.indexset_events.specs.declared.change.ChangeEvent.TheVariants.{InsertAt, RemoveAt, CreateNode, RemoveNode, SplitNode, MergeNodes}
use Rattle.indexset_events.proofs.AttachLemmas.{good}
use Rattle.indexset_events.proofs.CallerLemmas.{Each, attaches_node, each-append, each-left, each-right, last_answer, nodes_ruled, ruled_nodes, tested_ruled}
use Rattle.indexset_follow.specs.EventLine.{Event, EventFits}
use Rattle.indexset_bench.specs.Texts.{PairFits}
use Rattle.indexset_wire.specs.Texts.{Texts}
use Rattle.indexset_follow.proofs.Onwards.{order}
use Rattle.std.specs.declared.cmp.Ordering.{Ordering}
use Rattle.std.specs.Cmp.{IsTotalOrder}

-- ---- lists

module _ {X : Type 0} (Q : X → Type 0) where
  each_front : (k : ℕ) (xs : List X) → Each Q xs → Each Q (take k xs)
  each_front k xs h = each-left Q (take k xs) (drop k xs) (subst (Each Q) (sym (take-append-drop k xs)) h)

  each_back : (k : ℕ) (xs : List X) → Each Q xs → Each Q (drop k xs)
  each_back k xs h = each-right Q (take k xs) (drop k xs) (subst (Each Q) (sym (take-append-drop k xs)) h)

  each_more : (xs : List X) (k : ℕ) (x : X) → Each Q xs → Q x → Each Q (insert xs k x)
  each_more xs k x h new = each-append Q (take k xs) (x ∷ drop k xs) (each_front k xs h) (new, each_back k xs h)

  each_fewer : (xs : List X) (k : ℕ) → Each Q xs → Each Q (remove xs k)
  each_fewer xs k h = each-append Q (take k xs) (drop (suc k) xs) (each_front k xs h) (each_back (suc k) xs h)

  pub each_together : (xss : List (List X)) → Each (Each Q) xss → Each Q (concat xss)
  each_together [] h = tt
  each_together (xs ∷ xss) h = each-append Q xs (concat xss) h.0 (each_together xss h.1)

-- ---- nodes

abbrev pub Nodes : Type 0 → Type 0
Nodes T = List (List (Pair T T))

module _ {T : Type 0} (texts : Texts T) where
  -- the pairs of each node fit
  abbrev pub NodesFit : Nodes T → Type 0
  NodesFit = Each (Each (PairFits texts))

  node_fits : (ns : Nodes T) (k : ℕ) → NodesFit ns → Each (PairFits texts) (node_at ns k)
  node_fits [] k h = tt
  node_fits (n ∷ ns) zero h = h.0
  node_fits (n ∷ ns) (suc k) h = node_fits ns k h.1

  -- the result of a test that passes
  tested_fit : (b : Bool) (ns : Nodes T) → NodesFit ns → IfSome (if b then Some ns else None) NodesFit
  tested_fit true ns h = h
  tested_fit false ns h = tt

module _ {T : Type 0} (cmp : T → T → Ordering) (texts : Texts T) where
  -- ---- the edit of an event

  module _ (ns : Nodes T) (h : NodesFit texts ns) where
    spliced_fit : (i j : ℕ) (parts : Nodes T) → NodesFit texts parts → NodesFit texts (splice ns i j parts)
    spliced_fit i j parts new =
        each-append (Each (PairFits texts)) (take i ns) (parts ++ drop j ns) (each_front (Each (PairFits texts)) i ns h)
        (each-append (Each (PairFits texts)) parts (drop j ns) new (each_back (Each (PairFits texts)) j ns h))

    parts_fit : (p : ℕ) (parts : Option (Nodes T)) → IfSome parts (NodesFit texts) → IfSome (option_map (splice ns p (p + 1)) parts) (NodesFit texts)
    parts_fit p None new = tt
    parts_fit p (Some parts) new = spliced_fit p (p + 1) parts new

    -- replacing a node by the parts that f gives for it
    named_fit : (place : Option ℕ) (f : List (Pair T T) → Option (Nodes T))
        → ((n : List (Pair T T)) → Each (PairFits texts) n → IfSome (f n) (NodesFit texts))
        → IfSome (option_and_then (λ p. option_map (splice ns p (p + 1)) (f (node_at ns p))) place) (NodesFit texts)
    named_fit None f made = tt
    named_fit (Some p) f made = parts_fit p (f (node_at ns p)) (made (node_at ns p) (node_fits texts ns p h))

    merged_fit : (first second : Option ℕ) → IfSome (option_and_then (λ p. option_and_then (λ q. if q == p + 1 then Some (with_merged ns p) else None) second) first) (NodesFit texts)
    merged_fit None second = tt
    merged_fit (Some p) None = tt
    merged_fit (Some p) (Some q) =
        let both = each-append (PairFits texts) (node_at ns p) (node_at ns (p + 1)) (node_fits texts ns p h) (node_fits texts ns (p + 1) h) in
        tested_fit texts (q == p + 1) (with_merged ns p) (spliced_fit p (p + 2) ((node_at ns p ++ node_at ns (p + 1)) ∷ []) (both, tt))

    edited_fit : (e : Event T) → EventFits texts e → IfSome (edit (order cmp) ns (unassigned e)) (NodesFit texts)
    edited_fit (InsertAt id m v i) fit =
        named_fit (node_named (order cmp) ns m) (λ n. if leb i (length n) then Some (insert n i v ∷ []) else None)
        (λ n k.
        tested_fit texts (leb i (length n)) (insert n i v ∷ []) (each_more (PairFits texts) n i v k fit.2, tt))
    edited_fit (RemoveAt id m v i) fit =
        named_fit (node_named (order cmp) ns m) (λ n. if (leb 2 (length n) && ltb i (length n)) && is_eq (order cmp (get_or n i v) v) then Some (remove n i ∷ []) else None)
        (λ n k. tested_fit texts ((leb 2 (length n) && ltb i (length n)) && is_eq (order cmp (get_or n i v) v)) (remove n i ∷ []) (each_fewer (PairFits texts) n i k, tt))
    edited_fit (CreateNode id m) fit = each_more (Each (PairFits texts)) ns (position_or_len (reaches (order cmp) m) ns) (m ∷ []) h (fit.1, tt)
    edited_fit (RemoveNode id m) fit = named_fit (node_named (order cmp) ns m) (λ n. Some []) (λ n k. tt)
    edited_fit (SplitNode id m i) fit =
        named_fit (node_named (order cmp) ns m) (λ n. if ltb 0 i && ltb i (length n) then Some (take i n ∷ drop i n ∷ []) else None)
        (λ n k. tested_fit texts (ltb 0 i && ltb i (length n)) (take i n ∷ drop i n ∷ []) (each_front (PairFits texts) i n k, (each_back (PairFits texts) i n k, tt)))
    edited_fit (MergeNodes id m w) fit = merged_fit (node_named (order cmp) ns m) (node_named (order cmp) ns w)

  -- ---- the nodes after an event

  -- the nodes are lawful, and their pairs fit
  pub record SoundNodes (ns : Nodes T) : Type 0 where
    pub nodes : IsNodeList (order cmp) ns
    pub fit : NodesFit texts ns

  pub step_sound : (ns : Nodes T) → NodesFit texts ns → (e : Event T) → EventFits texts e → IfSome (step (order cmp) ns e) SoundNodes
  unfolding step_plain
  step_sound ns h e fit = at (edit (order cmp) ns (unassigned e)) (edited_fit ns h e fit)
    where
      tested : (r : Nodes T) → NodesFit texts r → (b : Bool) → are_nodes (order cmp) r ≡ b → IfSome (if b then Some r else None) SoundNodes
      tested r k true is = record { nodes = ruled_nodes (order cmp) r (tested_ruled (order cmp) r is); fit = k }
      tested r k false is = tt

      at : (o : Option (Nodes T)) → IfSome o (NodesFit texts) → IfSome (option_and_then (λ r. if are_nodes (order cmp) r then Some r else None) o) SoundNodes
      at None k = tt
      at (Some r) k = tested r k (are_nodes (order cmp) r) refl

module _ {T : Type 0} (cmp : T → T → Ordering) (total : IsTotalOrder cmp) where
  -- ---- the nodes after a node is attached

  pub ordered : IsTotalOrder (order cmp)
  ordered = pairs_total cmp total

  attached_nodes : (ns : Nodes T) → IsNodeList (order cmp) ns → (n : List (Pair T T)) → attach_refusal (order cmp) (length n) ns n ≡ None → IsNodeList (order cmp) (attached (order cmp) ns n)
  attached_nodes ns law [] none = let it = good (order cmp) ordered 0 ns [] none in absurd (false≢true it.full)
  attached_nodes ns law (p ∷ n) none =
      let it = good (order cmp) ordered (length (p ∷ n)) ns (p ∷ n) none in
      let last = last_of n p in
      let made = attaches_node (order cmp) ordered ns (nodes_ruled (order cmp) ns law) (p ∷ n) p last refl (last_answer (p ∷ n) last) it.up in
      ruled_nodes (order cmp) (attached (order cmp) ns (p ∷ n)) (made.rule it.apart)

module _ {T : Type 0} (cmp : T → T → Ordering) (texts : Texts T) (total : IsTotalOrder cmp) where
  pub attached_sound : (ns : Nodes T) → SoundNodes cmp texts ns → (n : List (Pair T T)) → Each (PairFits texts) n
      → attach_refusal (order cmp) (length n) ns n ≡ None → SoundNodes cmp texts (attached (order cmp) ns n)
  attached_sound ns s n fit none = record {
    nodes = attached_nodes cmp total ns s.nodes n none;
    fit = each_more (Each (PairFits texts)) ns (attach_index (order cmp) ns n) n s.fit fit;
  }
