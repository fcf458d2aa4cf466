use Rattle.std.proofs.Common.{◌≡◌, ◌+◌, ◌≤◌, ◌∙◌, Some, false, length, true, ap, arith, refl}
use Rattle.std.proofs.lemmas.Bool.{false≢true}
use Rattle.std.proofs.lemmas.Grind.{common_steps}
use Rattle.indexset_core.specs.declared.refusal.Refusal.TheVariants.{PairNumber}
use Rattle.indexset_core.specs.MultiPairs.{by_number}
use Rattle.indexset_core.specs.Nodes.{concat}
use Rattle.indexset_events.specs.Attach.{attach_index, attached}
use Rattle.indexset_multi.specs.Attach.{free_number, has_greatest, pairs_refusal}
use Rattle.indexset_multi.proofs.PairNumberLemmas.{below_free, below_insert, below_more}
use Rattle.indexset_multi.proofs.multimap.BTreeMultiMap.attach_multi_node.Goals as goal

pub returns-in_default : goal.returns-in_default
returns-in_default g c =
    let list = g.Node.NodeLike.list c.args.node in
    let whole = c.as_slice.ensures.value ∙ c.iter.ensures in
    let greatest : has_greatest list ≡ true = rw (← whole) c.in_default.ensures in
    let refused : pairs_refusal g.K.Ord.cmp c.args.self.now list ≡ Some PairNumber = rw greatest refl in
    record {
      attached = tt;
      good = λ done. absurd (false≢true done);
      refusal = rw refused refl;
      given_back = refl;
      unchanged = refl;
    }

pub invariant_of-self : goal.invariant_of-self
invariant_of-self g c = rw c.in_err-attach_node.ensures.unchanged c.self.invariant

pub returns-in_err-attach_node-clause-refusal : goal.returns-in_err-attach_node-clause-refusal
returns-in_err-attach_node-clause-refusal g c =
    let list = g.Node.NodeLike.list c.args.node in
    let set = c.self.inside.set in
    let m = c.args.self.now in
    let same : set.nodes ≡ m.nodes = ap (λ t. t.nodes) c.self.view_is in
    let size : set.size ≡ m.size = ap (λ t. t.size) c.self.view_is in
    let whole = c.as_slice.ensures.value ∙ c.iter.ensures in
    let none : has_greatest list ≡ false = rw (← whole) c.in-Some.ensures.0 in
    let cause = rw (same, size) at c.in_err-attach_node.ensures.refusal in
    rw (none, ← cause) (grind (arith, common_steps))

pub invariant_of-self-2 : goal.invariant_of-self-2
invariant_of-self-2 g c =
    let list = g.Node.NodeLike.list c.args.node in
    let nodes = c.self.inside.set.nodes in
    let n = c.max-self-inside.result in
    let whole = c.as_slice.ensures.value ∙ c.iter.ensures in
    let free : c.in-Some.free ≡ free_number list = rw (← whole) c.in-Some.ensures.1 in
    let old : c.self.inside.pair_next ≤ n = omega (arith, c.max-self-inside.ensures) in
    let new : free_number list ≤ n = omega (arith, c.max-self-inside.ensures, free) in
    rw c.in_ok-attach_node.ensures.nodes
    (below_insert n nodes (attach_index (by_number g.K.Ord.cmp) nodes list) list
    (below_more c.self.inside.pair_next n old (concat nodes) c.self.invariant)
    (below_more (free_number list) n new list (below_free list)))

pub returns-clause-attached : goal.returns-clause-attached
returns-clause-attached g c =
    let cmp = g.K.Ord.cmp in
    let list = g.Node.NodeLike.list c.args.node in
    let m = c.args.self.now in
    let same : c.self.inside.set.nodes ≡ m.nodes = ap (λ t. t.nodes) c.self.view_is in
    let size : c.self.inside.set.size ≡ m.size = ap (λ t. t.size) c.self.view_is in
    let next : c.self.inside.set.next ≡ m.next = ap (λ t. t.next) c.self.view_is in
    let pair_next : c.self.inside.pair_next ≡ m.pair_next = ap (λ t. t.pair_next) c.self.view_is in
    let whole = c.as_slice.ensures.value ∙ c.iter.ensures in
    let free : c.in-Some.free ≡ free_number list = rw (← whole) c.in-Some.ensures.1 in
    let done = c.in_ok-attach_node.ensures in
    record {
      nodes = done.nodes ∙ ap (λ ns. attached (by_number cmp) ns list) same;
      ascending = done.ascending;
      count = done.count ∙ ap (λ ns. length (concat ns) + length list) same;
      size = done.size ∙ size;
      next = done.next ∙ next;
      pair_next = omega (arith, c.max-self-inside.ensures, free, pair_next);
    }
