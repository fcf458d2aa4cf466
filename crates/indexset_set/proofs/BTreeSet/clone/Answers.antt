use Rattle.std.proofs.Common.{◌≡◌, [], ◌∷◌, refl}
use Rattle.std.specs.List.{AllZip, fold}
use Rattle.std.specs.Result.{IfOk}
use Rattle.indexset_core.specs.Nodes.{concat}
use Rattle.indexset_core.specs.Order.{IsAscending, keep}
use Rattle.indexset_spine.specs.NodeList.{node_list, items}
use Rattle.indexset_spine.proofs.CallerLemmas.{copies_joined}
use Rattle.indexset_set.specs.SetNodes.{nodes_kept_all}
use Rattle.indexset_set.proofs.SetCopyLemmas.{clones_ascend, copy_in_place, copy_in_turn}
use Rattle.indexset_set.proofs.SetDrainLemmas.{made_of}
use Rattle.indexset_set.proofs.BTreeSet.clone.Goals as goal

pub invariant_of-result : goal.invariant_of-result
invariant_of-result g c = c.if-is_ascending.ensures.ascending refl

pub returns-then-is_ascending-clause-cloned : goal.returns-then-is_ascending-clause-cloned
returns-then-is_ascending-clause-cloned g c = λ _. rw (← c.self.view_is) c.in_ok-spine.ensures.cloned

pub returns-then-is_ascending-clause-ok : goal.returns-then-is_ascending-clause-ok
returns-then-is_ascending-clause-ok g c = rw (← c.self.view_is) c.in_ok-spine.ensures.ok

pub returns-then-is_ascending-clause-copy : goal.returns-then-is_ascending-clause-copy
returns-then-is_ascending-clause-copy g c =
    let cmp = g.T.Ord.cmp in
    let s = c.args.self.now in
    let copy = c.in_ok-spine.spine in
    let cloned : AllZip (AllZip g.T.Clone.is_clone) s.nodes copy.nodes = rw (← c.self.view_is) c.in_ok-spine.ensures.cloned in
    let size : copy.size ≡ s.size = rw (← c.self.view_is) c.in_ok-spine.ensures.size in
    copy_in_place cmp g.T.Clone.is_clone s copy.nodes cloned copy refl size (c.if-is_ascending.ensures.ascending refl)

pub returns-clause-copy : goal.returns-clause-copy
returns-clause-copy g c =
    let cmp = g.T.Ord.cmp in
    let s = c.args.self.now in
    let clones = c.in_ok-spine.spine.nodes in
    let cloned : AllZip (AllZip g.T.Clone.is_clone) s.nodes clones = rw (← c.self.view_is) c.in_ok-spine.ensures.cloned in
    let elements = made_of _ (λ copy xs. items copy ≡ fold (keep cmp) [] xs) (concat clones) c.kept_in.result c.kept_in.ensures.kept in
    let kept = rw c.maximum_node_size.ensures.value at c.kept_in.ensures.nodes in
    let nodes = made_of _ (λ copy xs. copy.nodes ≡ nodes_kept_all cmp (node_list ([] ∷ []) s.size) xs) (concat clones) c.kept_in.result kept in
    let size : IfOk c.kept_in.result (λ copy. copy.size ≡ s.size) = rw c.maximum_node_size.ensures.value at c.kept_in.ensures.size in
    copy_in_turn cmp g.T.Clone.is_clone s clones cloned c.kept_in.result (c.if-is_ascending.ensures.other refl) elements nodes size

pub returns-clause-cloned : goal.returns-clause-cloned
returns-clause-cloned g c = λ equal.
    let cmp = g.T.Ord.cmp in
    let ns = c.args.self.now.nodes in
    let clones = c.in_ok-spine.spine.nodes in
    let cloned : AllZip (AllZip g.T.Clone.is_clone) ns clones = rw (← c.self.view_is) c.in_ok-spine.ensures.cloned in
    let up : IsAscending cmp (concat ns) = rw (← c.self.view_is) c.self.invariant in
    absurd (c.if-is_ascending.ensures.other refl (clones_ascend cmp g.met.T.Ord.total g.T.Clone.is_clone equal (concat ns) (concat clones) (copies_joined g.T.Clone.is_clone ns clones cloned) up))
