use Rattle.std.proofs.Common.{◌≡◌, ℕ, zero, suc, ◌<◌, Result, Ok, Err, IfOk, List, [], ◌∷◌, length, Ordering, true, refl, arith}
use Rattle.indexset_core.specs.Nodes.{concat, node_at}
use Rattle.test_script_logged.proofs.trees.place_of.Goals as goal
use Rattle.indexset_core.specs.Places.{located}
use Rattle.indexset_core.proofs.CallerLemmas.{IsEnd, located_end, parted_by_item}

if_ok_map : {A E : Type 0} (r : Result A E) {P : A → Type 0} (Q : A → Type 0) → IfOk r P → ((x : A) → P x → Q x) → IfOk r Q
if_ok_map (Ok x) Q p f = f x p
if_ok_map (Err e) Q p f = tt

-- a node that has an item exists
has_node : {T : Type 0} (ns : List (List T)) (k i : ℕ) → i < length (node_at ns k) → k < length ns
has_node [] k i lt = absurd (omega arith)
has_node (n ∷ ns) zero i lt = omega arith
has_node (n ∷ ns) (suc k) i lt = omega (arith, has_node ns k i lt)

-- the probe compares with the value, and the items ascend
pub locate_by-requires : goal.locate_by-requires
locate_by-requires g c =
    let law = c.node_count-count.ensures.lawful in
    let rule = law.nodes in
    rw c.new.ensures (parted_by_item g.T.Ord.cmp g.met.T.Ord.total (concat c.args.tree.now.nodes) rule.ascending c.args.value.now)

pub returns-clause-node : goal.returns-clause-node
returns-clause-node g c =
    let nodes = c.args.tree.now.nodes in
    let answer : g.row.T.Denot → Ordering = λ x. g.T.Ord.cmp x c.args.value.now in
    let law = c.node_count-count.ensures.lawful in
    let rule = law.nodes in
    let ends = located_end answer nodes rule.filled (parted_by_item g.T.Ord.cmp g.met.T.Ord.total (concat nodes) rule.ascending c.args.value.now) in
    let is : c.locate_by.result ≡ located answer nodes = rw c.new.ensures at c.locate_by.ensures.place in
    let told : IfOk c.locate_by.result (IsEnd answer true nodes) = rw is ends.0 in
    if_ok_map c.locate_by.result (λ p. p.0 < length nodes) told (λ p end. let after = end.after refl in has_node nodes p.0 p.1 (omega (arith, after.offset_in)))

pub returns-clause-offset : goal.returns-clause-offset
returns-clause-offset g c =
    let nodes = c.args.tree.now.nodes in
    let answer : g.row.T.Denot → Ordering = λ x. g.T.Ord.cmp x c.args.value.now in
    let law = c.node_count-count.ensures.lawful in
    let rule = law.nodes in
    let ends = located_end answer nodes rule.filled (parted_by_item g.T.Ord.cmp g.met.T.Ord.total (concat nodes) rule.ascending c.args.value.now) in
    let is : c.locate_by.result ≡ located answer nodes = rw c.new.ensures at c.locate_by.ensures.place in
    let told : IfOk c.locate_by.result (IsEnd answer true nodes) = rw is ends.0 in
    if_ok_map c.locate_by.result (λ p. p.1 < length (node_at nodes p.0)) told (λ p end. let after = end.after refl in omega (arith, after.offset_in))
