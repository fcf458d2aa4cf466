use Rattle.std.proofs.Common.{rules, ◌≡◌, ◌+◌, IfErr, None, length, refl, ap, subst, arith}
use Rattle.std.proofs.lemmas.Bool.{false≢true}
use Rattle.indexset_core.specs.Nodes.{concat}
use Rattle.indexset_events.proofs.CallerLemmas.{some_taken}
use Rattle.indexset_multi.specs.Keys.{AreNumberedBelow}
use Rattle.indexset_log.specs.PlaceRemoval.{placed_item}
use Rattle.indexset_multi.proofs.PairRemovalLemmas.{pair_below, removal_tree, taken, taken_count}
use Rattle.indexset_multi.proofs.multimap.BTreeMultiMap.take.Goals as goal

pub remove_at-requires : goal.remove_at-requires
remove_at-requires g c =
    let same : c.self.inside.set.nodes ≡ c.args.self.now.nodes = ap (λ t. t.nodes) c.self.view_is in
    let at = rw c.in-Some.is at c.requires in
    rw same (record { node = at.0; offset = at.1 })

pub invariant_of-self : goal.invariant_of-self
invariant_of-self g c = rw c.in_err-pair-in-Some.ensures.unchanged c.self.invariant

pub returns-in_err-pair-in-Some-clause-refusal : goal.returns-in_err-pair-in-Some-clause-refusal
returns-in_err-pair-in-Some-clause-refusal g c =
    let count = taken_count g.K.Ord.cmp g.met.K.Ord.total c.self.view_is c.recall_invariant.ensures.tree c.in-Some.is c.requires in
    let next : c.self.inside.set.next ≡ c.args.self.now.next = ap (λ m. m.next) c.self.view_is in
    let told : IfErr c.from_residual.result (λ e. e ≡ c.in_err-pair-in-Some.field-0.0) = search rules in
    rw (count, ← next) (subst (λ r. IfErr c.from_residual.result (λ e. e ≡ r)) c.in_err-pair-in-Some.ensures.refusal told)

pub returns-in_err-pair-in-Some-clause-no_event : goal.returns-in_err-pair-in-Some-clause-no_event
returns-in_err-pair-in-Some-clause-no_event g c =
    let count = taken_count g.K.Ord.cmp g.met.K.Ord.total c.self.view_is c.recall_invariant.ensures.tree c.in-Some.is c.requires in
    λ none. absurd (omega (arith, count, some_taken c.self.inside.set.size c.self.inside.set.nodes c.in-Some.node c.in-Some.offset, ap (λ l. length l) none))

pub returns-in_err-pair-in-Some-clause-no_memory : goal.returns-in_err-pair-in-Some-clause-no_memory
returns-in_err-pair-in-Some-clause-no_memory g c =
    let count = taken_count g.K.Ord.cmp g.met.K.Ord.total c.self.view_is c.recall_invariant.ensures.tree c.in-Some.is c.requires in
    let next : c.self.inside.set.next ≡ c.args.self.now.next = ap (λ m. m.next) c.self.view_is in
    let some = some_taken c.self.inside.set.size c.self.inside.set.nodes c.in-Some.node c.in-Some.offset in
    λ few fits. absurd (false≢true (c.in_err-pair-in-Some.ensures.no_memory (omega (arith, count, few, some)) (omega (arith, count, fits, some, next))))

pub returns-in_err-pair-in-Some-clause-never : goal.returns-in_err-pair-in-Some-clause-never
returns-in_err-pair-in-Some-clause-never g c =
    let count = taken_count g.K.Ord.cmp g.met.K.Ord.total c.self.view_is c.recall_invariant.ensures.tree c.in-Some.is c.requires in
    let next : c.self.inside.set.next ≡ c.args.self.now.next = ap (λ m. m.next) c.self.view_is in
    λ free fits. absurd (false≢true (c.in_err-pair-in-Some.ensures.never free (omega (arith, count, fits, next))))

pub invariant_of-self-in-Some : goal.invariant_of-self-in-Some
invariant_of-self-in-Some g c =
    let done = c.in_ok-pair-in-Some.ensures in
    let taken = taken g.K.Ord.cmp g.met.K.Ord.total c.self.view_is c.recall_invariant.ensures.tree c.in-Some.is c.requires done.item done.changed.tree done.changed.table in
    let below = subst (λ m. AreNumberedBelow c.self.inside.pair_next (concat m.nodes)) c.self.view_is c.self.invariant in
    pair_below g.met.K.Ord.total c.args.self.now c.recall_invariant.ensures.tree (placed_item c.args.self.now.nodes c.args.place) taken.tree c.self.inside.pair_next below

pub returns-in-None-clause-tree : goal.returns-in-None-clause-tree
returns-in-None-clause-tree g c =
    let m = c.args.self.now in
    let all : m.next ≡ m.next + 0 = omega arith in
    rw c.in-None.is (removal_tree g.K.Ord.cmp m None refl refl all refl)

pub returns-in_ok-pair-in-Some : goal.returns-in_ok-pair-in-Some
returns-in_ok-pair-in-Some g c =
    let cmp = g.K.Ord.cmp in
    let rule = c.recall_invariant.ensures.tree in
    let done = c.in_ok-pair-in-Some.ensures in
    let taken = taken cmp g.met.K.Ord.total c.self.view_is rule c.in-Some.is c.requires done.item done.changed.tree done.changed.table in
    let count = taken_count cmp g.met.K.Ord.total c.self.view_is rule c.in-Some.is c.requires in
    let same : c.self.inside.set.nodes ≡ c.args.self.now.nodes = ap (λ t. t.nodes) c.self.view_is in
    let next : c.self.inside.set.next ≡ c.args.self.now.next = ap (λ t. t.next) c.self.view_is in
    record {
      tree = taken.tree;
      answer = rw (c.in-Some.is, ← same, done.item) refl;
      fits = rw (count, ← next) (omega (arith, ap (λ t. t.next) done.changed.tree, done.changed.next, done.changed.fits));
      refusal = tt;
      no_event = λ _. refl;
      no_memory = λ _ _. refl;
      never = λ _ _. refl;
      unchanged = tt;
      invariant = rule;
    }
