use Rattle.std.proofs.Common.{arith, refl}
use Rattle.indexset_events.proofs.CallerLemmas.{after_from, next_inside, two_held}
use Rattle.indexset_log.proofs.set.BTreeSet.merge_event.Goals as goal

pub last_without-requires-clause-place : goal.last_without-requires-clause-place
last_without-requires-clause-place g c =
    let ns = c.args.self.now.nodes in
    let after = after_from c.args.self.now.size ns c.args.node c.args.offset c.args.left c.requires.join in
    omega (arith, next_inside c.args.self.now.size ns c.args.node c.args.offset c.args.left c.requires.offset after)

pub last_without-requires-clause-two : goal.last_without-requires-clause-two
last_without-requires-clause-two g c =
    let ns = c.args.self.now.nodes in
    let after = after_from c.args.self.now.size ns c.args.node c.args.offset c.args.left c.requires.join in
    two_held c.args.self.now.size ns c.args.node c.args.offset c.args.left c.requires.offset after

pub overflow_add-left : goal.overflow_add-left
overflow_add-left g c =
    let ns = c.args.self.now.nodes in
    let after = after_from c.args.self.now.size ns c.args.node c.args.offset c.args.left c.requires.join in
    let inside = next_inside c.args.self.now.size ns c.args.node c.args.offset c.args.left c.requires.offset after in
    omega (arith, inside, c.recall_invariant.ensures.nodes)

pub returns-clause-clones : goal.returns-clause-clones
returns-clause-clones g c s d =
    rw (c.last_without.ensures d, c.last_without-2.ensures d) (refl, (c.in_ok-clone.ensures.cases, (c.in_ok-clone-2.ensures.cases, tt)))
