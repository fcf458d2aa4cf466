use Rattle.std.proofs.Common.{length, arith, ap, sym, refl}
use Rattle.std.proofs.lemmas.Bool.{false≢true}
use Rattle.std.proofs.lemmas.Grind.{common_steps}
use Rattle.indexset_log.proofs.ChangeLemmas.{events_counted}
use Rattle.indexset_events.proofs.CallerLemmas.{some_taken}
use Rattle.indexset_log.proofs.set.BTreeSet.remove_from.Goals as goal

pub returns-in_err-remove_at-in-Some-clause-refusal : goal.returns-in_err-remove_at-in-Some-clause-refusal
returns-in_err-remove_at-in-Some-clause-refusal g c =
    let here = rw c.in-Some.is at c.requires in
    let count = events_counted c.args.self.now c.in-Some.node c.in-Some.offset here.1 in
    rw (c.in-Some.is, count) (grind (arith, common_steps))

pub returns-in_err-remove_at-in-Some-clause-no_event : goal.returns-in_err-remove_at-in-Some-clause-no_event
returns-in_err-remove_at-in-Some-clause-no_event g c =
    let here = rw c.in-Some.is at c.requires in
    let count = events_counted c.args.self.now c.in-Some.node c.in-Some.offset here.1 in
    let some = some_taken c.args.self.now.size c.args.self.now.nodes c.in-Some.node c.in-Some.offset in
    rw c.in-Some.is (λ none. absurd (omega (arith, count, some, ap (λ q. length q) none)))

pub returns-in_err-remove_at-in-Some-clause-no_memory : goal.returns-in_err-remove_at-in-Some-clause-no_memory
returns-in_err-remove_at-in-Some-clause-no_memory g c =
    let here = rw c.in-Some.is at c.requires in
    let count = events_counted c.args.self.now c.in-Some.node c.in-Some.offset here.1 in
    let some = some_taken c.args.self.now.size c.args.self.now.nodes c.in-Some.node c.in-Some.offset in
    rw c.in-Some.is (λ few fits. absurd (false≢true (c.in_err-remove_at-in-Some.ensures.no_memory (omega (arith, count, few, some)) (omega (arith, count, fits, some)))))

pub returns-in_err-remove_at-in-Some-clause-never : goal.returns-in_err-remove_at-in-Some-clause-never
returns-in_err-remove_at-in-Some-clause-never g c =
    let here = rw c.in-Some.is at c.requires in
    let count = events_counted c.args.self.now c.in-Some.node c.in-Some.offset here.1 in
    rw c.in-Some.is (λ free fits. absurd (false≢true (c.in_err-remove_at-in-Some.ensures.never free (omega (arith, count, fits)))))

pub returns-in_ok-remove_at-in-Some : goal.returns-in_ok-remove_at-in-Some
returns-in_ok-remove_at-in-Some g c =
    let here = rw c.in-Some.is at c.requires in
    let count = events_counted c.args.self.now c.in-Some.node c.in-Some.offset here.1 in
    let done = c.in_ok-remove_at-in-Some.ensures in
    record {
      tree = rw c.in-Some.is done.changed.tree;
      answer = rw c.in-Some.is (sym done.item);
      fits = rw (c.in-Some.is, count) (omega (arith, ap (λ t. t.next) done.changed.tree, done.changed.next, done.changed.fits));
      refusal = tt;
      no_event = λ _. refl;
      no_memory = λ _ _. refl;
      never = λ _ _. refl;
      unchanged = tt;
    }
