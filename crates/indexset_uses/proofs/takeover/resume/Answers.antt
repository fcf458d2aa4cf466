use Rattle.std.proofs.Common.{rules, ◌≡◌, ℕ, List, [], ◌∷◌, Some, Result, Ok, Err, IfErr, unwrap_or, ap, sym, subst, arith, ◌∙◌}
use Rattle.std.proofs.lemmas.Option.{option_and_then_some}
use Rattle.std.specs.Ordering.{nat_cmp}
use Rattle.std.specs.Result.{IsErr, IsErrAnd}
use Rattle.indexset.specs.Words.{replay, step, ChangeEvent, IsAt, IsPrefix, IsNodeList, ReplicaState}
use Rattle.indexset_uses.proofs.takeover.resume.Goals as goal

-- if each event applies to the nodes after those before it, replaying them gives nodes
led :
    ((ns after : List (List ℕ)) (event : ChangeEvent ℕ) → step nat_cmp ns event ≡ Some after → IsNodeList nat_cmp after)
    → (ns after : List (List ℕ)) (es : List (ChangeEvent ℕ)) → IsNodeList nat_cmp ns → replay nat_cmp ns es ≡ Some after
    → IsNodeList nat_cmp after
led law ns after [] good is = subst (λ r. IsNodeList nat_cmp r) (ap (λ o. unwrap_or o ns) is) good
led law ns after (e ∷ es) good is =
    option_and_then_some (λ r. replay nat_cmp r es) (step nat_cmp ns e) after is (λ mid first rest. led law mid after es (law ns mid e first) rest)

-- the error of a call that returns the error of another
told : {T E : Type 0} (r : Result T E) (cause memory : E) → cause ≡ memory → IsErr r × IsErrAnd r (λ e. e ≡ cause) → IfErr r (λ e. e ≡ memory)
told (Ok x) cause memory same fails = tt
told (Err e) cause memory same fails = fails.1 ∙ same

-- a replica can be made of the nodes of a snapshot
pub returns-in_err-copy-clause-memory : goal.returns-in_err-copy-clause-memory
returns-in_err-copy-clause-memory c =
    let good = led c.steps_lead_to_nodes.ensures.step [] _ _ (record { filled = λ k d lt. omega arith; ascending = search rules }) c.requires.snapshot in
    let cause = c.in_err-copy.ensures.lawful good in
    told c.from_residual.result _ _ cause c.from_residual.ensures

-- the replica of the snapshot has the nodes after the first events
pub returns-in_err-follow-clause-memory : goal.returns-in_err-follow-clause-memory
returns-in_err-follow-clause-memory c =
    let made = c.in_ok-copy.ensures.replica in
    let failed = c.in_err-follow.ensures.memory_alone 0 c.args.next [] c.requires.feed
    (record { within = c.requires.within; nodes = c.requires.snapshot ∙ ap (λ r. Some r.nodes) (sym made); next = omega (arith, ap (λ r. r.next) made) }) in
    told c.from_residual-in_err-follow.result _ _ failed c.from_residual-in_err-follow.ensures

pub returns-clause-delivered : goal.returns-clause-delivered
returns-clause-delivered c =
    let made = c.in_ok-copy.ensures.replica in
    c.in_ok-follow.ensures.delivery (λ x y same. same) 0 c.args.next [] c.requires.feed
    (record { within = c.requires.within; nodes = c.requires.snapshot ∙ ap (λ r. Some r.nodes) (sym made); next = omega (arith, ap (λ r. r.next) made) })

-- the state after the first n events is one after a prefix
begins : (es : List (ChangeEvent ℕ)) (n : ℕ) (copy : ReplicaState ℕ) → IsAt nat_cmp 0 [] es n copy → IsPrefix nat_cmp 0 [] es copy
begins es n copy at = subst (λ m. IsAt nat_cmp 0 [] es m copy) (omega (arith, at.next)) at

pub returns-clause-beginning : goal.returns-clause-beginning
returns-clause-beginning c =
    let made = c.in_ok-copy.ensures.replica in
    c.in_ok-follow.ensures.prefix (λ x y same. same) 0 [] c.requires.feed
    (begins _ c.args.next _ (record { within = c.requires.within; nodes = c.requires.snapshot ∙ ap (λ r. Some r.nodes) (sym made); next = omega (arith, ap (λ r. r.next) made) }))

pub returns-clause-onwards : goal.returns-clause-onwards
returns-clause-onwards c = omega (arith, ap (λ r. r.next) c.in_ok-copy.ensures.replica, c.offers_only_advance.ensures _ _ _ c.in_ok-follow.ensures.offered)
