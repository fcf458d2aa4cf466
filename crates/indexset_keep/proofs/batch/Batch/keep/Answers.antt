use Rattle.std.proofs.Common.{◌≡◌, refl}
use Rattle.indexset_follow.specs.Follow.{State, state_after}
use Rattle.indexset_journal.specs.Kept.{texts}
use Rattle.indexset_keep.specs.Keep.{MayLead}
use Rattle.indexset_keep.specs.Roles.{IsSoundRole, settled}
use Rattle.indexset_keep.proofs.Runs.{on_err_any}
use Rattle.indexset_keep.proofs.States.{leads_on, may_lead_kept, same_refl}
use Rattle.indexset_keep.proofs.batch.Batch.keep.Goals as goal

pub returns-in_err-append-clause-failed : goal.returns-in_err-append-clause-failed
returns-in_err-append-clause-failed g c =
    let to = settled c.args.map.now.role in
    let it : (from : State _) → state_after g.T.Ord.cmp g.T.Item.texts from (texts c.args.self.now.told.items) ≡ to
    → IsSoundRole g.T.Ord.cmp g.T.Item.texts c.args.map.now.role
    → MayLead g.T.Ord.cmp g.T.Item.texts g.S.Store.view g.S.Store.recovers c.args.kept.now.journal
    c.append.new.self.journal from from to
    = λ from is sound. c.in_err-append.ensures.failed from to is in
    on_err_any _ it

pub returns-in_err-compact-clause-failed : goal.returns-in_err-compact-clause-failed
returns-in_err-compact-clause-failed g c =
    let to = settled c.args.map.now.role in
    let it : (from : State _) → state_after g.T.Ord.cmp g.T.Item.texts from (texts c.args.self.now.told.items) ≡ to
    → IsSoundRole g.T.Ord.cmp g.T.Item.texts c.args.map.now.role
    → MayLead g.T.Ord.cmp g.T.Item.texts g.S.Store.view g.S.Store.recovers c.args.kept.now.journal
    c.compact.new.self.journal from from to
    = λ from is sound.
    may_lead_kept g.T.Ord.cmp g.T.Item.texts g.S.Store.view g.S.Store.recovers c.args.kept.now.journal
    c.append.new.self.journal c.compact.new.self.journal from to (c.in_ok-append.ensures.leads from to is)
    (c.in_err-compact.ensures.failed sound to (same_refl to)) in
    on_err_any _ it

pub returns-in_ok-compact-clause-leads : goal.returns-in_ok-compact-clause-leads
returns-in_ok-compact-clause-leads g c from is sound =
    let to = settled c.args.map.now.role in
    leads_on g.T.Ord.cmp g.T.Item.texts g.S.Store.view g.S.Store.recovers c.args.kept.now.journal
    c.append.new.self.journal c.compact.new.self.journal from to (c.in_ok-append.ensures.leads from to is) to
    (λ same. refl) (c.in_ok-compact.ensures.leads sound to)

pub returns-else-is_long-clause-leads : goal.returns-else-is_long-clause-leads
returns-else-is_long-clause-leads g c from is sound = c.in_ok-append.ensures.leads from (settled c.args.map.now.role) is
