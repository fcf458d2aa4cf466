use Rattle.std.proofs.Common.{◌≡◌, ◌∙◌, refl, sym}
use Rattle.indexset_follow.specs.Early.{caught_up}
use Rattle.indexset_follow.specs.Follow.{event_taken}
use Rattle.indexset_follow.proofs.Taking.{held_by, is_next, offer_applied, pair_identical, refused_reply, reply_by}
use Rattle.indexset_follow.proofs.answer.take_event.Goals as goal

-- an event that was offered and is applied
pub returns-in-Ok-Applied-clause-held : goal.returns-in-Ok-Applied-clause-held
returns-in-Ok-Applied-clause-held g c =
    let s = c.args.follower.now in
    let ok = c.in-Ok-Applied.ensures in
    let from : event_taken g.T.Ord.cmp s c.args.event ≡ caught_up g.T.Ord.cmp c.offer.new.self s.early =
    offer_applied g.T.Ord.cmp s c.args.event c.offer.new.self (sym c.in-Ok-Applied.field-0-is ∙ ok.delivery)
    (ok.delivered (pair_identical g.met.T.Key.identical)) in
    held_by (event_taken g.T.Ord.cmp s c.args.event) (caught_up g.T.Ord.cmp c.offer.new.self s.early) from c.catch_up.new.nodes c.catch_up.new.early s c.catch_up.result c.catch_up.ensures.taken

pub returns-in-Ok-Applied-clause-reply : goal.returns-in-Ok-Applied-clause-reply
returns-in-Ok-Applied-clause-reply g c =
    let s = c.args.follower.now in
    let ok = c.in-Ok-Applied.ensures in
    let from : event_taken g.T.Ord.cmp s c.args.event ≡ caught_up g.T.Ord.cmp c.offer.new.self s.early =
    offer_applied g.T.Ord.cmp s c.args.event c.offer.new.self (sym c.in-Ok-Applied.field-0-is ∙ ok.delivery)
    (ok.delivered (pair_identical g.met.T.Key.identical)) in
    reply_by (event_taken g.T.Ord.cmp s c.args.event) (caught_up g.T.Ord.cmp c.offer.new.self s.early) from c.catch_up.new.nodes c.catch_up.new.early c.catch_up.result c.catch_up.ensures.taken

-- the next event, which does not apply
pub returns-in-Err-clause-held : goal.returns-in-Err-clause-held
returns-in-Err-clause-held g c =
    let s = c.args.follower.now in
    let t = event_taken g.T.Ord.cmp s c.args.event in
    held_by t t refl c.offer.new.self s.early s c.reply_unless_memory.result
    (refused_reply g.T.Ord.cmp s.held c.args.event s.early t
    (is_next g.T.Ord.cmp s c.args.event c.in-Err.ensures.refusal.0) c.in-Err.refusal
    c.in-Err.ensures.refusal.1 c.reply_unless_memory.result c.next-next.result c.next-next.ensures
    c.reply_unless_memory.ensures.unfit c.reply_unless_memory.ensures.reply c.offer.new.self
    c.in-Err.ensures.unchanged)

pub returns-in-Err-clause-reply : goal.returns-in-Err-clause-reply
returns-in-Err-clause-reply g c =
    let s = c.args.follower.now in
    let t = event_taken g.T.Ord.cmp s c.args.event in
    reply_by t t refl c.offer.new.self s.early c.reply_unless_memory.result
    (refused_reply g.T.Ord.cmp s.held c.args.event s.early t
    (is_next g.T.Ord.cmp s c.args.event c.in-Err.ensures.refusal.0) c.in-Err.refusal
    c.in-Err.ensures.refusal.1 c.reply_unless_memory.result c.next-next.result c.next-next.ensures
    c.reply_unless_memory.ensures.unfit c.reply_unless_memory.ensures.reply c.offer.new.self
    c.in-Err.ensures.unchanged)
