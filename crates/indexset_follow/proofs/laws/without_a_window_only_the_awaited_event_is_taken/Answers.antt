use Rattle.std.proofs.Common.{◌∙◌, ap, sym}
use Rattle.indexset_follow.proofs.NoWindow.{alone, fitting, gap_told}
use Rattle.indexset_follow.specs.declared.reply.Reply.TheVariants as reply
use Rattle.indexset_follow.proofs.laws.without_a_window_only_the_awaited_event_is_taken.Goals as goal

pub returns-clause-early : goal.returns-clause-early
returns-clause-early g c = λ r e zero none. (alone g.T.Ord.cmp r e zero none).0

pub returns-clause-held : goal.returns-clause-held
returns-clause-held g c = λ r e zero none. (alone g.T.Ord.cmp r e zero none).1

pub returns-clause-next : goal.returns-clause-next
returns-clause-next g c = λ r e zero none here fits. let is = fitting g.T.Ord.cmp r e here none fits in ap (λ t. t.reply) is ∙ ap (λ t. reply.Next t.held.next) (sym is)

pub returns-clause-gap : goal.returns-clause-gap
returns-clause-gap g c = λ r e zero lt. ap (λ t. t.reply) (gap_told g.T.Ord.cmp r e zero lt)
