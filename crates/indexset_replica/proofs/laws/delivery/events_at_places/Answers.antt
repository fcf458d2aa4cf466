use Rattle.std.proofs.Common.{◌+◌, sym, subst}
use Rattle.indexset_replica.specs.Delivery.{numbers_from, IsSubsequence}
use Rattle.indexset_replica.proofs.OfferLemmas.{contained, delivered_up_to, numbers-events_at, shifted_order, take-events_at}
use Rattle.indexset_replica.proofs.laws.delivery.events_at_places.Goals as goal

pub returns-clause-of_log : goal.returns-clause-of_log
returns-clause-of_log g c = contained

pub returns-clause-in_order : goal.returns-clause-in_order
returns-clause-in_order g c = λ s j n log order numbered inside came.
    subst (IsSubsequence (numbers_from (s + j) n)) (sym (numbers-events_at log s order numbered inside)) (shifted_order s j n order came)

pub returns-clause-up_to : goal.returns-clause-up_to
returns-clause-up_to g c = λ s j m log order numbered inside is. delivered_up_to log s j m order numbered inside is

pub returns-clause-parts : goal.returns-clause-parts
returns-clause-parts g c = λ k log order inside. take-events_at log k order inside
