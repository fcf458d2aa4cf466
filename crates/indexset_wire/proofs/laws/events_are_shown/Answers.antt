use Rattle.indexset_wire.proofs.EventTexts.{event_is_shown}
use Rattle.indexset_wire.proofs.laws.events_are_shown.Goals as goal

pub returns : goal.returns
returns g c = event_is_shown g.T.Display.output g.T.Item.texts
