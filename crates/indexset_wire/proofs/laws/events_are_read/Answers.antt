use Rattle.indexset_wire.proofs.EventTexts.{event_line, event_sound, event_told}
use Rattle.indexset_wire.proofs.laws.events_are_read.Goals as goal

pub returns-clause-one_line : goal.returns-clause-one_line
returns-clause-one_line g c = event_line g.T.Item.texts g.met.T.Item.items

pub returns-clause-reads_back : goal.returns-clause-reads_back
returns-clause-reads_back g c = event_told g.T.Item.texts g.met.T.Item.items

pub returns-clause-only : goal.returns-clause-only
returns-clause-only g c = event_sound g.T.Item.texts g.met.T.Item.items
