use Rattle.indexset_follow.proofs.Delivered.{output_texts}
use Rattle.indexset_follow.proofs.laws.output_tells_the_events.Goals as goal

pub returns : goal.returns
returns c = output_texts
