use Rattle.indexset_wire.specs.Numbers.Laws.{number_is}
use Rattle.indexset_wire.proofs.number.read_number.Goals as goal

pub returns : goal.returns
returns c = number_is c.args.text.now c.number.result c.number.ensures
