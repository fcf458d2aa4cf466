use Rattle.std.proofs.Common.{rules, ap}
use Rattle.indexset_map.specs.Entry.{entry_value, missing_key}
use Rattle.indexset_map.proofs.entry.Entry.or_insert.Goals as goal

pub returns-in-Vacant : goal.returns-in-Vacant
returns-in-Vacant g c =
    let none = ap entry_value c.in-Vacant.is in
    let key = ap missing_key c.in-Vacant.is in search rules
