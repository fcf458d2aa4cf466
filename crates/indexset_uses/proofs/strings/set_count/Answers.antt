use Rattle.std.proofs.Common.{◌≡◌, ◌+◌, length, arith}
use Rattle.std.proofs.lemmas.List.Elements.{length_all_zip}
use Rattle.std.specs.String.{string_cmp}
use Rattle.indexset.specs.Words.{by_key, numbered_from, pair, put_events}
use Rattle.indexset_uses.proofs.strings.set_count.Goals as goal

-- there are as many clones as events
pub returns-clause-next : goal.returns-clause-next
returns-clause-next c =
    let it = c.in_ok-events.ensures in
    let made = put_events (by_key string_cmp) c.args.counts.now.size c.args.counts.now.nodes (pair c.args.name c.args.count) in
    let as_many : length (numbered_from c.args.counts.now.next made) ≡ length c.in_ok-events.events.items = length_all_zip _ _ _ it.events.clones in
    let counted : length (numbered_from c.args.counts.now.next made) ≡ length made = c.numbered_by_place.ensures.count c.args.counts.now.next made in
    let is : c.insert_cdc.new.self.next ≡ c.args.counts.now.next + length c.in_ok-events.events.items = omega (arith, it.changed.next) in
    is
