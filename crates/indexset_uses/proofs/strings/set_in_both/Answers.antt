use Rattle.std.proofs.Common.{Result, Ok, Err, OnOk, string_bytes}
use Rattle.indexset_uses.proofs.strings.set_in_both.Goals as goal

on_ok : {U E A B : Type 0} (r : Result U E) → (A → B) → OnOk r A → OnOk r B
on_ok (Ok u) f h = f h
on_ok (Err e) f h = tt

-- the events are clones of the map's events, and replaying those gives its nodes
pub returns-clause-copies : goal.returns-clause-copies
returns-clause-copies c =
    let done = c.in_ok-events.ensures in
    c.apply_all.ensures.copies (c.pairs.ensures.pair c.texts.ensures.string) c.args.counts.now.nodes
    c.insert_cdc.new.self.nodes _ c.requires (rw c.as_slice.ensures.value done.events.clones) done.changed.table

-- a clone has the text and the count of its source
pub returns-clause-unchanged : goal.returns-clause-unchanged
returns-clause-unchanged c =
    on_ok c.apply_all.result (c.copies_keep.ensures (λ p. (string_bytes p.key, p.value)) (λ x y e i. (e.0 i, e.1 i)) c.insert_cdc.new.self.nodes c.apply_all.new.copy.nodes) (returns-clause-copies c)
