use Rattle.std.proofs.Common.{Some, sym, ap, ◌∙◌}
use Rattle.std.proofs.lemmas.Bool.{false≢true}
use Rattle.std.specs.Option.{option_map}
use Rattle.indexset_core.proofs.CallerLemmas.{key_absent, key_no_pair, key_pair}
use Rattle.indexset_core.specs.Pairs.{value_of}
use Rattle.indexset_map.specs.Contents.{with_written}
use Rattle.indexset_map.proofs.KeyLemmas.{put_found}
use Rattle.indexset_map.proofs.PutKeyLemmas.{value_beside, value_there}
use Rattle.indexset_spine.specs.Lengths.{place_of}
use Rattle.indexset_map.proofs.BTreeMap.insert.Goals as goal

pub value_in-requires : goal.value_in-requires
value_in-requires g c = c.spot_from_end-spot.ensures.spot.item c.if-spot.true

pub put_at-requires-clause-absent : goal.put_at-requires-clause-absent
put_at-requires-clause-absent g c = key_absent g.K.Ord.cmp _ _ (c.spot_from_end-spot.ensures.spot.absent c.if-spot.false)

pub put_at-requires-clause-place : goal.put_at-requires-clause-place
put_at-requires-clause-place g c = c.spot_from_end-spot.ensures.spot.place

pub put_at-requires-clause-rank : goal.put_at-requires-clause-rank
put_at-requires-clause-rank g c = c.spot_from_end-spot.ensures.spot.rank

pub returns-in_err-put_at-clause-no_memory : goal.returns-in_err-put_at-clause-no_memory
returns-in_err-put_at-clause-no_memory g c = λ has. absurd (false≢true (sym (key_absent g.K.Ord.cmp _ _ (c.spot_from_end-spot.ensures.spot.absent c.if-spot.false)) ∙ has))

pub returns-then-spot-clause-old : goal.returns-then-spot-clause-old
returns-then-spot-clause-old g c =
    let found = c.spot_from_end-spot.ensures.spot.found c.if-spot.true in
    ap Some c.replace.ensures.value ∙ sym (ap (option_map (λ p. p.value)) (key_pair g.K.Ord.cmp _ _ _ found) ∙ c.value_in.ensures.value)

pub returns-then-spot-clause-ok : goal.returns-then-spot-clause-ok
returns-then-spot-clause-ok g c =
    let m = c.args.self.now in
    let i = place_of m.lengths c.spot_from_end-spot.result in
    let found = c.spot_from_end-spot.ensures.spot.found c.if-spot.true in
    ap (λ w. with_written m i w) c.replace.ensures.after ∙ put_found g.K.Ord.cmp m c.args.key i found _

pub returns-then-spot-clause-contains : goal.returns-then-spot-clause-contains
returns-then-spot-clause-contains g c =
    ap (λ m. value_of g.K.Ord.cmp m.pairs c.args.key) (returns-then-spot-clause-ok g c) ∙ value_there g.K.Ord.cmp g.met.K.Ord.total c.args.self.now.pairs c.args.key c.args.value

pub returns-then-spot-clause-others : goal.returns-then-spot-clause-others
returns-then-spot-clause-others g c = λ other apart.
    ap (λ m. value_of g.K.Ord.cmp m.pairs other) (returns-then-spot-clause-ok g c) ∙ value_beside g.K.Ord.cmp g.met.K.Ord.total c.args.key other apart c.args.self.now.pairs c.args.value

pub returns-clause-old : goal.returns-clause-old
returns-clause-old g c = sym (ap (option_map (λ p. p.value)) (key_no_pair g.K.Ord.cmp _ _ (c.spot_from_end-spot.ensures.spot.absent c.if-spot.false)))

pub returns-clause-ok : goal.returns-clause-ok
returns-clause-ok g c = c.in_ok-put_at.ensures.ok

pub returns-clause-contains : goal.returns-clause-contains
returns-clause-contains g c =
    ap (λ m. value_of g.K.Ord.cmp m.pairs c.args.key) c.in_ok-put_at.ensures.ok ∙ value_there g.K.Ord.cmp g.met.K.Ord.total c.args.self.now.pairs c.args.key c.args.value

pub returns-clause-others : goal.returns-clause-others
returns-clause-others g c = λ other apart.
    ap (λ m. value_of g.K.Ord.cmp m.pairs other) c.in_ok-put_at.ensures.ok ∙ value_beside g.K.Ord.cmp g.met.K.Ord.total c.args.key other apart c.args.self.now.pairs c.args.value
