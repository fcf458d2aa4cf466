use Rattle.std.proofs.Common.{refl, Some, None, Bool, sym, ap, ◌∙◌, if◌then◌else◌, unwrap_or}
use Rattle.std.specs.Option.{option_map}
use Rattle.indexset_core.proofs.CallerLemmas.{key_absent, key_inside, key_no_pair, key_pair, key_there}
use Rattle.indexset_map.proofs.EntryLemmas.{shown_key}
use Rattle.indexset_core.specs.Pairs.{value_of}
use Rattle.indexset_map.proofs.KeyLemmas.{put_found, without_found, without_absent}
use Rattle.indexset_map.proofs.PutKeyLemmas.{value_there}
use Rattle.indexset_core.specs.LookupKey.{acts_as_itself, one_as_itself}
use Rattle.indexset_map.proofs.BTreeMap.entry.Goals as goal

pub invariant_of-result : goal.invariant_of-result
invariant_of-result g c =
    let spot = c.spot-spot.ensures.spot in
    let item = spot.item c.if-spot.true in
    record { item = record { node_in = item.node_in; offset_in = item.offset_in }; within = key_inside g.K.Ord.cmp _ _ _ (spot.found c.if-spot.true) }

pub returns-then-spot-clause-value : goal.returns-then-spot-clause-value
returns-then-spot-clause-value g c = ap (option_map (λ p. p.value)) (sym (key_pair g.K.Ord.cmp _ _ _ (c.spot-spot.ensures.spot.found c.if-spot.true)))

pub returns-then-spot-clause-update : goal.returns-then-spot-clause-update
returns-then-spot-clause-update g c = put_found g.K.Ord.cmp c.args.self.now c.args.key _ (c.spot-spot.ensures.spot.found c.if-spot.true)

pub invariant_of-result-2 : goal.invariant_of-result-2
invariant_of-result-2 g c =
    let spot = c.spot-spot.ensures.spot in
    record { absent = key_absent g.K.Ord.cmp _ _ (spot.absent c.if-spot.false); place = spot.place; rank = spot.rank }

pub returns-clause-value : goal.returns-clause-value
returns-clause-value g c = sym (ap (option_map (λ p. p.value)) (key_no_pair g.K.Ord.cmp _ _ (c.spot-spot.ensures.spot.absent c.if-spot.false)))

pub returns-clause-update : goal.returns-clause-update
returns-clause-update g c = λ w. refl

pub returns-then-spot-clause-contains : goal.returns-then-spot-clause-contains
returns-then-spot-clause-contains g c = λ w.
    let put = put_found g.K.Ord.cmp c.args.self.now c.args.key _ (c.spot-spot.ensures.spot.found c.if-spot.true) w in
    ap (λ m. value_of g.K.Ord.cmp m.pairs c.args.key) put ∙ value_there g.K.Ord.cmp g.met.K.Ord.total c.args.self.now.pairs c.args.key w

pub returns-clause-contains : goal.returns-clause-contains
returns-clause-contains g c = λ w. value_there g.K.Ord.cmp g.met.K.Ord.total c.args.self.now.pairs c.args.key w

pub returns-then-spot-clause-key : goal.returns-then-spot-clause-key
returns-then-spot-clause-key g c =
    let found = c.spot-spot.ensures.spot.found c.if-spot.true in
    shown_key c.args.self.now.pairs _ c.args.key (key_inside g.K.Ord.cmp _ _ _ found)
    ∙ ap (λ o. Some (unwrap_or (option_map (λ p. p.key) o) c.args.key)) (sym (key_pair g.K.Ord.cmp _ _ _ found))

pub returns-clause-key : goal.returns-clause-key
returns-clause-key g c = sym (ap (λ o. Some (unwrap_or (option_map (λ p. p.key) o) c.args.key)) (key_no_pair g.K.Ord.cmp _ _ (c.spot-spot.ensures.spot.absent c.if-spot.false)))

pub returns-then-spot-clause-missing : goal.returns-then-spot-clause-missing
returns-then-spot-clause-missing g c = sym (ap (λ (b : Bool). if b then None else Some c.args.key) (key_there g.K.Ord.cmp _ _ _ (c.spot-spot.ensures.spot.found c.if-spot.true)))

pub returns-clause-missing : goal.returns-clause-missing
returns-clause-missing g c = sym (ap (λ (b : Bool). if b then None else Some c.args.key) (key_absent g.K.Ord.cmp _ _ (c.spot-spot.ensures.spot.absent c.if-spot.false)))

pub returns-then-spot-clause-removal : goal.returns-then-spot-clause-removal
returns-then-spot-clause-removal g c =
    without_found g.K.Ord.cmp c.args.self.now c.args.key _ (c.spot-spot.ensures.spot.found c.if-spot.true)
    (acts_as_itself g.met.K.Ord.total) c.spot-spot.ensures.ascending g.met.K.Ord.total (one_as_itself g.met.K.Ord.total)

pub returns-clause-removal : goal.returns-clause-removal
returns-clause-removal g c = sym (without_absent g.K.Ord.cmp c.args.self.now c.args.key (key_absent g.K.Ord.cmp _ _ (c.spot-spot.ensures.spot.absent c.if-spot.false)))
