use Rattle.std.proofs.Common.{◌≡◌, Some, refl, slice_get, sym, ap, ◌∙◌, inl}
use Rattle.std.specs.Option.{option_map}
use Rattle.indexset_core.proofs.CallerLemmas.{parted_by_key, absent_gap}
use Rattle.indexset_core.specs.Pairs.{key_rank}
use Rattle.indexset_core.specs.declared.pair.Pair.{Pair}
use Rattle.indexset_map.specs.Contents.{Contents, with_pairs, with_entry, with_written}
use Rattle.indexset_map.proofs.ContentsLemmas.{kept_read, kept_written}
use Rattle.indexset_map.proofs.entry.VacantEntry.insert.Goals as goal

pub value_in-requires : goal.value_in-requires
value_in-requires g c = (c.in-Ok.ensures {u = tt}).stands.0

pub returns : goal.returns
returns g c =
    let e = c.args.self in let v = c.args.value in
    let l = e.map.now.pairs in
    let i = key_rank g.K.Ord.cmp l e.key in
    let n = c.put_at.new.self in
    let ok = (c.in-Ok.ensures {u = tt}).ok in
    let at = (c.in-Ok.ensures {u = tt}).stands.1 in
    let gap = absent_gap g.K.Ord.cmp l e.key e.absent (parted_by_key g.K.Ord.cmp g.met.K.Ord.total l c.put_at.ensures.ascending e.key) i refl in
    let read : Some c.value_in.result.now ≡ Some v =
    sym c.value_in.ensures.value
    ∙ (ap (λ j. option_map (λ (p : Pair g.row.K.Denot g.row.V.Denot). p.value) (slice_get n.pairs j)) at
    ∙ (ap (λ (m : Contents g.row.K.Denot g.row.V.Denot). option_map (λ p. p.value) (slice_get m.pairs i)) ok
    ∙ kept_read g.K.Ord.cmp l e.key i gap e.absent v)) in
    let writes = λ (w : g.row.V.Denot).
    ap (λ j. with_written n j w) at
    ∙ (ap (λ (m : Contents g.row.K.Denot g.row.V.Denot). with_written m i w) ok
    ∙ ap (with_pairs (with_entry g.K.Ord.cmp e.map.now e.key v)) (kept_written g.K.Ord.cmp l e.key i gap e.absent v w)) in (
      (λ j. inl (c.value_in.result.ghost_name, λ w. writes w j)),
      record { writes_back = tt; value = cc; given_back = tt },
    )
