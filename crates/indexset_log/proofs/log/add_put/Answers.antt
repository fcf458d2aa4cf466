use Rattle.std.proofs.Common.{◌≡◌, ◌<◌, ◌-◌, length, get_or, cond, arith, ap, refl, ◌∙◌, slice_get, Some}
use Rattle.std.proofs.lemmas.List.{get_or_default}
use Rattle.indexset_core.proofs.CallerLemmas.{read_item, found_has_equal}
use Rattle.indexset_events.specs.Nodes.{last_of}
use Rattle.indexset_events.proofs.CallerLemmas.{gap_written, inner_replaced, last_replaced, last_some, node_count, on_ok_map, only_replaced}
use Rattle.indexset_log.proofs.log.add_put.Goals as goal
use Rattle.indexset_log.proofs.log.add_put.Goals.{then-index-last, else-index-last}

pub add-requires : goal.add-requires
add-requires g c =
    let gap = rw c.in-Err.is at c.requires.gap in
    let fits = rw (gap_written g.T.Ord.cmp g.met.T.Ord.total c.args.value.now c.args.part.now c.in-Err.index gap) at c.requires.fits in
    omega (arith, fits)

pub add_both-requires : goal.add_both-requires
add_both-requires g c =
    let found = found_has_equal g.T.Ord.cmp c.args.part.now c.args.value.now c.in-Ok.field-0 (rw c.in-Ok.is at c.requires.found) in
    omega (arith, c.requires.fits, node_count g.T.Ord.cmp g.met.T.Ord.total c.args.value.now c.args.part.now ∙ ap (λ b. cond b 2 1) found)

pub add_both-requires-in-Ok-2 : goal.add_both-requires-in-Ok-2
add_both-requires-in-Ok-2 g c =
    let found = found_has_equal g.T.Ord.cmp c.args.part.now c.args.value.now c.in-Ok-2.index (rw c.in-Ok-2.is at c.requires.found) in
    omega (arith, c.requires.fits, node_count g.T.Ord.cmp g.met.T.Ord.total c.args.value.now c.args.part.now ∙ ap (λ b. cond b 2 1) found)

pub returns-in-Err-clause-clones : goal.returns-in-Err-clause-clones
returns-in-Err-clause-clones g c =
    let cmp = g.T.Ord.cmp in
    let n = c.args.part.now in
    let v = c.args.value.now in
    let y = c.index-part-last.result in
    let last : slice_get n (length n - 1) ≡ Some y = read_item n (length n - 1) y (omega (arith, c.requires.some)) c.index-part-last.is in
    let name : g.T.Clone.is_clone (last_of n v) c.in_ok-max_value.max_value = rw (last_some n v y last) c.in_ok-max_value.ensures.cases in
    let gap = rw c.in-Err.is at c.requires.gap in
    rw (gap_written cmp g.met.T.Ord.total v n c.in-Err.index gap) (on_ok_map c.add.result c.add.ensures.events (λ e. (_, e, ((refl, (name, (c.in_ok-copy.ensures.cases, tt))), tt))))

pub returns-in-Ok-clause-clones : goal.returns-in-Ok-clause-clones
returns-in-Ok-clause-clones g c =
    let cmp = g.T.Ord.cmp in
    let n = c.args.part.now in
    let v = c.args.value.now in
    let i = c.in-Ok.field-0 in
    let y = c.index-part-last.result in
    let f = rw c.in-Ok.is at c.requires.found in
    let one : length n ≡ 1 = omega (arith, c.requires.some, c.if-last-eq0.true) in
    let first : i ≡ length n - 1 = omega (arith, f.inside, one) in
    let here : slice_get n i ≡ Some y = rw first (read_item n (length n - 1) y (omega (arith, c.requires.some)) c.index-part-last.is) in
    rw (only_replaced cmp g.met.T.Ord.total v n i y c.requires.ascending f here one)
    (on_ok_map c.add_both.result c.add_both.ensures.events
    (λ e. (_, e, ((refl, (c.in_ok-max_value.ensures.cases, tt)), ((refl, (c.in_ok-copy.ensures.cases, tt)), tt)))))

pub returns-in_ok-name-in-Ok-2-clause-clones : goal.returns-in_ok-name-in-Ok-2-clause-clones
returns-in_ok-name-in-Ok-2-clause-clones g c =
    let cmp = g.T.Ord.cmp in
    let o = g.met.T.Ord.total in
    let n = c.args.part.now in
    let v = c.args.value.now in
    let i = c.in-Ok-2.index in
    let y = c.index-part-last.result in
    let x = c.index-part-index.result in
    let z = c.index-part-last-in-Ok-2.result in
    let f = rw c.in-Ok-2.is at c.requires.found in
    let some = c.requires.some in
    let more : length n ≡ 1 → ⊥ = λ one. c.if-last-eq0.false (omega (arith, one)) in
    let last : slice_get n (length n - 1) ≡ Some y = read_item n (length n - 1) y (omega (arith, some)) c.index-part-last.is in
    let max : g.T.Clone.is_clone (last_of n v) c.in_ok-max_value.max_value = rw (last_some n v y last) c.in_ok-max_value.ensures.cases in
    let copy = c.in_ok-copy.ensures.cases in
    let here : slice_get n i ≡ Some x = read_item n i x f.inside c.index-part-index.is in
    let old = c.in_ok-old-in-Ok-2.ensures.cases in
    let name = c.in_ok-name-in-Ok-2.ensures.cases in
    elim c.if-index-last.branch [
      | then-index-last w ↦
          let inside : i - 1 < length n = omega (arith, f.inside, some) in
          let before : z ≡ get_or n (i - 1) v = rw w.clone-is at c.index-part-last-in-Ok-2.is ∙ get_or_default n (i - 1) z v inside in
          let befores : g.T.Clone.is_clone (get_or n (i - 1) v) c.in_ok-name-in-Ok-2.name = rw (← before) name in
          rw
          (last_replaced cmp o v n i x c.requires.ascending f here more (omega (arith, w.if-index-last.true, some)))
          (on_ok_map c.add_both-in-Ok-2.result c.add_both-in-Ok-2.ensures.events
          (λ e. (_, e, ((refl, (max, (old, tt))), ((refl, (befores, (copy, tt))), tt)))))
      | else-index-last w ↦
          let end : slice_get n (length n - 1) ≡ Some z = read_item n (length n - 1) z (omega (arith, some)) (rw w.clone-is at c.index-part-last-in-Ok-2.is) in
          let lasts : g.T.Clone.is_clone (last_of n v) c.in_ok-name-in-Ok-2.name = rw (last_some n v z end) name in
          rw
          (inner_replaced cmp o v n i x c.requires.ascending f here more
          (λ e. w.if-index-last.false (omega (arith, e))))
          (on_ok_map c.add_both-in-Ok-2.result c.add_both-in-Ok-2.ensures.events
          (λ e. (_, e, ((refl, (max, (old, tt))), ((refl, (lasts, (copy, tt))), tt)))))
    ]
