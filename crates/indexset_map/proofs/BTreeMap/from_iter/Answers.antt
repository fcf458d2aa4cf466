use Rattle.std.proofs.Common.{[], ◌∷◌, ◌∙◌, true, ap, arith, rules, refl, sym}
use Rattle.std.specs.Iterator.{Drains}
use Rattle.std.proofs.iter.runs.Made.{run, to_end}
use Rattle.std.proofs.lemmas.List.Sums.{fold-append}
use Rattle.indexset_core.specs.declared.constants.TheConstants.{DEFAULT_INNER_SIZE}
use Rattle.indexset_map.specs.Contents.{no_pairs, with_entry}
use Rattle.indexset_map.proofs.BTreeMap.from_iter.Goals as goal

pub loop-key-init : goal.loop-key-init
loop-key-init g c =
    rw (c.in_ok-map.ensures.empty, c.new-run.ensures.items) (record {
      order = λ i j d lt inside. absurd (omega (arith, lt, inside));
      inserted = refl;
    })

pub put_behind-requires : goal.put_behind-requires
put_behind-requires g c = record { order = c.loop-key.invariant.order }

pub loop-key-preserved : goal.loop-key-preserved
loop-key-preserved g c =
    let cmp = g.K.Ord.cmp in
    record {
      order = c.in_ok-put_behind.ensures.order;
      inserted =
          c.in_ok-put_behind.ensures.inserted
          ∙ (ap (λ m. with_entry cmp m c.in-Some.key c.in-Some.value) c.loop-key.invariant.inserted
          ∙ sym
          (fold-append (λ m e. with_entry cmp m e.0 e.1) (no_pairs DEFAULT_INNER_SIZE) c.loop-key.yielded
          ((c.in-Some.key, c.in-Some.value) ∷ [])));
    }

pub take_run-requires : goal.take_run-requires
take_run-requires g c = record { order = c.loop-key.invariant.order }

-- the loop's calls are a whole run of the iterator
pub returns-clause-inserted : goal.returns-clause-inserted
returns-clause-inserted g c =
    let steps = g.I.IntoIter.Iterator.next_gives in
    let rest = c.into_iter-rest.result in
    let came = c.loop-key.yielded in
    let drains : Drains steps rest came = (c.next.new.self, (c.loop-key.key-iterator, search rules, (c.in-None.ensures {u = tt}).steps)) in
    (rest, c.into_iter-rest.ensures.into_iter_gives, (run steps rest came true (to_end steps rest came drains), refl, refl, c.in_ok-take_run.ensures.inserted ∙ c.loop-key.invariant.inserted))
