use Rattle.std.proofs.Common.{◌≡◌, Result, Ok, Err, OnOk, is_err, false, ap, sym, ◌∙◌, arith, slice_index_or}
use Rattle.std.specs.Ordering.{nat_cmp}
use Rattle.indexset_core.specs.Pairs.{put_value}
use Rattle.indexset_ffi.proofs.PutAllLemmas.{put_more}
use Rattle.indexset_ffi.proofs.map_calls.put_each.Goals as goal

stored : {T E P : Type 0} (r : Result T E) → OnOk r P → is_err r ≡ false → P
stored (Ok o) told h = told
stored (Err e) told h = absurd (cc)

pub loop-count-preserved : goal.loop-count-preserved
loop-count-preserved c =
    let i = c.loop-count.invariant in let n = c.loop-count.count in let ks = c.args.keys.now in let ws = c.args.values.now in
    let test = c.loop-count-test.true in let least = c.min-room.ensures in
    let now = stored c.insert.result c.insert.ensures.ok (sym c.is_err.ensures.value ∙ c.if-is_err.false) in
    record {
      inside = omega (arith, test);
      put = ap (λ m. m.pairs) now ∙ ap (λ ps. put_value nat_cmp ps (slice_index_or ks n 0) (slice_index_or ws n 0)) i.put
          ∙ sym (put_more c.args.map.now.pairs ks ws n (omega (arith, test, least)) (omega (arith, test, least)));
    }
