use Rattle.std.proofs.Common.{◌≡◌, ◌+◌, ◌-◌, length, min, sym, ap, ◌∙◌, arith}
use Rattle.indexset_ffi.proofs.WrittenLemmas.{IsRun, length-back, length-written, run_is, written_items}
use Rattle.indexset_ffi.proofs.next.write_elements.Goals as goal

pub loop-count-preserved : goal.loop-count-preserved
loop-count-preserved c =
    let i = c.loop-count.invariant in let n = c.loop-count.count in let run = c.next_chunk-run.result.now in
    let inside = i.inside in let room = i.room in let long = i.long in let m = c.write_elements_of-count.result in
    let count = c.write_elements_of-count.ensures.count in let back = length-back n c.loop-count.out in let test = c.loop-count-test.true in
    let taken : IsRun c.args.walk n run c.next_chunk-run.new.self = run_is c.args.walk n run c.next_chunk-run.new.self inside (sym (i.walked test) ∙ c.next_chunk-run.ensures.taken) in
    let more = taken.inside in let told : m ≡ min (length run) (length c.loop-count.out - n) = omega (arith, count, back) in
    let done =
    written_items c.args.walk c.loop-count.out c.args.out.now c.write_elements_of-count.new.out n m run
    c.next_chunk-run.new.self i.done long taken (omega (arith, room, long)) (omega (arith, told))
    (omega (arith, told, room)) c.write_elements_of-count.ensures.written in
    let wide = ap (λ l. length l) done ∙ length-written (n + m) c.args.walk c.args.out.now (omega (arith, told, more)) (omega (arith, told, room, long)) in
    record {
      inside = omega (arith, told, more);
      room = omega (arith, told, room, long, wide);
      long = wide;
      walked = λ less. taken.left m (omega (arith, told, less, long, wide));
      done = done;
    }
