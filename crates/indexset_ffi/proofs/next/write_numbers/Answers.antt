use Rattle.std.proofs.Common.{◌≡◌, ◌+◌, ◌-◌, length, map, min, sym, ap, ◌∙◌, arith}
use Rattle.indexset_ffi.proofs.WrittenLemmas.{IsRun, length-back, length-written, run_is, written_run}
use Rattle.std.proofs.lemmas.List.{length-map}
use Rattle.indexset_ffi.proofs.next.write_numbers.Goals as goal

pub loop-count-preserved : goal.loop-count-preserved
loop-count-preserved g c =
    let i = c.loop-count.invariant in let n = c.loop-count.count in let run = c.next_chunk-run.result.now in let walk = c.args.walk in
    let inside = i.inside in let room = i.room in let many = i.many in let long = i.long in let m = c.write_numbers_of-count.result in
    let count = c.write_numbers_of-count.ensures.count in let back = length-back n c.loop-count.keys in
    let behind = length-back n c.loop-count.values in let test = c.loop-count-test.true in
    let least = c.min-room.ensures in
    let key_of = g.P.Numbers.key_of in let value_of = g.P.Numbers.value_of in
    let taken : IsRun walk n run c.next_chunk-run.new.self = run_is walk n run c.next_chunk-run.new.self inside (sym (i.walked test) ∙ c.next_chunk-run.ensures.taken) in
    let more = taken.inside in let told : m ≡ min (length run) (min (length c.loop-count.keys - n) (length c.loop-count.values - n)) = omega (arith, count, back, behind) in
    let keyed =
    written_run key_of walk c.loop-count.keys c.args.keys.now c.write_numbers_of-count.new.keys n m run
    c.next_chunk-run.new.self i.keyed many taken (omega (arith, room, least)) (omega (arith, told))
    (omega (arith, told, room, least, many)) c.write_numbers_of-count.ensures.keys in
    let valued =
    written_run value_of walk c.loop-count.values c.args.values.now c.write_numbers_of-count.new.values n m run
    c.next_chunk-run.new.self i.valued long taken (omega (arith, room, least)) (omega (arith, told))
    (omega (arith, told, room, least, long)) c.write_numbers_of-count.ensures.values in
    record {
      inside = omega (arith, told, more);
      room = omega (arith, told, room, least, many, long);
      many = ap (λ l. length l) keyed ∙ length-written (n + m) (map key_of walk) c.args.keys.now (omega (arith, told, more, length-map walk key_of)) (omega (arith, told, room, least, many));
      long = ap (λ l. length l) valued ∙ length-written (n + m) (map value_of walk) c.args.values.now (omega (arith, told, more, length-map walk value_of)) (omega (arith, told, room, least, long));
      walked = λ less. taken.left m (omega (arith, told, less, least, many, long));
      keyed = keyed;
      valued = valued;
    }
