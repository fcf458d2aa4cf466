use Rattle.std.proofs.Common.{arith}
use Rattle.std.proofs.lemmas.Option.{slice_get-get_or}
use Rattle.indexset_ffi.proofs.ReplicaLemmas.{applied_more}
use Rattle.indexset_ffi.proofs.replica_calls.apply_each.Goals as goal

pub loop-count-preserved : goal.loop-count-preserved
loop-count-preserved c =
    let es = c.args.events.now in let n = c.loop-count.count in let test = c.loop-count-test.true in let few = c.if-status-gt-YES.false in
    record {
      inside = omega (arith, test);
      applied =
          applied_more c.args.replica.now c.loop-count.replica c.apply_record-status.new.replica es n _
          (slice_get-get_or es n _ test) c.loop-count.invariant.applied
          (c.apply_record-status.ensures.ok (omega (arith, few)));
    }
