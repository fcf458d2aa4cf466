use Rattle.std.proofs.Common.{◌≢◌, refl}
use Rattle.std.proofs.KnownBytes.{Consumes-kept, Consumes-nil, Keeps-refl, Keeps-trans}
use Rattle.std.proofs.lemmas.List.Elements.{All-nil}
use Rattle.indexset_lines.proofs.Faults.{err_same, failed, neither_numbers, ok_not_err, read_not_numbers, write_not_numbers}
use Rattle.indexset_lines.proofs.Pieces.{reads_part, stops_further}
use Rattle.indexset_lines.proofs.line.next_line.Goals as goal

pub loop-init : goal.loop-init
loop-init g c =
    rw c.clear.ensures.items ((All-nil (λ x. x ≢ 10), Consumes-nil _), Keeps-refl _)

pub loop-preserved : goal.loop-preserved
loop-preserved g c = (
  stops_further _ _ _ _ _ c.loop.invariant.0 (rw c.in_default.is at c.in_ok-part.ensures.ok),
  Keeps-trans _ _ _ c.loop.invariant.1 c.flush.ensures.unwritten,
)

pub returns-in-Some : goal.returns-in-Some
returns-in-Some g c = record {
  ok = reads_part _ _ _ _ _ c.loop.invariant.0 c.in-Some.part (rw c.in-Some.is at c.in_ok-part.ensures.ok);
  err = tt;
  unwritten = c.loop.invariant.1;
  numbers_fit = λ e. ok_not_err e;
}

pub returns-in_err-part : goal.returns-in_err-part
returns-in_err-part g c =
    let stop = c.in_err-part.ensures in
    let told = failed c.from_residual.result c.in_err-part.field-0.0 c.from_residual.ensures in
    record {
      ok = rw told tt;
      err = rw (told, stop.unchanged) (c.loop.invariant.0.0, Consumes-kept _ _ _ _ c.loop.invariant.0.1 stop.unread);
      unwritten = c.loop.invariant.1;
      numbers_fit = λ e. neither_numbers c.in_err-part.field-0.0 stop.fault (err_same c.from_residual.result told e);
    }

pub returns-in_err-flush : goal.returns-in_err-flush
returns-in_err-flush g c =
    let told = failed c.from_residual-in_err-flush.result c.in_err-flush.field-0.0 c.from_residual-in_err-flush.ensures in
    record {
      ok = rw told tt;
      err = rw told (stops_further _ _ _ _ _ c.loop.invariant.0 (rw c.in_default.is at c.in_ok-part.ensures.ok));
      unwritten = Keeps-trans _ _ _ c.loop.invariant.1 c.flush.ensures.unwritten;
      numbers_fit = λ e. write_not_numbers (rw c.in_err-flush.ensures.fault at (err_same c.from_residual-in_err-flush.result told e));
    }

pub returns : goal.returns
returns g c = record {
  ok = tt;
  err = c.loop.invariant.0;
  unwritten = c.loop.invariant.1;
  numbers_fit = λ e. read_not_numbers (err_same _ refl e);
}
