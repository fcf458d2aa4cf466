use Rattle.std.proofs.Common.{◌≡◌, ◌≢◌, ◌<◌, ◌≤◌, ◌+◌, ◌++◌, length, take, [], refl, sym, ◌∙◌, length-take-le, inl, inr, rules, arith, subst, append-nil}
use Rattle.std.specs.Io.BufRead.{FillKeeps}
use Rattle.std.proofs.KnownBytes.{Consumes-kept, Consumes-nil}
use Rattle.std.proofs.lemmas.List.Elements.{All-nil}
use Rattle.std.proofs.BufReadLemmas.{Consumes_shown}
use Rattle.indexset_lines.proofs.Faults.{err_is, err_same, ok_not_err, read_not_memory}
use Rattle.indexset_lines.proofs.Pieces.{ends_there, first_end_within, moves_whole, moves_on, no_bytes, no_room_left}
use Rattle.indexset_lines.proofs.line.take_piece.Goals as goal

pub returns-then-is_whole-clause-ok : goal.returns-then-is_whole-clause-ok
returns-then-is_whole-clause-ok g c =
    let shown = c.in-Ok.shown.now in
    let len = c.line_len-len.result in
    let rested = c.fill_buf.follows.lender-at-none in
    let filled = subst (FillKeeps _ (g.R.Read.remaining rested) (g.R.BufRead.consumable_len rested)) c.in-Ok.is c.fill_buf.follows.holds-at-none in
    let some : len < length shown = search rules in
    let line : c.extend_from_slice.new.self.items ≡ c.args.line.now.items ++ take len shown = search rules in
    let gone = Consumes_shown _ _ _ _ shown (len + 1) (omega arith) c.in-Ok.ensures.front c.in-Ok.ensures.end filled.0 filled.1 c.consume.ensures.bytes in
    moves_whole shown len c.line_len-len.ensures _ _ _ _ line some gone.0

pub returns-else-is_whole-clause-ok : goal.returns-else-is_whole-clause-ok
returns-else-is_whole-clause-ok g c =
    let shown = c.in-Ok.shown.now in
    let len = c.line_len-len.result in
    let rested = c.fill_buf.follows.lender-at-none in
    let filled = subst (FillKeeps _ (g.R.Read.remaining rested) (g.R.BufRead.consumable_len rested)) c.in-Ok.is c.fill_buf.follows.holds-at-none in
    let within : len ≤ length shown = first_end_within shown len c.line_len-len.ensures in
    let line : c.extend_from_slice.new.self.items ≡ c.args.line.now.items ++ take len shown = search rules in
    let gone = Consumes_shown _ _ _ _ shown len within c.in-Ok.ensures.front c.in-Ok.ensures.end filled.0 filled.1 c.consume-else-is_whole.ensures.bytes in
    moves_on shown len c.line_len-len.ensures _ _ _ _ line gone.0

-- an interrupted read consumes nothing
pub returns-then-eq : goal.returns-then-eq
returns-then-eq g c = record {
  ok = record {
    piece = [];
    no_end = All-nil (λ x. x ≢ 10);
    line = sym (append-nil _);
    read = Consumes-kept _ _ _ [] (Consumes-nil _) c.fill_buf.follows.holds-at-none.0;
  };
  unread = tt;
  unchanged = tt;
  fault = tt;
  no_room = λ e. ok_not_err e;
}

pub returns-else-eq : goal.returns-else-eq
returns-else-eq g c = record {
  ok = tt;
  unread = c.fill_buf.follows.holds-at-none.0;
  unchanged = refl;
  fault = inr refl;
  no_room = λ e. read_not_memory (err_same _ refl e);
}

pub returns-then-is_whole-clause-unread : goal.returns-then-is_whole-clause-unread
returns-then-is_whole-clause-unread g c = tt

pub returns-then-is_whole-clause-unchanged : goal.returns-then-is_whole-clause-unchanged
returns-then-is_whole-clause-unchanged g c = tt

pub returns-then-is_whole-clause-fault : goal.returns-then-is_whole-clause-fault
returns-then-is_whole-clause-fault g c = tt

pub returns-then-is_whole-clause-no_room : goal.returns-then-is_whole-clause-no_room
returns-then-is_whole-clause-no_room g c = λ e. ok_not_err e

pub returns-else-is_whole-clause-unread : goal.returns-else-is_whole-clause-unread
returns-else-is_whole-clause-unread g c = tt

pub returns-else-is_whole-clause-unchanged : goal.returns-else-is_whole-clause-unchanged
returns-else-is_whole-clause-unchanged g c = tt

pub returns-else-is_whole-clause-fault : goal.returns-else-is_whole-clause-fault
returns-else-is_whole-clause-fault g c = tt

pub returns-else-is_whole-clause-no_room : goal.returns-else-is_whole-clause-no_room
returns-else-is_whole-clause-no_room g c = λ e. ok_not_err e

pub returns-then-is_empty-2-clause-unread : goal.returns-then-is_empty-2-clause-unread
returns-then-is_empty-2-clause-unread g c = tt

pub returns-then-is_empty-2-clause-unchanged : goal.returns-then-is_empty-2-clause-unchanged
returns-then-is_empty-2-clause-unchanged g c = tt

pub returns-then-is_empty-2-clause-fault : goal.returns-then-is_empty-2-clause-fault
returns-then-is_empty-2-clause-fault g c = tt

pub returns-then-is_empty-2-clause-no_room : goal.returns-then-is_empty-2-clause-no_room
returns-then-is_empty-2-clause-no_room g c = λ e. ok_not_err e

pub returns-else-is_empty-2-clause-unread : goal.returns-else-is_empty-2-clause-unread
returns-else-is_empty-2-clause-unread g c = tt

pub returns-else-is_empty-2-clause-unchanged : goal.returns-else-is_empty-2-clause-unchanged
returns-else-is_empty-2-clause-unchanged g c = tt

pub returns-else-is_empty-2-clause-fault : goal.returns-else-is_empty-2-clause-fault
returns-else-is_empty-2-clause-fault g c = tt

pub returns-else-is_empty-2-clause-no_room : goal.returns-else-is_empty-2-clause-no_room
returns-else-is_empty-2-clause-no_room g c = λ e. ok_not_err e

pub returns-then-is_err-clause-ok : goal.returns-then-is_err-clause-ok
returns-then-is_err-clause-ok g c = tt

pub returns-then-is_err-clause-unread : goal.returns-then-is_err-clause-unread
returns-then-is_err-clause-unread g c = c.fill_buf.follows.holds-at-none.0

pub returns-then-is_err-clause-fault : goal.returns-then-is_err-clause-fault
returns-then-is_err-clause-fault g c = inl refl

pub returns-then-is_empty-2-clause-ok : goal.returns-then-is_empty-2-clause-ok
returns-then-is_empty-2-clause-ok g c =
    let shown = c.in-Ok.shown.now in
    let none : length shown ≡ 0 = search rules in
    let empty : length c.args.line.now.items ≡ 0 = search rules in
    (ends_there _ _ shown _ c.in-Ok.ensures.end none c.fill_buf.follows.holds-at-none.0, no_bytes _ empty)

pub returns-else-is_empty-2-clause-ok : goal.returns-else-is_empty-2-clause-ok
returns-else-is_empty-2-clause-ok g c =
    let shown = c.in-Ok.shown.now in
    let none : length shown ≡ 0 = search rules in
    let some : 0 < length c.args.line.now.items = search rules in
    (ends_there _ _ shown _ c.in-Ok.ensures.end none c.fill_buf.follows.holds-at-none.0, some)

pub returns-then-is_err-clause-unchanged : goal.returns-then-is_err-clause-unchanged
returns-then-is_err-clause-unchanged g c =
    let bad = err_is c.extend_from_slice.result (sym c.is_err.ensures.value ∙ c.if-is_err.true) in
    rw bad.1 at c.extend_from_slice.ensures.items

pub returns-then-is_err-clause-no_room : goal.returns-then-is_err-clause-no_room
returns-then-is_err-clause-no_room g c = λ _.
    let shown = c.in-Ok.shown.now in
    let len = c.line_len-len.result in
    let within = first_end_within shown len c.line_len-len.ensures in
    let bad = err_is c.extend_from_slice.result (sym c.is_err.ensures.value ∙ c.if-is_err.true) in
    no_room_left _ shown (take len shown) _ _ c.in-Ok.ensures.front (omega (arith, within, length-take-le len shown within)) (rw bad.1 at c.extend_from_slice.ensures.full)
