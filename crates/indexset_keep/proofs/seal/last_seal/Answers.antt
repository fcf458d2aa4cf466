use Rattle.std.proofs.Common.{rules, ◌≡◌, ◌≢◌, ◌∙◌, ◌+◌, ◌<◌, None, Some, ap, arith, drop, length, sym, take}
use Rattle.std.proofs.lemmas.List.{drop_all, length-drop, length-map, take_all}
use Rattle.indexset_journal.specs.Kept.{texts}
use Rattle.indexset_keep.specs.Seal.{seal_after, seal_of, seal_read}
use Rattle.indexset_keep.proofs.Seals.{behind_lines, between_is, left_lines, none_behind, seal_closed, seal_lacking, seal_none, seal_right, seal_wrong}
use Rattle.indexset_keep.proofs.seal.last_seal.Goals.{in-Some+in-Ok+else-own-found, in_default}
use Rattle.indexset_keep.proofs.seal.last_seal.Goals as goal

pub returns-then-own-found-clause-damaged : goal.returns-then-own-found-clause-damaged
returns-then-own-found-clause-damaged c same =
    let i = c.loop-i.i in
    let lines = c.args.lines.now in
    let item = c.index-lines-i.result in
    let behind = texts (drop c.loop-i.from (take i lines)) in
    let read : seal_read item.items ≡ Some c.in-Some.found = search rules in
    let own = c.in-Ok.ensures.seal ∙ ap (λ ls. seal_of c.loop-i.seal (texts ls)) (between_is lines c.loop-i.from i c.loop-i.invariant.0) in
    let other : c.in-Some.found ≢ seal_of c.loop-i.seal behind = λ is. c.if-own-found.true (own ∙ sym is) in
    c.loop-i.invariant.1
    ∙ ap (seal_after c.loop-i.seal behind) (left_lines lines i item c.index-lines-i.is c.loop-i-test.true)
    ∙ seal_wrong c.loop-i.seal behind item.items (texts (drop (i + 1) lines)) c.in-Some.found read other

pub loop-i-preserved : goal.loop-i-preserved
loop-i-preserved c =
    let i = c.loop-i.i in
    let lines = c.args.lines.now in
    let item = c.index-lines-i.result in
    let rest = texts (drop (i + 1) lines) in
    let behind = texts (drop c.loop-i.from (take i lines)) in
    let before = c.loop-i.invariant.1 ∙ ap (seal_after c.loop-i.seal behind) (left_lines lines i item c.index-lines-i.is c.loop-i-test.true) in
    elim c.match-read_seal.branch [
      | in-Some+in-Ok+else-own-found w ↦
          let read : seal_read item.items ≡ Some w.in-Some.found = search rules in
          let own = sym w.if-own-found.false ∙ w.in-Ok.ensures.seal ∙ ap (λ ls. seal_of c.loop-i.seal (texts ls)) (between_is lines c.loop-i.from i c.loop-i.invariant.0) in
          rw (w.seal-is, w.from-is) (
            omega arith,
            before ∙ seal_right c.loop-i.seal behind item.items rest w.in-Some.found read own
                ∙ ap (λ ls. seal_after w.in-Some.found ls rest)
                (sym (none_behind lines i item c.index-lines-i.is c.loop-i-test.true)),
          )
      | in_default w ↦
          let read : seal_read item.items ≡ None = search rules in
          rw (w.seal-is, w.from-is) (
            omega (arith, c.loop-i.invariant.0),
            before ∙ seal_none c.loop-i.seal behind item.items rest read
                ∙ ap (λ ls. seal_after c.loop-i.seal ls rest)
                (sym
                (behind_lines lines i item c.index-lines-i.is c.loop-i-test.true c.loop-i.from c.loop-i.invariant.0)),
          )
    ]

pub returns-then-from-lines-clause-seal : goal.returns-then-from-lines-clause-seal
returns-then-from-lines-clause-seal c =
    let i = c.loop-i.i in
    let lines = c.args.lines.now in
    let behind = texts (drop c.loop-i.from (take i lines)) in
    let none : length behind ≡ 0 = omega (
      arith,
      length-map (drop c.loop-i.from (take i lines)) (λ v. v.items),
      length-drop c.loop-i.from (take i lines),
      ap length (take_all i lines c.loop-i-test.false),
      c.if-from-lines.true,
    ) in
    c.loop-i.invariant.1 ∙ ap (λ ls. seal_after c.loop-i.seal behind (texts ls)) (drop_all i lines c.loop-i-test.false) ∙ seal_closed c.loop-i.seal behind none

pub returns-else-from-lines-clause-damaged : goal.returns-else-from-lines-clause-damaged
returns-else-from-lines-clause-damaged c same =
    let i = c.loop-i.i in
    let lines = c.args.lines.now in
    let behind = texts (drop c.loop-i.from (take i lines)) in
    let some : 0 < length behind = omega (
      arith,
      length-map (drop c.loop-i.from (take i lines)) (λ v. v.items),
      length-drop c.loop-i.from (take i lines),
      ap length (take_all i lines c.loop-i-test.false),
      c.if-from-lines.false,
      c.loop-i.invariant.0,
      c.loop-i.auto.i-end,
    ) in
    c.loop-i.invariant.1 ∙ ap (λ ls. seal_after c.loop-i.seal behind (texts ls)) (drop_all i lines c.loop-i-test.false) ∙ seal_lacking c.loop-i.seal behind some
