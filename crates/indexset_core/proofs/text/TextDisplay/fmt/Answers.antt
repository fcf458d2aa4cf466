use Rattle.std.proofs.Common.{rules, ◌≡◌, [], ◌++◌, ◌<◌, length, encode_utf8, sym, ap, ◌∙◌, append-nil, append_assoc}
use Rattle.std.proofs.Output.{has_written_append, writes_in_calls_nil}
use Rattle.std.proofs.lemmas.Str.{utf8_lossy_chunk, utf8_lossy_empty, utf8_lossy_last_chunk}
use Rattle.std.specs.Str.Lossy.{replacement_bytes, utf8_lossy}
use Rattle.std.specs.Str.Chunks.{utf8_chunks_rest}
use Rattle.indexset_core.proofs.text.TextDisplay.fmt.Goals as goal

pub loop-chunk-preserved-in-Continue-branch-2 : goal.loop-chunk-preserved-in-Continue-branch-2
loop-chunk-preserved-in-Continue-branch-2 g c = λ plain.
    let now = c.loop-chunk.invariant plain in
    let steps = c.in-Some.ensures.steps in
    let valid = c.in-Some.chunk.valid.now in
    let rest = utf8_lossy (utf8_chunks_rest c.next.new.self) in
    let some : 0 < length c.in-Some.chunk.invalid.now = search rules in
    let text = utf8_lossy_chunk _ _ _ _ steps.0 steps.3.0 steps.3.1 some in (
      (now.0 ++ valid) ++ replacement_bytes,
      has_written_append _ _ _ c.write_str.new.self replacement_bytes _ (has_written_append _ _ _ _ valid _ now.1 (search rules)) (search rules),
      append_assoc (now.0 ++ valid) replacement_bytes rest ∙ (append_assoc now.0 valid (replacement_bytes ++ rest)
          ∙ (ap (λ l. now.0 ++ l) (sym text) ∙ now.2)),
    )

pub loop-chunk-preserved : goal.loop-chunk-preserved
loop-chunk-preserved g c = λ plain.
    let now = c.loop-chunk.invariant plain in
    let steps = c.in-Some.ensures.steps in
    let valid = c.in-Some.chunk.valid.now in
    let rest = utf8_lossy (utf8_chunks_rest c.next.new.self) in
    let none : length c.in-Some.chunk.invalid.now ≡ 0 = search rules in
    let text = utf8_lossy_last_chunk _ _ _ _ steps.0 steps.3.0 none (steps.2 none) in (
      now.0 ++ valid,
      has_written_append _ _ _ _ valid _ now.1 (search rules),
      append_assoc now.0 valid rest ∙ (ap (λ l. now.0 ++ l) (sym text) ∙ now.2),
    )

pub returns-clause-writes : goal.returns-clause-writes
returns-clause-writes g c = λ plain _.
    let now = c.loop-chunk.invariant plain in
    let whole = sym (append-nil now.0) ∙ (ap (λ l. now.0 ++ l) (sym (utf8_lossy_empty _ c.in-None.ensures.steps.0)) ∙ now.2) in
    rw (← whole) now.1
