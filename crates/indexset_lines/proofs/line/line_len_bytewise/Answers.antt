use Rattle.std.proofs.Common.{◌≡◌, ◌==◌, length, rules, ◌∙◌, ap}
use Rattle.std.specs.List.{position}
use Rattle.std.specs.Prelude.{unwrap_or}
use Rattle.indexset_lines.proofs.Pieces.{position-or_len}
use Rattle.indexset_lines.proofs.line.line_len_bytewise.Goals as goal

pub returns-clause-value : goal.returns-clause-value
returns-clause-value c =
    let place : c.first_line_end.result ≡ position (λ b. b == 10) c.args.bytes.now = c.first_line_end.ensures in
    let same : c.unwrap_or.result ≡ unwrap_or c.first_line_end.result (length c.args.bytes.now) = search rules in
    same ∙ ap (λ o. unwrap_or o (length c.args.bytes.now)) place ∙ position-or_len (λ b. b == 10) c.args.bytes.now
