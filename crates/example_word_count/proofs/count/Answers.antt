use Rattle.std.proofs.Common.{rules, ◌≡◌, ◌+◌, ◌-◌, ◌^◌, min, unwrap_or, Some, ap, sym, ◌∙◌}
use Rattle.std.specs.Cmp.Lexicographic.{slice_cmp}
use Rattle.std.specs.Ordering.{nat_cmp}
use Rattle.indexset.specs.Words.{set_value, value_of}
use Rattle.indexset.proofs.CallerLemmas.{put_value_there}
use Rattle.example_word_count.proofs.count.Goals as goal

-- the word is present, and its count is written
pub returns-in-Some : goal.returns-in-Some
returns-in-Some c =
    let cmp = slice_cmp nat_cmp in
    let pairs = c.args.counts.now.pairs in
    let word = c.args.word.now in
    let is : value_of cmp pairs word ≡ Some c.in-Some.times.now = search rules in
    let more : c.saturating_add.result ≡ min (unwrap_or (value_of cmp pairs word) 0 + 1) (2 ^ 64 - 1) = rw is (c.saturating_add.ensures) in
    ap (λ times. set_value cmp pairs word times) more ∙ sym (put_value_there cmp word _ pairs c.in-Some.times.now is)
