use Rattle.std.proofs.Common.{rules, ◌≡◌, None, sym}
use Rattle.std.specs.Cmp.Lexicographic.{slice_cmp}
use Rattle.std.specs.Ordering.{nat_cmp}
use Rattle.indexset.specs.Words.{value_of}
use Rattle.indexset.proofs.CallerLemmas.{set_value_absent}
use Rattle.example_accounts.proofs.set.Goals as goal

-- there is no account to write to
pub returns-in_default : goal.returns-in_default
returns-in_default c =
    let none : value_of (slice_cmp nat_cmp) c.args.accounts.now.pairs c.args.name.now ≡ None = search rules in
    sym (set_value_absent (slice_cmp nat_cmp) c.args.name.now c.args.balance c.args.accounts.now.pairs none)
