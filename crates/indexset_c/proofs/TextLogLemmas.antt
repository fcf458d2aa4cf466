-- The number of changes that a logged map from byte strings keeps.
use Rattle.std.proofs.Common.{◌≡◌, ◌≤◌, length, ap, ◌∙◌, arith}
use Rattle.indexset_events.proofs.CallerLemmas.{length-numbered}
use Rattle.indexset_log.specs.Changed.{Change}
use Rattle.indexset_log.specs.Tree.{Tree}
use Rattle.indexset_ffi.specs.TextLogs.{TextPair, ToldTree, after}

-- at most as many as the change has
pub few_kept : (t : ToldTree) (before : Tree TextPair) (made : Change TextPair) → t ≡ after before made → length made.events ≤ 3 → length t.told ≤ 3
few_kept t before made is few =
    let many : length t.told ≡ length made.events = ap (λ (u : ToldTree). length u.told) is ∙ length-numbered before.next made.events in omega (arith, many, few)
