use Rattle.std.proofs.Common.{ap, take, ◌∙◌}
use Rattle.indexset_core.specs.Nodes.{concat}
use Rattle.indexset_uses.specs.Shards.{after_commands}
use Rattle.indexset_uses.proofs.Sharded.{commands_ascending, parts_joined, parts_kept}
use Rattle.indexset_uses.proofs.shards.cut_is_one_map.Goals as goal

pub returns-clause-shards : goal.returns-clause-shards
returns-clause-shards g c = λ borders l commands t total up. parts_kept g.T.Ord.cmp total borders l up (take t commands)

pub returns-clause-map : goal.returns-clause-map
returns-clause-map g c = λ borders l commands t total up.
    let cmp = g.T.Ord.cmp in let led = take t commands in
    ap (λ shards. concat shards) (parts_kept cmp total borders l up led) ∙ parts_joined cmp total borders (after_commands cmp l led) (commands_ascending cmp total l up led)
