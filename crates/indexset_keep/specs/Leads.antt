-- The states of a leader.
use Rattle.std.specs.Prelude.{◌<◌, ◌≤◌, ◌^◌}
use Rattle.std.specs.List.{All}
use Rattle.indexset_core.specs.Nodes.{IsLawful, concat}
use Rattle.indexset_core.specs.Pairs.{by_key}
use Rattle.indexset_bench.specs.Texts.{PairFits}
use Rattle.indexset_wire.specs.Texts.{Texts}
use Rattle.indexset_follow.specs.declared.leader.Leader.{Leader}
use Rattle.std.specs.declared.cmp.Ordering.{Ordering}

module _ {T : Type 0} (cmp : T → T → Ordering) (texts : Texts T) where
  -- the nodes are lawful, and the numbers have at most 64 bits
  pub record IsSound (l : Leader T) : Type 0 where
    pub two : 2 ≤ l.pairs.size
    pub few : l.pairs.size < 2 ^ 64
    pub lawful : IsLawful (by_key cmp) l.pairs.size l.pairs.nodes
    pub fits : All (PairFits texts) (concat l.pairs.nodes)
    pub done : l.done < 2 ^ 64
