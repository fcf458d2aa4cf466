-- The states of a follower that started empty, or from a leader's state.
use Rattle.std.specs.Prelude.{◌<◌, ◌^◌, IfSome}
use Rattle.std.specs.List.{All}
use Rattle.indexset_core.specs.Nodes.{IsNodeList, concat}
use Rattle.indexset_core.specs.Pairs.{by_key}
use Rattle.indexset_follow.specs.Copy.{Copy}
use Rattle.indexset_follow.specs.EventLine.{EventFits}
use Rattle.indexset_follow.specs.Follow.{State}
use Rattle.indexset_bench.specs.Texts.{PairFits}
use Rattle.indexset_wire.specs.Texts.{Texts}
use Rattle.std.specs.declared.cmp.Ordering.{Ordering}

module _ {T : Type 0} (cmp : T → T → Ordering) (texts : Texts T) where
  -- the nodes are lawful, and the numbers have at most 64 bits
  pub record IsSoundCopy (c : Copy T) : Type 0 where
    pub nodes : IsNodeList (by_key cmp) c.nodes
    pub fits : All (PairFits texts) (concat c.nodes)
    pub next : c.next < 2 ^ 64

  -- the nodes, the snapshot that has begun and the early events are sound
  pub record IsSoundFollower (s : State T) : Type 0 where
    pub held : IsSoundCopy s.held
    pub done : s.done < 2 ^ 64
    pub coming : IfSome s.coming IsSoundCopy
    pub coming_done : s.coming_done < 2 ^ 64
    pub early : All (λ p. EventFits texts p.value) s.early
