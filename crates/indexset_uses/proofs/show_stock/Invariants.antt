-- The replica has the nodes of the stock.
use Rattle.std.proofs.Common.{◌≡◌}
use Rattle.indexset_uses.proofs.show_stock.Given as goal

abbrev pub invariant-loop-name : goal.invariant-loop-name
invariant-loop-name l = l.copy.nodes ≡ l.stock.nodes
