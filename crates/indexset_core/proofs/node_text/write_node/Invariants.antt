use Rattle.std.proofs.Common.{◌≡◌, ◌==◌, Ok, Some, if◌then◌else◌, codes, take}
use Rattle.std.specs.Fmt.{◌++?◌, DisplaysOnOk}
use Rattle.indexset_core.specs.Text.{items_shown}
use Rattle.indexset_core.proofs.node_text.write_node.Given as goal

-- the bracket and the items before are written
abbrev pub invariant-loop-item : goal.invariant-loop-item
invariant-loop-item g l = record {
  written : DisplaysOnOk g.W.Write.write_str_gives l.fn.f (Ok tt) (Some (if l.fn.is_first then codes "[" else codes " [") ++? items_shown g.T.Display.output (take l.item-index l.fn.items)) l.f;
  first : l.is_first_item ≡ (l.item-index == 0);
}
