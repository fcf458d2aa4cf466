use Rattle.std.proofs.Common.{◌≡◌, ◌==◌, ◌∙◌, ap, refl, sym, subst, Ok, Some, if◌then◌else◌, codes, take, List, ℕ, arith}
use Rattle.std.proofs.lemmas.List.{append-nil, take_all}
use Rattle.std.specs.Fmt.{◌++?◌, DisplaysOnOk, HasWritten}
use Rattle.indexset_core.specs.Text.{items_shown}
use Rattle.indexset_core.proofs.NodeTextLemmas.{before_item, behind_comma, behind_nothing, items_more, shown_assoc, then_shown}
use Rattle.indexset_core.proofs.node_text.write_node.Goals as goal
use Rattle.indexset_core.proofs.node_text.write_node.Goals.{then-is_first, else-is_first, then-not-is_first_item+in_ok-write_str-2, else-not-is_first_item}

pub loop-item-init : goal.loop-item-init
loop-item-init g c =
    let text : c.if-is_first.write_str.now ≡ (if c.args.is_first then codes "[" else codes " [") = elim c.if-is_first.branch [
      | then-is_first w ↦ ap (λ r. r.now) w.write_str-is ∙ sym (ap (λ b. if b then codes "[" else codes " [") w.if-is_first.true)
      | else-is_first w ↦ ap (λ r. r.now) w.write_str-is ∙ sym (ap (λ b. if b then codes "[" else codes " [") w.if-is_first.false)
    ] in
    record {
      written = λ plain ok. subst (λ (l : List ℕ). HasWritten g.W.Write.write_str_gives c.args.f.now l c.write_str.new.self) (text ∙ sym (append-nil _)) (c.in_ok-write_str.ensures.writes plain ok);
      first = refl;
    }

pub loop-item-preserved : goal.loop-item-preserved
loop-item-preserved g c =
    let took = g.W.Write.write_str_gives in
    let shown = g.T.Display.output in
    let i = c.loop-item.invariant in
    let x = c.item-item.result in
    let front = Some (if c.args.is_first then codes "[" else codes " [") ++? items_shown shown (take c.loop-item.item-index c.args.items.now) in
    let item : DisplaysOnOk took c.loop-item.f (Ok tt) (before_item c.loop-item.is_first_item ++? shown x) c.fmt.new.f = elim c.if-not-is_first_item.branch [
      | then-not-is_first_item+in_ok-write_str-2 w ↦
          behind_comma took c.loop-item.f c.if-not-is_first_item.f c.fmt.new.f c.loop-item.is_first_item (shown x)
          w.if-not-is_first_item.true
          (subst (λ f. DisplaysOnOk took c.loop-item.f (Ok tt) (Some (codes ", ")) f) (sym w.f-is)
          w.in_ok-write_str-2.ensures.writes)
          c.in_ok-fmt.ensures.writes
      | else-not-is_first_item w ↦
          behind_nothing took c.loop-item.f c.if-not-is_first_item.f c.fmt.new.f c.loop-item.is_first_item (shown x)
          w.if-not-is_first_item.false w.f-is c.in_ok-fmt.ensures.writes
    ] in
    let behind = subst (λ b. DisplaysOnOk took c.loop-item.f (Ok tt) (before_item b ++? shown x) c.fmt.new.f) i.first item in
    record {
      written =
          subst (λ o. DisplaysOnOk took c.args.f.now (Ok tt) o c.fmt.new.f)
          (items_more shown (Some (if c.args.is_first then codes "[" else codes " [")) c.args.items.now
          c.loop-item.item-index x c.loop-item-test.true c.item-item.is)
          (then_shown took c.args.f.now c.loop-item.f c.fmt.new.f (Ok tt) front
          (before_item (c.loop-item.item-index == 0) ++? shown x) i.written behind);
      first = sym (grind arith);
    }

pub returns : goal.returns
returns g c =
    let took = g.W.Write.write_str_gives in
    let shown = g.T.Display.output in
    let front = Some (if c.args.is_first then codes "[" else codes " [") in
    let all : take c.loop-item.item-index c.args.items.now ≡ c.args.items.now = take_all c.loop-item.item-index c.args.items.now c.loop-item-test.false in
    let whole =
    then_shown took c.args.f.now c.loop-item.f c.write_str-2.new.self c.write_str-2.result
    (front ++? items_shown shown (take c.loop-item.item-index c.args.items.now)) (Some (codes "]"))
    c.loop-item.invariant.written c.write_str-2.ensures.writes in
    subst (λ o. DisplaysOnOk took c.args.f.now c.write_str-2.result o c.write_str-2.new.self)
    (shown_assoc front (items_shown shown (take c.loop-item.item-index c.args.items.now)) (Some (codes "]"))
    ∙ ap (λ l. front ++? (items_shown shown l ++? Some (codes "]"))) all)
    whole
