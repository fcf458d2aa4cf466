use Rattle.std.proofs.Common.{◌≤◌, ◌<◌, List, Some, length, set, refl, sym, ap, ◌∙◌, subst, length-set}
use Rattle.std.proofs.lemmas.List.{set_past}
use Rattle.std.proofs.lemmas.Option.{slice_get_past}
use Rattle.indexset_core.proofs.OrderLemmas.{read_item}
use Rattle.indexset_core.proofs.array_node.ArrayNodeNodeLike.replace.Goals as goal

pub invariant_of-self : goal.invariant_of-self
invariant_of-self g c = c.self.invariant

pub invariant_of-self-2 : goal.invariant_of-self-2
invariant_of-self-2 g c = subst (λ n. n ≤ g.row.N) (sym (length-set c.self.inside.items.items c.args.index c.replace.new.dest)) c.self.invariant

pub returns-in_err-item-clause-item : goal.returns-in_err-item-clause-item
returns-in_err-item-clause-item g c =
    c.from_residual.ensures
    ∙ sym
    (slice_get_past c.args.self.now c.args.index
    (subst (λ (l : List g.row.T.Denot). length l ≤ c.args.index) c.self.view_is c.in_err-item.ensures.item.3))

pub returns-in_err-item-clause-list : goal.returns-in_err-item-clause-list
returns-in_err-item-clause-list g c =
    c.self.view_is
    ∙ sym
    (set_past c.args.self.now c.args.index c.args.value
    (subst (λ (l : List g.row.T.Denot). length l ≤ c.args.index) c.self.view_is c.in_err-item.ensures.item.3))

pub returns-clause-item : goal.returns-clause-item
returns-clause-item g c =
    ap Some c.replace.ensures.value
    ∙ sym
    (read_item c.args.self.now c.args.index c.in_ok-item.item.now
    (subst (λ (l : List g.row.T.Denot). c.args.index < length l) c.self.view_is
    (c.in_ok-item.ensures.variant.0 refl))
    (rw c.self.view_is at c.in_ok-item.ensures.value))

pub returns-clause-list : goal.returns-clause-list
returns-clause-list g c = ap (λ l. set l c.args.index c.replace.new.dest) c.self.view_is ∙ ap (λ x. set c.args.self.now c.args.index x) c.replace.ensures.after
