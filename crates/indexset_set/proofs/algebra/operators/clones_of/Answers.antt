use Rattle.std.proofs.Common.{◌≡◌, [], ◌∷◌, ◌++◌, map, rules, subst, sym}
use Rattle.std.specs.Iterator.{Drains}
use Rattle.std.specs.List.{AllZip}
use Rattle.std.proofs.lemmas.List.{map_push}
use Rattle.std.proofs.lemmas.List.Elements.{AllZip-push}
use Rattle.indexset_set.proofs.algebra.operators.clones_of.Goals as goal

pub loop-element-init : goal.loop-element-init
loop-element-init g c = subst (AllZip g.T.Clone.is_clone []) (sym c.new-clones.ensures.items) tt

pub loop-element-preserved : goal.loop-element-preserved
loop-element-preserved g c =
    let C = g.T.Clone.is_clone in
    let came = c.loop-element.yielded in
    let element = c.in-Some.element in
    let clone = c.in_ok-clone.field-0 in
    let cloned : C element.now clone = (c.in_ok-clone.ensures {u = tt}).cases in
    let items : c.push.new.self.items ≡ c.loop-element.clones.items ++ clone ∷ [] = (c.in_ok-push.ensures {u = tt}).items in
    subst (λ l. AllZip C l c.push.new.self.items) (sym (map_push (λ x. x.now) came element))
    (subst (AllZip C (map (λ x. x.now) came ++ element.now ∷ [])) (sym items)
    (AllZip-push C (map (λ x. x.now) came) c.loop-element.clones.items element.now clone c.loop-element.invariant cloned))

pub returns : goal.returns
returns g c =
    let drains : Drains g.I.Iterator.next_gives c.args.elements c.loop-element.yielded = (c.next.new.self, (c.loop-element.element-iterator, search rules, (c.in-None.ensures {u = tt}).steps)) in
    (c.loop-element.yielded, drains, c.loop-element.invariant)
