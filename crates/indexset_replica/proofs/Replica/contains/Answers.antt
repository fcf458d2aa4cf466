use Rattle.std.proofs.Common.{◌≡◌, Option, Some, None, Bor, is_some, refl, ap, ◌∙◌}
use Rattle.std.specs.Option.{option_copied}
use Rattle.std.specs.Ordering.{is_eq}
use Rattle.indexset_core.specs.Nodes.{concat}
use Rattle.indexset_core.proofs.CallerLemmas.{is_some-find}
use Rattle.indexset_replica.proofs.Replica.contains.Goals as goal

lent : {X : Type 0} (r : Option (Bor X)) → is_some r ≡ is_some (option_copied r)
lent None = refl
lent (Some x) = refl

pub returns : goal.returns
returns g c = c.is_some.ensures ∙ (lent c.get.result ∙ (ap is_some c.get.ensures ∙ is_some-find (λ x. is_eq (g.Q.LookupKey.order x c.args.value)) (concat c.args.self.now.nodes)))
