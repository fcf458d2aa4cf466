use Rattle.std.proofs.Common.{ap, ◌∙◌}
use Rattle.indexset_core.specs.Nodes.{vec_items}
use Rattle.indexset_index.proofs.CallerLemmas.{place-found}
use Rattle.indexset_replica.proofs.index.NodeIndex.place.Goals as goal

pub find-requires : goal.find-requires
find-requires g c = record { sums = ap (λ t. t.sums) c.self.view_is ∙ c.requires }

pub returns : goal.returns
returns g c = place-found (vec_items c.args.nodes.now) c.args.position c.find.result c.find.ensures
