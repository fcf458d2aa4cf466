use Rattle.std.proofs.Common.{ap, ◌∙◌}
use Rattle.std.specs.Ordering.{nat_cmp}
use Rattle.std.specs.Prelude.{nat_eq}
use Rattle.indexset_core.specs.MultiPairs.{by_number}
use Rattle.indexset_core.specs.Nodes.{concat}
use Rattle.indexset_core.specs.Order.{put}
use Rattle.indexset_core.specs.Pairs.{pair_values}
use Rattle.indexset_multi.specs.Keys.{entries, pairs_of}
use Rattle.indexset_multi.specs.Tree.{inserted_pair}
use Rattle.indexset_ffi.proofs.MultiLemmas.{new_number, new_pair, value_last}
use Rattle.indexset_ffi.proofs.multi_calls.insert_new.Goals as goal

pub returns-in-Ok-clause-ok : goal.returns-in-Ok-clause-ok
returns-in-Ok-clause-ok c =
    let m = c.args.multi.now in let k = c.args.key in let w = c.args.value in
    c.in-Ok.ensures.changed.contents ∙ ap (put (by_number nat_cmp) (concat m.nodes)) (new_pair m k w c.requires)

pub returns-in-Ok-clause-last : goal.returns-in-Ok-clause-last
returns-in-Ok-clause-last c =
    let m = c.args.multi.now in let k = c.args.key in let w = c.args.value in
    ap (λ l. pair_values (entries l)) (c.in-Ok.ensures.inserted.last (new_number m k w c.requires)) ∙ value_last (pairs_of nat_cmp (concat m.nodes) k) (inserted_pair nat_cmp nat_eq m k w)
