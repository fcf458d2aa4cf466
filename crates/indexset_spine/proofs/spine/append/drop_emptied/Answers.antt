use Rattle.std.proofs.Common.{rules, arith}
use Rattle.std.proofs.lemmas.Bool.Decides.{nat_tests}
use Rattle.std.proofs.lemmas.Fn.{filter_same}
use Rattle.indexset_spine.proofs.AppendLemmas.{none_kept, some_kept}
use Rattle.indexset_spine.proofs.spine.append.drop_emptied.Goals as goal

pub returns-then-is_empty : goal.returns-then-is_empty
returns-then-is_empty g c =
    rw c.push_reserved.ensures.items
    (none_kept c.args.nodes.now.items c.retain.new.self.items c.new.result (filter_same _ _ _ (λ x b f' k. search rules) _ _ c.retain.ensures.filtered) (grind (arith, nat_tests)) c.new.ensures.items)

pub returns-else-is_empty : goal.returns-else-is_empty
returns-else-is_empty g c =
    some_kept c.args.nodes.now.items c.retain.new.self.items (filter_same _ _ _ (λ x b f' k. search rules) _ _ c.retain.ensures.filtered) (grind (arith, nat_tests))
