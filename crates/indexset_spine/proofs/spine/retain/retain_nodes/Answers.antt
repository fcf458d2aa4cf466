use Rattle.std.proofs.Common.{rules, arith}
use Rattle.std.proofs.lemmas.Bool.Decides.{nat_tests}
use Rattle.std.specs.Fn.{CalledAtMut, always_mut}
use denote.Param.Always.{mut_by}
use Rattle.indexset_spine.proofs.RetainSteps.{all_emptied, some_kept}
use Rattle.indexset_spine.proofs.spine.retain.retain_nodes.Goals as goal

pub retain_mut-requires : goal.retain_mut-requires
retain_mut-requires g c = mut_by _ (λ s. always_mut g.F.FnMut s.0) (λ s a i. search rules) (λ s a r t i e. search rules) _ c.requires.callable

pub returns-then-is_empty : goal.returns-then-is_empty
returns-then-is_empty g c =
    rw c.push_reserved.ensures.items
    (all_emptied (CalledAtMut g.F.FnMut) _ (λ s. s.0) (λ s v b t w called. search rules) _ c.args.nodes.now.items
    c.retain_mut.new.self.items c.retain_mut.ensures.filtered (grind (arith, nat_tests)) c.new.result
    c.new.ensures.items)

pub returns-else-is_empty : goal.returns-else-is_empty
returns-else-is_empty g c =
    some_kept (CalledAtMut g.F.FnMut) _ (λ s. s.0) (λ s v b t w called. search rules) _ c.args.nodes.now.items c.retain_mut.new.self.items c.retain_mut.ensures.filtered (grind (arith, nat_tests))
