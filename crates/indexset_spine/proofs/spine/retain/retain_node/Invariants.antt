use Rattle.std.proofs.Common.{◌≤◌, ◌-◌}
use Rattle.std.specs.Fn.{CalledAtMut}
use Rattle.indexset_spine.proofs.RetainSteps.{SiftedTo}
use Rattle.indexset_spine.proofs.spine.retain.retain_node.Given as goal

abbrev pub invariant-loop-i : goal.invariant-loop-i
invariant-loop-i g l = record {
  within : l.gone ≤ l.i;
  callable : goal.F-IsAlwaysCallable g l.f;
  sifted : SiftedTo (CalledAtMut g.F.FnMut) l.initial.f l.initial.items l.f l.items (l.i - l.gone) l.i;
}
