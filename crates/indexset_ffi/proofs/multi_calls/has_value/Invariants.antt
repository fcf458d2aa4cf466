use Rattle.std.proofs.Common.{◌≡◌, nat_eq}
use Rattle.std.specs.List.{list_any}
use Rattle.indexset_ffi.proofs.multi_calls.has_value.Given as goal

-- if the iterator yields the value, it has not yielded it so far
abbrev pub invariant-loop-found : goal.invariant-loop-found
invariant-loop-found l = record {
  same : list_any (λ p. nat_eq p.value l.value) l.fn.walk ≡ list_any (λ p. nat_eq p.value l.value) l.walk;
}
