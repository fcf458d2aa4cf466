use Rattle.std.proofs.Common.{refl, ap, arith, slice_get}
use Rattle.std.specs.Option.{option_map}
use Rattle.indexset_core.specs.Pairs.{entry_of}
use Rattle.indexset_map.specs.Contents.{with_written, without_at}
use Rattle.indexset_map.proofs.BTreeMap.last_entry.Goals as goal

pub invariant_of-self : goal.invariant_of-self
invariant_of-self g c = let told = c.in-Some.ensures in record { item = record { node_in = told.0.node_in; offset_in = told.0.offset_in }; within = omega (arith, told.1, told.2) }

pub returns-in-Some : goal.returns-in-Some
returns-in-Some g c =
    let m = c.args.self.now in let at = c.in-Some.ensures.1 in (
      (refl, (λ w. refl), tt),
      record {
        unchanged_at_none = tt;
        cases = c.in-Some.ensures.2;
        same_map = refl;
        unchanged = refl;
        pair = ap (λ i. option_map entry_of (slice_get m.pairs i)) at;
        update = λ w. ap (λ i. with_written m i w) at;
        removal = ap (without_at m) at;
      },
    )
