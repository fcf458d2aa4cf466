use Rattle.std.proofs.Common.{length, arith, ap, sym, ◌∙◌}
use Rattle.std.specs.Ordering.{is_lt}
use Rattle.std.proofs.lemmas.List.Sums.{count_by-le-length}
use Rattle.indexset_core.proofs.CallerLemmas.{digits-mono, equal_inside}
use Rattle.indexset_spine.proofs.SpineReads.{read_named, node_within, node_parted, located, told}
use Rattle.indexset_spine.proofs.spine.Spine.locate_in.Goals as goal

pub place_in-offset-requires : goal.place_in-offset-requires
place_in-offset-requires g c =
    let here = read_named _ _ c.args.self.now c.self.view_is c.self.invariant.is_spine.is_cut _ _ c.index.result.now c.requires.node c.index.ensures in
    rw c.as_slice-items.ensures.value (node_parted _ _ _ _ here c.requires.parted)

pub returns-clause-spot : goal.returns-clause-spot
returns-clause-spot g c =
    let here = read_named _ _ c.args.self.now c.self.view_is c.self.invariant.is_spine.is_cut _ _ c.index.result.now c.requires.node c.index.ensures in
    let offset = rw c.as_slice-items.ensures.value at c.place_in-offset.ensures.count in
    let equal = rw c.as_slice-items.ensures.value at c.place_in-offset.ensures.found in
    let answer = g.P.Probe.answer c.args.probe.now in
    let n = c.index.result.now.items in
    let fits = count_by-le-length (λ x. is_lt (answer x)) n in
    record {
      node = c.requires.node;
      offset = rw here.node offset;
      found = equal ∙ told _ _ _ _ here c.requires.parted _ offset;
      position = located _ _ _ _ here c.requires.parted _ offset;
      spot = record { node_in = here.inside; offset_in = rw here.node (omega (arith, offset, fits)) };
      item = λ yes. record { node_in = here.inside; offset_in = rw here.node (equal_inside answer n _ (sym equal ∙ yes)) };
    }

pub returns-clause-comparisons : goal.returns-clause-comparisons
returns-clause-comparisons g c =
    let s = c.args.self.now in
    let here = read_named _ _ s c.self.view_is c.self.invariant.is_spine.is_cut _ _ c.index.result.now c.requires.node c.index.ensures in
    let within = node_within _ _ _ _ here in
    let node = ap (λ l. length l) c.as_slice-items.ensures.value in
    omega (arith, c.place_in-offset.ensures.comparisons, digits-mono (length c.as_slice-items.result.now) s.size (omega arith))
