use Rattle.std.proofs.Common.{◌≡◌, length, slice_set, slice_get, Some, ap, sym, ◌∙◌, arith}
use Rattle.std.proofs.lemmas.List.{length-set}
use Rattle.std.proofs.lemmas.Option.{slice_get-get_or, slice_get-map}
use Rattle.std.specs.Option.{option_map}
use Rattle.indexset_core.specs.Nodes.{node_lengths, vec_items}
use Rattle.indexset_ffi.proofs.WrittenLemmas.{written_more}
use Rattle.indexset_ffi.proofs.replica_calls.write_lengths.Goals as goal

pub loop-i-preserved : goal.loop-i-preserved
loop-i-preserved c =
    let nodes = c.args.nodes.now in let i = c.loop-i.i in let n = c.len.result in let least = c.min-count.ensures in let test = c.loop-i-test.true in
    let node = c.index-nodes-i.result in let at : slice_get nodes i ≡ Some node = slice_get-get_or nodes i node (omega (arith, least, test)) ∙ ap Some (sym c.index-nodes-i.is) in
    let there : slice_get (node_lengths (vec_items nodes)) i ≡ Some n =
    slice_get-map (λ m. length m) (vec_items nodes) i
    ∙ ap (option_map (λ m. length m)) (slice_get-map (λ v. v.items) nodes i ∙ ap (option_map (λ v. v.items)) at)
    ∙ ap Some (sym (c.len.ensures ∙ node.ok.0)) in
    record {
      long = length-set c.loop-i.out i n ∙ c.loop-i.invariant.long;
      done = ap (λ l. slice_set l i n) c.loop-i.invariant.done ∙ written_more (node_lengths (vec_items nodes)) c.args.out.now i n there (omega (arith, least, test));
    }
