use Rattle.std.proofs.Common.{◌-◌, length, ap, sym, ◌∙◌}
use Rattle.indexset_spine.specs.NodeList.{items}
use Rattle.indexset_map.specs.Contents.{Contents, without_at}
use Rattle.indexset_map.proofs.ContentsLemmas.{last_removed}
use Rattle.indexset_map.proofs.KeyLemmas.{contents_removed}
use Rattle.indexset_map.proofs.BTreeMap.pop_last.Goals as goal

pub returns-clause-nodes : goal.returns-clause-nodes
returns-clause-nodes g c =
    let out = c.in_ok-key.ensures {u = tt} in
    let l = items c.self.inside.set in
    contents_removed c.self.inside.set c.pop_last.new.self c.args.self.now (length l - 1) c.self.view_is (out.rest ∙ sym (last_removed l)) out.nodes out.size
    ∙ ap (λ (m : Contents g.row.K.Denot g.row.V.Denot). without_at c.args.self.now (length m.pairs - 1)) c.self.view_is
