use Rattle.std.proofs.Common.{ap, arith, subst}
use Rattle.std.proofs.lemmas.Result.{on_ok_weaker}
use Rattle.std.specs.Io.KnownBytes.{Appends}
use Rattle.indexset_follow.specs.Reads.{row_text}
use Rattle.indexset_core.specs.Nodes.{concat}
use Rattle.indexset_follow.proofs.Pages.{page_is}
use Rattle.indexset_follow.proofs.reads.write_page.Goals as goal

pub returns-clause-told : goal.returns-clause-told
returns-clause-told g c =
    let ps = concat (g.R.Reads.nodes c.args.map.now) in
    on_ok_weaker c.write_positions.result (subst (Appends _ _) (ap (row_text g.T.Item.texts) (page_is ps c.args.position c.args.count _ (omega arith) (omega arith)))) c.write_positions.ensures.told
