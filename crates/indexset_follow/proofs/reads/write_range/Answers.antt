use Rattle.std.proofs.Common.{◌∙◌, ap, subst, sym}
use Rattle.std.proofs.lemmas.Result.{on_ok_weaker}
use Rattle.std.specs.Io.KnownBytes.{Appends}
use Rattle.indexset_core.specs.Nodes.{concat}
use Rattle.indexset_follow.specs.Reads.{row_text}
use Rattle.indexset_follow.proofs.Taking.{none_within}
use Rattle.indexset_follow.proofs.reads.write_range.Goals as goal

pub returns-in-Greater-clause-told : goal.returns-in-Greater-clause-told
returns-in-Greater-clause-told g c =
    on_ok_weaker c.write_reply.result
    (subst (Appends _ _)
    (ap (row_text g.T.Item.texts)
    (sym
    (none_within g.T.Ord.cmp g.met.T.Ord.total c.args.low.now c.args.high.now (sym c.cmp.ensures ∙ c.in-Greater.is)
    (concat (g.R.Reads.nodes c.args.map.now))))))
    c.write_reply.ensures.told
