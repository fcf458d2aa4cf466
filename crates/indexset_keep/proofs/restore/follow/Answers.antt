use Rattle.std.proofs.Common.{rules, arith, ◌≡◌, ◌∙◌, ◌+◌, ◌∷◌, ◌++◌, [], ap, sym, take}
use Rattle.std.proofs.lemmas.List.{map_more}
use Rattle.indexset_journal.specs.Kept.{texts}
use Rattle.indexset_follow.specs.Follow.{after_line}
use Rattle.indexset_keep.proofs.Restoring.{first_follower, next_follower}
use Rattle.indexset_keep.proofs.restore.follow.Goals as goal

pub loop-line-init : goal.loop-line-init
loop-line-init g c = first_follower g.T.Ord.cmp g.T.Item.texts c.holding-follower.result c.new.result c.holding-follower.ensures c.new.ensures

pub loop-line-preserved : goal.loop-line-preserved
loop-line-preserved g c =
    let i = c.loop-line.line-index in
    let lines = c.args.lines.now in
    let item = c.line-item.result in
    let read : c.answer_line.new.follower ≡ after_line g.T.Ord.cmp g.T.Item.texts c.loop-line.follower item.items = search rules in
    let more : texts (take (i + 1) lines) ≡ texts (take i lines) ++ item.items ∷ [] =
    map_more (λ v. v.items) lines i item (omega (arith, c.loop-line-test.true))
    ∙ ap (λ v. texts (take i lines) ++ v.items ∷ []) (sym c.line-item.is) in
    next_follower g.T.Ord.cmp g.T.Item.texts (texts (take i lines)) (texts (take (i + 1) lines)) item.items c.loop-line.follower c.answer_line.new.follower c.loop-line.invariant read more
