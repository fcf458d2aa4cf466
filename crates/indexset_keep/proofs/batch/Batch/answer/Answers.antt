use Rattle.std.proofs.Common.{rules, ◌≡◌, ◌∙◌, ◌++◌, ◌<◌, ◌^◌, ap, subst, sym}
use Rattle.indexset_wire.specs.Parts.Laws.{some_inj}
use Rattle.indexset_follow.specs.Follow.{after_line}
use Rattle.indexset_follow.specs.Store.{after_input, input_reply, without_return}
use Rattle.indexset_follow.specs.declared.role.Role.TheVariants.{Following}
use Rattle.indexset_journal.specs.Kept.{texts}
use Rattle.indexset_keep.specs.Followed.{line_kept}
use Rattle.indexset_keep.specs.Map.{map_held}
use Rattle.indexset_keep.specs.Roles.{copy_held}
use Rattle.indexset_keep.specs.Tells.{lines_told}
use Rattle.indexset_keep.proofs.Roles.{following_told, inner_told}
use Rattle.indexset_keep.proofs.batch.Batch.answer.Goals.{in-Leading, in-Following+in_ok-followed-in-Following, in-None+in_ok-answer_leading-in-None, in-Some+in_ok-answer_following-in-Some}
use Rattle.indexset_keep.proofs.batch.Batch.answer.Goals as goal

pub returns-clause-told : goal.returns-clause-told
returns-clause-told g c sound =
    let h = map_held c.args.map.now in
    let reply = input_reply g.T.Ord.cmp g.T.Item.texts c.args.map.now.voice in
    let line = c.args.line.now in
    elim c.match-map.branch [
      | in-Leading w ↦ elim c.match-kept.branch [
        | in-None+in_ok-answer_leading-in-None v ↦
            let small : (copy_held c.match-kept.map.role).next < 2 ^ 64 = search rules in
            let fits : (copy_held (after_input g.T.Ord.cmp g.T.Item.texts h line).role).next < 2 ^ 64 =
            subst (λ held. (copy_held held.role).next < 2 ^ 64)
            (ap map_held v.map-is ∙ v.in_ok-answer_leading-in-None.ensures.map) small in
            rw v.self-is
            (v.in_ok-answer_leading-in-None.ensures.told
            ∙ ap (λ ls. texts c.args.self.now.told.items ++ ls)
            (inner_told g.T.Ord.cmp g.T.Item.texts g.met.T.Ord.total g.met.T.Token.tokens c.args.map.now.voice h line _
            w.in-Leading.is sound fits))
        | in-Some+in_ok-answer_following-in-Some v ↦ absurd (cc (w.kept-is, v.in-Some.is))
      ]
      | in-Following+in_ok-followed-in-Following w ↦ elim c.match-kept.branch [
        | in-None+in_ok-answer_leading-in-None v ↦ absurd (cc (w.kept-is, v.in-None.is))
        | in-Some+in_ok-answer_following-in-Some v ↦
            let s = w.in-Following.follower in
            let tells = w.in_ok-followed-in-Following.field-0 in
            let told =
            subst (λ b.
            lines_told g.T.Item.texts tells b s.held.next (Following (after_line g.T.Ord.cmp g.T.Item.texts s b))
            ≡ line_kept g.T.Ord.cmp g.T.Item.texts s b)
            w.without_return.ensures w.in_ok-followed-in-Following.ensures.tells in
            let same : v.in-Some.kept ≡ tells = some_inj v.in-Some.kept tells (sym v.in-Some.is ∙ w.kept-is) in
            rw v.self-is (v.in_ok-answer_following-in-Some.ensures.told
            ∙ ap (λ k. texts c.args.self.now.told.items ++ lines_told g.T.Item.texts k (without_return line) (copy_held c.args.map.now.role).next v.answer_following.new.map.role) same
            ∙ ap (λ ls. texts c.args.self.now.told.items ++ ls)
            (following_told g.T.Ord.cmp g.T.Item.texts reply h line (map_held v.answer_following.new.map) s tells
            w.in-Following.is v.in_ok-answer_following-in-Some.ensures.map told))
      ]
    ]
