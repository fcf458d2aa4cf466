use Rattle.std.proofs.Common.{◌≡◌, ◌<◌, ◌^◌, ◌∙◌, ◌∷◌, ◌++◌, [], ap, arith, inl, inr, length}
use Rattle.indexset_journal.specs.Kept.{lines_in, texts}
use Rattle.indexset_follow.specs.Follow.{State}
use Rattle.indexset_keep.specs.Keep.{IsSame, MayLead}
use Rattle.indexset_keep.specs.Seal.{seal_line}
use Rattle.indexset_keep.specs.Roles.{IsSoundRole, copy_held, settled, snapshot_of}
use Rattle.indexset_keep.proofs.Runs.{on_err_any}
use Rattle.indexset_keep.proofs.Seals.{replaced}
use Rattle.indexset_keep.proofs.Starts.{snapshot_on}
use Rattle.indexset_keep.proofs.kept.Kept.compact.Goals as goal

pub returns-in_err-replace-clause-failed : goal.returns-in_err-replace-clause-failed
returns-in_err-replace-clause-failed g c =
    let role = c.args.role.now in
    let few : length (copy_held role).nodes < 2 ^ 64 = omega (arith, c.node_count-nodes.ensures, c.node_count-nodes.type_inv) in
    let told : texts c.push_snapshot.new.lines.items ≡ snapshot_of g.T.Item.texts role =
    c.in_ok-push_snapshot.ensures.lines
    ∙ ap (λ l. texts l ++ snapshot_of g.T.Item.texts role) c.new-lines.ensures.items in
    let put = ap texts c.as_slice.ensures.value ∙ c.in_ok-seal.ensures.lines.1 ∙ ap (λ ls. ls ++ seal_line c.in_ok-seal.seal ∷ []) told in
    let it : IsSoundRole g.T.Ord.cmp g.T.Item.texts role → (from : State _) → IsSame from (settled role)
    → MayLead g.T.Ord.cmp g.T.Item.texts g.S.Store.view g.S.Store.recovers c.args.self.now.journal c.replace.new.self
    from (settled role) (settled role)
    = λ sound from same. record {
      clean = c.replace.ensures.steady.clean;
      crash = λ clean was db found. elim (c.replace.ensures.any_moment clean db found) [
        | inl before ↦ inl (inl (before, same))
        | inr all ↦
            inr
            (replaced g.T.Ord.cmp g.T.Item.texts (lines_in db) (snapshot_of g.T.Item.texts role)
            (texts c.as_slice.result.now) c.in_ok-seal.seal (settled role) all put
            (snapshot_on g.T.Ord.cmp g.T.Item.texts g.met.T.Token.tokens role sound few))
      ];
    } in
    on_err_any _ it

pub returns-clause-leads : goal.returns-clause-leads
returns-clause-leads g c sound from =
    let role = c.args.role.now in
    let few : length (copy_held role).nodes < 2 ^ 64 = omega (arith, c.node_count-nodes.ensures, c.node_count-nodes.type_inv) in
    let told : texts c.push_snapshot.new.lines.items ≡ snapshot_of g.T.Item.texts role =
    c.in_ok-push_snapshot.ensures.lines
    ∙ ap (λ l. texts l ++ snapshot_of g.T.Item.texts role) c.new-lines.ensures.items in
    let put = ap texts c.as_slice.ensures.value ∙ c.in_ok-seal.ensures.lines.1 ∙ ap (λ ls. ls ++ seal_line c.in_ok-seal.seal ∷ []) told in
    let ok = c.in_ok-replace.ensures in
    record {
      clean = c.replace.ensures.steady.clean;
      kept =
          λ clean was.
          replaced g.T.Ord.cmp g.T.Item.texts (lines_in (g.S.Store.view c.replace.new.self).committed)
          (snapshot_of g.T.Item.texts role) (texts c.as_slice.result.now) c.in_ok-seal.seal (settled role)
          (ok.kept clean).1 put (snapshot_on g.T.Ord.cmp g.T.Item.texts g.met.T.Token.tokens role sound few);
      crash =
          λ clean was db found.
          inr
          (replaced g.T.Ord.cmp g.T.Item.texts (lines_in db) (snapshot_of g.T.Item.texts role)
          (texts c.as_slice.result.now) c.in_ok-seal.seal (settled role) (ok.durable clean db found) put
          (snapshot_on g.T.Ord.cmp g.T.Item.texts g.met.T.Token.tokens role sound few));
    }
