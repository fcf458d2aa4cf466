use Rattle.std.proofs.Common.{rules, ◌≡◌, ◌∙◌, ap, inl, inr, length, sym}
use Rattle.indexset_follow.specs.Follow.{State, state_after}
use Rattle.indexset_journal.specs.Kept.{lines_in, texts}
use Rattle.indexset_keep.specs.Keep.{MayLead}
use Rattle.indexset_keep.proofs.Runs.{on_err_any}
use Rattle.indexset_keep.proofs.Seals.{appended}
use Rattle.indexset_keep.proofs.States.{leads_still, no_items, nothing_after, same_refl}
use Rattle.indexset_keep.proofs.kept.Kept.append.Goals as goal

pub returns-then-is_empty-clause-leads : goal.returns-then-is_empty-clause-leads
returns-then-is_empty-clause-leads g c from to is =
    let zero : length c.args.told.now.items ≡ 0 = search rules in
    let none = no_items c.args.told.now.items zero in
    leads_still g.T.Ord.cmp g.T.Item.texts g.S.Store.view g.S.Store.recovers c.args.self.now.journal from to
    (sym (nothing_after g.T.Ord.cmp g.T.Item.texts from)
    ∙ ap (λ ls. state_after g.T.Ord.cmp g.T.Item.texts from (texts ls)) (sym none) ∙ is)

pub returns-in_err-append-clause-failed : goal.returns-in_err-append-clause-failed
returns-in_err-append-clause-failed g c =
    let old = c.args.self.now.journal in
    let put = ap texts c.as_slice.ensures.value ∙ c.in_ok-seal.ensures.lines.1 in
    let it : (from to : State _) → state_after g.T.Ord.cmp g.T.Item.texts from (texts c.args.told.now.items) ≡ to
    → MayLead g.T.Ord.cmp g.T.Item.texts g.S.Store.view g.S.Store.recovers old c.append.new.self from from to
    = λ from to is. record {
      clean = c.append.ensures.steady.clean;
      crash = λ clean was db found. elim (c.append.ensures.any_moment clean db found) [
        | inl before ↦ inl (inl (before, same_refl from))
        | inr all ↦
            inr
            (appended g.T.Ord.cmp g.T.Item.texts (lines_in (g.S.Store.view old).committed) (lines_in db)
            (texts c.args.told.now.items) (texts c.as_slice.result.now) c.in_ok-seal.seal from to all put was is)
      ];
    } in
    on_err_any _ it

pub returns-clause-leads : goal.returns-clause-leads
returns-clause-leads g c from to is =
    let old = lines_in (g.S.Store.view c.args.self.now.journal).committed in
    let put = ap texts c.as_slice.ensures.value ∙ c.in_ok-seal.ensures.lines.1 in
    let ok = c.in_ok-append.ensures in
    record {
      clean = c.append.ensures.steady.clean;
      kept =
          λ clean was.
          appended g.T.Ord.cmp g.T.Item.texts old (lines_in (g.S.Store.view c.append.new.self).committed)
          (texts c.args.told.now.items) (texts c.as_slice.result.now) c.in_ok-seal.seal from to (ok.kept clean).1 put
          was is;
      crash =
          λ clean was db found.
          inr
          (appended g.T.Ord.cmp g.T.Item.texts old (lines_in db) (texts c.args.told.now.items)
          (texts c.as_slice.result.now) c.in_ok-seal.seal from to (ok.durable clean db found) put was is);
    }
