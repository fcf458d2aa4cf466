use Rattle.std.proofs.Common.{◌≡◌, None, sym, ap, subst, ◌∙◌}
use Rattle.std.proofs.lemmas.Bool.{false≢true}
use Rattle.std.proofs.lemmas.Result.{err_from_is_err_and}
use Rattle.std.specs.Cmp.Lexicographic.{slice_cmp}
use Rattle.std.specs.Ordering.{nat_cmp}
use Rattle.indexset_core.specs.Nodes.{concat}
use Rattle.indexset_core.specs.Pairs.{entry_of, pair_of, value_of}
use Rattle.indexset_log.specs.Changed.{key_removal, refusal_of}
use Rattle.indexset_ffi.specs.TextLogs.{ToldTree}
use Rattle.indexset_ffi.proofs.LogLemmas.{kept_tree, mapped_none, none_told}
use Rattle.indexset_ffi.proofs.text_log.TextLog.remove.Goals as goal

-- the key is absent, so the removal does not change the map
pub returns-in_default-clause-absent : goal.returns-in_default-clause-absent
returns-in_default-clause-absent c = λ _.
    let none = mapped_none entry_of _ (sym c.in_ok-found.ensures.answer ∙ c.in_default.is) in
    let same = kept_tree (slice_cmp nat_cmp) (slice_cmp nat_cmp) c.self.inside.tree c.remove_cdc.new.self c.args.key.now none c.in_ok-found.ensures.changed in
    (λ i. record { tree = same i; told = c.self.inside.told.items }) ∙ c.self.view_is

pub returns-in_err-found-clause-refusal : goal.returns-in_err-found-clause-refusal
returns-in_err-found-clause-refusal c =
    let e = err_from_is_err_and c.from_residual.result c.from_residual.ensures.1 in
    rw e.1 (e.2 ∙ (c.in_err-found.ensures.refusal ∙ ap (λ (s : ToldTree). refusal_of s.tree (key_removal (slice_cmp nat_cmp) s.tree c.args.key.now)) c.self.view_is))

-- the removal of an absent key has no events, and does not fail
pub returns-in_err-found-clause-no_event : goal.returns-in_err-found-clause-no_event
returns-in_err-found-clause-no_event c none =
    let t = c.self.inside.tree in
    let before = subst (λ (s : ToldTree). value_of (slice_cmp nat_cmp) (concat s.tree.nodes) c.args.key.now ≡ None) (sym c.self.view_is) none in
    let gone = mapped_none (λ p. p.value) (pair_of (slice_cmp nat_cmp) (concat t.nodes) c.args.key.now) before in
    absurd (false≢true (c.in_err-found.ensures.no_event (none_told (slice_cmp nat_cmp) t.size t.nodes c.args.key.now gone)))
