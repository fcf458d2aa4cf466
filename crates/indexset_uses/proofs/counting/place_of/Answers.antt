use Rattle.std.proofs.Common.{◌≡◌, ℕ, IfErr, None, position, ap, subst, ◌∙◌}
use Rattle.std.specs.Ordering.{is_eq, nat_cmp}
use Rattle.indexset.specs.Words.{items, rank}
use Rattle.indexset_uses.proofs.counting.place_of.Goals as goal

-- the probe compares with the key
pub returns-clause-absent : goal.returns-clause-absent
returns-clause-absent c =
    subst (λ (probe : (ℕ × ℕ) × ℕ). IfErr c.locate_by-place.result (λ _. position (λ x. is_eq (nat_cmp x probe.0.0)) (items c.args.set.now) ≡ None))
    (c.new-probe.ensures ∙ ap (λ (p : ℕ × ℕ). (p, 0)) c.new.ensures) c.locate_by-place.ensures.absent

pub returns-clause-below : goal.returns-clause-below
returns-clause-below c =
    subst (λ (probe : (ℕ × ℕ) × ℕ). IfErr c.locate_by-place.result (λ i. i ≡ rank nat_cmp (items c.args.set.now) probe.0.0))
    (c.new-probe.ensures ∙ ap (λ (p : ℕ × ℕ). (p, 0)) c.new.ensures) c.locate_by-place.ensures.gap
