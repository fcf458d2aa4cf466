-- A store that is rolled back before its lines are read.
use Rattle.std.proofs.Common.{◌≡◌, ◌⊎◌, ℕ, ◌≤◌, Bool, true, false, true≢false, if◌then◌else◌, IsTrue, inl, inr, refl, sym, ap, subst, ◌∙◌}
use Rattle.std.specs.List.{AllByRecursion}
use Rattle.sqlite_disk.specs.Disk.{MoreFaults}
use Rattle.sqlite_trees.specs.Tree.{Trees}
use Rattle.sqlite_trees.specs.View.{View, IsClean, IsRolledBack}
use Rattle.indexset_journal.specs.Kept.{IsLine}
use Rattle.indexset_journal.specs.State.{IsForLines, IsAlone, HoldsLines}
use Rattle.indexset_journal.proofs.Causes.{faults_until}

-- a store that is broken after a rollback was shut before, or shut by a fault
pub shut_or_fault : (old mid : View) (faults since later : ℕ) → IsRolledBack old mid → since ≤ later
    → (IsTrue old.is_open → IsTrue mid.is_open ⊎ MoreFaults faults since) → IsTrue mid.is_broken → (old.is_open ≡ false) ⊎ MoreFaults faults later
shut_or_fault old mid faults since later back within closes broken = go old.is_open refl
  where
    go : (b : Bool) → old.is_open ≡ b → (old.is_open ≡ false) ⊎ MoreFaults faults later
    go false is = inl is
    go true is = elim (closes is) [
      | inl still ↦ absurd (true≢false (sym broken ∙ (back.undone still).1))
      | inr more ↦ inr (faults_until faults since later more within)
    ]

module _ (old mid : View) (back : IsRolledBack old mid) (clean : IsClean mid) (still : IsTrue mid.is_open) where
  pub shape_back : mid.shape ≡ old.committed_shape
  shape_back = (back.kept clean).shape ∙ ap (λ (b : Bool). if b then old.committed_shape else old.shape) still

  pub reals_back : mid.reals ≡ old.committed_reals
  reals_back = (back.kept clean).reals ∙ ap (λ (b : Bool). if b then old.committed_reals else old.reals) still

  -- the lines that are read are those that are committed
  pub not_only_lines : ¬ (IsForLines mid.shape mid.reals × AllByRecursion IsLine (mid.trees 0) × IsAlone mid.shape) → ¬ (HoldsLines old × IsAlone old.committed_shape)
  not_only_lines none holds =
      let rows = ap (λ (t : Trees). t 0) (sym (back.undone still).0) in
      none (
        subst (IsForLines mid.shape) (sym reals_back) (subst (λ s. IsForLines s old.committed_reals) (sym shape_back) holds.0.form),
        subst (AllByRecursion IsLine) rows holds.0.lines,
        subst IsAlone (sym shape_back) holds.1,
      )
