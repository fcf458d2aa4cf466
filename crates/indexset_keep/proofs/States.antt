-- Composition of the effects of consecutive calls on what is kept.
use Rattle.std.proofs.Common.{◌≡◌, ◌⊎◌, inl, inr, ◌≤◌, List, [], ◌∷◌, ◌++◌, ℕ, length, refl, subst, ◌∙◌, arith}
use Rattle.indexset_lines.specs.Run.{left_by}
use Rattle.indexset_lines.proofs.CallerLemmas.{left_by-append}
use Rattle.indexset_follow.specs.Follow.{State, after_line, holding, state_after}
use Rattle.indexset_follow.specs.declared.role.Role.{Role}
use Rattle.indexset_journal.specs.Kept.{lines_in}
use Rattle.indexset_keep.specs.Keep.{IsLeft, IsSame, Leads, MayLead}
use Rattle.indexset_keep.specs.Roles.{LeadsTo, settled}
use Rattle.sqlite_trees.specs.Tree.{Trees}
use Rattle.sqlite_trees.specs.View.{View, IsClean, doubt}
use Rattle.std.specs.declared.cmp.Ordering.{Ordering}
use Rattle.indexset_wire.specs.Texts.{Texts}

module _ {T : Type 0} where
  -- ---- the same state

  pub same_refl : (s : State T) → IsSame s s
  same_refl s = record { held = refl; done = refl }

  pub same_from : (s t : State T) → s ≡ t → IsSame s t
  same_from s t is = subst (IsSame s) is (same_refl s)

  same_trans : (s t u : State T) → IsSame s t → IsSame t u → IsSame s u
  same_trans s t u first second = record { held = first.held ∙ second.held; done = first.done ∙ second.done }

  pub settled_same : (q r : Role T) → IsSame (settled q) (settled r) → settled q ≡ settled r
  settled_same q r it = λ i. holding 0 (it.held i) (it.done i)

module _ {T : Type 0} (cmp : T → T → Ordering) (texts : Texts T) where
  pub more_lines : (s : State T) (lines more : List (List ℕ)) → state_after cmp texts s (lines ++ more) ≡ state_after cmp texts (state_after cmp texts s lines) more
  more_lines s lines more = left_by-append (after_line cmp texts) s lines more

  pub nothing_after : (s : State T) → state_after cmp texts s [] ≡ s
  unfolding left_by
  nothing_after s = refl

pub no_items : {X : Type 0} (xs : List X) → length xs ≡ 0 → xs ≡ []
no_items [] none = refl
no_items (x ∷ xs) none = absurd (omega (arith, none))

module _ {T : Type 0} (cmp : T → T → Ordering) (texts : Texts T) where
  -- ---- the effects of calls

  module _ {S : Type 0} (view : S → View) (recovers : S → Trees → Type 0) where
    clean_before : (a b : S) → doubt (view a).is_clean ≤ doubt (view b).is_clean → IsClean (view b) → IsClean (view a)
    clean_before a b grows clean = omega (arith, grows, clean)

    -- nothing was kept, and the state is unchanged
    pub leads_still : (a : S) (s t : State T) → s ≡ t → Leads cmp texts view recovers a a s t
    leads_still a s t is = record {
      clean = omega arith;
      kept = λ clean was. was ∙ is;
      crash = λ clean was db found. inl (found, same_from s t is);
    }

    -- nothing could be kept
    pub may_lead_still : (a : S) (s t : State T) → MayLead cmp texts view recovers a a s s t
    may_lead_still a s t = record { clean = omega arith; crash = λ clean was db found. inl (inl (found, same_refl s)) }

    module _ (a b c : S) (from mid : State T) (first : Leads cmp texts view recovers a b from mid) where
      pub leads_on : (to : State T) → (IsSame mid to → mid ≡ to) → Leads cmp texts view recovers b c mid to → Leads cmp texts view recovers a c from to
      leads_on to one second =
          let before : IsClean (view c) → IsClean (view b) = clean_before b c second.clean in
          record {
            clean = omega (arith, first.clean, second.clean);
            kept = λ clean was. second.kept clean (first.kept (before clean) was);
            crash = λ clean was db found. left (before clean) was db (second.crash clean (first.kept (before clean) was) db found);
          }
        where
          left : IsClean (view b) → LeadsTo cmp texts (lines_in (view a).committed) from → (db : Trees) → IsLeft cmp texts view recovers b c mid to db → IsLeft cmp texts view recovers a c from to db
          left clean was db (inl it) = still (first.crash clean was db it.0)
            where
              still : IsLeft cmp texts view recovers a b from mid db → IsLeft cmp texts view recovers a c from to db
              still (inl old) = inl (old.0, same_trans from mid to old.1 it.1)
              still (inr led) = inr (led ∙ one it.1)
          left clean was db (inr led) = inr led

      -- more could not be kept, or was kept
      pub may_lead_on : (to : State T) → MayLead cmp texts view recovers b c mid mid to → MayLead cmp texts view recovers a c from mid to
      may_lead_on to second = record {
        clean = omega (arith, first.clean, second.clean);
        crash = λ clean was db found. left (clean_before b c second.clean clean) was db (second.crash clean (first.kept (clean_before b c second.clean clean) was) db found);
      }
        where
          left : IsClean (view b) → LeadsTo cmp texts (lines_in (view a).committed) from → (db : Trees)
              → IsLeft cmp texts view recovers b c mid mid db ⊎ LeadsTo cmp texts (lines_in db) to
              → IsLeft cmp texts view recovers a c from mid db ⊎ LeadsTo cmp texts (lines_in db) to
          left clean was db (inl (inl it)) = inl (first.crash clean was db it.0)
          left clean was db (inl (inr led)) = inl (inr led)
          left clean was db (inr led) = inr led

      -- what is kept could not be replaced by a snapshot
      pub may_lead_kept : MayLead cmp texts view recovers b c mid mid mid → MayLead cmp texts view recovers a c from from mid
      may_lead_kept second = record {
        clean = omega (arith, first.clean, second.clean);
        crash = λ clean was db found. left (clean_before b c second.clean clean) was db (second.crash clean (first.kept (clean_before b c second.clean clean) was) db found);
      }
        where
          left : IsClean (view b) → LeadsTo cmp texts (lines_in (view a).committed) from → (db : Trees)
              → IsLeft cmp texts view recovers b c mid mid db ⊎ LeadsTo cmp texts (lines_in db) mid
              → IsLeft cmp texts view recovers a c from from db ⊎ LeadsTo cmp texts (lines_in db) mid
          left clean was db (inl (inl it)) = still (first.crash clean was db it.0)
            where
              still : IsLeft cmp texts view recovers a b from mid db → IsLeft cmp texts view recovers a c from from db ⊎ LeadsTo cmp texts (lines_in db) mid
              still (inl old) = inl (inl (old.0, same_refl from))
              still (inr led) = inr led
          left clean was db (inl (inr led)) = inr led
          left clean was db (inr led) = inr led

      pub may_lead_none : (more : State T) → MayLead cmp texts view recovers a b from mid more
      may_lead_none more = record { clean = first.clean; crash = λ clean was db found. inl (first.crash clean was db found) }

      -- a failure after a call is one from before the call on
      pub may_lead_behind : (to more : State T) → (IsSame mid to → mid ≡ to) → MayLead cmp texts view recovers b c mid to more → MayLead cmp texts view recovers a c from to more
      may_lead_behind to more one second = record {
        clean = omega (arith, first.clean, second.clean);
        crash = λ clean was db found. left (clean_before b c second.clean clean) was db (second.crash clean (first.kept (clean_before b c second.clean clean) was) db found);
      }
        where
          left : IsClean (view b) → LeadsTo cmp texts (lines_in (view a).committed) from → (db : Trees)
              → IsLeft cmp texts view recovers b c mid to db ⊎ LeadsTo cmp texts (lines_in db) more
              → IsLeft cmp texts view recovers a c from to db ⊎ LeadsTo cmp texts (lines_in db) more
          left clean was db (inl (inl it)) = still (first.crash clean was db it.0)
            where
              still : IsLeft cmp texts view recovers a b from mid db → IsLeft cmp texts view recovers a c from to db ⊎ LeadsTo cmp texts (lines_in db) more
              still (inl old) = inl (inl (old.0, same_trans from mid to old.1 it.1))
              still (inr led) = inl (inr (led ∙ one it.1))
          left clean was db (inl (inr led)) = inl (inr led)
          left clean was db (inr led) = inr led

    -- nothing could be kept, and the state is unchanged
    pub may_lead_same : (a : S) (s t more : State T) → IsSame s t → MayLead cmp texts view recovers a a s t more
    may_lead_same a s t more same = record { clean = omega arith; crash = λ clean was db found. inl (inl (found, same)) }
