-- The state of a run over a list of commands, command by command, for any effect of a command.
use Rattle.std.proofs.Common.{◌≡◌, ◌+◌, List, [], ◌∷◌, ◌++◌, length, take, refl, sym, ap, ◌∙◌, append_assoc, length-append}
use Rattle.std.proofs.Math.Seq.{take-append_seam}
use Rattle.std.proofs.lemmas.List.Sums.{fold-append}
use Rattle.std.specs.List.{fold, scan}

-- the commands so far were answered, and left this state
pub record SoFar {S C R : Type 0} (after : S → C → S) (reply : S → C → R) (s s' : S) (done rest all : List C) (replies : List R) : Type 0 where
  pub given : done ++ rest ≡ all
  pub told : replies ≡ scan after reply s done
  pub held : s' ≡ fold after s done

module _ {S C R : Type 0} (after : S → C → S) (reply : S → C → R) where
  pub scan-push : (s : S) (cs : List C) (c : C) → scan after reply s (cs ++ c ∷ []) ≡ scan after reply s cs ++ reply (fold after s cs) c ∷ []
  scan-push s [] c = refl
  scan-push s (d ∷ cs) c = ap (λ rs. reply s d ∷ rs) (scan-push (after s d) cs c)

  length-scan : (s : S) (cs : List C) → length (scan after reply s cs) ≡ length cs
  length-scan s [] = refl
  length-scan s (c ∷ cs) = simp (length-scan (after s c) cs)

module _ {S C R : Type 0} {after : S → C → S} {reply : S → C → R} {s s' : S} {done rest all : List C} {replies : List R} (far : SoFar after reply s s' done rest all replies) where
  -- those commands are the first ones, one for each reply
  pub first_commands : take (length replies) all ≡ done
  first_commands = rw (far.told, length-scan after reply s done, ← far.given) (take-append_seam done rest)

  pub replies_to_first : replies ≡ scan after reply s (take (length replies) all)
  replies_to_first = far.told ∙ ap (scan after reply s) (sym first_commands)

  pub held_after_first : s' ≡ fold after s (take (length replies) all)
  held_after_first = far.held ∙ ap (fold after s) (sym first_commands)

  pub count_of_replies : length replies + length rest ≡ length all
  count_of_replies = rw (far.told, length-scan after reply s done, ← far.given) (sym (length-append done rest))

  pub count_of_done : length replies ≡ length done
  count_of_done = rw far.told (length-scan after reply s done)

  -- one more command
  pub further : (c : C) (rest' : List C) (s'' : S) (replies' : List R) → rest ≡ c ∷ rest'
      → replies' ≡ replies ++ reply s' c ∷ [] → s'' ≡ after s' c
      → SoFar after reply s s'' (done ++ c ∷ []) rest' all replies'
  further c rest' s'' replies' next told held = record {
    given = append_assoc done (c ∷ []) rest' ∙ ap (λ r. done ++ r) (sym next) ∙ far.given;
    told = told ∙ ap (λ rs. rs ++ reply s' c ∷ []) far.told ∙ ap (λ x. scan after reply s done ++ reply x c ∷ []) far.held ∙ sym (scan-push after reply s done c);
    held = held ∙ ap (λ x. after x c) far.held ∙ sym (fold-append after s done (c ∷ []));
  }
