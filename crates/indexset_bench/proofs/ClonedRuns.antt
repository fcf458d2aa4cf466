-- The state of a run whose replies may hold clones, command by command.
use Rattle.std.proofs.Common.{◌≡◌, ◌+◌, List, [], ◌∷◌, ◌++◌, length, take, refl, sym, ap, ◌∙◌, subst, append_assoc, length-append}
use Rattle.std.proofs.Math.Seq.{take-append_seam}
use Rattle.std.proofs.lemmas.List.Sums.{fold-append}
use Rattle.std.specs.List.{fold, scan}
use Rattle.indexset_bench.specs.Replies.{AppendsReply, AreReplies}
use Rattle.indexset_bench.proofs.CommandRuns.{scan-push}

-- the commands so far were answered, with the replies of the definition if the premise holds, and
-- left this state
pub record ClonedSoFar {S C R : Type 0} (after : S → C → S) (reply : S → C → R) (IsReply : S → C → R → Type 0) (Premise : Type 0) (s s' : S) (done rest all : List C) (replies : List R) : Type 0 where
  pub given : done ++ rest ≡ all
  pub cloned : AreReplies after IsReply s done replies
  pub told : Premise → replies ≡ scan after reply s done
  pub held : s' ≡ fold after s done

module _ {S C R : Type 0} (after : S → C → S) (IsReply : S → C → R → Type 0) where
  replies-push : (s : S) (cs : List C) (rs : List R) (c : C) (r : R) → AreReplies after IsReply s cs rs → IsReply (fold after s cs) c r → AreReplies after IsReply s (cs ++ c ∷ []) (rs ++ r ∷ [])
  replies-push s [] [] c r are is = (is, tt)
  replies-push s [] (q ∷ rs) c r are is = absurd are
  replies-push s (d ∷ cs) [] c r are is = absurd are
  replies-push s (d ∷ cs) (q ∷ rs) c r are is = (are.0, replies-push (after s d) cs rs c r are.1 is)

  length-replies : (s : S) (cs : List C) (rs : List R) → AreReplies after IsReply s cs rs → length rs ≡ length cs
  length-replies s [] [] are = refl
  length-replies s [] (r ∷ rs) are = absurd are
  length-replies s (c ∷ cs) [] are = absurd are
  length-replies s (c ∷ cs) (r ∷ rs) are = simp (length-replies (after s c) cs rs are.1)

-- no command was answered yet
pub none_cloned : {S C R : Type 0} {after : S → C → S} {reply : S → C → R} {IsReply : S → C → R → Type 0}
    {Premise : Type 0} (s : S) (rest all : List C) (replies : List R)
    → rest ≡ all → replies ≡ [] → ClonedSoFar after reply IsReply Premise s s [] rest all replies
none_cloned s rest all replies given none = rw none record { given = given; cloned = tt; told = λ _. refl; held = refl }

module _ {S C R : Type 0} {after : S → C → S} {reply : S → C → R} {IsReply : S → C → R → Type 0} {Premise : Type 0}
    {s s' : S} {done rest all : List C} {replies : List R}
    (far : ClonedSoFar after reply IsReply Premise s s' done rest all replies) where
  -- those commands are the first ones, one for each reply
  answered : take (length replies) all ≡ done
  answered = rw (length-replies after IsReply s done replies far.cloned, ← far.given) (take-append_seam done rest)

  pub clones_to_first : AreReplies after IsReply s (take (length replies) all) replies
  clones_to_first = rw answered far.cloned

  pub told_to_first : Premise → replies ≡ scan after reply s (take (length replies) all)
  told_to_first same = far.told same ∙ ap (scan after reply s) (sym answered)

  pub held_to_first : s' ≡ fold after s (take (length replies) all)
  held_to_first = far.held ∙ ap (fold after s) (sym answered)

  pub count_answered : length replies + length rest ≡ length all
  count_answered = rw (length-replies after IsReply s done replies far.cloned, ← far.given) (sym (length-append done rest))

  -- one more command
  pub further_cloned : (c : C) (rest' : List C) (s'' : S) (replies' : List R) → rest ≡ c ∷ rest'
      → AppendsReply (IsReply s' c) replies replies' → (Premise → replies' ≡ replies ++ reply s' c ∷ [])
      → s'' ≡ after s' c
      → ClonedSoFar after reply IsReply Premise s s'' (done ++ c ∷ []) rest' all replies'
  further_cloned c rest' s'' replies' next cloned told held = record {
    given = append_assoc done (c ∷ []) rest' ∙ ap (λ r. done ++ r) (sym next) ∙ far.given;
    cloned = rw cloned.1 (replies-push after IsReply s done replies c cloned.0 far.cloned (subst (λ x. IsReply x c cloned.0) far.held cloned.2));
    told = λ same. told same ∙ ap (λ rs. rs ++ reply s' c ∷ []) (far.told same) ∙ ap (λ x. scan after reply s done ++ reply x c ∷ []) far.held ∙ sym (scan-push after reply s done c);
    held = held ∙ ap (λ x. after x c) far.held ∙ sym (fold-append after s done (c ∷ []));
  }
