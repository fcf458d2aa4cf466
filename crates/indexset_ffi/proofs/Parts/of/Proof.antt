-- `of` takes a box apart, and the parts own what the box owned.
use Rattle.indexset_ffi.proofs.Steps.{proved_at, token, handle_tells, B, R, P, boxed_at, dropping, box_out}
use Rattle.indexset_ffi.proofs.Steps.{box_in, word, box_typed, ptr_typed, parts_word, parts_typed, parts_in}
use Rattle.indexset_ffi.proofs.Steps.{parts_row, Stays, says, stay_dropped, walk_of, ends_at, heard, nothing}
use Rattle.indexset_ffi.proofs.Steps.{only, calls_at, lasts, triple_of, framed, Ptr, RawPtr, alloc_all, pass_all}
use Rattle.indexset_ffi.proofs.Steps.{free_all, look_at, get, get_in, sets, lands_as, enter, stop, fld, of_opd}
use Rattle.indexset_ffi.proofs.Steps.{and_then, no_more, returns, whole, sub, agg, ‵, raw, ◌⊛◌, some, later}
use Rattle.indexset_ffi.proofs.Steps.{prop, ◌$◌, ◌∵◌, !, qed, move, drop, use1, split, split3, join, pick}
use Rattle.indexset_ffi.proofs.Steps.{rewrite, regoal, fsplit, fjoin, fpick, feq_l, suffices, await, done}
use Rattle.indexset_ffi.specs.contracts.Parts.of as f
use Rattle.indexset_ffi.proofs.Parts.of.Statement.{statement}
use Rattle.indexset_ffi.proofs.Parts.of.Code as code
use Rattle.std.specs.contracts.boxed.Box.into_raw_with_allocator as opens
use Rattle.std.proofs.boxed.Box.into_raw_with_allocator.Met as opened
use Rattle.std.proofs.alloc.Calls.{Goes-blank}
use Rattle.std.specs.Box.Ownership.{box_owns}
use Rattle.std.specs.Prelude.{Some}
use mathlib.Core.Path.{◌≡◌, refl, ap, ◌∙◌}
use mathlib.Core.List.{List, [], ◌∷◌, ◌++◌}
use mir.MapTy.{inst_fn}
use mir.Val.{Val, vstruct, of_list}
use base.Logic.{id⊢}
use base.Fml.{ftrue, fsep, flft}
use contract.Monad.{fact}
use contract.BorrowLft.{◌⊑◌}
use contract.Running.{tables}
use prog.Wp.{WpFn}
use denote.Signature.{plain}
use denote.Struct.Tuple.{Tuple}
use denote.Exit.{no}

pub of_spec : {M : Type 1} → statement M
of_spec 𝓤 𝓛 𝓜 𝓡 wired X A LX LA g d drops dx met gone let_go =
    let E = boxed_at X LX A LA g d drops in let S = f.ended X A g d drops dx in let c = f.clauses X A g d drops dx 𝓛 𝓜.mem 𝓡.returns in
    let hs : Stays S.signature.params S.kept = (stay_dropped _ no, tt) in let W = walk_of 𝓛 S hs c in
    let ts = dropping E dx in let fn = inst_fn ts code.function in let 𝓣 = tables 𝓤 𝓛.H 𝓜 𝓡 𝓡.env in
    proved_at 𝓛 S hs c 𝓜 𝓡 (Goes-blank 𝓛 2 (plain (λ _. B E)) no (λ κs x w. tt), tt) (f.Key.name ts) fn (code.unfolded 𝓤 𝓛.H 𝓜 𝓡 wired (X, (A, tt)) d drops dx) (λ y are.
    let κs = y.0.0 in let qs = y.0.1 in let v = y.0.3.0 in let a = v.alloc in let us = y.0.4.0 in
    let alive = ‵ (flft κs.0 qs.0) ⊛ ‵ (flft κs.1.0 qs.1.0) ⊛ ‵ ftrue in
    let known = raw (fact 𝓤 (κs.0 ⊑ X.lives)) ⊛ raw (fact 𝓤 (κs.1.0 ⊑ A.lives)) ⊛ ‵ ftrue in
    let G = triple_of 𝓛 (opens.signature X A g d drops dx) (opens.spec X A g d drops dx 𝓛 𝓜.mem 𝓡.returns) in
    qed 𝓛 ((alive ⊛ ‵ (fsep ((B E).own_val v us) ftrue)) ∷ known ∷ []) ∵ split ! $ move ! (1 ∷ []) $ fsplit ! $
    box_out E ! v us (λ b o hv at_is word_is fits. box_in E ! v b o v.value at_is refl $
    let w = word E hv b o in let z : G.Ghost = ((κs, qs, tt, (v, tt), (w ∷ [], tt)), tt) in
    regoal ! (λ (ws : List Val). prop (WpFn 𝓤 𝓛.H 𝓣.C 𝓣.Λ fn (ws ++ []) (W.post y))) word_is refl $
    enter ! _ _ _ _ _ $ alloc_all ! (λ l. pass_all ! refl (box_typed E hv b o fits, tt) $
    sets ! (of_opd ! (get ! refl)) refl (box_typed E hv b o fits) $
    -- [the box; nothing; the tokens; the facts on lifetimes]
    fjoin ! $ move ! (1 ∷ 0 ∷ []) $ join ! $ join ! $ use1 𝓛 (raw (G.pre z)) (id⊢ 𝓤 _) $
    calls_at ! (framed 𝓤 𝓛.H 𝓜 𝓣) G
    (opened.met 𝓤 𝓛 𝓜 𝓡 (code.calls-std::boxed::Box::into_raw_with_allocator 𝓡.env wired) X A LX LA g d drops dx met
    gone let_go)
    z (and_then ! (get ! refl) (no_more !)) (λ u.
    use1 𝓛 (later (some (λ (r : Ptr × A.Denot). (alive ⊛ ‵ ((Tuple (RawPtr ∷ P E ∷ [])).own_val r (u ∷ []))) ⊛
    some (λ ws. ‵ (lasts (opens.ended X A g d drops dx) κs (v, tt) ws) ⊛ (raw (fact 𝓤 (r.1 ≡ a)) ⊛ ‵ (box_owns (token E.al a) (R E) r.0 v.value)))))) (id⊢ 𝓤 _) $
    await ! tt $ pick ! (λ r. split ! $ move ! (1 ∷ []) $ pick ! (λ ws. split3 ! $ drop ! $ heard ! _ (λ same.
    move ! (1 ∷ []) $ split ! $ move ! (1 ∷ []) $ fpick ! (λ vs. fsplit ! $ feq_l ! (λ tuple_is. fsplit ! $ feq_l ! (λ ptr_is. fsplit ! $
    rewrite ! 0 (λ (s : A.Denot). ‵ (A.own_val s vs.1.0)) same refl $ handle_tells E.al ! a vs.1.0 (λ hw handle_is fitting.
    let typed = parts_typed E r.0 hw fitting in let made : (parts_row E).Denot = record { at = r.0; alloc = a; value = Some v.value } in
    lands_as ! (ap only (tuple_is ∙ (λ i. vstruct (of_list (ptr_is i ++ (handle_is i ++ []))) ∷ []))) refl typed $
    sets ! (of_opd ! (get_in ! (fld ! refl (stop !)) (sub ! 0 refl (whole !)))) refl (ptr_typed r.0) $
    sets ! (of_opd ! (get_in ! (fld ! refl (stop !)) (sub ! 1 refl (whole !)))) refl fitting $ sets ! (of_opd ! (get ! refl)) refl fitting $
    sets ! (agg ! (and_then ! (get ! refl) (and_then ! (get ! refl) (no_more !)))) refl typed $
    returns ! (look_at ! 0 refl) $ free_all ! refl $
    suffices ! _ (ends_at 𝓛 S hs c y (parts_word r.0 hw) made ((tt, (tt, tt)), tt) (tt, tt)) $ says ! refl $
    -- [the handle; nothing; the tokens; what the box owned]
    move ! (1 ∷ []) $ drop ! $ move ! (0 ∷ 2 ∷ []) $ parts_in E ! made hw $
    nothing ! $ nothing ! $ fjoin ! $ join ! $ move ! (1 ∷ 0 ∷ []) $ join ! $ done !)))))))))))
