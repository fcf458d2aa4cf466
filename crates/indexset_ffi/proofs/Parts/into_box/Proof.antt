-- `into_box` returns a box that owns what the parts own.
use Rattle.indexset_core.proofs.CallerLemmas.{some_held}
use Rattle.indexset_ffi.proofs.Steps.{proved_at, token, B, R, args, boxed_at, box_ty, box_out, box_in, box_typed}
use Rattle.indexset_ffi.proofs.Steps.{ptr_typed, parts_typed, parts_out, parts_row, Stays, says, stay_dropped, walk_of}
use Rattle.indexset_ffi.proofs.Steps.{ends_at, heard, nothing, only, calls_at_last, lasts, triple_of, framed, ptr_val}
use Rattle.indexset_ffi.proofs.Steps.{alloc_all, pass_all, free_all, look_at, get, get_in, sets, env, enter, stop, fld}
use Rattle.indexset_ffi.proofs.Steps.{of_opd, and_then, no_more, first, blocks, exec, returns, whole, sub, ‵, raw, ◌⊛◌}
use Rattle.indexset_ffi.proofs.Steps.{some, later, prop, at_ret, ◌$◌, ◌∵◌, !, qed, move, drop, use1, split, split3}
use Rattle.indexset_ffi.proofs.Steps.{join, pick, rewrite, regoal, fsplit, fjoin, feq_i, suffices, await, done}
use Rattle.indexset_ffi.specs.contracts.Parts.into_box as f
use Rattle.indexset_ffi.specs.Holds.{holds}
use Rattle.indexset_ffi.proofs.Parts.into_box.Statement.{statement}
use Rattle.indexset_ffi.proofs.Parts.into_box.Code as code
use Rattle.std.specs.contracts.boxed.Box.from_raw as closes
use Rattle.std.proofs.boxed.Box.from_raw.Met as closed
use Rattle.std.proofs.alloc.Calls.{Goes-blank}
use Rattle.std.proofs.VecSteps.Shapes.{after}
use Rattle.std.specs.Prelude.{Option, Some, is_some, true}
use mathlib.Core.Path.{◌≡◌, refl, sym, ap, subst, ◌∙◌}
use mathlib.Core.List.{List, [], ◌∷◌, ◌++◌}
use lib.Dec.{T}
use mir.MapTy.{inst_fn}
use mir.Val.{Val, has_ty, WT}
use types.ByLocal.{lands_last}
use base.Logic.{id⊢}
use base.Fml.{ftrue, fsep, flft}
use contract.Monad.{fact}
use contract.BorrowLft.{◌⊑◌}
use contract.Running.{tables}
use prog.Wp.{WpFn}
use denote.Signature.{plain}
use denote.Exit.{no}

pub into_box_spec : {M : Type 1} → statement M
into_box_spec 𝓤 𝓛 𝓜 𝓡 wired X A LX LA g d drops met gone =
    let E = boxed_at X LX A LA g d drops in let S = f.ended X A g d drops in let c = f.clauses X A g d drops 𝓛 𝓜.mem 𝓡.returns in
    let hs : Stays S.signature.params S.kept = (stay_dropped _ no, tt) in let W = walk_of 𝓛 S hs c in
    let fn = inst_fn (args E) code.function in let 𝓣 = tables 𝓤 𝓛.H 𝓜 𝓡 𝓡.env in
    proved_at 𝓛 S hs c 𝓜 𝓡 (Goes-blank 𝓛 2 (plain (λ _. parts_row E)) no (λ κs x w. tt), tt) (f.Key.name (args E)) fn (code.unfolded 𝓤 𝓛.H 𝓜 𝓡 wired (X, (A, tt)) d drops) (λ y are.
    let κs = y.0.0 in let qs = y.0.1 in let v = y.0.3.0 in let a = v.alloc in let us = y.0.4.0 in
    let alive = ‵ (flft κs.0 qs.0) ⊛ ‵ (flft κs.1.0 qs.1.0) ⊛ ‵ ftrue in
    let lives = raw (fact 𝓤 (κs.0 ⊑ X.lives)) in let lasting = raw (fact 𝓤 (κs.1.0 ⊑ A.lives)) in
    let G = triple_of 𝓛 (closes.signature X A g d drops) (closes.spec X A g d drops 𝓛 𝓜.mem 𝓡.returns) in
    qed 𝓛 ((alive ⊛ ‵ (fsep ((parts_row E).own_val v us) ftrue)) ∷ (lives ⊛ lasting ⊛ raw (fact 𝓤 (is_some v.value ≡ true))) ∷ []) ∵ split ! $ move ! (1 ∷ []) $ fsplit ! $
    parts_out E ! v us (λ hv word_is fits.
    -- [the handle; the contents of the parts; nothing; the tokens; the facts]
    move ! (4 ∷ []) $ split3 ! $ move ! (2 ∷ []) $ heard ! _ (λ there. let p = some_held v.value there in let x = p.0 in
    -- [the two facts on lifetimes; the handle; the contents of the parts; nothing; the tokens]
    move ! (3 ∷ []) $ rewrite ! 0 (λ (m : Option X.Denot). ‵ (holds (token E.al a) (R E) v.at m)) p.1 refl $
    let z : G.Ghost = ((κs, qs, tt, (a, (v.at, tt)), (hv ∷ [], (ptr_val v.at ∷ [], tt))), x) in
    regoal ! (λ (ws : List Val). prop (WpFn 𝓤 𝓛.H 𝓣.C 𝓣.Λ fn (ws ++ []) (W.post y))) word_is refl $
    enter ! _ _ _ _ _ $ alloc_all ! (λ l. pass_all ! refl (parts_typed E v.at hv fits, tt) $
    sets ! (of_opd ! (get_in ! (fld ! refl (stop !)) (sub ! 0 refl (whole !)))) refl (ptr_typed v.at) $
    sets ! (of_opd ! (get_in ! (fld ! refl (stop !)) (sub ! 1 refl (whole !)))) refl fits $
    first ! $ blocks ! $ sets ! (of_opd ! (get ! refl)) refl fits $
    move ! (2 ∷ 0 ∷ []) $ join ! $ move ! (1 ∷ 0 ∷ []) $ join ! $ move ! (2 ∷ []) $ feq_i ! (List Val) (ptr_val v.at ∷ []) (ptr_val v.at ∷ []) refl $ fjoin ! $
    move ! (2 ∷ 0 ∷ []) $ fjoin ! $ move ! (2 ∷ 0 ∷ []) $ join ! $ join ! $ use1 𝓛 (raw (G.pre z)) (id⊢ 𝓤 _) $
    calls_at_last ! (framed 𝓤 𝓛.H 𝓜 𝓣) G
    (closed.met 𝓤 𝓛 𝓜 𝓡 (code.calls-std::boxed::Box::from_raw 𝓡.env wired) X A LX LA g d drops met gone) z
    (and_then ! (get ! refl) (and_then ! (get ! refl) (no_more !))) (λ u.
    use1 𝓛 (later (some (λ (r : (B E).Denot). (alive ⊛ ‵ ((B E).own_val r (u ∷ []))) ⊛
    some (λ ws. ‵ (lasts (closes.ended X A g d drops) κs z.0.3 ws) ⊛ (raw (fact 𝓤 (r.value ≡ x)) ⊛ raw (fact 𝓤 (r.alloc ≡ a))))))) (id⊢ 𝓤 _) $
    await ! tt $ pick ! (λ r. split ! $ move ! (1 ∷ []) $ pick ! (λ ws. split3 ! $ drop ! $ heard ! _ (λ same. drop ! $ split ! $ move ! (1 ∷ []) $
    box_out E ! r (u ∷ []) (λ b o hw at_is u_is fitting. box_in E ! r b o r.value at_is refl $
    rewrite ! 0 (λ (ws' : List Val). ‵ ((B E).own_val r ws')) (sym u_is) refl $
    let typed : T (has_ty (box_ty E) u) × WT u = subst (λ (m : Val). T (has_ty (box_ty E) m) × WT m) (sym (ap only u_is)) (box_typed E hw b o fitting) in
    lands_last ! refl typed $
    exec ! 𝓣.C 𝓣.Λ (env fn.locals l) (after 3 fn.body) (at_ret _ (W.post y)) $
    sets ! (of_opd ! (get ! refl)) refl typed $ returns ! (look_at ! 0 refl) $ free_all ! refl $
    suffices ! _ (ends_at 𝓛 S hs c y u r ((tt, (tt, tt)), tt) (tt, tt)) $ says ! (p.1 ∙ ap Some (sym same)) $
    nothing ! $ nothing ! $ fjoin ! $ join ! $ move ! (1 ∷ 0 ∷ []) $ join ! $ done !)))))))))
