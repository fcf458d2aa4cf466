-- `none` returns parts that own only the handle of their allocator.
use Rattle.indexset_ffi.proofs.Steps.{proved_at, handle_tells, P, args, boxed_at, parts_word, parts_typed, parts_in}
use Rattle.indexset_ffi.proofs.Steps.{parts_row, Stays, says, stay_dropped, walk_of, ends_at, Goes-dropped, nothing}
use Rattle.indexset_ffi.proofs.Steps.{null_ptr, alloc_all, pass_all, free_all, look_at, get, sets, enter, lit}
use Rattle.indexset_ffi.proofs.Steps.{of_opd, and_then, no_more, returns, agg, ‵, raw, ◌⊛◌, prop, ◌$◌, ◌∵◌, !, qed}
use Rattle.indexset_ffi.proofs.Steps.{move, drop, split, join, regoal, fsplit, fjoin, suffices, done}
use Rattle.indexset_ffi.specs.contracts.Parts.none as f
use Rattle.indexset_ffi.proofs.Parts.none.Statement.{statement}
use Rattle.indexset_ffi.proofs.Parts.none.Code as code
use mathlib.Core.Path.{refl}
use mathlib.Core.List.{List, [], ◌∷◌, ◌++◌}
use lib.Dec.{lit<}
use mir.MapTy.{inst_fn}
use mir.Val.{Val}
use base.Fml.{ftrue, fsep, flft}
use contract.Monad.{fact}
use contract.BorrowLft.{◌⊑◌}
use contract.Running.{tables}
use prog.Wp.{WpFn}
use denote.Signature.{plain}
use denote.Exit.{no}
use Rattle.std.specs.Prelude.{None}

pub none_spec : {M : Type 1} → statement M
none_spec 𝓤 𝓛 𝓜 𝓡 wired X A LX LA g d drops met gone =
    let E = boxed_at X LX A LA g d drops in let S = f.ended X A g d drops in let c = f.clauses X A g d drops 𝓛 𝓜.mem 𝓡.returns in
    let hs : Stays S.signature.params S.kept = (stay_dropped _ no, tt) in let W = walk_of 𝓛 S hs c in
    let fn = inst_fn (args E) code.function in let 𝓣 = tables 𝓤 𝓛.H 𝓜 𝓡 𝓡.env in
    proved_at 𝓛 S hs c 𝓜 𝓡 (Goes-dropped 𝓛 2 (plain (λ _. P E)) no (λ κs x w. refl), tt) (f.Key.name (args E)) fn (code.unfolded 𝓤 𝓛.H 𝓜 𝓡 wired (X, (A, tt)) d drops) (λ y are.
    let κs = y.0.0 in let qs = y.0.1 in let a = y.0.3.0 in let us = y.0.4.0 in
    let alive = ‵ (flft κs.0 qs.0) ⊛ ‵ (flft κs.1.0 qs.1.0) ⊛ ‵ ftrue in
    let known = raw (fact 𝓤 (κs.0 ⊑ X.lives)) ⊛ raw (fact 𝓤 (κs.1.0 ⊑ A.lives)) ⊛ ‵ ftrue in
    let made : (parts_row E).Denot = record { at = null_ptr; alloc = a; value = None } in
    qed 𝓛 ((alive ⊛ ‵ (fsep ((P E).own_val a us) ftrue)) ∷ known ∷ []) ∵ split ! $ move ! (1 ∷ []) $ fsplit ! $
    handle_tells E.al ! a us (λ hv handle_is fits.
    regoal ! (λ (ws : List Val). prop (WpFn 𝓤 𝓛.H 𝓣.C 𝓣.Λ fn (ws ++ []) (W.post y))) handle_is refl $
    enter ! _ _ _ _ _ $ alloc_all ! (λ l. pass_all ! refl (fits, tt) $
    sets ! (of_opd ! (lit ! tt)) refl (tt, record { fits = lit< tt }) $ sets ! (of_opd ! (get ! refl)) refl fits $
    sets ! (agg ! (and_then ! (get ! refl) (and_then ! (get ! refl) (no_more !)))) refl (parts_typed E null_ptr hv fits) $
    returns ! (look_at ! 0 refl) $ free_all ! refl $
    suffices ! _ (ends_at 𝓛 S hs c y (parts_word null_ptr hv) made (tt, tt) (tt, tt)) $ says ! refl $
    -- [the handle; nothing; the tokens; the facts on lifetimes]
    move ! (3 ∷ []) $ drop ! $ parts_in E ! made hv $
    nothing ! $ nothing ! $ fjoin ! $ join ! $ move ! (1 ∷ 0 ∷ []) $ join ! $ done !)))
