-- `into_parts` moves two fields, with the ownership of the slot.
use Rattle.indexset_ffi.proofs.Steps.{proved_at, ptr_typed, parts_word, parts_typed, parts_out, parts_in, parts_row}
use Rattle.indexset_ffi.proofs.Steps.{Stays, says, stay_dropped, walk_of, ends_at, Goes-dropped, nothing, alloc_all}
use Rattle.indexset_ffi.proofs.Steps.{pass_all, free_all, look_at, get, get_in, sets, enter, stop, fld, of_opd}
use Rattle.indexset_ffi.proofs.Steps.{and_then, no_more, returns, whole, sub, agg, ‵, raw, ◌⊛◌, prop, ◌$◌, ◌∵◌, ! }
use Rattle.indexset_ffi.proofs.Steps.{qed, move, drop, split, join, regoal, fsplit, fjoin, suffices, done}
use Rattle.indexset_ffi.proofs.Boxes.{set_box as E}
use Rattle.indexset_ffi.specs.contracts.set_slot.SetSlot.{the_row}
use Rattle.indexset_ffi.specs.contracts.set_slot.SetSlot.into_parts as f
use Rattle.indexset_ffi.proofs.set_slot.SetSlot.into_parts.Statement.{statement}
use Rattle.indexset_ffi.proofs.set_slot.SetSlot.into_parts.Code as code
use mathlib.Core.Path.{refl}
use mathlib.Core.List.{List, [], ◌∷◌, ◌++◌}
use mir.Val.{Val}
use base.Logic.{emp}
use base.Fml.{ftrue, fsep}
use contract.Running.{tables}
use prog.Wp.{WpFn}
use denote.Signature.{plain}
use denote.Exit.{yes}

abbrev hs : Stays f.ended.signature.params f.ended.kept
hs = (stay_dropped _ yes, tt)

pub into_parts_spec : {M : Type 1} → statement M
into_parts_spec 𝓤 𝓛 𝓜 𝓡 wired =
    let c = f.clauses 𝓛 𝓜.mem 𝓡.returns in let W = walk_of 𝓛 f.ended hs c in let 𝓣 = tables 𝓤 𝓛.H 𝓜 𝓡 𝓡.env in
    proved_at 𝓛 f.ended hs c 𝓜 𝓡 (Goes-dropped 𝓛 0 (plain (λ _. the_row)) yes (λ κs x w. refl), tt) f.Key.name code.function (code.unfolded 𝓤 𝓛.H 𝓜 𝓡 wired) (λ y are.
    let v = y.0.3.0 in let us = y.0.4.0 in let made : (parts_row E).Denot = record { at = v.at; alloc = v.alloc; value = v.value } in
    qed 𝓛 ((‵ ftrue ⊛ ‵ (fsep ((parts_row E).own_val made us) ftrue)) ∷ raw (emp 𝓤) ∷ []) ∵ split ! $ drop ! $ fsplit ! $
    parts_out E ! made us (λ hv word_is fits. let w = parts_word v.at hv in
    regoal ! (λ (ws : List Val). prop (WpFn 𝓤 𝓛.H 𝓣.C 𝓣.Λ code.function (ws ++ []) (W.post y))) word_is refl $
    enter ! _ _ _ _ _ $ alloc_all ! (λ l. pass_all ! refl (parts_typed E v.at hv fits, tt) $
    sets ! (of_opd ! (get_in ! (fld ! refl (stop !)) (sub ! 0 refl (whole !)))) refl (ptr_typed v.at) $
    sets ! (of_opd ! (get_in ! (fld ! refl (stop !)) (sub ! 1 refl (whole !)))) refl fits $ sets ! (of_opd ! (get ! refl)) refl (ptr_typed v.at) $
    sets ! (agg ! (and_then ! (get ! refl) (and_then ! (get ! refl) (no_more !)))) refl (parts_typed E v.at hv fits) $
    returns ! (look_at ! 0 refl) $ free_all ! refl $
    suffices ! _ (ends_at 𝓛 f.ended hs c y w made (tt, tt) (tt, tt)) $ says ! refl $
    -- [the handle; the contents; nothing; nothing]
    parts_in E ! made hv $ move ! (1 ∷ 2 ∷ []) $ drop ! $ drop ! $
    nothing ! $ nothing ! $ fjoin ! $ join ! $ nothing ! $ join ! $ done !)))
