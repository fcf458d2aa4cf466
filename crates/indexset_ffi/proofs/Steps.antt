-- What the proofs on parts share: common names, and parts by value.
--     ptr_typed                   a pointer's machine value has its type
--     parts_word, parts_typed     the machine value of parts at a pointer and a handle, and its
--                                 type
--     parts_out, parts_in         parts by value are [the handle; their contents]
pub use Rattle.std.proofs.raw_atomic.Walks.{proved_at}
pub use Rattle.std.proofs.alloc.Calls.{α, token, Fits, handle_tells}
pub use Rattle.std.proofs.BoxSteps.Form.{Bx, R, P, B, box_ty, word, box_typed, handle, args}
pub use Rattle.std.proofs.BoxSteps.Steps.{box_out, box_in}
pub use denote.Triple.Walked.{Stays, says, stay_dropped, walk_of, ends_at, Goes-dropped}
pub use denote.Triple.Call.{calls_at, calls_at_last}
pub use denote.Triple.Clauses.{lasts}
pub use denote.Triple.Spec.{triple_of}
pub use denote.Triple.Table.{framed}
pub use denote.Steps.{heard, nothing, only}
pub use denote.RattleType.{RattleType, Valss}
pub use denote.RawPtr.{Ptr, RawPtr, null_ptr, block_ptr, ptr_val, in_a_block}
pub use types.ByLocal.{alloc_all, pass_all, free_all, look_at, get, get_in, sets, lands_as, env}
pub use types.Run.{enter, stop, fld, lit, of_opd, and_then, no_more, first, blocks, exec, returns}
pub use types.Part.{whole, sub, agg}
pub use types.Kit.{Item, ‵, raw, ◌⊛◌, some, later, prop, at_ret, ◌$◌, ◌∵◌, !, qed, move, drop, use1, split, split3}
pub use types.Kit.{join, pick, rewrite, regoal, fsplit, fjoin, fpick, fpack, feq_l, feq_i, suffices, await, done}
use types.Kit.{Goal, Seq, Step, step}
use mathlib.Core.Path.{◌≡◌, refl, ◌∙◌}
use mathlib.Core.List.{List, [], ◌∷◌, ◌++◌}
use lib.Dec.{T, lit<}
use seplogic.Ra.Ura.{Ura}
use mir.Syntax.{Args, Dict, ty_ptr, a_type, dcons, dnil}
use mir.Val.{Val, vstruct, vcons, vnil, of_list, has_ty, WT}
use types.Logic.{Logic}
use denote.Param.{bounded}
use denote.Param.Laws.{Laws}
use denote.Struct.Struct.{within}
use denote.Struct.Owning.{shape}
use Rattle.std.proofs.ResultValues.{and_tt}
use Rattle.std.specs.declared.alloc.Allocator.{Ghosts}
use Rattle.indexset_ffi.specs.Holds.{holds}
use Rattle.indexset_ffi.specs.contracts.Parts as parts

-- a box at a type and an allocator, with the assumptions of a statement on both
abbrev pub boxed_at : (X : RattleType) → Laws X → (A : RattleType) → Laws A → Ghosts A.Denot → Dict → Dict → Bx
boxed_at X LX A LA g allocates drops = record { row = X; laws = LX; al = record { row = A; laws = LA; g = g; d = allocates; drops = drops } }

-- the arguments of a call for the type, the allocator and the drop of the type
abbrev pub dropping : Bx → Dict → Args
dropping E drops = bounded (a_type ∷ a_type ∷ []) (E.row, (E.al.row, tt)) (dcons E.al.d (dcons E.al.drops (dcons drops dnil)))

pub ptr_typed : (at : Ptr) → T (has_ty ty_ptr (ptr_val at)) × WT (ptr_val at)
ptr_typed (block_ptr b o) = (tt, tt)
ptr_typed null_ptr = (tt, record { fits = lit< tt })

-- the row of parts
abbrev pub parts_row : Bx → RattleType
parts_row E = parts.the_row (R E) (P E) E.al.g

abbrev pub parts_word : Ptr → Val → Val
parts_word at hv = vstruct (vcons (ptr_val at) (vcons hv vnil))

pub parts_typed : (E : Bx) (at : Ptr) (hv : Val) → Fits E.al hv → T (has_ty (box_ty E) (parts_word at hv)) × WT (parts_word at hv)
parts_typed E (block_ptr b o) hv fits = box_typed E hv b o fits
parts_typed E null_ptr hv fits = (and_tt (has_ty (α E.al) hv) fits.0, (record { fits = lit< tt }, (fits.1, tt)))

module _ (E : Bx) {M : Type 1} {𝓤 : Ura M} {𝓛 : Logic 𝓤} {K : Type 0} {Γ : List (Item 𝓤)} {G : Goal 𝓤 𝓛.H} where
  pub parts_out : K → (d : (parts_row E).Denot) (vs : List Val)
      → ((hv : Val) → vs ≡ parts_word d.at hv ∷ [] → Fits E.al hv → Seq K 𝓛 (‵ (handle E d.alloc hv) ∷ ‵ (holds (token E.al d.alloc) (R E) d.at d.value) ∷ Γ) G)
      → Seq K 𝓛 (‵ ((parts_row E).own_val d vs) ∷ Γ) G
  parts_out t d vs go =
      fsplit t $ fpick t (λ us. fsplit t $ feq_l t (λ whole_is. fsplit t $ feq_l t (λ at_is. fsplit t $
      handle_tells E.al t d.alloc us.1.0 (λ hv handle_is fits. move t (1 ∷ []) $ drop t $
      go hv (whole_is ∙ (λ i. vstruct (of_list (at_is i ++ (handle_is i ++ []))) ∷ [])) fits))))

  pub parts_in : K → (d : (parts_row E).Denot) (hv : Val)
      → Step K 𝓛 (‵ ((parts_row E).own_val d (parts_word d.at hv ∷ [])) ∷ Γ) G (‵ (handle E d.alloc hv) ∷ ‵ (holds (token E.al d.alloc) (R E) d.at d.value) ∷ Γ) G
  parts_in t d hv = step (λ s.
      let w = parts_word d.at hv in
      nothing t $ move t (1 ∷ 0 ∷ []) $ fjoin t $ feq_i t (List Val) (ptr_val d.at ∷ []) (ptr_val d.at ∷ []) refl $ fjoin t $
      feq_i t (List Val) (w ∷ []) (w ∷ []) refl $ fjoin t $
      fpack t (Valss (RawPtr ∷ P E ∷ [])) (within (shape (parts.the_type (R E) (P E) E.al.g)) (d.at, (d.alloc, tt)) (w ∷ [])) (ptr_val d.at ∷ [], (hv ∷ [], tt)) $ fjoin t $ s)
