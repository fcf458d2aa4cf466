-- What the proofs by hand share of functions that lend a pair as an `Option`, which the borrow
-- checker does not cover: a test is asked first, of the lender lent again for a lifetime within the
-- old one, and then the pair is borrowed mutably as it is. Crates above this one may cite it.
use Rattle.std.proofs.Common.{◌≡◌, ℕ, ◌<◌, Bool, true, false, T, not, nat_lt, refl, sym, ◌∙◌, arith}
use Rattle.std.proofs.lemmas.Bool.Decides.{nat_tests}
pub use Rattle.std.proofs.VecSteps.Element.{Some-of, none_of}
pub use Rattle.std.proofs.VecSteps.Shapes.{after}
pub use Rattle.std.proofs.raw_atomic.Walks.{proved, leaves}
pub use base.Fml.{ftrue, flft, fdead, fres, Lft, GName}
pub use base.Fraction.{full_share}
pub use base.FractionLaws.{common}
pub use base.Logic.{SProp, emp, id⊢, sep, wand, apply∗}
pub use contract.BorrowLft.{◌⊑◌}
pub use contract.Lifetimes.{Lfts}
pub use contract.Monad.{fact, fact_i}
pub use contract.Running.{tables}
pub use denote.Builtin.{RefMutOf, bool}
pub use denote.Exit.{no}
pub use denote.Laws.{Is, shows}
pub use denote.Lend.{LentAgain, lends_again, comes_back}
pub use denote.Param.{param, bounded}
pub use denote.RattleType.{RattleType, owns}
pub use denote.Ref.{MutRef, ShrRef, MutBor, mut_vals, mut_Tells}
pub use denote.Signature.{types_at, plain, named_lft}
pub use denote.Steps.{nothing, only, peeks, heard}
pub use denote.Struct.Tuple.{Tuple}
pub use denote.Triple.Call.{calls_at}
pub use denote.Triple.Clauses.{lasts}
pub use denote.Triple.Spec.{triple_of}
pub use denote.Triple.Table.{framed}
pub use denote.Triple.Walked.{Stays, stay_dropped, walk_of, Goes-spent_ref}
pub use mathlib.Core.List.{mem-append_left, mem-append_right}
pub use mir.MapTy.{inst_fn}
pub use mir.Syntax.{a_type, named, dcons, dnil}
pub use mir.Val.{Val, vptr, vstruct, vcons, vnil, of_list}
pub use types.ByLocal.{alloc_all, pass_all, free_all, look_at, get, through, sets, lands_as, env}
pub use types.Kit.{Item, ‵, raw, ◌⊛◌, some, later, at_ret, ◌$◌, ◌∵◌, !, qed, by, move, keep, drop, split, split3, join, fsplit, fsplit3, fjoin, pick, use0, use1, use2, use3, feq_l, await, rewrite}
pub use types.Match.{live}
pub use types.Part.{agg}
pub use types.Run.{stop, addr, lit, of_opd, no_more, and_then, first, branches, skips, exec, returns, returns_within, enter}
pub use types.Tokens.{lft_new, lft_end, lft-common}

-- a test and what it says
pub is_true : (b : Bool) → T b → b ≡ true
is_true false t = absurd t
is_true true t = refl

pub is_low : (a b : ℕ) (u : Bool) → u ≡ nat_lt a b → u ≡ true → a < b
is_low a b u e h = let t : nat_lt a b ≡ true = sym e ∙ h in grind (arith, nat_tests)

pub is_false : (b : Bool) → T (not b) → b ≡ false
is_false false t = refl
is_false true t = absurd t
