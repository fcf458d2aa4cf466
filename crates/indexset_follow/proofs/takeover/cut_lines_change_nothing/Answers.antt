use Rattle.std.proofs.Common.{◌≡◌, Bool, true, false, cond, None, List, ℕ, [], refl}
use Rattle.std.specs.declared.cmp.Ordering.{Ordering}
use Rattle.indexset_wire.specs.Texts.{Texts}
use Rattle.indexset_follow.specs.Query.{query_of}
use Rattle.indexset_follow.specs.Store.{cut_in_role}
use Rattle.indexset_follow.specs.Reply.{others_text}
use Rattle.indexset_follow.specs.declared.others.Others.TheVariants.{Pass}
use Rattle.indexset_follow.specs.declared.others.Voice.{Voice}
use Rattle.indexset_follow.specs.declared.role.Role.{Role}
use Rattle.indexset_follow.specs.declared.role.Role.TheVariants.{Following, Leading}
use Rattle.indexset_follow.proofs.Cut.{all_held, cut_answered, held_whole}
use Rattle.indexset_follow.proofs.takeover.cut_lines_change_nothing.Goals as goal

module _ {T : Type 0} (cmp : T → T → Ordering) (texts : Texts T) where
  silent : (v : Voice) (r : Role T) (rest : List ℕ) → v.others ≡ Pass → query_of texts rest ≡ None → cut_in_role cmp texts v r rest ≡ []
  silent v (Following s) rest pass none = rw (none, pass) (silent_at v.is_quiet)
    where
      silent_at : (quiet : Bool) → others_text (cond quiet Pass Pass) ≡ []
      silent_at true = refl
      silent_at false = refl
  silent v (Leading l) rest pass none = rw (none, pass) refl

pub returns-clause-held : goal.returns-clause-held
returns-clause-held g c = λ size w leads whole rest is_whole none. held_whole g.T.Ord.cmp g.T.Item.texts size w leads whole is_whole rest none

pub returns-clause-all_held : goal.returns-clause-all_held
returns-clause-all_held g c = λ size w leads whole is_whole. all_held g.T.Ord.cmp g.T.Item.texts size w leads whole is_whole

pub returns-clause-told : goal.returns-clause-told
returns-clause-told g c = λ v size w leads whole rest is_whole none some. cut_answered g.T.Ord.cmp g.T.Item.texts size w leads whole is_whole v rest none some

pub returns-clause-silent : goal.returns-clause-silent
returns-clause-silent g c = λ v h rest pass none. silent g.T.Ord.cmp g.T.Item.texts v h.role rest pass none
