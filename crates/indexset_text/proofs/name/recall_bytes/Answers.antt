use Rattle.std.proofs.Common.{◌<◌, sym, subst}
use Rattle.std.proofs.lemmas.Grind.{get_or_default_zero}
use Rattle.indexset_text.proofs.name.recall_bytes.Goals as goal

pub returns : goal.returns
returns c = λ k d low. subst (λ b. b < 256) (sym (get_or_default_zero c.args.bytes.now k d low)) (c.type_inv.bytes k).fits
