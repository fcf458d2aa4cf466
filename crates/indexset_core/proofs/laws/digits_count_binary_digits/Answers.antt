use Rattle.indexset_core.proofs.DigitsLemmas.{digits-zero, digits-least, digits-most}
use Rattle.indexset_core.proofs.laws.digits_count_binary_digits.Goals as goal

pub returns-clause-none : goal.returns-clause-none
returns-clause-none c = digits-zero

pub returns-clause-least : goal.returns-clause-least
returns-clause-least c = digits-least

pub returns-clause-most : goal.returns-clause-most
returns-clause-most c = digits-most
