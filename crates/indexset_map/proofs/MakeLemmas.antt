-- Entries and their pairs.
use Rattle.std.proofs.Common.{◌≡◌, List, map, Ordering, arith, sym, subst}
use Rattle.std.proofs.Math.ListN.{get_or-map}
use Rattle.std.proofs.lemmas.List.{length-map}
use Rattle.indexset_core.specs.declared.pair.Pair.{Pair}
use Rattle.indexset_core.specs.Order.{IsAscending}
use Rattle.indexset_core.specs.Pairs.{by_key, entry_of}

pub paired_ascending : {K V : Type 0} (cmp : K → K → Ordering) (l : List (Pair K V)) (es : List (K × V)) → map entry_of l ≡ es → IsAscending (λ e f. cmp e.0 f.0) es → IsAscending (by_key cmp) l
paired_ascending cmp l es is up i j d lt inside =
    let ups = subst (IsAscending (λ (e : _ × _) (f : _ × _). cmp e.0 f.0)) (sym is) up in
    rw (get_or-map entry_of l i d, get_or-map entry_of l j d) at (ups i j (entry_of d) lt (omega (arith, inside, length-map l entry_of)))
