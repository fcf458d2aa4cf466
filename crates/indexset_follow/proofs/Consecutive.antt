-- The lines of events with consecutive numbers.
use Rattle.std.proofs.Common.{◌≡◌, ◌≢◌, Option, None, Some, ℕ, ◌+◌, ◌-◌, ◌≤◌, Bool, true, false, not, eqb, List, [], ◌∷◌, ◌++◌, map, refl, sym, append_assoc, append-nil, arith}
use Rattle.std.proofs.lemmas.Bool.{eq-eqb, eqb-true, ne_eqb}
use Rattle.std.specs.Option.{SomeIff, option_eq}
use Rattle.indexset_bench.specs.PairText.{event_text}
use Rattle.indexset_core.specs.declared.pair.Pair.{Pair}
use Rattle.indexset_follow.specs.Early.{EarlyEvents, consecutive}
use Rattle.indexset_follow.specs.EventLine.{Event}
use Rattle.indexset_wire.specs.Texts.{Texts}

module _ {T : Type 0} (texts : Texts T) where
  module _ (done : List (List ℕ)) (n : ℕ) (p : Pair ℕ (Event T)) (rest : EarlyEvents T) where
    -- the first event has the next number, and its line is appended to those so far
    pub line_more : p.key ≡ n → done ++ map (event_text texts) (consecutive n (p ∷ rest)) ≡ (done ++ event_text texts p.value ∷ []) ++ map (event_text texts) (consecutive (n + 1) rest)
    line_more here = rw (eq-eqb p.key n here) (sym (append_assoc done (event_text texts p.value ∷ []) (map (event_text texts) (consecutive (n + 1) rest))))

    -- the first event has another number, and the lines so far are all
    pub no_more : p.key ≢ n → done ++ map (event_text texts) (consecutive n (p ∷ rest)) ≡ done
    no_more other = rw (ne_eqb p.key n other) (append-nil done)

-- the difference of two numbers
pub number_ahead : (o : Option ℕ) (a b n : ℕ) → SomeIff o (b ≤ a) (a - b) → false ≡ not (option_eq eqb o (Some n)) → a ≡ b + n
number_ahead None a b n less same = absurd (cc)
number_ahead (Some m) a b n less same = let is = eqb-true m n (tested (eqb m n) same) in omega (arith, less.0, less.1, is)
  where
    tested : (t : Bool) → false ≡ not t → t ≡ true
    tested true e = refl
    tested false e = absurd (cc)
