-- The effect of a line, by the kind of its command.
use Rattle.std.proofs.Common.{Option, None, Some, ◌≡◌, ◌≢◌, ℕ, ◌+◌, ◌==◌, Bool, true, false, cond, List, [], ◌∷◌, ◌++◌, length, Ordering, refl, ap}
use Rattle.std.specs.Option.{option_map, option_map_or}
use Rattle.indexset_core.specs.Pairs.{entry_of}
use Rattle.indexset_core.specs.declared.pair.Pair.{Pair}
use Rattle.indexset_bench.specs.declared.reply.Reply.{Reply}
use Rattle.indexset_bench.specs.declared.reply.Reply.TheVariants.{GoneValue, Nothing}
use Rattle.indexset_core.specs.Nodes.{node_at}
use Rattle.indexset_core.specs.Order.{has_equal, rank}
use Rattle.indexset_events.specs.Nodes.{is_filled}
use Rattle.indexset_events.specs.Table.{halving_events, node_events, part_for, put_events, replace_events, target, target_events}
use Rattle.indexset_bench.specs.Command.{meaning}
use Rattle.indexset_bench.specs.PairCommand.{pair_meaning}
use Rattle.indexset_bench.specs.Pairs.{PairTree, pair_reply, pairs_after, reply_ended}
use Rattle.indexset_bench.specs.Reply.{AddsNew, contents_after, reply_to}
use Rattle.std.specs.Ordering.{nat_cmp}
use Rattle.indexset_wire.specs.Texts.{number_texts}
use Rattle.indexset_bench.specs.Text.{Changes, reply_line, stores, stores_after}

-- ---- a put has an event

append_some : {X : Type 0} (xs ys : List X) → ys ≢ [] → xs ++ ys ≢ []
append_some [] ys some e = some e
append_some (x ∷ xs) ys some e = cc

module _ {T : Type 0} (cmp : T → T → Ordering) where
  replace_some : (n : List T) (v : T) → replace_events cmp n v ≢ []
  unfolding replace_events
  replace_some n v = at (length n == 1) (rank cmp n v + 1 == length n) _ _ _ _ _ _
    where
      at : (a b : Bool) {X : Type 0} (x y z w p q : X) → cond a (x ∷ y ∷ []) (cond b (z ∷ w ∷ []) (p ∷ q ∷ [])) ≢ []
      at true b x y z w p q e = cc
      at false true x y z w p q e = cc
      at false false x y z w p q e = cc

  node_some : (n : List T) (v : T) → node_events cmp n v ≢ []
  unfolding node_events
  node_some n v = at (has_equal cmp n v) _ (replace_some n v)
    where
      at : (b : Bool) {X : Type 0} {l : List X} (x : X) → l ≢ [] → cond b l (x ∷ []) ≢ []
      at true x some e = some e
      at false x some e = cc

  pub put_some : (size : ℕ) (ns : List (List T)) (v : T) → put_events cmp size ns v ≢ []
  unfolding put_events target_events
  put_some size ns v = at (is_filled ns) _ (append_some (halving_events size (node_at ns (target cmp ns v)) v) _ (node_some (part_for cmp size (node_at ns (target cmp ns v)) v) v))
    where
      at : (b : Bool) {X : Type 0} {l : List X} (x : X) → l ≢ [] → cond b l (x ∷ []) ≢ []
      at true x some e = some e
      at false x some e = cc

-- ---- the reply to a cut

pub gone_reply : {T : Type 0} (o : Option (Pair T T))
    → option_map_or {U = Reply T} (λ entry. GoneValue entry.1) (option_map entry_of o) Nothing
    ≡ option_map_or GoneValue (option_map (λ p. p.value) o) Nothing
gone_reply None = refl
gone_reply (Some p) = refl

-- ---- a line of either kind

module _ (s : List ℕ) (t : PairTree ℕ) (line : List ℕ) where
  module _ (e : pair_meaning number_texts line ≡ None) where
    pub numbers_reply : reply_line (stores s t) line ≡ reply_ended number_texts (reply_to s (meaning line))
    numbers_reply = ap (λ o. option_map_or (pair_reply nat_cmp number_texts t) o (reply_ended number_texts (reply_to s (meaning line)))) e

    pub numbers_left : stores_after (stores s t) line ≡ stores (contents_after s (meaning line)) t
    numbers_left = ap (λ o. option_map_or (λ d. stores s (pairs_after nat_cmp t d)) o (stores (contents_after s (meaning line)) t)) e

    pub numbers_change : AddsNew s (meaning line) → Changes (stores s t) line
    numbers_change added = rw e added
