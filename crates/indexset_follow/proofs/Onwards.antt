-- Replaying the events of a command on the nodes before it gives those after it.
use Rattle.std.proofs.Common.{Some, ◌≡◌, ℕ, ◌+◌, ◌<◌, ◌≤◌, ◌^◌, List, [], ◌∷◌, ◌++◌, length, option_and_then, Ordering, refl, ap, sym, ◌∙◌, subst, arith, length-append}
use Rattle.std.below.core.specs.declared.int.u64.TheConstants.{MAX}
use Rattle.std.specs.Prelude.{unwrap_or}
use Rattle.indexset_bench.specs.PairCommand.{CommandFits}
use Rattle.indexset_bench.specs.Pairs.{PairTree, pair_events, pairs_after, told_events}
use Rattle.indexset_bench.specs.Told.{nodes_after, tree_after}
use Rattle.indexset_bench.specs.declared.pair_command.PairCommand.{PairCommand}
use Rattle.indexset_bench.specs.declared.pair_command.PairCommand.TheVariants.{Put, Cut, Nodes}
use Rattle.indexset_core.specs.Nodes.{concat, IsLawful}
use Rattle.indexset_core.specs.Pairs.{by_key, pair}
use Rattle.indexset_core.specs.declared.pair.Pair.{Pair}
use Rattle.indexset_core.proofs.CallerLemmas.{pairs_total}
use Rattle.indexset_events.specs.Replay.{numbered_from, replay, IsNumberedFrom}
use Rattle.indexset_events.specs.declared.change.ChangeEventUnassigned.{ChangeEventUnassigned}
use Rattle.indexset_events.specs.declared.change.ChangeEventUnassigned.TheVariants.{InsertAt, RemoveAt, CreateNode, RemoveNode, SplitNode, MergeNodes}
use Rattle.indexset_events.proofs.CallerLemmas.{Each, Leads, each-append, key_removal_leads, length-numbered, nodes_each, nothing_leads, numbered-append, numbered_is, put_leads, replay-append}
use Rattle.indexset_follow.specs.EventLine.{Event, EventFits}
use Rattle.indexset_bench.specs.Texts.{PairFits}
use Rattle.indexset_wire.specs.Texts.{Texts}
use Rattle.indexset_follow.proofs.Fits.{PlainFits, key_removal_fit, put_fit}
use Rattle.std.specs.Cmp.{IsTotalOrder}

module _ {T : Type 0} (cmp : T → T → Ordering) where
  abbrev pub order : Pair T T → Pair T T → Ordering
  order = by_key cmp

module _ {T : Type 0} (texts : Texts T) where
  -- ---- numbers

  -- events are in range if their numbers are
  numbered_fit : (s : ℕ) (es : List (ChangeEventUnassigned (Pair T T))) → s + length es ≤ MAX → Each (PlainFits texts) es → Each (EventFits texts) (numbered_from s es)
  numbered_fit s [] less h = tt
  numbered_fit s (InsertAt m v i ∷ es) less h = ((omega (arith, less), h.0.0, h.0.1, h.0.2), numbered_fit (s + 1) es (omega (arith, less)) h.1)
  numbered_fit s (RemoveAt m v i ∷ es) less h = ((omega (arith, less), h.0.0, h.0.1, h.0.2), numbered_fit (s + 1) es (omega (arith, less)) h.1)
  numbered_fit s (CreateNode m ∷ es) less h = ((omega (arith, less), h.0), numbered_fit (s + 1) es (omega (arith, less)) h.1)
  numbered_fit s (RemoveNode m ∷ es) less h = ((omega (arith, less), h.0), numbered_fit (s + 1) es (omega (arith, less)) h.1)
  numbered_fit s (SplitNode m k ∷ es) less h = ((omega (arith, less), h.0.0, h.0.1), numbered_fit (s + 1) es (omega (arith, less)) h.1)
  numbered_fit s (MergeNodes m w ∷ es) less h = ((omega (arith, less), h.0.0, h.0.1), numbered_fit (s + 1) es (omega (arith, less)) h.1)

module _ {T : Type 0} (cmp : T → T → Ordering) (texts : Texts T) where
  -- ---- a command

  -- the nodes of the map are lawful, and its numbers have at most 64 bits
  pub record Good (t : PairTree T) : Type 0 where
    pub two : 2 ≤ t.size
    pub few : t.size < 2 ^ 64
    pub lawful : IsLawful (order cmp) t.size t.nodes
    pub held : Each (PairFits texts) (concat t.nodes)

  -- replaying the events takes the first tree to the second, and the next number is the one after
  -- theirs
  pub record Onward (t after : PairTree T) (es : List (Event T)) : Type 0 where
    pub good : Good after
    pub replayed : replay (order cmp) t.nodes es ≡ Some after.nodes
    pub next : after.next ≡ t.next + length es
    pub numbered : IsNumberedFrom t.next es
    pub fits : after.next ≤ MAX → Each (EventFits texts) es

  tree_onward : (t : PairTree T) → Good t → (es : List (ChangeEventUnassigned (Pair T T)))
      → Leads (order cmp) (PairFits texts) t.size t.next t.nodes es → Each (PlainFits texts) es
      → Onward t (tree_after (order cmp) t es) (numbered_from t.next es)
  tree_onward t g es l plain =
      let made : nodes_after (order cmp) t.nodes t.next es ≡ l.after = ap (λ o. unwrap_or o t.nodes) l.replayed in
      record {
        good = record { two = g.two; few = g.few; lawful = subst (IsLawful (order cmp) t.size) (sym made) l.lawful; held = subst (λ q. Each (PairFits texts) (concat q)) (sym made) l.kept };
        replayed = l.replayed ∙ ap Some (sym made);
        next = omega (arith, length-numbered t.next es);
        numbered = numbered_is t.next es;
        fits = λ less. numbered_fit texts t.next es less plain;
      }

module _ {T : Type 0} (cmp : T → T → Ordering) (texts : Texts T) (total : IsTotalOrder cmp) where
  pub command_onward : (t : PairTree T) → Good cmp texts t → (c : PairCommand T) → CommandFits texts c → Onward cmp texts t (pairs_after cmp t c) (told_events cmp t c)
  command_onward t g (Put k v) fit =
      let ordered = pairs_total cmp total in
      let small = nodes_each (λ n. n ≤ t.size) t.nodes g.lawful.bounded in
      tree_onward cmp texts t g (pair_events cmp t (Put k v))
      (put_leads (order cmp) ordered (PairFits texts) t.size t.next g.two t.nodes g.lawful g.held (pair k v) fit)
      (put_fit cmp texts t.size g.few t.nodes small g.held (pair k v) fit)
  command_onward t g (Cut k) fit =
      let small = nodes_each (λ n. n ≤ t.size) t.nodes g.lawful.bounded in
      tree_onward cmp texts t g (pair_events cmp t (Cut k))
      (key_removal_leads cmp total (PairFits texts) t.size t.next g.two t.nodes g.lawful g.held k)
      (key_removal_fit cmp texts t.size g.few t.nodes small g.held k)
  command_onward t g Nodes fit =
      tree_onward cmp texts t g [] (nothing_leads (order cmp) (pairs_total cmp total) (PairFits texts) t.size t.next g.two t.nodes g.lawful g.held) tt

module _ {T : Type 0} (cmp : T → T → Ordering) (texts : Texts T) where
  pub still : (t : PairTree T) → Good cmp texts t → Onward cmp texts t t []
  still t g = record { good = g; replayed = refl; next = omega arith; numbered = λ i lt d. absurd (omega (arith, lt)); fits = λ less. tt }

  pub both_onward : (t mid after : PairTree T) (first rest : List (Event T)) → Onward cmp texts t mid first → Onward cmp texts mid after rest → Onward cmp texts t after (first ++ rest)
  both_onward t mid after first rest a b = record {
    good = b.good;
    replayed = replay-append (order cmp) t.nodes first rest ∙ (ap (option_and_then (λ m. replay (order cmp) m rest)) a.replayed ∙ b.replayed);
    next = omega (arith, a.next, b.next, length-append first rest);
    numbered = numbered-append t.next first rest a.numbered (subst (λ n. IsNumberedFrom n rest) a.next b.numbered);
    fits = λ less. each-append (EventFits texts) first rest (a.fits (omega (arith, less, b.next))) (b.fits less);
  }
