-- A node that is attached to a replica.
use Rattle.std.proofs.Common.{◌≡◌, ℕ, ◌-◌, true, false, List, length, get_or, insert, drop, slice_get, Option, Some, None, Ordering, refl, ap, sym, ◌∙◌, subst, arith}
use Rattle.std.specs.Cmp.{IsTotalOrder}
use Rattle.std.specs.List.{position_or_len}
use Rattle.std.specs.Option.{option_map_or}
use Rattle.std.specs.Ordering.{is_lt}
use Rattle.indexset_core.specs.Nodes.{concat, node_at, IsNodeList}
use Rattle.indexset_core.specs.declared.refusal.Refusal.TheVariants.{Overlaps}
use Rattle.indexset_events.specs.Attach.{attach_index, attach_refusal, lies_apart}
use Rattle.indexset_events.specs.Nodes.{is_ascending, last_of}
use Rattle.indexset_events.specs.Replay.{reaches}
use Rattle.indexset_events.proofs.CallerLemmas.{Attaches, Ruled, attaches_node, filled_first, last_answer, last_any, not_refused, refused_overlap, ruled_nodes}
use Rattle.indexset_replica.specs.Replica.{first_item}
use Rattle.indexset_replica.proofs.NodeSearchLemmas.{next_is}

-- k is the place of the node n, and the nodes with it are a node list
pub record GoesTo {T : Type 0} (cmp : T → T → Ordering) (ns : List (List T)) (n : List T) (k : ℕ) : Type 0 where
  pub place : k ≡ attach_index cmp ns n
  pub nodes : IsNodeList cmp (insert ns k n)
  pub good : attach_refusal cmp (length n) ns n ≡ None

-- a search among the nodes for the place of an ascending node, by its first item, ends at that
-- place
pub record IsPlaceFor {T : Type 0} (cmp : T → T → Ordering) (ns : List (List T)) (n : List T) (first : T) (k : ℕ) : Type 0 where
  pub rule : Ruled cmp ns
  pub head : slice_get n 0 ≡ Some first
  pub up : is_ascending cmp n ≡ true
  pub is : k ≡ position_or_len (reaches cmp first) ns

module _ {T : Type 0} (cmp : T → T → Ordering) (o : IsTotalOrder cmp) (ns : List (List T)) (n : List T) (first : T) (k : ℕ) (found : IsPlaceFor cmp ns n first k) where
  goes_to : (last : T) → Attaches cmp ns n first last → lies_apart cmp ns n ≡ true → GoesTo cmp ns n k
  goes_to last d apart = record {
    place = found.is ∙ sym d.index;
    nodes = subst (λ j. IsNodeList cmp (insert ns j n)) (d.index ∙ sym found.is) (ruled_nodes cmp _ (d.rule apart));
    good = not_refused cmp (length n) ns n (filled_first n first found.head) (omega arith) found.up apart;
  }

  -- whether the node can be inserted there, by the item that follows, if any
  module _ (last : T) (own : last ≡ get_or n (length n - 1) last) (s : Option T) (follows : first_item (concat (drop k ns)) ≡ s) where
    attaches : Attaches cmp ns n first last
    attaches = attaches_node cmp o ns found.rule n first last found.head own found.up

    apart_is : lies_apart cmp ns n ≡ option_map_or (λ x. is_lt (cmp last x)) s true
    apart_is =
        let d = attaches in
        d.apart ∙ ap (λ q. option_map_or (λ x. is_lt (cmp last x)) q true) (ap (λ j. first_item (node_at ns j)) (sym found.is) ∙ (sym (next_is ns found.rule.filled k) ∙ follows))

    pub goes : option_map_or (λ x. is_lt (cmp last x)) s true ≡ true → GoesTo cmp ns n k
    goes below = goes_to last attaches (apart_is ∙ below)

    pub overlaps : option_map_or (λ x. is_lt (cmp last x)) s true ≡ false → attach_refusal cmp (length n) ns n ≡ Some Overlaps
    overlaps other = refused_overlap cmp (length n) ns n (filled_first n first found.head) (omega arith) found.up (apart_is ∙ other)

  -- no node follows
  pub goes_last : first_item (concat (drop k ns)) ≡ None → GoesTo cmp ns n k
  goes_last none =
      let last = last_of n first in
      goes last (last_any n first last (filled_first n first found.head) ∙ last_answer n last) None none refl
