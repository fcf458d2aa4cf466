use Rattle.std.proofs.Common.{◌≡◌, false, sym}
use Rattle.std.specs.Ordering.{is_lt}
use Rattle.std.proofs.lemmas.List.Elements.{All-map}
use Rattle.indexset_spine.specs.NodeList.{items}
use Rattle.indexset_map.proofs.KeyLemmas.{value_held}
use Rattle.indexset_map.proofs.RangeLemmas.{no_keys_passing}
use Rattle.indexset_map.proofs.BTreeMap.first_key_value.Goals as goal

pub returns-clause-least : goal.returns-clause-least
returns-clause-least g c =
    rw (← c.self.view_is) (no_keys_passing (λ x. is_lt (g.K.Ord.cmp x _)) (items c.self.inside.set) (c.in_ok-pair.ensures {u = tt}).least)

pub returns-clause-held : goal.returns-clause-held
returns-clause-held g c =
    let pair = c.in_ok-pair.ensures {u = tt} in
    rw (← c.self.view_is) (value_held g.K.Ord.cmp g.met.K.Ord.total (items c.self.inside.set) c.recall_order.ensures.ascending _ _ (sym pair.element) pair.held)

pub returns-clause-all_from : goal.returns-clause-all_from
returns-clause-all_from g c =
    rw (← c.self.view_is) (All-map (λ k. is_lt (g.K.Ord.cmp k c.in_ok-pair.pair.now.key) ≡ false) (λ p. p.key) (items c.self.inside.set) (c.in_ok-pair.ensures {u = tt}).all_from)
