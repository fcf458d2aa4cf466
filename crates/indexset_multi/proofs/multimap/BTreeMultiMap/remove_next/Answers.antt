use Rattle.std.proofs.Common.{◌≡◌, ◌≤◌, Some, is_some, length, ap, sym, ◌∙◌, arith}
use Rattle.std.proofs.lemmas.Slice.Zip.{AllZip-long}
use Rattle.indexset_events.specs.Replay.{numbered_from}
use Rattle.indexset_log.specs.Tree.{refusal_for}
use Rattle.indexset_events.proofs.CallerLemmas.{length-numbered}
use Rattle.indexset_log.specs.PlaceRemoval.{placed_item}
use Rattle.indexset_multi.specs.Tree.{first_events, pair_removal_events}
use Rattle.indexset_multi.proofs.PairRemovalLemmas.{item_there, pair_removal_few, taken_count}
use Rattle.indexset_multi.proofs.multimap.BTreeMultiMap.remove_next.Goals as goal

pub returns-in_default-reserve-clause-refusal : goal.returns-in_default-reserve-clause-refusal
returns-in_default-reserve-clause-refusal g c =
    let cmp = g.K.Ord.cmp in
    let m = c.args.self.now in
    let next = ap (λ t. t.next) c.self.view_is in
    let count : length (first_events cmp g.Q.LookupKey.order m c.args.key.now) ≡ _ =
    ap (λ p. length (pair_removal_events cmp m.size m.nodes p)) (sym c.first_place.ensures.pair)
    ∙ taken_count cmp g.met.K.Ord.total c.self.view_is c.recall_invariant.ensures.tree c.in-Some.is
    c.first_place.ensures.place in
    c.removal_refusal.ensures ∙ (λ i. refusal_for (next i) (sym count i))

pub returns-in_default-reserve-clause-contains : goal.returns-in_default-reserve-clause-contains
returns-in_default-reserve-clause-contains g c =
    ap is_some (sym c.first_place.ensures.pair) ∙ item_there c.args.self.now.nodes c.first_place.result _ c.in-Some.is c.first_place.ensures.place

pub move_tail-requires-clause-room : goal.move_tail-requires-clause-room
move_tail-requires-clause-room g c =
    let m = c.args.self.now in
    let told = pair_removal_events g.K.Ord.cmp m.size m.nodes (placed_item m.nodes (Some (c.in-Some.node, c.in-Some.offset))) in
    let many : length c.in_ok-more.more.items ≡ length told = AllZip-long _ (numbered_from m.next told) c.in_ok-more.more.items c.in_ok-more.ensures.events ∙ length-numbered m.next told in
    let few : length told ≤ 3 = pair_removal_few g.K.Ord.cmp m.size m.nodes (placed_item m.nodes (Some (c.in-Some.node, c.in-Some.offset))) in
    let same = ap (λ l. length l) c.reserve.ensures.items in
    omega (arith, many, few, same, c.in-Ok.ensures.ok, c.in-Ok.ensures.len)

pub returns-clause-found : goal.returns-clause-found
returns-clause-found g c =
    sym (ap is_some (sym c.first_place.ensures.pair) ∙ item_there c.args.self.now.nodes c.first_place.result _ c.in-Some.is c.first_place.ensures.place)
