use Rattle.std.proofs.Common.{rules, ◌≡◌, ◌∙◌, ◌+◌, ◌∷◌, ap, arith, map, sym, take}
use Rattle.std.proofs.lemmas.List.{take-map}
use Rattle.indexset_bench.specs.PairText.{event_text}
use Rattle.indexset_events.specs.Replay.{event_number}
use Rattle.indexset_follow.specs.Early.{consecutive}
use Rattle.indexset_follow.proofs.EventLines.{event_sound}
use Rattle.indexset_journal.specs.Kept.{texts}
use Rattle.indexset_keep.specs.Followed.{step_count}
use Rattle.indexset_keep.proofs.Steps.{kept_in_turn, none_at_last}
use Rattle.indexset_keep.proofs.followed.steps.Goals as goal

pub returns-in_default-clause-tells : goal.returns-in_default-clause-tells
returns-in_default-clause-tells g c =
    let s = c.args.follower.now in
    let here : event_number c.args.event.now ≡ s.held.next = search rules in
    let next : c.next-next.result ≡ s.held.next = c.next-next.ensures in
    sym (none_at_last g.T.Ord.cmp g.T.Item.texts s c.args.event.now here (let few = c.next-next.type_inv in let more = c.in_default.ensures in omega (arith, few, more, next)))

pub returns-clause-tells : goal.returns-clause-tells
returns-clause-tells g c =
    let s = c.args.follower.now in
    let e = c.args.event.now in
    let here : event_number e ≡ s.held.next = search rules in
    let told = (event_sound g.T.Item.texts g.met.T.Token.tokens c.args.line.now e c.requires).0 in
    let first : c.in_ok-first.first.items ≡ c.args.line.now = search rules in
    let all : c.insert.new.self.items ≡ c.in_ok-first.first ∷ c.in_ok-lines.lines.items = search rules in
    let second : c.in-Some.second ≡ s.held.next + 1 = search rules in
    let rest : texts c.in_ok-lines.lines.items
    ≡ map (event_text g.T.Item.texts) (consecutive (s.held.next + 1) s.early) =
    c.in_ok-lines.ensures.lines ∙ ap (λ n. map (event_text g.T.Item.texts) (consecutive n s.early)) second in
    ap (λ ls. take (step_count g.T.Ord.cmp s e) (texts ls)) all
    ∙ (λ i. take (step_count g.T.Ord.cmp s e) ((first ∙ told) i ∷ rest i))
    ∙ take-map (event_text g.T.Item.texts) (step_count g.T.Ord.cmp s e) (e ∷ consecutive (s.held.next + 1) s.early)
    ∙ sym (kept_in_turn g.T.Ord.cmp g.T.Item.texts s e here)
