use Rattle.std.proofs.Common.{◌≡◌, ◌<◌, ◌^◌, arith, subst}
use Rattle.std.specs.Prelude.{IsTrue}
use Rattle.indexset_events.proofs.CallerLemmas.{on_ok_map}
use Rattle.indexset_follow.specs.Follow.{start_state, state_after}
use Rattle.indexset_journal.specs.Kept.{texts}
use Rattle.indexset_keep.specs.Keep.{Leads, MayLead}
use Rattle.indexset_keep.specs.Map.{first_map, map_held}
use Rattle.indexset_keep.specs.Roles.{settled}
use Rattle.indexset_keep.proofs.Runs.{on_err}
use Rattle.indexset_keep.proofs.Started.{all_behind, all_named, if_err_map, map_is, map_is_sound, role_is, role_same, role_sound, role_whole, some_at_first, some_behind, some_kept, some_named}
use Rattle.indexset_keep.proofs.Starts.{first_same}
use Rattle.indexset_keep.proofs.run.run.Goals as goal

pub returns-in_err-follower-clause-some : goal.returns-in_err-follower-clause-some
returns-in_err-follower-clause-some g c =
    let m = c.args.manner in
    on_err _ _ (λ fault.
    some_at_first g.T.Ord.cmp g.T.Item.texts _ _ (first_map g.T.Ord.cmp g.T.Item.texts m (texts c.args.lines.now)) _ _
    _ _ _ _ _
    (first_same m.size m.window m.leads
    (state_after g.T.Ord.cmp g.T.Item.texts (start_state 0) (texts c.args.lines.now))))

pub returns-in_err-role-clause-some : goal.returns-in_err-role-clause-some
returns-in_err-role-clause-some g c =
    let m = c.args.manner in
    on_err _ _ (λ fault.
    some_at_first g.T.Ord.cmp g.T.Item.texts _ _ (first_map g.T.Ord.cmp g.T.Item.texts m (texts c.args.lines.now)) _ _
    _ _ _ _ _
    (first_same m.size m.window m.leads
    (state_after g.T.Ord.cmp g.T.Item.texts (start_state 0) (texts c.args.lines.now))))

pub returns-in_err-shorten-clause-some : goal.returns-in_err-shorten-clause-some
returns-in_err-shorten-clause-some g c =
    let m = c.args.manner in
    let lines = texts c.args.lines.now in
    let from = state_after g.T.Ord.cmp g.T.Item.texts (start_state 0) lines in
    let read = c.in_ok-follower.ensures.follower in
    let began = c.in_ok-role.ensures.role in
    let few : m.size < 2 ^ 64 = omega (arith, c.node_size-size.ensures.value, c.node_size-size.type_inv) in
    let sound = role_sound g.T.Ord.cmp g.T.Item.texts g.met.T.Ord.total g.met.T.Token.tokens m lines c.in_ok-follower.follower c.in_ok-role.role read began few c.in_ok-role.ensures.fits in
    let same = role_same g.T.Ord.cmp g.T.Item.texts g.met.T.Ord.total g.met.T.Token.tokens m lines c.in_ok-follower.follower c.in_ok-role.role read began in
    let is = role_is g.T.Ord.cmp g.T.Item.texts g.met.T.Ord.total g.met.T.Token.tokens m lines c.in_ok-follower.follower c.in_ok-role.role read began in
    let led =
    subst (λ r.
    MayLead g.T.Ord.cmp g.T.Item.texts g.S.Store.view g.S.Store.recovers c.args.kept.now.journal
    c.shorten.new.kept.journal from (settled r) (settled r))
    is (c.in_err-shorten.ensures.failed sound from same) in
    on_err _ _ (λ fault. some_kept g.T.Ord.cmp g.T.Item.texts _ _ (first_map g.T.Ord.cmp g.T.Item.texts m lines) _ _ _ _ _ _ _ _ led)

pub answer-requires : goal.answer-requires
answer-requires g c =
    let m = c.args.manner in
    let few : m.size < 2 ^ 64 = omega (arith, c.node_size-size.ensures.value, c.node_size-size.type_inv) in
    map_is_sound g.T.Ord.cmp g.T.Item.texts g.met.T.Ord.total g.met.T.Token.tokens m (texts c.args.lines.now)
    c.in_ok-follower.follower c.in_ok-role.role c.in_ok-follower.ensures.follower c.in_ok-role.ensures.role few
    c.in_ok-role.ensures.fits (map_held c.in_role-map.result) c.in_role-map.ensures.held

pub returns-clause-all : goal.returns-clause-all
returns-clause-all g c =
    let m = c.args.manner in
    let lines = texts c.args.lines.now in
    let from = state_after g.T.Ord.cmp g.T.Item.texts (start_state 0) lines in
    let read = c.in_ok-follower.ensures.follower in
    let began = c.in_ok-role.ensures.role in
    let few : m.size < 2 ^ 64 = omega (arith, c.node_size-size.ensures.value, c.node_size-size.type_inv) in
    let sound = role_sound g.T.Ord.cmp g.T.Item.texts g.met.T.Ord.total g.met.T.Token.tokens m lines c.in_ok-follower.follower c.in_ok-role.role read began few c.in_ok-role.ensures.fits in
    let whole : IsTrue c.is_settled-is_whole.result → from ≡ settled c.in_ok-role.role =
    λ yes.
    role_whole g.T.Ord.cmp g.T.Item.texts g.met.T.Ord.total g.met.T.Token.tokens m lines c.in_ok-follower.follower
    c.in_ok-role.role read began (c.is_settled-is_whole.ensures.coming yes)
    (c.is_settled-is_whole.ensures.done yes) in
    let is = role_is g.T.Ord.cmp g.T.Item.texts g.met.T.Ord.total g.met.T.Token.tokens m lines c.in_ok-follower.follower c.in_ok-role.role read began in
    let first =
    subst (λ r.
    Leads g.T.Ord.cmp g.T.Item.texts g.S.Store.view g.S.Store.recovers c.args.kept.now.journal
    c.shorten.new.kept.journal from (settled r))
    is (c.in_ok-shorten.ensures.leads sound from whole) in
    let map =
    map_is g.T.Ord.cmp g.T.Item.texts g.met.T.Ord.total g.met.T.Token.tokens m lines c.in_ok-follower.follower
    c.in_ok-role.role read began (map_held c.in_role-map.result) c.in_role-map.ensures.held in
    on_ok_map c.answer.result c.answer.ensures.all (λ a.
    all_behind g.T.Ord.cmp g.T.Item.texts _ _ (first_map g.T.Ord.cmp g.T.Item.texts m lines) _ _ _ from _ _ _ _ _ _
    first
    (all_named g.T.Ord.cmp g.T.Item.texts m.voice c.in_role-map.result.voice
    (first_map g.T.Ord.cmp g.T.Item.texts m lines) (map_held c.in_role-map.result) _ _ _ _ _ _ _ _
    c.in_role-map.ensures.voice map a))

pub returns-clause-some : goal.returns-clause-some
returns-clause-some g c =
    let m = c.args.manner in
    let lines = texts c.args.lines.now in
    let from = state_after g.T.Ord.cmp g.T.Item.texts (start_state 0) lines in
    let read = c.in_ok-follower.ensures.follower in
    let began = c.in_ok-role.ensures.role in
    let few : m.size < 2 ^ 64 = omega (arith, c.node_size-size.ensures.value, c.node_size-size.type_inv) in
    let sound = role_sound g.T.Ord.cmp g.T.Item.texts g.met.T.Ord.total g.met.T.Token.tokens m lines c.in_ok-follower.follower c.in_ok-role.role read began few c.in_ok-role.ensures.fits in
    let whole : IsTrue c.is_settled-is_whole.result → from ≡ settled c.in_ok-role.role =
    λ yes.
    role_whole g.T.Ord.cmp g.T.Item.texts g.met.T.Ord.total g.met.T.Token.tokens m lines c.in_ok-follower.follower
    c.in_ok-role.role read began (c.is_settled-is_whole.ensures.coming yes)
    (c.is_settled-is_whole.ensures.done yes) in
    let is = role_is g.T.Ord.cmp g.T.Item.texts g.met.T.Ord.total g.met.T.Token.tokens m lines c.in_ok-follower.follower c.in_ok-role.role read began in
    let first =
    subst (λ r.
    Leads g.T.Ord.cmp g.T.Item.texts g.S.Store.view g.S.Store.recovers c.args.kept.now.journal
    c.shorten.new.kept.journal from (settled r))
    is (c.in_ok-shorten.ensures.leads sound from whole) in
    let map =
    map_is g.T.Ord.cmp g.T.Item.texts g.met.T.Ord.total g.met.T.Token.tokens m lines c.in_ok-follower.follower
    c.in_ok-role.role read began (map_held c.in_role-map.result) c.in_role-map.ensures.held in
    if_err_map c.answer.result c.answer.ensures.some (λ fault a.
    some_behind g.T.Ord.cmp g.T.Item.texts _ _ (first_map g.T.Ord.cmp g.T.Item.texts m lines) _ _ _ from _ _ _ _ _ _
    first _
    (some_named g.T.Ord.cmp g.T.Item.texts m.voice c.in_role-map.result.voice
    (first_map g.T.Ord.cmp g.T.Item.texts m lines) (map_held c.in_role-map.result) _ _ _ _ _ _ _ _
    c.in_role-map.ensures.voice map _ a))
