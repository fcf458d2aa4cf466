-- Replaying the events of a leader gives its nodes, and a follower that applied them can take over.
use Rattle.std.proofs.Common.{Option, None, Some, ◌≡◌, ℕ, ◌<◌, ◌≤◌, ◌^◌, Bool, true, false, ◌&&◌, ◌||◌, not, cond, List, [], ◌∷◌, ◌++◌, length, refl, ap, sym, ◌∙◌, subst, arith}
use lib.Chars.{codes}
use Rattle.std.proofs.lemmas.List.{take_all}
use Rattle.std.proofs.lemmas.List.Elements.{All-head, All-tail}
use Rattle.std.proofs.lemmas.Slice.Eq.{bytes_eq-Decides}
use Rattle.std.specs.List.{All}
use Rattle.std.specs.Option.{option_map_or}
use Rattle.indexset_lines.specs.Run.{left_by, replies_to}
use Rattle.indexset_bench.specs.PairCommand.{CommandFits, pair_meaning}
use Rattle.indexset_bench.specs.Pairs.{PairTree, pairs_after, told_events}
use Rattle.indexset_core.specs.Pairs.{by_key}
use Rattle.indexset_events.specs.Attach.{nodes_refusal}
use Rattle.indexset_events.specs.Nodes.{is_filled}
use Rattle.indexset_events.specs.Replay.{replay}
use Rattle.indexset_wire.specs.Parts.Laws.{some_inj}
use Rattle.indexset_events.proofs.CallerLemmas.{lawful_taken, none_lawful}
use Rattle.indexset_log.specs.Tree.{fresh}
use Rattle.indexset_follow.specs.Copy.{copy}
use Rattle.indexset_follow.specs.Drawn.{HoldsFirst}
use Rattle.indexset_follow.specs.Echo.{command_of}
use Rattle.indexset_follow.specs.EventLine.{Event}
use Rattle.indexset_follow.specs.Follow.{State, holding}
use Rattle.indexset_follow.specs.Leading.{after_leading, done_of, events_led, leader_after, leader_of, leading_events, tree_of}
use Rattle.indexset_follow.specs.Query.{query_of}
use Rattle.indexset_follow.specs.Reply.{reply_ended}
use Rattle.indexset_follow.specs.Store.{after_held, held, held_after, held_replies, after_in_role, is_follow, is_lead, lead_reply, promoted, starts}
use Rattle.indexset_follow.specs.declared.echo.Command.{Command}
use Rattle.indexset_follow.specs.declared.leader.Leader.{Leader}
use Rattle.indexset_follow.specs.declared.others.Voice.{Voice}
use Rattle.indexset_follow.specs.declared.reads.query.Query.{Query}
use Rattle.indexset_follow.specs.declared.reply.Reply.TheVariants as reply
use Rattle.indexset_follow.specs.declared.role.Role.TheVariants as role
use Rattle.indexset_follow.proofs.Echoes.{command_fits}
use Rattle.indexset_follow.proofs.Onwards.{Good, Onward, both_onward, command_onward, order, still}
use Rattle.std.specs.declared.cmp.Ordering.{Ordering}
use Rattle.indexset_wire.specs.Texts.{AreTokens, Texts}
use Rattle.std.specs.Cmp.{IsTotalOrder}

module _ {T : Type 0} (cmp : T → T → Ordering) (texts : Texts T) (total : IsTotalOrder cmp) (spelled : AreTokens texts) where
  -- ---- lines of a leader

  pub leading_onward : (t : PairTree T) → Good cmp texts t → (line : List ℕ) → Onward cmp texts t (after_leading cmp texts t line) (leading_events cmp texts t line)
  leading_onward t g line = at (query_of texts line) (command_of texts line) (command_fits texts spelled line)
    where
      at : (q : Option (Query T)) (o : Option (Command T)) → ((c : Command T) → o ≡ Some c → CommandFits texts c.change)
          → Onward cmp texts t
          (option_map_or {U = PairTree T} (λ q. t) q
          (option_map_or {U = PairTree T} (λ c. pairs_after cmp t c.change) o t))
          (option_map_or {U = List (Event T)} (λ q. []) q
          (option_map_or {U = List (Event T)} (λ c. told_events cmp t c.change) o []))
      at (Some q) o fit = still cmp texts t g
      at None None fit = still cmp texts t g
      at None (Some c) fit = command_onward cmp texts total t g c.change (fit c refl)

  pub lines_led : (t : PairTree T) → Good cmp texts t → (lines : List (List ℕ)) → Onward cmp texts t (tree_of cmp texts t lines) (events_led cmp texts t lines)
  unfolding left_by events_led
  lines_led t g [] = still cmp texts t g
  lines_led t g (line ∷ lines) =
      let first = leading_onward t g line in
      both_onward cmp texts t (after_leading cmp texts t line)
      (tree_of cmp texts (after_leading cmp texts t line) lines) (leading_events cmp texts t line)
      (events_led cmp texts (after_leading cmp texts t line) lines) first
      (lines_led (after_leading cmp texts t line) first.good lines)

module _ {T : Type 0} (cmp : T → T → Ordering) (texts : Texts T) where
  -- a line does not change the node size
  size_kept : (t : PairTree T) (line : List ℕ) → (after_leading cmp texts t line).size ≡ t.size
  size_kept t line = at (query_of texts line) (command_of texts line)
    where
      at : (q : Option (Query T)) (o : Option (Command T)) → (option_map_or {U = PairTree T} (λ q. t) q (option_map_or {U = PairTree T} (λ c. pairs_after cmp t c.change) o t)).size ≡ t.size
      at (Some q) o = refl
      at None None = refl
      at None (Some c) = refl

  sizes_kept : (t : PairTree T) (lines : List (List ℕ)) → (tree_of cmp texts t lines).size ≡ t.size
  unfolding left_by
  sizes_kept t [] = refl
  sizes_kept t (line ∷ lines) = sizes_kept (after_leading cmp texts t line) lines ∙ size_kept t line

module _ {T : Type 0} (cmp : T → T → Ordering) (texts : Texts T) (total : IsTotalOrder cmp) (spelled : AreTokens texts) where
  module _ (size : ℕ) (two : 2 ≤ size) (few : size < 2 ^ 64) where
    fresh_good : Good cmp texts (fresh size)
    fresh_good = record { two = two; few = few; lawful = none_lawful (order cmp) size; held = tt }

    pub led : (lines : List (List ℕ)) → Onward cmp texts (fresh size) (tree_of cmp texts (fresh size) lines) (events_led cmp texts (fresh size) lines)
    led lines = lines_led cmp texts total spelled (fresh size) fresh_good lines

module _ {T : Type 0} (cmp : T → T → Ordering) (texts : Texts T) where
  -- ---- the roles

  -- a leader that receives `lead` stays the same
  word_still : (l : Leader T) (line : List ℕ) → line ≡ codes "lead" → l ≡ leader_after cmp texts l line
  unfolding pair_meaning
  word_still l line is = subst (λ text. l ≡ leader_after cmp texts l text) (sym is) refl

-- a leader that reads the line stays a leader
abbrev stays : List ℕ → Type 0
stays line = (starts line || is_follow line) ≡ false

module _ {T : Type 0} (cmp : T → T → Ordering) (texts : Texts T) where
  leader_line : (size w : ℕ) (l : Leader T) (line : List ℕ) → stays line → after_held cmp texts (held size w (role.Leading l)) line ≡ held size w (role.Leading (leader_after cmp texts l line))
  leader_line size w l line stay = at (is_lead line) (starts line) (is_follow line) (not (is_filled l.pairs.nodes)) refl stay
    where
      at : (b c d e : Bool) → is_lead line ≡ b → (c || d) ≡ false
          → held size w
          (cond b (role.Leading l)
          (cond d (role.Following (holding w (copy l.pairs.nodes l.pairs.next) l.done))
          (after_in_role cmp texts
          (cond (c && e) (role.Following (holding w (copy [] l.pairs.next) l.done)) (role.Leading l)) line)))
          ≡ held size w (role.Leading (leader_after cmp texts l line))
      at true c d e is none = ap (λ r. held size w (role.Leading r)) (word_still cmp texts l line ((bytes_eq-Decides line (codes "lead")).0 is))
      at false false false e is none = refl
      at false true d e is none = absurd (cc)
      at false false true e is none = absurd (cc)

  pub leader_lines : (size w : ℕ) (l : Leader T) (lines : List (List ℕ)) → All stays lines
      → held_after cmp texts (held size w (role.Leading l)) lines
      ≡ held size w (role.Leading (leader_of (tree_of cmp texts l.pairs lines) (done_of texts l.done lines)))
  unfolding left_by
  leader_lines size w l [] none = refl
  leader_lines size w l (line ∷ lines) none =
      ap (λ h. held_after cmp texts h lines) (leader_line size w l line (All-head stays line lines none)) ∙ leader_lines size w (leader_after cmp texts l line) lines (All-tail stays line lines none)

  -- a follower becomes the leader of its nodes
  module _ (size w : ℕ) (s : State T) (fits : nodes_refusal (by_key cmp) size s.held.nodes ≡ None) where
    pub takes_over : after_held cmp texts (held size w (role.Following s)) (codes "lead") ≡ held size w (role.Leading (leader_of (promoted size s.held) s.done))
    takes_over = rw fits refl

    pub told_so : lead_reply cmp size (role.Following s) ≡ reply_ended (reply.Next s.held.next)
    told_so = rw fits refl

    pub answers_on : (v : Voice) (lines : List (List ℕ))
        → held_replies cmp texts v (held size w (role.Following s)) (codes "lead" ∷ lines)
        ≡ reply_ended (reply.Next s.held.next)
        ++ held_replies cmp texts v (held size w (role.Leading (leader_of (promoted size s.held) s.done))) lines
    unfolding replies_to
    answers_on v lines = λ i. told_so i ++ held_replies cmp texts v (takes_over i) lines

  -- and so the leader that has its nodes and its greatest command number
  module _ (w : ℕ) (l : Leader T) (s : State T) (holds : s.held ≡ copy l.pairs.nodes l.pairs.next) (knows : s.done ≡ l.done) (fits : nodes_refusal (by_key cmp) l.pairs.size l.pairs.nodes ≡ None) where
    fit_held : nodes_refusal (by_key cmp) l.pairs.size s.held.nodes ≡ None
    fit_held = subst (λ c. nodes_refusal (by_key cmp) l.pairs.size c.nodes ≡ None) (sym holds) fits

    same_leader : leader_of (promoted l.pairs.size s.held) s.done ≡ l
    same_leader = λ i. leader_of (promoted l.pairs.size (holds i)) (knows i)

    pub leads_as : after_held cmp texts (held l.pairs.size w (role.Following s)) (codes "lead") ≡ held l.pairs.size w (role.Leading l)
    leads_as = takes_over l.pairs.size w s fit_held ∙ ap (λ l'. held l.pairs.size w (role.Leading l')) same_leader

    pub answers_as : (v : Voice) (lines : List (List ℕ))
        → held_replies cmp texts v (held l.pairs.size w (role.Following s)) (codes "lead" ∷ lines)
        ≡ reply_ended (reply.Next l.pairs.next) ++ held_replies cmp texts v (held l.pairs.size w (role.Leading l)) lines
    answers_as v lines =
        answers_on l.pairs.size w s fit_held v lines
        ∙ (λ i. reply_ended (reply.Next (holds i).next)
        ++ held_replies cmp texts v (held l.pairs.size w (role.Leading (same_leader i))) lines)

module _ {T : Type 0} (cmp : T → T → Ordering) (texts : Texts T) (total : IsTotalOrder cmp) (spelled : AreTokens texts) where
  -- a follower that applied all events of a leader and has its greatest command number
  module _ (size : ℕ) (two : 2 ≤ size) (few : size < 2 ^ 64) (lines : List (List ℕ)) (s : State T)
      (holds : HoldsFirst cmp 0 [] (events_led cmp texts (fresh size) lines)
      (length (events_led cmp texts (fresh size) lines)) s)
      (knows : s.done ≡ done_of texts 0 lines) where
    abbrev tree : PairTree T
    tree = tree_of cmp texts (fresh size) lines

    abbrev events : List (Event T)
    events = events_led cmp texts (fresh size) lines

    ward : Onward cmp texts (fresh size) tree events
    ward = led cmp texts total spelled size two few lines

    same_nodes : s.held.nodes ≡ tree.nodes
    same_nodes = some_inj _ _ (sym holds.nodes ∙ ap (replay (order cmp) []) (take_all (length events) events (omega arith)) ∙ ward.replayed)

    same_next : s.held.next ≡ tree.next
    same_next = omega (arith, holds.next, ward.next)

    same_size : tree.size ≡ size
    same_size = sizes_kept cmp texts (fresh size) lines

    can : nodes_refusal (by_key cmp) size s.held.nodes ≡ None
    can =
        subst (λ ns. nodes_refusal (by_key cmp) size ns ≡ None) (sym same_nodes)
        (subst (λ n. nodes_refusal (by_key cmp) n tree.nodes ≡ None) same_size
        (lawful_taken (order cmp) tree.size tree.nodes ward.good.lawful))

    same_tree : promoted size s.held ≡ tree
    same_tree = λ i. record { nodes = same_nodes i; size = sym same_size i; next = same_next i }

    same_lead : leader_of (promoted size s.held) s.done ≡ leader_of tree (done_of texts 0 lines)
    same_lead = λ i. leader_of (same_tree i) (knows i)

    pub goes_on : (w : ℕ) → after_held cmp texts (held size w (role.Following s)) (codes "lead") ≡ held size w (role.Leading (leader_of tree (done_of texts 0 lines)))
    goes_on w = takes_over cmp texts size w s can ∙ ap (λ l. held size w (role.Leading l)) same_lead

    pub goes_on_answering : (w : ℕ) (v : Voice) (more : List (List ℕ))
        → held_replies cmp texts v (held size w (role.Following s)) (codes "lead" ∷ more)
        ≡ reply_ended (reply.Next s.held.next)
        ++ held_replies cmp texts v (held size w (role.Leading (leader_of tree (done_of texts 0 lines)))) more
    goes_on_answering w v more = answers_on cmp texts size w s can v more ∙ ap (λ l. reply_ended (reply.Next s.held.next) ++ held_replies cmp texts v (held size w (role.Leading l)) more) same_lead
