-- No reply to a command has a line end, and none is an event.
use Rattle.std.proofs.Common.{Option, None, Some, ◌≡◌, ◌≢◌, ℕ, ◌<◌, ◌^◌, List, ◌++◌, Ordering, refl, arith}
use lib.Chars.{codes}
use Rattle.std.proofs.lemmas.List.Elements.{All-append}
use Rattle.std.specs.Fmt.{decimal}
use Rattle.std.specs.Option.{option_map, option_map_or}
use Rattle.std.specs.Prelude.{IfSome}
use Rattle.indexset_lines.specs.Lines.{HasNoEnd}
use Rattle.indexset_bench.specs.Pairs.{PairTree, change_reply}
use Rattle.indexset_bench.specs.Reply.{reply_text}
use Rattle.indexset_bench.specs.declared.pair_command.PairCommand.{PairCommand}
use Rattle.indexset_bench.specs.declared.pair_command.PairCommand.TheVariants.{Put, Cut, Nodes}
use Rattle.indexset_bench.specs.declared.reply.Reply.{Reply}
use Rattle.indexset_bench.specs.declared.reply.Reply.TheVariants.{New, Old, OldValue, Gone, GoneValue, Yes, No, Count, Item, Nothing, Empty, Bad}
use Rattle.indexset_core.specs.Nodes.{concat}
use Rattle.indexset_core.specs.Pairs.{pair_of}
use Rattle.indexset_core.specs.declared.pair.Pair.{Pair}
use Rattle.indexset_follow.specs.EventLine.{Event, EventFits, event_of}
use Rattle.indexset_wire.specs.Parts.{cut_at}
use Rattle.indexset_bench.specs.Texts.{PairFits}
use Rattle.indexset_wire.specs.Texts.{AreTokens, Texts}
use Rattle.indexset_follow.specs.Passed.{ReplyFits}
use Rattle.indexset_follow.proofs.Fits.{each_found}
use Rattle.indexset_follow.proofs.Passing.{uncut}
use Rattle.indexset_follow.proofs.Onwards.{Good}
use Rattle.indexset_bench.proofs.CallerLemmas.{end_lacks, space_lacks}
use Rattle.indexset_wire.specs.Numbers.Laws.{number_lacks}
use Rattle.indexset_wire.specs.Parts.Laws.{Lacks, cut_told, lacks_tested}
use Rattle.indexset_follow.proofs.Readings.{end_apart, no_number, pair_lacks}

-- ---- no text has a line end

join : (a b : List ℕ) → Lacks 10 a → Lacks 10 b → Lacks 10 (a ++ b)
join a b first second = All-append (λ x. x ≢ 10) a b first second

space : Lacks 10 (codes " ")
space = lacks_tested 10 (codes " ") refl

number_whole : (n : ℕ) → n < 2 ^ 64 → Lacks 10 (decimal n)
number_whole n small = number_lacks 10 (omega arith) n small

module _ {T : Type 0} (texts : Texts T) (spelled : AreTokens texts) where
  pub reply_whole : (r : Reply T) → ReplyFits texts r → HasNoEnd (reply_text texts r)
  reply_whole New fit = lacks_tested 10 (codes "new") refl
  reply_whole Old fit = lacks_tested 10 (codes "old") refl
  reply_whole (OldValue v) fit = join (codes "old ") (texts.text v) (lacks_tested 10 (codes "old ") refl) (end_lacks texts spelled v fit)
  reply_whole Gone fit = lacks_tested 10 (codes "gone") refl
  reply_whole (GoneValue v) fit = join (codes "gone ") (texts.text v) (lacks_tested 10 (codes "gone ") refl) (end_lacks texts spelled v fit)
  reply_whole Yes fit = lacks_tested 10 (codes "yes") refl
  reply_whole No fit = lacks_tested 10 (codes "no") refl
  reply_whole (Count n) fit = number_whole n fit
  reply_whole (Item v) fit = end_lacks texts spelled v fit
  reply_whole Nothing fit = lacks_tested 10 (codes "none") refl
  reply_whole Empty fit = lacks_tested 10 (codes "empty") refl
  reply_whole Bad fit = lacks_tested 10 (codes "bad") refl

module _ {T : Type 0} (texts : Texts T) where
  -- ---- no reply is an event or a node

  word_alone : (word : List ℕ) → Lacks 32 word → event_of texts word ≡ None
  word_alone word lacks = let one = uncut 32 word lacks in rw one refl

module _ {T : Type 0} (texts : Texts T) (spelled : AreTokens texts) where
  pub reply_alone : (r : Reply T) → ReplyFits texts r → event_of texts (reply_text texts r) ≡ None
  reply_alone New fit = word_alone texts (codes "new") (lacks_tested 32 (codes "new") refl)
  reply_alone Old fit = word_alone texts (codes "old") (lacks_tested 32 (codes "old") refl)
  reply_alone (OldValue v) fit =
      let cut : cut_at 32 (codes "old " ++ texts.text v) ≡ Some (codes "old", texts.text v) = cut_told 32 (codes "old") (texts.text v) (lacks_tested 32 (codes "old") refl) in
      rw (cut, no_number 111 (codes "ld") (omega arith)) refl
  reply_alone Gone fit = word_alone texts (codes "gone") (lacks_tested 32 (codes "gone") refl)
  reply_alone (GoneValue v) fit =
      let cut : cut_at 32 (codes "gone " ++ texts.text v) ≡ Some (codes "gone", texts.text v) = cut_told 32 (codes "gone") (texts.text v) (lacks_tested 32 (codes "gone") refl) in
      rw (cut, no_number 103 (codes "one") (omega arith)) refl
  reply_alone Yes fit = word_alone texts (codes "yes") (lacks_tested 32 (codes "yes") refl)
  reply_alone No fit = word_alone texts (codes "no") (lacks_tested 32 (codes "no") refl)
  reply_alone (Count n) fit = word_alone texts (decimal n) (number_lacks 32 (omega arith) n fit)
  reply_alone (Item v) fit = word_alone texts (texts.text v) (space_lacks texts spelled v fit)
  reply_alone Nothing fit = word_alone texts (codes "none") (lacks_tested 32 (codes "none") refl)
  reply_alone Empty fit = word_alone texts (codes "empty") (lacks_tested 32 (codes "empty") refl)
  reply_alone Bad fit = word_alone texts (codes "bad") (lacks_tested 32 (codes "bad") refl)

module _ {T : Type 0} (cmp : T → T → Ordering) (texts : Texts T) where
  -- ---- the reply to a command

  pub change_fits : (t : PairTree T) → Good cmp texts t → (c : PairCommand T) → ReplyFits texts (change_reply cmp t c)
  change_fits t g (Put k v) = at (pair_of cmp (concat t.nodes) k) (each_found (PairFits texts) _ (concat t.nodes) g.held)
    where
      at : (o : Option (Pair T T)) → IfSome o (PairFits texts) → ReplyFits texts (option_map_or OldValue (option_map (λ (p : Pair T T). p.value) o) New)
      at None h = tt
      at (Some p) h = h.1
  change_fits t g (Cut k) = at (pair_of cmp (concat t.nodes) k) (each_found (PairFits texts) _ (concat t.nodes) g.held)
    where
      at : (o : Option (Pair T T)) → IfSome o (PairFits texts) → ReplyFits texts (option_map_or GoneValue (option_map (λ (p : Pair T T). p.value) o) Nothing)
      at None h = tt
      at (Some p) h = h.1
  change_fits t g Nodes = tt
