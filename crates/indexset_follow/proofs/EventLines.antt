-- A line is an event if and only if it is the text of that event.
use Rattle.std.proofs.Common.{Some, ◌≡◌, ℕ, List}
use Rattle.indexset_bench.specs.PairText.{event_text}
use Rattle.indexset_follow.specs.EventLine.{Event, EventFits, event_of}
use Rattle.indexset_wire.proofs.CallerLemmas.{event_line, event_sound as event_only, event_told as event_reads_back}
use Rattle.indexset_wire.specs.Pairs.{pair_texts}
use Rattle.indexset_wire.specs.Pairs.Laws.{pair_items}
use Rattle.indexset_wire.specs.Parts.Laws.{Lacks, lacks_tested}
use Rattle.indexset_wire.specs.Texts.{AreTokens, Texts}

module _ {T : Type 0} (texts : Texts T) (spelled : AreTokens texts) where
  pub event_told : (e : Event T) → EventFits texts e → event_of texts (event_text texts e) ≡ Some e
  event_told e fit = event_reads_back (pair_texts texts texts) (pair_items texts texts spelled spelled) e fit

  pub event_sound : (line : List ℕ) (e : Event T) → event_of texts line ≡ Some e → (line ≡ event_text texts e) × EventFits texts e
  event_sound line e read = event_only (pair_texts texts texts) (pair_items texts texts spelled spelled) line e read

  -- the line has no end of line in it
  pub event_whole : (e : Event T) → EventFits texts e → Lacks 10 (event_text texts e)
  event_whole e fit = lacks_tested 10 (event_text texts e) (event_line (pair_texts texts texts) (pair_items texts texts spelled spelled) e fit)
