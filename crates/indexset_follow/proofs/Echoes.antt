-- The numbers of a command have at most 64 bits, with or without a command number.
use Rattle.std.proofs.Common.{Option, None, Some, ◌≡◌, ℕ, List, refl, subst, ◌∙◌}
use Rattle.std.specs.Option.{option_and_then, option_map, option_map_or}
use Rattle.indexset_bench.specs.PairCommand.{CommandFits, pair_meaning}
use Rattle.indexset_bench.specs.declared.pair_command.PairCommand.{PairCommand}
use Rattle.indexset_bench.proofs.CallerLemmas.{pair_sound}
use Rattle.indexset_wire.specs.Parts.{cut_at}
use Rattle.indexset_wire.specs.Parts.Laws.{map_some, none_some, some_inj, then_some}
use Rattle.indexset_follow.specs.Echo.{change_of, command, command_of, echo_of, echoed_of}
use Rattle.indexset_follow.specs.Query.{query_of}
use Rattle.indexset_follow.specs.declared.echo.Command.{Command}
use Rattle.indexset_follow.specs.declared.reads.query.Query.{Query}
use Rattle.indexset_wire.specs.Texts.{AreTokens, Texts}

module _ {T : Type 0} (texts : Texts T) where
  abbrev Fits : Command T → Type 0
  Fits c = CommandFits texts c.change

module _ {T : Type 0} (texts : Texts T) (spelled : AreTokens texts) where
  change_fits : (text : List ℕ) (c : PairCommand T) → change_of texts text ≡ Some c → CommandFits texts c
  change_fits text c h = at (query_of texts text) (pair_meaning texts text) refl h
    where
      at : (q : Option (Query T)) (o : Option (PairCommand T)) → pair_meaning texts text ≡ o → option_map_or {U = Option (PairCommand T)} (λ q. None) q o ≡ Some c → CommandFits texts c
      at (Some q) o is h = none_some c h
      at None o is h = (pair_sound texts spelled text c (is ∙ h)).1

  echoed_fits : (line : List ℕ) (c : Command T) → echoed_of texts line ≡ Some c → Fits texts c
  echoed_fits line c h =
      let cut = then_some (cut_at 32 line) (λ cut. option_and_then (λ n. option_map (command (Some n)) (change_of texts cut.1)) (echo_of cut.0)) c h in
      let number = then_some (echo_of cut.0.0) (λ n. option_map (command (Some n)) (change_of texts cut.0.1)) c cut.2 in
      let made = map_some (change_of texts cut.0.1) (command (Some number.0)) c number.2 in
      subst (Fits texts) made.2 (change_fits cut.0.1 made.0 made.1)

  pub command_fits : (line : List ℕ) (c : Command T) → command_of texts line ≡ Some c → CommandFits texts c.change
  command_fits line c h = at (pair_meaning texts line) refl h
    where
      at : (o : Option (PairCommand T)) → pair_meaning texts line ≡ o → option_map_or {U = Option (Command T)} (λ c. Some (command None c)) o (echoed_of texts line) ≡ Some c → Fits texts c
      at (Some p) is h = subst (Fits texts) (some_inj (command None p) c h) (pair_sound texts spelled line p is).1
      at None is h = echoed_fits line c h
