-- Lemmas for the crates above this one.
pub use Rattle.indexset_wire.proofs.EventTexts.{event_line, event_sound, event_told}
