pub mod CallerLemmas
pub mod Faults
pub mod Lines
pub mod Pieces
pub mod Runs
