pub mod Entries
pub mod ListSums
pub mod PairSums
pub mod CallerLemmas
