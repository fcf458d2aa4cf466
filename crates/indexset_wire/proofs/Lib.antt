pub mod CallerLemmas
pub mod DecimalLemmas
pub mod DigitCounts
pub mod EventTexts
