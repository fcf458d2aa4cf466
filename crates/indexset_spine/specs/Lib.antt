pub mod NodeList
pub mod Edits
pub mod Extract
pub mod Lengths
pub mod Search
pub mod SpineLends
