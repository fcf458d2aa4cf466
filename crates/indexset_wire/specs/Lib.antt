pub mod Event
pub mod Numbers
pub mod Pairs
pub mod Parts
pub mod Texts
