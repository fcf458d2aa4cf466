pub mod Attach
pub mod Changed
pub mod Keys
pub mod Appended
pub mod Tree
