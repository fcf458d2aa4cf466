pub mod Blocks
pub mod Fenwick
