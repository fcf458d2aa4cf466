pub mod Shards
pub mod Wire
