pub mod Copies
pub mod Count
pub mod Delivery
pub mod Keyed
pub mod Replica
