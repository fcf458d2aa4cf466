pub mod Kept
pub mod State
pub mod Cause
pub mod Opening
