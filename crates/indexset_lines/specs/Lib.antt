pub mod Fault
pub mod Lines
pub mod Reading
pub mod Run
