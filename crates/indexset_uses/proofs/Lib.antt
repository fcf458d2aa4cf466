mod Copied
mod Retained
mod Sharded
