mod Rows
mod Steps
mod Causes
mod Scans
mod Commits
mod Opens
