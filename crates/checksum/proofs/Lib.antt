mod Xor
mod Steps
mod Bytes
mod Words
mod Ahead
mod Turns
mod Blocks
pub mod Sealing
mod Checked
