pub mod Bytes
pub mod Packets
pub mod Reads
pub mod Writes
pub mod Laws
