pub mod Tombstones
