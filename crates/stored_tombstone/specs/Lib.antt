pub mod StoredTombstone
