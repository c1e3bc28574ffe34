-- Runs on fresh areas, computed.
pub mod Runs
pub mod VerifiedRuns
