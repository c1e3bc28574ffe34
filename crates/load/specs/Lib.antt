pub mod Load
pub mod Laying
pub mod Reload
