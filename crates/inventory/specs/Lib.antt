pub mod Inventory
