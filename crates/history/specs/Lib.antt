-- Demand 3: what is claimed of every list of calls.
pub mod Limits
pub mod Order
pub mod Life
pub mod Share
pub mod Offers
pub mod History
