pub mod Masks
pub mod Offers
pub mod Entries
pub mod Others
pub mod Outputs
pub mod Each
pub mod Low
