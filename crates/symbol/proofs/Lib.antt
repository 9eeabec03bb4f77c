pub mod Meet
pub mod Masks
pub mod Offers
