pub mod Laws
pub mod Rank
pub mod WalkLaws
pub mod Settling
pub mod Winners
pub mod Arbitration
