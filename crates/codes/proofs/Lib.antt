pub mod Laws
pub mod Modes
pub mod OwedLaws
pub mod LaneLaws
pub mod Lanes
pub mod BothWays
pub mod LosesNothing
