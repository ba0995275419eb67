pub mod Sought
pub mod Only
pub mod Onward
pub mod Reported
pub mod Phasing
pub mod Worked
pub mod Numbers
