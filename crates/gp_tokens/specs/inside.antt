pub mod Cutting
pub mod FaultParts
pub mod More
