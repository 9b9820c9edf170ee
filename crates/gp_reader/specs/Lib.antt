pub mod Resolution
pub mod Places
pub mod ResolutionLaws
pub mod Program
pub mod FaultLines
pub mod Laws
pub mod inside
