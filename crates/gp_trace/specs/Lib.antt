pub mod TraceText
pub mod Reading
pub mod Laws
pub mod inside
