pub mod Scope
pub mod inside
pub mod ConditionShapes
pub mod Facts
pub mod Shapes
pub mod Size
