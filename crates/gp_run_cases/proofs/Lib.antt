pub mod Items
pub mod WalkLaws
