pub mod Readings
pub mod RowLaws
pub mod Gathers
pub mod Operands
pub mod ListLaws
pub mod Negations
pub mod ConditionLaws
pub mod Exclusion
