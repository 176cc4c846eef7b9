pub mod MomentTests
pub mod Loops
pub mod FieldLaws
pub mod RowLaws
pub mod EditLaws
