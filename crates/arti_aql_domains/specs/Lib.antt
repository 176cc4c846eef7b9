pub mod Entries
pub mod Paths
pub mod Conditions
pub mod Behind
pub mod Listed
pub mod RowValues
pub mod Alone
pub mod Sortable
