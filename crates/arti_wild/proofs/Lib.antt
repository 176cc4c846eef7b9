pub mod CharLemmas
pub mod FitsLemmas
pub mod SegmentLemmas
pub mod PartLemmas
pub mod RowLemmas
pub mod WalkLemmas
pub mod SplitLemmas
pub mod AntLemmas
