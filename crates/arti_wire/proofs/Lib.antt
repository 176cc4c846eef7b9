mod DigitLemmas
pub mod HeadLemmas
pub mod EmptyLines
pub mod HeadEnds
pub mod Fronts
pub mod AheadLemmas
pub mod SkipLemmas
pub mod Begun
