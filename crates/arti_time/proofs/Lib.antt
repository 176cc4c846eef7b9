pub mod CivilLemmas
pub mod PrintedLemmas
pub mod RangeLemmas
pub mod FrontLemmas
pub mod DateLemmas
pub mod SpanLemmas
pub mod RoundTrip
