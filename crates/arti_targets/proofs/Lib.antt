mod ReadingLemmas
mod SpanLemmas
mod LawLemmas
