mod LexLemmas
pub mod SpanLemmas
