pub mod OfAxis
