pub mod ByNode
