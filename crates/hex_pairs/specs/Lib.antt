-- Document 01, "Sample values": bytes as the trace program's lines write them.
pub mod Pairs
