-- Document 01, "Sample values": the lines that the trace program prints.
pub mod Printing
