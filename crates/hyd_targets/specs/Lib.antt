pub mod Inquiries
pub mod ClosuresPutOut
