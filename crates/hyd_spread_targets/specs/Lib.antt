pub mod FirstPeriodsOver
pub mod InquiriesWithin
pub mod ClosuresPutOutWithin
