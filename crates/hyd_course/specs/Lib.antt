pub mod Stocks
pub mod Standings
pub mod NetsSetForMoments
pub mod Trials
pub mod Courses
