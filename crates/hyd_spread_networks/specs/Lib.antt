pub mod HeadsBySpreads
pub mod NetsOfSpreads
pub mod RefusedSpreads
pub mod RoomForPeriods
