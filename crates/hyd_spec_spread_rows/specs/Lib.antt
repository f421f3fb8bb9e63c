pub mod RowsOfSpreads
pub mod TextsOfSpreads
pub mod RangesOfEnds
