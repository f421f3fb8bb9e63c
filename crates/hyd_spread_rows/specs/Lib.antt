pub mod RowsRead
pub mod RowsSaid
pub mod SpreadsRead
pub mod LinesThatCount
pub mod TextsWithoutRows
