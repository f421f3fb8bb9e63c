pub mod FirstWrongRowLemmas
pub mod EarlierOfTwoLemmas
pub mod TableLemmas
pub mod WrongInSectionLemmas
pub mod RowsSoFar
pub mod LastLines
pub mod LookUpsByHash
