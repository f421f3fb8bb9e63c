mod PickedRows
mod RightNumbers
pub mod SpreadsOfTexts
