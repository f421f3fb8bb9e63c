pub mod OneOutermostGrid
pub mod OneSpreadRefusal
