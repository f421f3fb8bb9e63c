pub mod SameEnding
