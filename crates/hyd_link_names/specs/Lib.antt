pub mod WordsBeforePlace
