pub mod TextsWithoutLine
