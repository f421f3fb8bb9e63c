pub mod PrintedText
pub mod TextInBuffer
