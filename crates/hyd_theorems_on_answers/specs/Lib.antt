pub mod StatusesThatWrote
