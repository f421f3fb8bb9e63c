pub mod CheckLemmas
pub mod OpenCheckLemmas
