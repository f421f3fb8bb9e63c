pub mod SpreadRunsChecked
pub mod PassedOn
