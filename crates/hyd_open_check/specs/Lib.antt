pub mod OpenRunsChecked
