pub mod OpenPeriodLines
