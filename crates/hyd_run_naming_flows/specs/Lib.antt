pub mod NamingRuns
