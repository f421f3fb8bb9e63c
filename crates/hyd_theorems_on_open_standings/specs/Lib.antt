pub mod FirmStandings
