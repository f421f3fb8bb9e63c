pub mod OptionsAndNames
pub mod NamesOfLinks
pub mod CommandGrammar
pub mod CommandView
pub mod ClapParser
