-- What crates above name of the crates below.
pub use Rattle.hyd_naming_command.specs.NamingAnswers.{AnswersTextNaming, LeavesNaming}
