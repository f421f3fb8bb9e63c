-- What crates above name of the crates below.
pub use Rattle.hyd_open_command.specs.OpenAnswers.{AnswersTextOpenly, Asked, DeliveredOpenly}
