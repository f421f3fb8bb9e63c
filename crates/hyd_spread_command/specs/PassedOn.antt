-- What crates above name of the crates below.
pub use Rattle.hyd_check_command.specs.CheckAnswers.{AnswersCheck, LeavesCheck, ReadsBoth}
pub use Rattle.hyd_check_command.specs.OpenCheckAnswers.{AnswersOpenCheck}
pub use Rattle.hyd_spread_run_so_far.specs.SpreadRunSoFar.{Asked}
pub use Rattle.hyd_spread_files.specs.RefusedSpreads.{AnswersSpreadRefused, PrintsSpreadRefusal}
pub use Rattle.hyd_spread_files.specs.SpreadFiles.{IsNoSpread, IsText}
pub use Rattle.hyd_spread_files.specs.NetsRead.{EndsAtNet}
pub use Rattle.hyd_spread_files.specs.declared.spread_file.SpreadFile.TheVariants.{Rows}
