-- What crates above name of the crates below.
pub use Rattle.hyd_theorems_on_nesting.proofs.EndsByWatchedLevels.{end_is, none_watched, one_more, one_watched}
pub use Rattle.hyd_theorems_on_histories.proofs.AgreementAtStart.{shared-same}
pub use Rattle.hyd_theorems_on_histories.proofs.WatchedLevels.{contains-cons, contains-here, contains-later}
