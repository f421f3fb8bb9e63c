-- What crates above name of the crates below.
pub use Rattle.hyd_theorems_on_nesting.specs.FirstAmongWatched.{IsFirstAmong, ReachTest, watch_passes}
