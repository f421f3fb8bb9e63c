-- What crates above name of the crates below.
pub use Rattle.hyd_target_commands.specs.CommandsOnTargets.{DoesClosures, DoesFire, LeavesNet}
