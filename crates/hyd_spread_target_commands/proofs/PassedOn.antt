-- What crates above name of the crates below.
pub use Rattle.hyd_target_commands.proofs.TextsPrinted.{front-of-put}
