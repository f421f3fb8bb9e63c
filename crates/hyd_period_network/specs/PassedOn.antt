-- What crates above name of the crates below.
pub use Rattle.hyd_law.specs.DemandLaws.{IsSoundOut, OutAccepts, out_high, out_low}
pub use Rattle.hyd_law.specs.LinkLaws.{IsSoundLink, LinkAccepts}
pub use Rattle.hyd_law.specs.declared.link_law_kinds.LinkLaw.{LinkLaw}
