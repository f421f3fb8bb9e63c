-- What definitions and lemmas above name of the network's lists, curves and ranges.
pub use Rattle.hyd_net.specs.ListView.{ListView}
pub use Rattle.hyd_net.specs.Curves.{Knot, on_line, between, value_at}
pub use Rattle.hyd_net.specs.NumberRanges.{flow_limit}
pub use Rattle.hyd_net.specs.PowerLawsOfPipes.{power_low, power_high}
