-- Vectors that are held of both outermost networks and are close.
-- Source: this program's.
use Rattle.std.specs.Prelude.{ℤ, List}
use Rattle.hyd_spec_certificates.specs.Interval.{Interval}
use Rattle.hyd_spec_spread_promises.specs.SharpOverSpreads.{AreClose}
use Rattle.hyd_spread_vectors.specs.VectorsOfBothNetworks.{Held}

-- The vectors that are held of each network, with all tanks alike, are close.
pub record HoldsClose (W : ℤ) (levels : List Interval) (held : Held) : Type 0 where
  pub above : AreClose W levels held.above.main.upper held.above.main.lower
  pub below : AreClose W levels held.below.main.upper held.below.main.lower
