-- The ends that rows give, which are in range: factors, and offsets of heads. Levels lie within the bounds of tanks.
-- Source: this program's.
use Rattle.std.specs.Prelude.{◌^◌, pos, neg_ℤ}
use Rattle.hyd_net.specs.NumberRanges.{Lies, head_limit}
use Rattle.hyd_spec_spread_rows.specs.declared.Ends.{Ends}

-- factors from 0 to a million, in billionths, with 1 among them
pub record AreFactors (ends : Ends) : Type 0 where
  pub least : Lies (pos 0) (pos (10 ^ 9)) ends.low
  pub greatest : Lies (pos (10 ^ 9)) (pos (10 ^ 15)) ends.high

-- offsets of at most the greatest head, in head ticks, with 0 among them
pub record AreOffsets (ends : Ends) : Type 0 where
  pub least : Lies (neg_ℤ (pos head_limit)) (pos 0) ends.low
  pub greatest : Lies (pos 0) (pos head_limit) ends.high
