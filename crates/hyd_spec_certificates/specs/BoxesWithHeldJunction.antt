-- What certificates with a junction held tell: a flow interval of a link, and how much may be drawn at a junction.
-- Flows are in flow ticks, heads in head ticks.
-- Source: this program's, from the bounds of heads (Rheinboldt 1970).
use Rattle.std.specs.Prelude.{ℕ, ℤ, pos, neg_ℤ, ◌+ℤ◌, ◌-ℤ◌, List}
use Rattle.hyd_spec.specs.Scale.{missed_flow_ticks}
use Rattle.hyd_spec.specs.Assignment.{head_at}
use Rattle.hyd_spec_certificates.specs.declared.Problem.TheVariants.{Main}
use Rattle.hyd_spec_certificates.specs.declared.Side.{Side}
use Rattle.hyd_spec_certificates.specs.declared.Side.TheVariants.{Upper, Lower}
use Rattle.hyd_spec_certificates.specs.declared.HeldJunction.{HeldJunction}
use Rattle.hyd_spec_certificates.specs.Interval.{Interval, widened}
use Rattle.hyd_spec_certificates.specs.EnclosingFunctions.{low, high}
use Rattle.hyd_spec_certificates.specs.PeriodNetwork.{Grid, GridLink, GridJunction}
use Rattle.hyd_spec_certificates.specs.NetOutflow.{net_low, net_high, margin}

-- A junction held at its head in a vector.
abbrev pub held_in : List ℤ → ℕ → HeldJunction
held_in u junction = record { junction = junction; head = head_at u junction }

-- The flow box of a link whose first node was held: from the low flow under the UPPER vector, in which it stands at
-- the LOWER head of the certificates with none held, to the high flow under the LOWER vector, in which it stands at
-- their UPPER head; widened by the tolerance.
abbrev pub held_flow_box : GridLink → List ℤ → List ℤ → Interval
held_flow_box link held_below held_above = widened (pos missed_flow_ticks) (record {
  lo = low link.law (head_at held_above link.from -ℤ head_at held_above link.to);
  hi = high link.law (head_at held_below link.from -ℤ head_at held_below link.to);
})

-- The draw (flow ticks) at a held junction with which it would pass besides: for UPPER so much or more, for LOWER so
-- much or less.
abbrev pub passing_draw : Grid → Side → List ℤ → ℕ → GridJunction → ℤ
passing_draw grid Upper u i junction = (margin grid i +ℤ pos 1) -ℤ net_low grid Main u i junction
passing_draw grid Lower u i junction = neg_ℤ (margin grid i +ℤ pos 1) -ℤ net_high grid Main u i junction
