-- Vectors below and above, between which bounds lie, in order; how wide tanks are; the nodes of tanks.
use Rattle.std.specs.Prelude.{◌≡◌, ℕ, ◌+◌, ℤ, pos, ◌+ℤ◌, ◌≤ℤ◌, List, length, All, slice_index_or}
use Rattle.hyd_num.specs.declared.spans.Span.{Span}
use Rattle.hyd_spec.specs.Assignment.{head_at}
use Rattle.hyd_spec_certificates.specs.Interval.{Interval, exactly, width}
use Rattle.hyd_spec_certificates.specs.PeriodNetwork.{Grid}
use Rattle.hyd_spec_certificates.specs.Certificate.{IsInBox}
use Rattle.hyd_period_network.specs.NetView.{NetView}

-- the ends of a span are those of an interval
pub record IsSpan (span : Span) (interval : Interval) : Type 0 where
  pub lo_is : span.lo ≡ interval.lo
  pub hi_is : span.hi ≡ interval.hi

-- a vector has a head in the box for each junction of a net
pub record IsVector (net : NetView) (u : List ℤ) : Type 0 where
  pub one_each : length u ≡ length net.junctions
  pub in_box : All IsInBox u

-- each head below is at most the one above it and t more
abbrev pub AreInOrder : ℤ → List ℤ → List ℤ → Type 0
AreInOrder t below above = (node : ℕ) → head_at below node ≤ℤ (head_at above node +ℤ t)

-- how far the interval of a tank is wide
abbrev pub tank_width : Grid → ℕ → ℤ
tank_width grid tank = width (slice_index_or grid.tanks tank (exactly (pos 0)))

-- the node of a tank: tanks follow junctions and reservoirs
abbrev pub tank_node_of : NetView → ℕ → ℕ
tank_node_of net tank = length net.junctions + length net.reservoirs + tank
