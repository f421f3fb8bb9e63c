-- Spans, as calls take and give them, seen as the intervals of definitions.
use Rattle.hyd_num.specs.declared.spans.Span.{Span}
use Rattle.hyd_spec_certificates.specs.Interval.{Interval}
use Rattle.hyd_spec_certificates.specs.declared.LevelSpan.{LevelSpan}

-- All heads or levels of a span.
abbrev pub levels_of : LevelSpan → Interval
levels_of levels = record { lo = levels.lo; hi = levels.hi }

-- All flows of a span.
abbrev pub flows_of : Span → Interval
flows_of flows = record { lo = flows.lo; hi = flows.hi }
