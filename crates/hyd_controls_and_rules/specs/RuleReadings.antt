-- What rules look at, at an instant of a period.
-- Source: EPANET 2.2 User Manual, chapter 3 (rule-based controls).
use Rattle.std.specs.Prelude.{◌≡◌, ⊤, ℕ, ◌^◌, ◌≤◌, ℤ, ◌-ℤ◌, unsigned_abs, List, length, map}
use Rattle.std.specs.List.{All}
use Rattle.hyd_num.specs.declared.spans.Span.{Span}
use Rattle.hyd_num.specs.Rational.{whole}
use Rattle.hyd_net.specs.Sound.{IsSound}
use Rattle.hyd_spec.specs.ProgramTypes.{LinkState, Clause, What, Head, Pressure, Level, Flow, Setting, Status, Time}
use Rattle.hyd_spec.specs.ProgramTypes.{Clock}
use Rattle.hyd_spec.specs.NodeNumbers.{nodes_before_tanks, tank_count}
use Rattle.hyd_spec.specs.Rules.{Readings, level_of, measured}
use Rattle.hyd_spec_certificates.specs.SpansAsIntervals.{levels_of, flows_of}
use Rattle.hyd_spec_certificates.specs.Interval.{Interval}
use Rattle.hyd_spec_certificates.specs.Decided.{least_magnitude, greatest_magnitude, clause_between}
use Rattle.hyd_spec_certificates.specs.declared.Verdict.{Verdict}
use Rattle.hyd_controls_and_rules.specs.declared.clauses.Instant.{Instant}
use Rattle.hyd_controls_and_rules.specs.declared.clauses.Ends.{Ends}

-- the readings from below: heads (head ticks), flows (flow ticks) and carried levels (head ticks) by their lower ends
abbrev pub lower_readings : List ℤ → List Interval → List Interval → List LinkState → Readings
lower_readings low flows levels links = record {
  heads = low;
  levels = map (λ level. whole level.lo) levels;
  flows = map least_magnitude flows;
  links = links;
}

-- the readings from above
abbrev pub upper_readings : List ℤ → List Interval → List Interval → List LinkState → Readings
upper_readings high flows levels links = record {
  heads = high;
  levels = map (λ level. whole level.hi) levels;
  flows = map greatest_magnitude flows;
  links = links;
}

-- both ends of a span of flows are at most 10^27 flow ticks in magnitude
pub record IsBounded (flow : Span) : Type 0 where
  pub lo : unsigned_abs flow.lo ≤ 10 ^ 27
  pub hi : unsigned_abs flow.hi ≤ 10 ^ 27

-- the readings of an instant from below
abbrev pub below : Instant → Readings
below instant =
    lower_readings instant.low.now (map flows_of instant.flows.now)
    (map levels_of instant.levels.now) instant.links.now

-- the readings of an instant from above
abbrev pub above : Instant → Readings
above instant =
    upper_readings instant.high.now (map flows_of instant.flows.now)
    (map levels_of instant.levels.now) instant.links.now

-- an instant of a sound network: one head for each junction and each reservoir, one flow and one state for each
-- link, one level for each tank
pub record IsInstant (instant : Instant) : Type 0 where
  pub sound : IsSound instant.project.now
  pub each_low : length instant.low.now ≡ nodes_before_tanks instant.project.now
  pub each_high : length instant.high.now ≡ nodes_before_tanks instant.project.now
  pub each_flow : length instant.flows.now ≡ length instant.project.now.links.list
  pub bounded : All IsBounded instant.flows.now
  pub each_level : length instant.levels.now ≡ tank_count instant.project.now
  pub each_link : length instant.links.now ≡ length instant.project.now.links.list

-- the carried level of a tank there, above the level -base (head ticks)
pub record AreLevelEnds (instant : Instant) (tank : ℕ) (base : ℤ) (ends : Ends) : Type 0 where
  pub lo : level_of (below instant) tank ≡ whole (ends.lo -ℤ base)
  pub hi : level_of (above instant) tank ≡ whole (ends.hi -ℤ base)

-- the ends of what a clause measures there, in head or flow ticks, of a setting in billionths
pub record AreEnds (instant : Instant) (what : What) (ends : Ends) : Type 0 where
  pub lo : measured instant.project.now 1 (below instant) what ≡ whole ends.lo
  pub hi : measured instant.project.now 1 (above instant) what ≡ whole ends.hi

-- what is compared with an amount: not a status, and not a time
abbrev pub IsMeasured : What → Type 0
IsMeasured (Head node) = ⊤
IsMeasured (Pressure node) = ⊤
IsMeasured (Level tank) = ⊤
IsMeasured (Flow link) = ⊤
IsMeasured (Setting link) = ⊤
IsMeasured (Status link) = ⊥
IsMeasured Time = ⊥
IsMeasured Clock = ⊥

-- what is known there of a clause
abbrev pub verdict_there : Instant → Clause → Verdict
verdict_there instant clause = clause_between instant.project.now instant.time (below instant) (above instant) clause
