-- What questions about a target pressure for a spread rest on.
-- Source: this program's.
use Rattle.std.specs.Prelude.{◌≡◌, ◌≤◌, ◌^◌, length, map, unsigned_abs}
use Rattle.hyd_num.specs.Rational.{Rational}
use Rattle.hyd_spec.specs.ProgramTypes.{Project}
use Rattle.hyd_spec.specs.DemandsHeadsAndPumpLifts.{is_us}
use Rattle.hyd_spec_spread.specs.Spreads.{Spread}
use Rattle.hyd_targets.specs.Inquiries.{target_pressure, target_of}
use Rattle.hyd_spread_targets.specs.FirstPeriodsOver.{IsReadyOver}
use Rattle.hyd_spread_targets.specs.declared.spread_inquiry.SpreadInquiry.{SpreadInquiry}

-- the spread of an inquiry
abbrev pub spread_for : SpreadInquiry → Spread
spread_for inquiry = inquiry.first.nets.spread

-- its target
abbrev pub target_within : Project → SpreadInquiry → Rational
target_within project inquiry = target_pressure (is_us project) inquiry.pressure.nano

-- an inquiry is one of the network: its parts have a place for each junction, and its targets are those of its pressure
pub record IsOpenWithin (project : Project) (inquiry : SpreadInquiry) : Type 0 where
  pub small : unsigned_abs inquiry.pressure.nano ≤ 10 ^ 13
  pub ready : IsReadyOver project inquiry.first
  pub study : length inquiry.study.upper ≡ length project.junctions.list
  pub targets : inquiry.targets.items ≡ map (target_of (target_within project inquiry)) project.junctions.list
