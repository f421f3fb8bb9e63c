-- What rules look at, at an instant of a period of a witness.
-- Source: EPANET 2.2 User Manual, chapter 3 (rule-based controls).
use Rattle.std.specs.Prelude.{◌≡◌, ◌<◌, ◌≤◌, ◌^◌, List, length, map, unsigned_abs}
use Rattle.std.specs.List.{All, AllZip}
use Rattle.hyd_num.specs.Rational.{Rational}
use Rattle.hyd_net.specs.Sound.{IsSound}
use Rattle.hyd_spec.specs.NodeNumbers.{tank_count}
use Rattle.hyd_spec.specs.Assignment.{node_heads}
use Rattle.hyd_spec.specs.Rules.{Readings}
use Rattle.hyd_laws_at_scale.specs.Scales.{parts_of}
use Rattle.hyd_stocks_at_scale.specs.declared.carried_levels.ExactLevel.{ExactLevel}
use Rattle.hyd_witness_texts.specs.MomentView.{moment_of}
use Rattle.hyd_met_flows.specs.Periods.{IsMomentOf}
use Rattle.hyd_rules_at_scale.specs.declared.instant.Instant.{Instant}
use Rattle.hyd_rules_at_scale.specs.Quantities.{IsExactly}

-- a level with a proper part, at most 10^24 parts of a head tick up or down
pub record IsSmallLevel (level : ExactLevel) : Type 0 where
  pub part : level.part < level.of
  pub of : level.of ≤ 10 ^ 21
  pub small : unsigned_abs level.whole ≤ 10 ^ 24

-- the levels are these exact values
abbrev pub AreLevels : List ExactLevel → List Rational → Type 0
AreLevels levels exact = AllZip IsExactly levels exact

-- an instant of a period of a sound network: a moment of it, one state for each link, one level for each tank
pub record IsInstant (instant : Instant) : Type 0 where
  pub sound : IsSound instant.project.now
  pub moment : IsMomentOf instant.project.now (moment_of instant.moment.now)
  pub each_link : length instant.links.now ≡ length instant.project.now.links.list
  pub each_level : length instant.levels.now ≡ tank_count instant.project.now
  pub small_levels : All IsSmallLevel instant.levels.now

-- what rules look at there, where these are the levels: the heads and flows of the period, and its states of links
abbrev pub readings_at : Instant → List Rational → Readings
readings_at instant exact = record {
  heads = node_heads instant.project.now (parts_of instant.scale) instant.moment.now.time
      instant.moment.now.levels.list instant.moment.now.heads.list;
  levels = exact;
  flows = map unsigned_abs instant.moment.now.flows.list;
  links = instant.links.now;
}
