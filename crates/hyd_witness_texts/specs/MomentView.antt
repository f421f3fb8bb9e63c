-- Counts and moments as the program keeps them, as the definitions see them.
use Rattle.std.specs.Prelude.{◌≡◌, length}
use Rattle.hyd_spec_witnesses.specs.MetPeriods.{Moment as Row}
use Rattle.hyd_spec_witnesses.specs.WitnessText.{Counts}
use Rattle.hyd_witness_texts.specs.declared.counts.NetworkCounts.{NetworkCounts}
use Rattle.hyd_witness_texts.specs.declared.moment.Moment.{Moment}

-- The counts.
abbrev pub counts_in : NetworkCounts → Counts
counts_in counts = record { junctions = counts.junctions; links = counts.links; tanks = counts.tanks }

-- The period that a moment tells.
abbrev pub moment_of : Moment → Row
moment_of moment = record {
  number = moment.number;
  time = moment.time;
  length = moment.length;
  heads = moment.heads.list;
  flows = moment.flows.list;
  demands = moment.demands.list;
  emitters = moment.emitters.list;
  levels = moment.levels.list;
  volumes = moment.volumes.list;
}

-- It has a value for each junction, link and tank.
pub record HasCounts (counts : Counts) (moment : Row) : Type 0 where
  pub heads : length moment.heads ≡ counts.junctions
  pub flows : length moment.flows ≡ counts.links
  pub demands : length moment.demands ≡ counts.junctions
  pub emitters : length moment.emitters ≡ counts.junctions
  pub levels : length moment.levels ≡ counts.tanks
  pub volumes : length moment.volumes ≡ counts.tanks
