-- The period that a moment tells, and what it is judged on.
use Rattle.std.specs.Prelude.{◌≡◌, ℕ, ◌*◌, ◌^◌, ◌≤◌, ℤ, List, length, unsigned_abs}
use Rattle.hyd_net.specs.Sound.{IsSound}
use Rattle.hyd_spec.specs.ProgramTypes.{Project, LinkState}
use Rattle.hyd_spec.specs.declared.TankState.{TankState}
use Rattle.hyd_spec.specs.NodeNumbers.{tank_count}
use Rattle.hyd_spec.specs.PeriodLength.{Period}
use Rattle.hyd_spec_certificates.specs.PeriodNetwork.{grid_links}
use Rattle.hyd_spec_witnesses.specs.MetPeriods.{Moment}
use Rattle.hyd_spec_witnesses.specs.WitnessText.{IsMoment, counts_of}
use Rattle.hyd_period_network.specs.NetView.{NetView}
use Rattle.hyd_period_network.specs.NetAsPeriodNetwork.{grid_of, states_of, own_laws}
use Rattle.hyd_period_network.specs.NetsSetToPeriods.{IsNetOf, own_laws_of}

-- the period that a moment tells, where tanks and links are in these states
abbrev pub period_in : Moment → List TankState → List LinkState → Period
period_in moment tanks links = record {
  time = moment.time;
  length = moment.length;
  levels = moment.levels;
  volumes = moment.volumes;
  tanks = tanks;
  links = links;
  assignment = record {
    heads = moment.heads;
    flows = moment.flows;
    demands = moment.demands;
    emitters = moment.emitters;
  };
}

-- the net of a sound network is set to links between tanks in these states
pub record IsSet (project : Project) (net : NetView) (tanks : List TankState) : Type 0 where
  pub sound : IsSound project
  pub of : IsNetOf project net
  pub tank_each : length tanks ≡ tank_count project
  pub links : (grid_of net).links ≡ grid_links project tanks project.links.list (states_of net)
  pub own : own_laws net ≡ own_laws_of project project.links.list (states_of net)

-- a moment of a network
abbrev pub IsMomentOf : Project → Moment → Type 0
IsMomentOf project moment = IsMoment (counts_of project) moment

-- at least each flow of a link that is met
abbrev pub flow_limit : ℕ
flow_limit = 242 * 10 ^ 20

abbrev pub IsSmallFlow : ℤ → Type 0
IsSmallFlow q = unsigned_abs q ≤ flow_limit
