-- What is put of the middle candidate before its flows, and the net that is set to its period.
use Rattle.std.specs.Prelude.{◌≡◌, pos, List, slice_index_or}
use Rattle.std.specs.List.{AllZip}
use Rattle.hyd_spec.specs.History.{tank_states}
use Rattle.hyd_spec.specs.Lists.{Each}
use Rattle.hyd_spec.specs.ProgramTypes.{Project}
use Rattle.hyd_spec.specs.PumpPatternsAndSimpleControls.{started, acts_at}
use Rattle.hyd_spec.specs.declared.TankState.{TankState}
use Rattle.hyd_spec_certificates.specs.PeriodNetwork.{IsJunctionOf}
use Rattle.hyd_spec_certificates.specs.RecordAndStanding.{Record}
use Rattle.hyd_spec_witnesses.specs.MetPeriods.{Moment, Reached, commanded_at}
use Rattle.hyd_spec_witnesses.specs.MiddleCandidate.{halves, heads_between, stock_at}
use Rattle.hyd_period_network.specs.NetView.{NetView}
use Rattle.hyd_period_network.specs.NetAsPeriodNetwork.{grid_of, states_of}

-- a moment has the number, the time, the length, the heads and the stocks of the middle candidate
pub record HasHeadsAndStocks (project : Project) (reached : Reached) (row : Record) (moment : Moment) : Type 0 where
  pub number : moment.number ≡ row.number
  pub time : moment.time ≡ row.time
  pub lasts : moment.length ≡ row.length
  pub heads : moment.heads ≡ heads_between row.main.lower row.main.upper
  pub levels : Each project.tanks.list (λ k tank.
      slice_index_or moment.levels k (pos 0) ≡ (stock_at project reached.last k tank).level)
  pub volumes : Each project.tanks.list (λ k tank.
      slice_index_or moment.volumes k (pos 0) ≡ (stock_at project reached.last k tank).volume)

-- a net is set to the period that a moment tells, where tanks are in these states
pub record IsSetFor (project : Project) (reached : Reached) (moment : Moment) (net : NetView)
    (tanks : List TankState) : Type 0 where
  pub tanks_are : tanks ≡ tank_states halves project.tanks.list moment.levels
  pub links_are : states_of net
      ≡ started project moment.time (acts_at halves moment.levels) (commanded_at project halves reached.last)
  pub junctions_are : AllZip (IsJunctionOf project moment.time) project.junctions.list (grid_of net).junctions
