-- From the last period of a run with a slack to what its report needs.
use Rattle.std.proofs.Common.{◌≡◌, suc, ◌<◌, ◌≤◌, ◌+◌, ap, arith}
use Rattle.hyd_net.specs.Sound.{IsSound}
use Rattle.hyd_spec.specs.ProgramTypes.{Project}
use Rattle.hyd_spec_certificates.specs.PeriodNetwork.{Grid}
use Rattle.hyd_spec_certificates.specs.RecordAndStanding.{Standing}
use Rattle.hyd_spec_open_ends.specs.OpenStandings.{OpenStanding, OpenRecord}
use Rattle.hyd_spec_open_ends.specs.OpenRecords.{IsValidOpenly, LeadsOnOpenly, continues, finishes}
use Rattle.hyd_cert.specs.RecordView.{row_of}
use Rattle.hyd_cert.specs.declared.record.Record.{Record as Row}
use Rattle.hyd_period_facts.specs.declared.facts.Facts.{Facts}
use Rattle.hyd_period_network.specs.NetView.{NetView}
use Rattle.hyd_period_network.specs.NetsSetToPeriods.{IsNetOf}
use Rattle.hyd_period_network.specs.NetAsPeriodNetwork.{grid_of, states_of}
use Rattle.hyd_period_network.specs.LawsInSettings.{AreStates}
use Rattle.hyd_report.specs.PeriodLines.{AreBounds, AreTankFacts}
use Rattle.hyd_run.specs.Runs.{periods_left}
use Rattle.hyd_run.proofs.PeriodLemmas.{bounds-of, tank-facts-of}
use Rattle.hyd_theorems_on_definitions.specs.SoundLawsAndGrids.{IsSteady}
use Rattle.hyd_open_sim.specs.RunView.{OpenSimView, IsOpenSim, standing_of}
use Rattle.hyd_open_run.specs.PeriodsOfOpenRuns.{IsOfPeriod}

-- ---- a period that is reported

module _ (sim : OpenSimView) (is : IsOpenSim sim) (of : IsOfPeriod sim) (project : Project) (net : NetView) (row : Row)
    (facts : Facts) (p : project ≡ sim.project) (n : net ≡ sim.net) (r : row ≡ sim.found.row)
    (f : facts ≡ sim.facts) where
  pub sound-there : IsSound project
  sound-there = rw p is.sound

  pub net-there : IsNetOf project net
  net-there = rw (p, n) is.net

  pub states-there : AreStates project (states_of net)
  states-there = rw (p, n) of.states

  pub bounds-there : IsSteady (grid_of net) → AreBounds net (row_of row)
  bounds-there steady =
      bounds-of project net (row_of row) net-there steady (rw n of.order) (rw (p, n, r) of.certificates)

  pub tanks-there : AreTankFacts project facts
  tanks-there = rw (p, f) (tank-facts-of sim.project sim.facts of.have)

  pub links-there : states_of net ≡ facts.links.list
  links-there = rw (n, f) of.links

-- ---- the number of the next standing

pub number-next : (project : Project) (standing : OpenStanding) (grid : Grid) (found : OpenRecord) (next : OpenStanding)
    → IsValidOpenly project standing grid found next → next.known.number ≡ suc standing.known.number
number-next project standing grid found next valid = by valid.leads_on
  where
    by : LeadsOnOpenly project grid standing found next → next.known.number ≡ suc standing.known.number
    by (continues c) = c.number
    by (finishes f) = ap (λ (s : Standing). s.number) f.next_known

-- no more periods were done than a run has seconds, but for the one at its end
few-periods : (sim : OpenSimView) → IsOpenSim sim → (standing_of sim).known.number ≤ suc sim.project.times.duration
few-periods sim is =
    let few : sim.here.number ≤ sim.here.time + 1 = is.standing.few in
    let time : sim.here.time ≤ sim.project.times.duration = is.standing.firm.tidy.in_time in
    omega (arith, few, time)

pub fewer-left : (before now : OpenSimView) → IsOpenSim now
    → (standing_of now).known.number ≡ suc (standing_of before).known.number
    → periods_left now.project (standing_of now).known < periods_left now.project (standing_of before).known
fewer-left before now is next = let few = few-periods now is in omega (arith, next, few)
