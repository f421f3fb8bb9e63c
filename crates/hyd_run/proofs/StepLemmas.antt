-- What the steps of a run find and put in.
use Rattle.std.proofs.Common.{◌≡◌, suc, ◌<◌, ◌^◌, true, false, Option, Some, refl, sym, ap, subst, ◌∙◌}
use Rattle.std.specs.Prelude.{IfSome}
use Rattle.hyd_spec.specs.ProgramTypes.{Project}
use Rattle.hyd_spec_certificates.specs.RecordAndStanding.{Standing}
use Rattle.hyd_spec_reports.specs.PromisesOfRunsAndChecks.{Found, EndsSo, Finished, Stopped}
use Rattle.hyd_spec_certificates.specs.Stops.{Stops}
use Rattle.hyd_spec_certificates.specs.declared.StopCause.{StopCause}
use Rattle.hyd_cert.specs.RecordView.{row_of}
use Rattle.hyd_period_network.specs.NetAsPeriodNetwork.{grid_of, states_of}
use Rattle.hyd_period_network.specs.NetsSetToPeriods.{IsNetOf}
use Rattle.hyd_report.specs.PeriodLines.{AreTankFacts, lines_of}
use Rattle.hyd_report.proofs.ReportLemmas.{lines_are_report}
use Rattle.hyd_io.specs.declared.output.OutFault.{OutFault}
use Rattle.hyd_sim.specs.RunView.{SimView, IsSim, standing_of, Facts}
use Rattle.hyd_sim.specs.NarrowRecordsAndStops.{NamesStuck}
use Rattle.hyd_sim.specs.Steps.{IsPeriod}
use Rattle.hyd_sim.specs.declared.settings.Settings.{Settings}
use Rattle.hyd_net.specs.Sound.{IsSound}
use Rattle.hyd_spec_certificates.specs.Valid.{AreCertificates}
use Rattle.hyd_spec_certificates.specs.CertificateText.{record_text}
use Rattle.hyd_cert.specs.declared.record.Record.{Record as Row}
use Rattle.hyd_period_network.specs.NetView.{NetView}
use Rattle.hyd_period_network.specs.LawsInSettings.{AreStates}
use Rattle.hyd_report.specs.NodeAndLinkLines.{texts}
use Rattle.hyd_run.specs.Pens.{RunMoment, PutIn, IsCutInOrder}
use Rattle.hyd_run.specs.Runs.{sharpness_of, EndNames, IsStep, IsSoFar, IsCutShort, DidPeriod, LostPeriod, IsOver}
use Rattle.hyd_spec_reports.specs.PromisesOfRunsAndChecks.{Outcome}
use Rattle.hyd_run.proofs.PeriodLemmas.{tank-facts-of, row-fits, grid-count, number-next, each-link, fewer-left}
use Rattle.hyd_run.proofs.RunLemmas.{so-far-more, so-far-cut-off}
use Rattle.hyd_theorems_on_definitions.specs.SoundLawsAndGrids.{TanksInOrder}

-- what a period found
abbrev pub found-of : SimView → SimView → Found
found-of before now = record {
  standing = standing_of before;
  grid = grid_of now.net;
  row = row_of now.row;
  lines = lines_of now.project (grid_of now.net) (states_of now.net) (row_of now.row) now.facts;
  next = standing_of now;
}

module _ (before now : SimView) (is : IsSim now) (period : IsPeriod before now) where
  pub tank-facts : AreTankFacts now.project now.facts
  tank-facts = tank-facts-of now.project now.facts period.have

  pub number-is : (standing_of now).number ≡ suc (standing_of before).number
  number-is =
      number-next now.project (standing_of before) (grid_of now.net) (row_of now.row) (standing_of now) period.valid

  pub step-of : now.row.number < 2 ^ 32 → now.row.time < 2 ^ 32 → now.row.length < 2 ^ 32
      → IsStep now.project (sharpness_of now.settings) (standing_of before) (standing_of now) (found-of before now)
  step-of number time seconds = record {
    begins = refl;
    leaves = refl;
    is_found = record {
      valid = period.valid;
      report = lines_are_report now.project (grid_of now.net) (states_of now.net) (standing_of before) (row_of
          now.row) now.facts
          period.facts tank-facts period.links (each-link now is);
    };
    sharp = period.sharp;
    fits = row-fits now.project (grid_of now.net) (row_of now.row) (grid-count now.project now.net is.net)
        period.valid.certificates
        number time seconds;
    number = number-is;
  }

-- a run that is over has finished
pub over-finished : (before now : SimView) (moment : RunMoment) → (standing_of before).finished ≡ true → now ≡ before
    → IsOver Finished before now moment moment
over-finished before now moment finished same = record {
  stays = ap standing_of same;
  ends_so = ap (λ (s : SimView). (standing_of s).finished) same ∙ finished;
  names = tt;
  nothing = refl;
}

-- or its cause holds
pub over-stopped : (before now : SimView) (cause : StopCause) (moment : RunMoment) → IsSim now → now.stopped
    ≡ Some cause
    → standing_of now ≡ standing_of before → IsOver (Stopped cause) before now moment moment
over-stopped before now cause moment is stopped same = record {
  stays = same;
  ends_so = subst (λ (o : Option StopCause). IfSome o (λ (c : StopCause). (now.here.finished ≡ false)
      × Stops now.project (standing_of now) now.settings.rounds c)) stopped is.stopped;
  names = subst (λ (o : Option StopCause). IfSome o (NamesStuck now.project (standing_of now) now.settings.rounds))
      stopped is.stuck;
  nothing = refl;
}

-- ---- steps of one run

pub steps-more : (project : Project) (settings : Settings) (before now : SimView) (start m n : RunMoment)
    → now.project ≡ project
    → now.settings ≡ settings → DidPeriod before now m n
    → IsSoFar project (sharpness_of settings) (standing_of before) start m
    → IsSoFar project (sharpness_of settings) (standing_of now) start n
steps-more project settings before now start m n of_project same did =
    subst (λ (p : Project). IsSoFar p (sharpness_of settings) (standing_of before) start m
    → IsSoFar p (sharpness_of settings) (standing_of now) start n) of_project
    (subst (λ (s : Settings). IsSoFar now.project (sharpness_of s) (standing_of before) start m
    → IsSoFar now.project (sharpness_of s) (standing_of now) start n) same
    (so-far-more now.project (sharpness_of now.settings) (standing_of before) (standing_of now) start m n did.found
    did.step
    did.put))

pub steps-cut-off : (project : Project) (settings : Settings) (fault : OutFault) (before now : SimView) (start m n :
    RunMoment) → now.project ≡ project
    → now.settings ≡ settings → LostPeriod fault before now m n
    → IsSoFar project (sharpness_of settings) (standing_of before) start m
    → IsCutShort project settings fault start n
steps-cut-off project settings fault before now start m n of_project same lost =
    subst (λ (p : Project). IsSoFar p (sharpness_of settings) (standing_of before) start m
    → IsCutShort p settings fault start n) of_project
    (subst (λ (s : Settings). IsSoFar now.project (sharpness_of s) (standing_of before) start m
    → IsCutShort now.project s fault start n) same
    (so-far-cut-off now.project now.settings fault (standing_of before) (standing_of now) start m n lost.found lost.step
    lost.cut_off))

-- the end of a run
pub steps-end : (project : Project) (settings : Settings) (outcome : Outcome) (before now : SimView) (m n : RunMoment)
    → now.project ≡ project
    → now.settings ≡ settings → IsOver outcome before now m n
    → EndsSo project (standing_of now) settings.rounds outcome
steps-end project settings outcome before now m n of_project same over =
    subst (λ (p : Project). EndsSo p (standing_of now) settings.rounds outcome) of_project
    (subst (λ (s : Settings). EndsSo now.project (standing_of now) s.rounds outcome) same over.ends_so)

pub steps-names : (project : Project) (settings : Settings) (outcome : Outcome) (before now : SimView) (m n : RunMoment)
    → now.project ≡ project → now.settings ≡ settings → IsOver outcome before now m n
    → EndNames project (standing_of now) settings.rounds outcome
steps-names project settings outcome before now m n of_project same over =
    subst (λ (p : Project). EndNames p (standing_of now) settings.rounds outcome) of_project
    (subst (λ (s : Settings). EndNames now.project (standing_of now) s.rounds outcome) same over.names)

pub steps-over : (project : Project) (settings : Settings) (outcome : Outcome) (before now : SimView) (start m n :
    RunMoment)
    → IsOver outcome before now m n → IsSoFar project (sharpness_of settings) (standing_of before) start m
    → IsSoFar project (sharpness_of settings) (standing_of now) start n
steps-over project settings outcome before now start m n over so_far =
    subst (λ (s : Standing). IsSoFar project (sharpness_of settings) s start n) (sym over.stays)
    (subst (λ (x : RunMoment). IsSoFar project (sharpness_of settings) (standing_of before) start x) (sym over.nothing)
    so_far)

-- ---- a period that was put in

module _ (before now : SimView) (is : IsSim now) (period : IsPeriod before now) (project : Project) (net : NetView)
    (row : Row) (facts : Facts)
    (p : project ≡ now.project) (n : net ≡ now.net) (r : row ≡ now.row) (f : facts ≡ now.facts) where
  pub sound-there : IsSound project
  sound-there = rw p is.sound

  pub net-there : IsNetOf project net
  net-there = rw (p, n) is.net

  pub states-there : AreStates project (states_of net)
  states-there = rw (p, n) period.states

  pub certificates-there : AreCertificates project (grid_of net) (row_of row)
  certificates-there = rw (p, n, r) period.valid.certificates

  pub order-there : TanksInOrder (grid_of net)
  order-there = rw n period.order

  pub tanks-there : AreTankFacts project facts
  tanks-there = rw (p, f) (tank-facts before now is period)

  pub links-there : states_of net ≡ facts.links.list
  links-there = rw (n, f) period.links

  step-there : row.number < 2 ^ 32 → row.time < 2 ^ 32 → row.length < 2 ^ 32
      → IsStep now.project (sharpness_of now.settings) (standing_of before) (standing_of now) (found-of before now)
  step-there number time seconds = step-of before now is period (rw r at number) (rw r at time) (rw r at seconds)

  pub did-there : (m o : RunMoment) → row.number < 2 ^ 32 → row.time < 2 ^ 32 → row.length < 2 ^ 32
      → PutIn (record_text (row_of row)) (texts project (lines_of project (grid_of net) (states_of net) (row_of row)
      facts)) m o
      → DidPeriod before now m o
  did-there m o number time seconds put = record {
    found = found-of before now;
    step = step-there number time seconds;
    fewer = fewer-left before now is (number-is before now is period);
    put = rw (p, n, r, f) at put;
  }

  pub lost-there : (fault : OutFault) (m o : RunMoment) → row.number < 2 ^ 32 → row.time < 2 ^ 32 → row.length < 2 ^ 32
      → IsCutInOrder fault (record_text (row_of row)) (texts project (lines_of project (grid_of net) (states_of net)
      (row_of row) facts)) m o
      → LostPeriod fault before now m o
  lost-there fault m o number time seconds cut_off = record {
    found = found-of before now;
    step = step-there number time seconds;
    cut_off = rw (p, n, r, f) at cut_off;
  }
