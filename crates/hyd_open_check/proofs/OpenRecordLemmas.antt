-- A record of a certificate of version 4 that was read and tried.
use Rattle.std.proofs.Common.{◌≡◌, ℕ, ◌<◌, List, [], refl, sym, ap, subst}
use Rattle.std.specs.Prelude.{Result, Option}
use Rattle.hyd_spec.specs.ProgramTypes.{Project}
use Rattle.hyd_spec_certificates.specs.declared.CertRefused.{CertRefused}
use Rattle.hyd_spec_open_ends.specs.OpenStandings.{OpenStanding, OpenRecord, initial_open_standing}
use Rattle.hyd_spec_open_refusals.specs.RefusedOpenRecords.{IsRefusedOpenly}
use Rattle.hyd_spec_open_reports.specs.PromisesOfOpenReports.{Reported}
use Rattle.hyd_spec_open_checks.specs.OpenChecks.{open_header_for}
use Rattle.hyd_cert.specs.RecordView.{row_of}
use Rattle.hyd_open_certificates.specs.OpenRowView.{open_record_of}
use Rattle.hyd_open_report.specs.OpenPeriodLines.{open_texts}
use Rattle.hyd_open_report.proofs.OpenReports.{is_report}
use Rattle.hyd_period_network.specs.NetAsPeriodNetwork.{grid_of}
use Rattle.hyd_run.specs.Runs.{periods_left}
use Rattle.hyd_run.proofs.PeriodLemmas.{tank-facts-of}
use Rattle.hyd_open_run.specs.PeriodsOfOpenRuns.{OpenSimView, IsOpenSim, standing_of}
use Rattle.hyd_open_run.specs.PeriodsOfOpenRuns.{IsAccepted}
use Rattle.hyd_open_run.specs.PeriodsOfOpenRuns.{found_between}
use Rattle.hyd_open_run.specs.PeriodsOfOpenRuns.{IsOfPeriod, lines_left}
use Rattle.hyd_open_run.proofs.OpenPeriodLemmas.{number-next, fewer-left}
use Rattle.hyd_cert_check.specs.ReaderAndPen.{CheckMoment, PutIn, IsCutOff}
use Rattle.hyd_spec_check_ends.specs.declared.CheckEnd.{CheckEnd}
use Rattle.hyd_cert_check.specs.declared.outcome.CheckFault.{CheckFault}
use Rattle.hyd_cert_check.proofs.PenLemmas.{put-then, cut-off-then}
use Rattle.hyd_open_check_so_far.specs.OpenCheckSoFar.{IsRead, IsOpenStep, DidRecord, LostRecord, IsOver, TurnGives}
use Rattle.hyd_open_check_so_far.specs.OpenCheckSoFar.{IsSoFar, AllRead, CheckPuts}
use Rattle.hyd_open_check_so_far.specs.declared.conclusion.OpenConclusion.{OpenConclusion}
use Rattle.hyd_open_check_so_far.specs.declared.conclusion.OpenConclusion.TheVariants.{Refused}
use Rattle.hyd_open_check_so_far.proofs.OpenReading.{read-there}

-- it is what the run left
pub of-period : (before now : OpenSimView) → IsAccepted before now → IsOfPeriod now
of-period before now accepted = record {
  certificates = accepted.valid.certificates;
  have = accepted.have;
  order = accepted.order;
  states = accepted.states;
  links = accepted.links;
}

-- what was found
abbrev pub reported : OpenSimView → OpenSimView → Reported
reported before now = record {
  here = found_between (standing_of before) (grid_of now.net) (open_record_of now.found) (standing_of now);
  lines = lines_left now;
}

-- ---- a record that was accepted

module _ (before now : OpenSimView) (is : IsOpenSim now) (accepted : IsAccepted before now) where
  is-step : IsOpenStep now.project (standing_of before) (standing_of now) (reported before now)
  is-step = record {
    begins = refl;
    leaves = refl;
    valid = accepted.valid;
    report = is_report now.project now.net (row_of now.found.row) now.facts
        (record { start = now.found.late; end = now.close.late }) now.close.opened.list is.net
        (tank-facts-of now.project now.facts accepted.have) accepted.links (standing_of before) (open_record_of now.found)
        now.close.first accepted.valid.late refl accepted.facts;
    number = number-next now.project (standing_of before) (grid_of now.net) (open_record_of now.found)
        (standing_of now) accepted.valid;
  }

  module _ (project : Project) (p : now.project ≡ project) (found : OpenRecord) (f : open_record_of now.found ≡ found)
      (m n o : CheckMoment)
      (read : IsRead (open_header_for project) found m n) (none : PutIn [] m n) (stays : o.reader ≡ n.reader)
      (rest : o.told.rest ≡ n.told.rest) where
    read-here : IsRead (open_header_for now.project) (open_record_of now.found) m o
    read-here =
        read-there (open_header_for now.project) (open_record_of now.found) m n o
        (subst (λ (x : OpenRecord). IsRead (open_header_for now.project) x m n) (sym f)
        (subst (λ (q : Project). IsRead (open_header_for q) found m n) (sym p) read)) stays rest

    pub did-there : PutIn (open_texts now.project (lines_left now)) n o
        → DidRecord project (standing_of before) (standing_of now) m o
    did-there put =
        subst (λ (q : Project). DidRecord q (standing_of before) (standing_of now) m o) p (record {
          each = reported before now;
          step = is-step;
          read = read-here;
          fewer = fewer-left before now is is-step.number;
          put = put-then [] (open_texts now.project (lines_left now)) m n o none put;
        })

    pub lost-there : (why : CheckFault) → IsCutOff why (open_texts now.project (lines_left now)) n o
        → LostRecord why project (standing_of before) (standing_of now) m o
    lost-there why cut =
        subst (λ (q : Project). LostRecord why q (standing_of before) (standing_of now) m o) p (record {
          each = reported before now;
          step = is-step;
          read = read-here;
          cut_off = cut-off-then why [] (open_texts now.project (lines_left now)) m n o none cut;
        })

-- ---- a record that is refused

pub refused-there : (project : Project) (left next : OpenStanding) (found : OpenRecord) (cause : CertRefused)
    (m n : CheckMoment) → next ≡ left → IsRefusedOpenly project left found cause
    → IsRead (open_header_for project) found m n → PutIn [] m n → IsOver (Refused cause) project left next m n
refused-there project left next found cause m n stays refused read none = record {
  is_so = record { found = found; read = read; refused = refused };
  stays = stays;
  put = none;
}

-- ---- turns of one check

-- what a turn gives, by the network of the check's start
pub turn-as : (result : Result (Option OpenConclusion) CheckFault) (p project : Project) (left next : OpenStanding)
    (m n : CheckMoment) → p ≡ project → TurnGives result p left next m n → TurnGives result project left next m n
turn-as result p project left next m n e gives =
    subst (λ (q : Project). TurnGives result q left next m n) e gives

-- a check that has read nothing stands at the start of its run
pub begun-at : (p project : Project) (left : OpenStanding) (before now : CheckMoment) → p ≡ project
    → initial_open_standing project ≡ left → IsSoFar p (initial_open_standing p) before now
    → IsSoFar project left before now
begun-at p project left before now e same so_far =
    subst (λ (s : OpenStanding). IsSoFar project s before now) same
    (subst (λ (q : Project). IsSoFar q (initial_open_standing q) before now) e so_far)

-- what the last line makes of a check, as of the network at its start
pub ended-as : (p project : Project) (conclusion : OpenConclusion) (left : OpenStanding)
    (result : Result CheckEnd CheckFault) (start before now : CheckMoment) → p ≡ project
    → ((x : CheckMoment) → AllRead conclusion p left x before → CheckPuts result p x now)
    → AllRead conclusion project left start before → CheckPuts result project start now
ended-as p project conclusion left result start before now e puts read =
    subst (λ (q : Project). (x : CheckMoment) → AllRead conclusion q left x before → CheckPuts result q x now) e puts
    start read
