-- Each line of the report of a period whose start or end may be open holds of each period of a history that is under
-- the record.
use Rattle.std.proofs.Common.{◌≡◌, ℕ, refl, sym, subst, arith, List}
use Rattle.std.specs.Prelude.{Some, slice_get}
use Rattle.std.specs.List.{AllByRecursion, AllZip}
use Rattle.hyd_net.specs.Sound.{IsSound}
use Rattle.hyd_spec.specs.ProgramTypes.{Project, Tank, Link, LinkState}
use Rattle.hyd_spec.specs.Rules.{state_of_link}
use Rattle.hyd_spec.specs.PeriodLength.{Period, HasItsLength}
use Rattle.hyd_spec_certificates.specs.declared.Problem.{Problem}
use Rattle.hyd_spec_certificates.specs.declared.Problem.TheVariants.{Main, Pinned}
use Rattle.hyd_spec_certificates.specs.declared.Side.{Side}
use Rattle.hyd_spec_certificates.specs.declared.Side.TheVariants.{Upper, Lower}
use Rattle.hyd_spec_certificates.specs.PeriodNetwork.{Grid}
use Rattle.hyd_spec_certificates.specs.Certificate.{IsCertificate}
use Rattle.hyd_spec_certificates.specs.RecordAndStanding.{Record, Standing, vector_of}
use Rattle.hyd_spec_certificates.specs.Decided.{links_at, acts_on}
use Rattle.hyd_spec_certificates.specs.Decided.{heads_below, heads_above}
use Rattle.hyd_spec_certificates.specs.Valid.{AreCertificates, IsProblem}
use Rattle.hyd_spec_certificates.specs.StatusesOfLinks.{status_of}
use Rattle.hyd_spec_certificates.specs.FlowIntervals.{difference}
use Rattle.hyd_spec.specs.DemandsHeadsAndPumpLifts.{is_us}
use Rattle.hyd_spec_reports.specs.ReportLine.{ReportLine, LinkLine}
use Rattle.hyd_spec_reports.specs.Report.{AreStateLines, IsTankLine, IsLinkLine}
use Rattle.hyd_spec_reports.specs.Claims.{LineHolds}
use Rattle.hyd_spec_open_ends.specs.OpenStandings.{OpenStanding, OpenRecord}
use Rattle.hyd_spec_open_ends.specs.OpenEnds.{Way, EndsIn}
use Rattle.hyd_spec_open_ends.specs.OpenEnds.{shortest_length, longest_length}
use Rattle.hyd_spec_open_reports.specs.OpenReportLine.{OpenLine}
use Rattle.hyd_spec_open_reports.specs.OpenReport.{IsOpenReport}
use Rattle.hyd_spec_open_reports.specs.ClaimsOfOpenLines.{OpenLineHolds}
use Rattle.hyd_theorems_on_histories.specs.Agreement.{IsUnder, IsOwnState, IsKept}
use Rattle.hyd_theorems_on_histories.proofs.CommandedLinkStates.{started_own}
use Rattle.hyd_theorems_on_histories.proofs.RuleReadingsBetweenEnds.{inflow_within}
use Rattle.hyd_theorems_on_open_ends.specs.AgreementOverStarts.{begun_at, IsUnderOpenly}
use Rattle.hyd_theorems_on_open_ends.proofs.LengthsOverStarts.{ends_so}
use Rattle.hyd_theorems_on_open_ends.proofs.LevelsThatArrive.{all_come}
use Rattle.hyd_theorems_on_open_ends.proofs.RulesOverStarts.{changes_over}
use Rattle.hyd_theorems_on_open_standings.specs.FirmStandings.{IsFirm}
use Rattle.hyd_theorems_on_runs.proofs.ReportTimeLinesHold.{IsCovered, state_lines_hold}
use Rattle.hyd_theorems_on_runs.proofs.ReportLinesHold.{tank_holds, link_holds}
use Rattle.hyd_theorems_on_open_reports.proofs.StartAndEndLinesHold.{ClaimsAreAlike, IsBegunOpenly, EndsAsDecided}
use Rattle.hyd_theorems_on_open_reports.proofs.StartAndEndLinesHold.{told_lines_hold}

-- ---- a period

module _ (project : Project) (sound : IsSound project) (S : ℕ) (commanded : List LinkState) (period : Period)
    (grid : Grid) (standing : OpenStanding) (found : OpenRecord) (firm : IsFirm project standing)
    (under : IsUnderOpenly project S period grid standing found.row) (lasts : HasItsLength project S period)
    (from_standing : commanded ≡ standing.known.commanded) where
  abbrev Holds : OpenLine → Type 0
  Holds each = OpenLineHolds project S commanded period each

  abbrev KnownHolds : ReportLine → Type 0
  KnownHolds told = LineHolds project S commanded period told

  -- ---- the period as of its own start

  abbrev own : Standing
  own = begun_at standing.known period.time

  abbrev own-row : Record
  own-row = record found.row { length = period.length }

  own-certificates : AreCertificates project grid own-row
  own-certificates = record {
    pinned_each = under.own.certificates.pinned_each;
    each = by-problem;
  }
    where
      by-problem : (problem : Problem) (side : Side) → IsProblem project problem
          → IsCertificate grid problem side (vector_of own-row problem side)
      by-problem Main side is = under.own.certificates.each Main side is
      by-problem (Pinned k) side is = under.own.certificates.each (Pinned k) side is

  own-under : IsUnder project S period grid own own-row
  own-under = record {
    compared = under.own.compared;
    volumes = under.own.volumes;
    certificates = own-certificates;
    time = under.own.time;
    tanks = under.own.tanks;
    links = under.own.links;
    controls = under.own.controls;
    vessels = under.own.vessels;
  }

  own-kept : IsKept project own
  own-kept = record { controls = firm.kept.controls; levels = firm.kept.levels; states = firm.kept.states }

  own-states : AllZip (IsOwnState project) project.links.list (links_at project own)
  own-states = started_own project sound own.time (acts_on own.levels) own.commanded own-kept.states

  covered : IsCovered project S period grid standing.known found.row
  covered = record {
    compared = under.own.compared;
    lower = under.own.certificates.each Main Lower tt;
    upper = under.own.certificates.each Main Upper tt;
  }

  -- ---- a report time

  tank-line : (k : ℕ) (tank : Tank) (each : ReportLine) → slice_get project.tanks.list k ≡ Some tank
      → IsTankLine project grid standing.known found.row k tank each → KnownHolds each
  tank-line k tank each at line =
      tank_holds project sound S commanded period grid own own-row own-under own-kept own-states from_standing refl
      k tank each at (record {
        head = line.head;
        level = line.level;
        inflow = line.inflow;
        state = line.state;
        is_line = line.is_line;
        head_is = line.head_is;
        level_is = line.level_is;
        inflow_is = line.inflow_is;
        state_is = line.state_is;
      })

  module _ (known : standing.late ≡ 0) where
    same-time : period.time ≡ standing.known.time
    same-time = let a = under.after in let b = under.by in omega (arith, known, a, b)

    link-line : (l : ℕ) (link : Link) (each : ReportLine) → slice_get project.links.list l ≡ Some link
        → IsLinkLine project grid standing.known found.row l link each → KnownHolds each
    link-line l link each at line =
        link_holds project sound S commanded period grid own own-row own-under own-kept own-states from_standing refl
        l link each at (record {
          place = line.place;
          place_is = line.place_is;
          box = line.box;
          box_is = line.box_is;
          flow = line.flow;
          flow_is = line.flow_is;
          is_line = subst (λ t. each ≡ LinkLine l line.flow (status_of (is_us project) project.bends.list link.kind
              (state_of_link (links_at project (begun_at standing.known t)) l)
              (difference line.place (heads_below grid found.row) (heads_above grid found.row)))) (sym same-time)
              line.is_line;
        })

    state-known : (state : List ReportLine) → AreStateLines project grid standing.known found.row state
        → AllByRecursion KnownHolds state
    state-known state are =
        state_lines_hold project S commanded period grid standing.known found.row covered state are same-time tank-line
        link-line

  -- ---- starts and ends

  alike : ClaimsAreAlike project project S commanded period
  alike = record {
    starts = λ time change is. is;
    ends = λ time change at_end is_tried is_change.
        record { at_end = at_end; is_tried = is_tried; is_change = is_change };
    fills = λ time k is. is;
    empties = λ time k is. is;
    reaches_level = λ time k number is. is;
  }

  begun : IsBegunOpenly project S commanded period grid standing found.row
  begun = record {
    some = under.own.compared.some;
    after = under.after;
    by = under.by;
    quiet = firm.quiet;
    kept = firm.kept;
    commanded_are = from_standing;
    levels = under.own.compared.lie;
    volumes = under.own.volumes;
    tanks = under.own.tanks;
    inflows = λ k tank at. inflow_within project S period grid own found.row under.own k tank at;
  }

  ending : EndsAsDecided project project S period grid standing found.row
  ending = record {
    ends = λ other way ends. ends_so project sound S period grid standing found.row under other lasts way ends;
    come = λ other way reached ends arrives shortest from.
        all_come project sound S period grid standing found.row under other lasts way reached ends arrives shortest
        from;
    changes = λ seconds by known.
        changes_over project S period grid standing found.row under sound seconds by known;
  }

  -- ---- all lines

  -- the record has the lengths of each way in which it ends
  module _ (lengths : (way : Way) → EndsIn project grid standing found.row way
      → (found.shortest ≡ shortest_length standing.late way) × (found.row.length ≡ longest_length way)) where
    pub lines_hold : (lines : List OpenLine) → IsOpenReport project grid standing found lines
        → AllByRecursion Holds lines
    lines_hold lines report =
        told_lines_hold project sound project S commanded period grid standing found alike begun ending lengths
        (AreStateLines project grid standing.known found.row report.state) report.state report.at_end lines
        (λ known are. state-known known report.state are) report.state_are report.at_end_are report.lines_are
