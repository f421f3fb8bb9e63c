-- A record of a certificate of version 4 that was read and tried in a check for a spread.
use Rattle.std.proofs.Common.{◌≡◌, [], refl, sym, subst}
use Rattle.std.specs.Prelude.{Result, Option}
use Rattle.hyd_net.specs.Sound.{IsSound}
use Rattle.hyd_spec.specs.ProgramTypes.{Project}
use Rattle.hyd_spec_certificates.specs.declared.CertRefused.{CertRefused}
use Rattle.hyd_spec_certificates.specs.declared.Side.TheVariants.{Upper}
use Rattle.hyd_spec_open_ends.specs.OpenStandings.{OpenStanding, OpenRecord}
use Rattle.hyd_spec_open_checks.specs.OpenChecks.{open_header_for}
use Rattle.hyd_spec_spread.specs.Spreads.{Spread, IsSpread}
use Rattle.hyd_spec_spread_runs.specs.RunsForSpreads.{StartIsDecided}
use Rattle.hyd_spec_open_spreads.specs.OpenRunsForSpreads.{open_standing_within}
use Rattle.hyd_spec_spread_refusals.specs.RefusedSpreadRecords.{IsRefusedOver}
use Rattle.hyd_spec_spread_reports.specs.ClaimsWithinSpreads.{ReportedOver}
use Rattle.hyd_cert.specs.RecordView.{row_of}
use Rattle.hyd_open_certificates.specs.OpenRowView.{open_record_of}
use Rattle.hyd_open_report.specs.OpenPeriodLines.{open_texts}
use Rattle.hyd_run.proofs.PeriodLemmas.{tank-facts-of}
use Rattle.hyd_spread_networks.specs.NetsOfSpreads.{pair_of}
use Rattle.hyd_spread_report.proofs.SpreadReports.{is_report}
use Rattle.hyd_spread_run.specs.PeriodsOfSpreadRuns.{SpreadSimView, IsSpreadSim, standing_of, IsAcceptedOver}
use Rattle.hyd_spread_run.specs.PeriodsOfSpreadRuns.{IsOfPeriod, lines_left}
use Rattle.hyd_spread_run.proofs.SpreadPeriodLemmas.{of-leads, number-next, fewer-left}
use Rattle.hyd_cert_check.specs.ReaderAndPen.{CheckMoment, PutIn, IsCutOff}
use Rattle.hyd_spec_check_ends.specs.declared.CheckEnd.{CheckEnd}
use Rattle.hyd_cert_check.specs.declared.outcome.CheckFault.{CheckFault}
use Rattle.hyd_cert_check.proofs.PenLemmas.{put-then, cut-off-then}
use Rattle.hyd_spread_check_so_far.specs.SpreadCheckSoFar.{IsRead, IsSpreadStep, DidRecord, LostRecord, IsOver}
use Rattle.hyd_spread_check_so_far.specs.SpreadCheckSoFar.{TurnGives, IsSoFar, IsCutShort, AllRead, CheckPuts}
use Rattle.hyd_spread_check_so_far.specs.declared.conclusion.SpreadConclusion.{SpreadConclusion}
use Rattle.hyd_spread_check_so_far.specs.declared.conclusion.SpreadConclusion.TheVariants.{Refused}
use Rattle.hyd_spread_check_so_far.proofs.SpreadReading.{read-there}

-- what was found
abbrev pub reported : SpreadSimView → SpreadSimView → ReportedOver
reported before now = record {
  here = record {
    standing = standing_of before;
    pair = pair_of now.nets;
    found = open_record_of now.found;
    next = standing_of now;
  };
  lines = lines_left now;
}

-- ---- a record that was accepted

module _ (before now : SpreadSimView) (is : IsSpreadSim now) (accepted : IsAcceptedOver before now) where
  -- it is what the run left
  pub of-period : IsOfPeriod now
  of-period = of-leads now is (standing_of before) accepted.leads

  is-step : IsSpreadStep now.project now.nets.spread (standing_of before) (standing_of now) (reported before now)
  is-step = record {
    begins = refl;
    leaves = refl;
    valid = accepted.leads.valid;
    report = is_report now.project now.nets.upper now.nets.lower (row_of now.found.row) now.facts
        (record { start = now.found.late; end = now.close.late }) now.close.opened.list (is.nets.each Upper)
        of-period.pair (tank-facts-of now.project now.facts accepted.leads.have) (accepted.leads.links Upper)
        (standing_of before) (open_record_of now.found) now.close.first accepted.leads.valid.late refl
        accepted.leads.facts_are;
    number = number-next now.project now.nets.spread (standing_of before) (pair_of now.nets)
        (open_record_of now.found) (standing_of now) accepted.leads.valid;
  }

  module _ (project : Project) (p : now.project ≡ project) (spread : Spread) (s : now.nets.spread ≡ spread)
      (found : OpenRecord) (f : open_record_of now.found ≡ found) (m n o : CheckMoment)
      (read : IsRead (open_header_for project) found m n) (none : PutIn [] m n) (stays : o.reader ≡ n.reader)
      (rest : o.told.rest ≡ n.told.rest) where
    read-here : IsRead (open_header_for now.project) (open_record_of now.found) m o
    read-here =
        read-there (open_header_for now.project) (open_record_of now.found) m n o
        (subst (λ (x : OpenRecord). IsRead (open_header_for now.project) x m n) (sym f)
        (subst (λ (q : Project). IsRead (open_header_for q) found m n) (sym p) read)) stays rest

    pub did-there : PutIn (open_texts now.project (lines_left now)) n o
        → DidRecord project spread (standing_of before) (standing_of now) m o
    did-there put =
        subst (λ (t : Spread). DidRecord project t (standing_of before) (standing_of now) m o) s
        (subst (λ (q : Project). DidRecord q now.nets.spread (standing_of before) (standing_of now) m o) p
        (record {
          each = reported before now;
          step = is-step;
          read = read-here;
          fewer = fewer-left before now is is-step.number;
          put = put-then [] (open_texts now.project (lines_left now)) m n o none put;
        }))

    pub lost-there : (why : CheckFault) → IsCutOff why (open_texts now.project (lines_left now)) n o
        → LostRecord why project spread (standing_of before) (standing_of now) m o
    lost-there why cut =
        subst (λ (t : Spread). LostRecord why project t (standing_of before) (standing_of now) m o) s
        (subst (λ (q : Project). LostRecord why q now.nets.spread (standing_of before) (standing_of now) m o) p
        (record {
          each = reported before now;
          step = is-step;
          read = read-here;
          cut_off = cut-off-then why [] (open_texts now.project (lines_left now)) m n o none cut;
        }))

-- ---- a record that is refused

pub refused-there : (project : Project) (spread : Spread) (left next : OpenStanding) (found : OpenRecord)
    (cause : CertRefused) (m n : CheckMoment) → next ≡ left → IsRefusedOver project spread left found cause
    → IsRead (open_header_for project) found m n → PutIn [] m n → IsOver (Refused cause) project spread left next m n
refused-there project spread left next found cause m n stays refused read none = record {
  is_so = record { found = found; read = read; refused = refused };
  stays = stays;
  put = none;
}

-- ---- turns of one check

-- what a turn gives, by the network and the spread of the check's start
pub turn-as : (result : Result (Option SpreadConclusion) CheckFault) (p project : Project) (s spread : Spread)
    (left next : OpenStanding) (m n : CheckMoment) → p ≡ project → s ≡ spread → TurnGives result p s left next m n
    → TurnGives result project spread left next m n
turn-as result p project s spread left next m n e f gives =
    subst (λ (t : Spread). TurnGives result project t left next m n) f
    (subst (λ (q : Project). TurnGives result q s left next m n) e gives)

-- what a run is between its periods, said of the same network and spread by other names
module _ (sim : SpreadSimView) (is : IsSpreadSim sim) (project : Project) (spread : Spread)
    (p : project ≡ sim.project) (s : spread ≡ sim.nets.spread) where
  pub sound-there : IsSound project
  sound-there = subst IsSound (sym p) is.sound

  pub spread-there : IsSpread project spread
  spread-there =
      subst (λ (q : Project). IsSpread q spread) (sym p)
      (subst (λ (t : Spread). IsSpread sim.project t) (sym s) is.spread)

  pub decided-there : StartIsDecided project spread
  decided-there =
      subst (λ (q : Project). StartIsDecided q spread) (sym p)
      (subst (λ (t : Spread). StartIsDecided sim.project t) (sym s) is.decided)

-- a check that has read nothing stands at the start of its run
pub begun-at : (p project : Project) (s spread : Spread) (left : OpenStanding) (before now : CheckMoment)
    → p ≡ project → s ≡ spread → open_standing_within project spread ≡ left
    → IsSoFar p s (open_standing_within p s) before now → IsSoFar project spread left before now
begun-at p project s spread left before now e f same so_far =
    subst (λ (x : OpenStanding). IsSoFar project spread x before now) same
    (subst (λ (t : Spread). IsSoFar project t (open_standing_within project t) before now) f
    (subst (λ (q : Project). IsSoFar q s (open_standing_within q s) before now) e so_far))

-- one that is cut short is one of its run's network and spread
pub begun-short : (p project : Project) (s spread : Spread) (fault : CheckFault) (before now : CheckMoment)
    → p ≡ project → s ≡ spread → IsCutShort p s fault before now → IsCutShort project spread fault before now
begun-short p project s spread fault before now e f short =
    subst (λ (t : Spread). IsCutShort project t fault before now) f
    (subst (λ (q : Project). IsCutShort q s fault before now) e short)

-- what the last line makes of a check, as of the network at its start
pub ended-as : (p project : Project) (spread : Spread) (conclusion : SpreadConclusion) (left : OpenStanding)
    (result : Result CheckEnd CheckFault) (start before now : CheckMoment) → p ≡ project
    → ((x : CheckMoment) → AllRead conclusion p spread left x before → CheckPuts result p spread x now)
    → AllRead conclusion project spread left start before → CheckPuts result project spread start now
ended-as p project spread conclusion left result start before now e puts read =
    subst (λ (q : Project). (x : CheckMoment) → AllRead conclusion q spread left x before
    → CheckPuts result q spread x now) e puts start read
