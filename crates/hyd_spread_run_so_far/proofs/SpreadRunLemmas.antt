-- Runs for a spread as far as they have gone, and what is put out of them.
use Rattle.std.proofs.Common.{◌≡◌, ℕ, ◌<◌, ◌≤◌, ◌^◌, List, [], ◌∷◌, ◌++◌, length, length-append, Some, None}
use Rattle.std.proofs.Common.{refl, sym, ap, subst, ◌∙◌, arith, append-nil, inl, inr}
use Rattle.std.proofs.lemmas.List.Elements.{All-nil}
use Rattle.hyd_net.specs.Sound.{IsSound}
use Rattle.hyd_spec.specs.ProgramTypes.{Project}
use Rattle.hyd_spec.specs.NodeNumbers.{junction_count, tank_count}
use Rattle.hyd_spec_certificates.specs.CertificateText.{end_line, header_line}
use Rattle.hyd_spec_reports.specs.PromisesOfRunsAndChecks.{Outcome, last_line, is_finished}
use Rattle.hyd_spec_open_ends.specs.OpenStandings.{OpenStanding}
use Rattle.hyd_spec_open_ends.specs.OpenCertificateText.{open_version, IsOpenRow}
use Rattle.hyd_spec_spread.specs.Spreads.{Spread, IsSpread}
use Rattle.hyd_spec_spread_runs.specs.RunsForSpreads.{StartIsDecided}
use Rattle.hyd_spec_open_spreads.specs.OpenRunsForSpreads.{OpenFoundOver, IsValidOpenlyOver, IsOpenRunOver}
use Rattle.hyd_spec_open_spreads.specs.OpenRunsForSpreads.{IsOpenRunOverFrom, none, more, open_standing_within}
use Rattle.hyd_spec_spread_reports.specs.SpreadReport.{IsSpreadReport}
use Rattle.hyd_spec_spread_reports.specs.ClaimsWithinSpreads.{ReportedOver, AreReportsOver, periods_over}
use Rattle.hyd_spec_spread_reports.specs.TextsOfSpreadReports.{second_line}
use Rattle.hyd_spec_spread_promises.specs.SharpOverSpreads.{IsSharpWithin}
use Rattle.hyd_spec_spread_promises.specs.PromisesOfSpreadRuns.{certificate_over, report_over}
use Rattle.hyd_theorems_on_open_spreads.proofs.HistoriesOverPairs.{every-keeping-history}
use Rattle.hyd_theorems_on_spread_reports.proofs.EveryLineHoldsWithin.{every_line_within}
use Rattle.hyd_lemmas.proofs.ListsOptionsAndResults.{all-more}
use Rattle.hyd_io.specs.declared.output.OutFault.{OutFault}
use Rattle.hyd_run.specs.Pens.{RunMoment, PutIn, IsCutOff, IsCutInOrder, IsCutAtEnd}
use Rattle.hyd_run.specs.Runs.{first_line}
use Rattle.hyd_run.proofs.PenLemmas.{put-then, cut-off-then}
use Rattle.hyd_run.proofs.RunLemmas.{put-as, cut-off-as, out-and-held, cut-at-end-in-order, cut-while-emptied}
use Rattle.hyd_run.proofs.RunLemmas.{moved-whole}
use Rattle.hyd_spread_run_so_far.specs.SpreadRunSoFar.{Asked, IsEnd, AreSharp, IsPutOutOver}
use Rattle.hyd_spread_run_so_far.specs.SpreadRunSoFar.{EndsInOrderOver, IsBrokenOffOver, IsSpreadStep, IsSoFar}
use Rattle.hyd_spread_run_so_far.specs.SpreadRunSoFar.{IsWhole, IsCutShort, DidPeriod, LostPeriod}
use Rattle.hyd_spread_run_so_far.proofs.SpreadRunTexts.{periods-more, fit-more, certificate-last, certificate-more}
use Rattle.hyd_spread_run_so_far.proofs.SpreadRunTexts.{certificate-is, report-first, report-last, report-more}

-- ---- a run with a period more

pub open_run_more : (project : Project) (spread : Spread) (slack : ℕ) (start : OpenStanding)
    (founds : List OpenFoundOver) (left : OpenStanding) (here : OpenFoundOver)
    → IsOpenRunOverFrom project spread slack start founds left → here.standing ≡ left
    → IsValidOpenlyOver project spread here.standing here.pair here.found here.next → here.next.late ≤ slack
    → IsOpenRunOverFrom project spread slack start (founds ++ (here ∷ [])) here.next
open_run_more project spread slack _ _ left here none begins valid within =
    subst (λ (s : OpenStanding). IsOpenRunOverFrom project spread slack s (here ∷ []) here.next) begins
    (more valid within none)
open_run_more project spread slack _ _ left here (more {here = first} {rest = rest} is late go) begins valid within =
    more is late (open_run_more project spread slack first.next rest left here go begins valid within)

module _ (project : Project) (asked : Asked) (left next : OpenStanding) (reports : List ReportedOver)
    (each : ReportedOver) (step : IsSpreadStep project asked left next each) where
  pub run-with : IsOpenRunOver project asked.spread asked.slack (periods_over reports) left
      → IsOpenRunOver project asked.spread asked.slack (periods_over (reports ++ (each ∷ []))) next
  run-with run = record {
    start = run.start;
    run = subst (λ (fs : List OpenFoundOver). IsOpenRunOverFrom project asked.spread asked.slack
        (open_standing_within project asked.spread) fs next) (sym (periods-more reports each))
        (subst (λ (s : OpenStanding). IsOpenRunOverFrom project asked.spread asked.slack
        (open_standing_within project asked.spread) (periods_over reports ++ (each.here ∷ [])) s) step.leaves
        (open_run_more project asked.spread asked.slack (open_standing_within project asked.spread)
        (periods_over reports) left each.here run.run step.begins step.valid step.within));
  }

  pub reports-with : AreReportsOver project reports → AreReportsOver project (reports ++ (each ∷ []))
  reports-with are =
      all-more (λ (r : ReportedOver). IsSpreadReport project r.here.pair r.here.standing r.here.found r.lines) reports
      each are step.report

  pub sharp-with : AreSharp project asked reports → AreSharp project asked (reports ++ (each ∷ []))
  sharp-with sharp = all-more (λ (r : ReportedOver). IsSharpWithin project asked.spread asked.sharpness r.here) reports
      each sharp step.sharp

-- ---- the order of what went out

module _ (project : Project) (asked : Asked) (outcome : Outcome) (start before now : RunMoment)
    (c : start.certificate.held ≡ []) (r : start.report.held ≡ []) where
  -- the last lines were cut off
  at-end-in-order : (left : OpenStanding) (fault : OutFault) (so_far : IsSoFar project asked left start before)
      (cut : IsCutAtEnd fault (end_line (length so_far.reports) (is_finished outcome))
      (last_line project left.known (length so_far.reports) outcome) before now)
      → EndsInOrderOver project asked.spread so_far.reports left (Some outcome)
      (so_far.put.written.front ++ cut.cut_off.written.1.front)
      (so_far.put.printed.front ++ cut.cut_off.printed.1.front)
  at-end-in-order left fault so_far cut =
      elim (cut-at-end-in-order fault _ _ start before now c so_far.put _ _ r cut) [
        | inl some ↦ inl some
        | inr all ↦ inr (all ∙ certificate-last project so_far.reports outcome)
      ]

-- ---- a run so far

pub so-far-begins : (project : Project) (asked : Asked) (before now : RunMoment)
    → StartIsDecided project asked.spread
    → PutIn (header_line open_version (junction_count project) (tank_count project))
    (first_line ++ second_line project asked.spread) before now
    → IsSoFar project asked (open_standing_within project asked.spread) before now
so-far-begins project asked before now decided put = record {
  reports = [];
  is_run = record { start = decided; run = none };
  are_reports = tt;
  sharp = tt;
  fit = All-nil (IsOpenRow (junction_count project) (tank_count project));
  each = refl;
  put = put-as _ _ _ _ before now
      (sym (append-nil (header_line open_version (junction_count project) (tank_count project))))
      (report-first project asked.spread (open_standing_within project asked.spread)) put;
}

pub so-far-more : (project : Project) (asked : Asked) (left next : OpenStanding) (start before now : RunMoment)
    → DidPeriod project asked left next before now → IsSoFar project asked left start before
    → IsSoFar project asked next start now
so-far-more project asked left next start before now did so_far =
    let each = did.each in
    let step = did.step in
    record {
      reports = so_far.reports ++ (each ∷ []);
      is_run = run-with project asked left next so_far.reports each step so_far.is_run;
      are_reports = reports-with project asked left next so_far.reports each step so_far.are_reports;
      sharp = sharp-with project asked left next so_far.reports each step so_far.sharp;
      fit = fit-more project so_far.reports each so_far.fit step.fits;
      each = (let l = length-append so_far.reports (each ∷ []) in let e = so_far.each in let n = step.number in omega
          (arith, l, e, n));
      put = put-as _ _ _ _ start now (certificate-more project so_far.reports each)
          (report-more project asked.spread left next so_far.reports each)
          (put-then _ _ _ _ start before now so_far.put did.put);
    }

pub so-far-cut-off : (project : Project) (asked : Asked) (fault : OutFault) (left next : OpenStanding)
    (start before now : RunMoment) → LostPeriod fault project asked left next before now
    → IsSoFar project asked left start before → IsCutShort project asked fault start now
so-far-cut-off project asked fault left next start before now lost so_far =
    let each = lost.each in
    let step = lost.step in
    let reports = so_far.reports ++ (each ∷ []) in
    let off = cut-off-as fault _ _ _ _ start now (certificate-more project so_far.reports each) (report-more project
    asked.spread left next so_far.reports each) (cut-off-then fault _ _ _ _ start before now so_far.put
    lost.cut_off.cut_off) in
    record {
      reports = reports;
      left = next;
      is_run = run-with project asked left next so_far.reports each step so_far.is_run;
      are_reports = reports-with project asked left next so_far.reports each step so_far.are_reports;
      sharp = sharp-with project asked left next so_far.reports each step so_far.sharp;
      last = None;
      ends_so = tt;
      names = tt;
      cut_off = off;
      in_order = λ c r. inl (
        off.printed.0,
        out-and-held start.report.held (report_over project asked.spread next reports None) off.printed.1.front
            off.printed.0 r off.printed.1.whole,
      );
    }

pub first-cut-short : (project : Project) (asked : Asked) (fault : OutFault) (before now : RunMoment)
    → StartIsDecided project asked.spread
    → IsCutInOrder fault (header_line open_version (junction_count project) (tank_count project))
    (first_line ++ second_line project asked.spread) before now
    → IsCutShort project asked fault before now
first-cut-short project asked fault before now decided cut =
    let off = cut-off-as fault _ _ _ _ before now
    (sym (append-nil (header_line open_version (junction_count project) (tank_count project))))
    (report-first project asked.spread (open_standing_within project asked.spread)) cut.cut_off in
    record {
      reports = [];
      left = open_standing_within project asked.spread;
      is_run = record { start = decided; run = none };
      are_reports = tt;
      sharp = tt;
      last = None;
      ends_so = tt;
      names = tt;
      cut_off = off;
      in_order = λ c r. inl (
        off.printed.0,
        out-and-held before.report.held
            (report_over project asked.spread (open_standing_within project asked.spread) [] None)
            off.printed.1.front off.printed.0 r off.printed.1.whole,
      );
    }

-- ---- its end

pub is-whole : (project : Project) (asked : Asked) (outcome : Outcome) (left : OpenStanding)
    (start before now : RunMoment) (records : ℕ) → records ≡ left.known.number → records < 2 ^ 32
    → IsEnd project asked left outcome
    → PutIn (end_line records (is_finished outcome)) (last_line project left.known records outcome) before now
    → now.certificate.held ≡ []
    → IsSoFar project asked left start before → IsWhole project asked outcome start now
is-whole project asked outcome left start before now records counted few ends put emptied so_far =
    let same : records ≡ length so_far.reports = counted ∙ sym so_far.each in
    record {
      reports = so_far.reports;
      left = left;
      is_run = so_far.is_run;
      are_reports = so_far.are_reports;
      sharp = so_far.sharp;
      fit = so_far.fit;
      few = subst (λ (n : ℕ). n < 2 ^ 32) same few;
      end = ends;
      emptied = emptied;
      put = put-as _ _ _ _ start now (certificate-last project so_far.reports outcome)
          (report-last project asked.spread left so_far.reports outcome)
          (put-then _ _ _ _ start before now so_far.put
          (subst (λ (n : ℕ). PutIn (end_line n (is_finished outcome)) (last_line project left.known n outcome) before
          now) same put));
    }

pub last-cut-short : (project : Project) (asked : Asked) (fault : OutFault) (outcome : Outcome)
    (left : OpenStanding) (start before now : RunMoment) (records : ℕ)
    → records ≡ left.known.number → IsEnd project asked left outcome
    → IsCutAtEnd fault (end_line records (is_finished outcome)) (last_line project left.known records outcome)
    before now
    → IsSoFar project asked left start before → IsCutShort project asked fault start now
last-cut-short project asked fault outcome left start before now records counted ends at_end so_far =
    let same : records ≡ length so_far.reports = counted ∙ sym so_far.each in
    let cut : IsCutAtEnd fault (end_line (length so_far.reports) (is_finished outcome))
    (last_line project left.known (length so_far.reports) outcome) before now =
    subst (λ (n : ℕ). IsCutAtEnd fault (end_line n (is_finished outcome)) (last_line project left.known n outcome)
    before now) same at_end in
    record {
      reports = so_far.reports;
      left = left;
      is_run = so_far.is_run;
      are_reports = so_far.are_reports;
      sharp = so_far.sharp;
      last = Some outcome;
      ends_so = ends.ends_so;
      names = ends.names;
      cut_off = cut-off-as fault _ _ _ _ start now (certificate-last project so_far.reports outcome)
          (report-last project asked.spread left so_far.reports outcome)
          (cut-off-then fault _ _ _ _ start before now so_far.put cut.cut_off);
      in_order = λ c r. at-end-in-order project asked outcome start before now c r left fault so_far cut;
    }

-- the pens are emptied, or a fault cuts that off
pub whole-emptied : (project : Project) (asked : Asked) (outcome : Outcome) (start before now : RunMoment)
    → IsWhole project asked outcome start before → PutIn [] [] before now → now.certificate.held ≡ []
    → IsWhole project asked outcome start now
whole-emptied project asked outcome start before now whole put emptied = record {
  reports = whole.reports;
  left = whole.left;
  is_run = whole.is_run;
  are_reports = whole.are_reports;
  sharp = whole.sharp;
  fit = whole.fit;
  few = whole.few;
  end = whole.end;
  put = put-as _ _ _ _ start now (append-nil _) (append-nil _) (put-then _ _ _ _ start before now whole.put put);
  emptied = emptied;
}

pub whole-cut-off : (project : Project) (asked : Asked) (fault : OutFault) (outcome : Outcome)
    (start before now : RunMoment)
    → IsWhole project asked outcome start before → IsCutOff fault [] [] before now
    → IsCutShort project asked fault start now
whole-cut-off project asked fault outcome start before now whole cut_off = record {
  reports = whole.reports;
  left = whole.left;
  is_run = whole.is_run;
  are_reports = whole.are_reports;
  sharp = whole.sharp;
  last = Some outcome;
  ends_so = whole.end.ends_so;
  names = whole.end.names;
  cut_off = cut-off-as fault _ _ _ _ start now (append-nil _) (append-nil _) (cut-off-then fault _ _ _ _ start before
      now whole.put cut_off);
  in_order = λ c r. inr (cut-while-emptied fault _ _ start before now c whole.put whole.emptied cut_off);
}

-- ---- what is put out

pub put-out : (project : Project) (asked : Asked) (outcome : Outcome) (start now : RunMoment) → IsSound project
    → IsSpread project asked.spread → start.certificate.held ≡ [] → start.report.held ≡ []
    → now.certificate.held ≡ [] → now.report.held ≡ []
    → IsWhole project asked outcome start now → IsPutOutOver project asked outcome start.told now.told
put-out project asked outcome start now sound spread c r c' r' whole =
    let a = certificate_over project whole.reports (Some outcome) in
    let b = report_over project asked.spread whole.left whole.reports (Some outcome) in
    record {
      certificate = a;
      report = b;
      tells = record {
        reports = whole.reports;
        left = whole.left;
        is_run = whole.is_run;
        are_reports = whole.are_reports;
        sharp = whole.sharp;
        ends_so = whole.end.ends_so;
        certificate = certificate-is project sound whole.reports outcome whole.fit whole.few;
        report = refl;
        every_history = every-keeping-history project sound asked.spread spread asked.slack
            (periods_over whole.reports) whole.left whole.is_run;
        every_line = every_line_within project sound asked.spread spread asked.slack whole.reports whole.left
            whole.is_run whole.are_reports;
      };
      names = whole.end.names;
      written = moved-whole start.told.written now.told.written start.certificate.held a now.certificate.held c c'
          whole.put.written;
      printed = moved-whole start.told.printed now.told.printed start.report.held b now.report.held r r'
          whole.put.printed;
    }

pub broken-off : (project : Project) (asked : Asked) (fault : OutFault) (start now : RunMoment) → IsSound project
    → IsSpread project asked.spread → start.certificate.held ≡ [] → start.report.held ≡ []
    → IsCutShort project asked fault start now
    → IsBrokenOffOver project asked start.told now.told
broken-off project asked fault start now sound spread c r short =
    let w = short.cut_off.written in
    let p = short.cut_off.printed in
    record {
      certificate = w.1.front;
      report = p.1.front;
      breaks_off = record {
        reports = short.reports;
        left = short.left;
        is_run = short.is_run;
        are_reports = short.are_reports;
        sharp = short.sharp;
        last = short.last;
        ends_so = short.ends_so;
        unwritten = w.0;
        front_of_certificate = sym w.1.whole
            ∙ ap (λ (xs : List ℕ). xs ++ certificate_over project short.reports short.last) c;
        unprinted = p.0;
        front_of_report = sym p.1.whole
            ∙ ap (λ (xs : List ℕ). xs ++ report_over project asked.spread short.left short.reports short.last) r;
        every_history = every-keeping-history project sound asked.spread spread asked.slack
            (periods_over short.reports) short.left short.is_run;
        every_line = every_line_within project sound asked.spread spread asked.slack short.reports short.left
            short.is_run short.are_reports;
      };
      names = short.names;
      in_order = short.in_order c r;
      written = w.1.out;
      printed = p.1.out;
    }
