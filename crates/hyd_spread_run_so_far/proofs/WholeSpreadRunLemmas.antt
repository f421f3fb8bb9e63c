-- The beginning, the steps and the end of a run for a spread.
use Rattle.std.proofs.Common.{◌≡◌, ℕ, ◌<◌, ◌^◌, List, [], ◌++◌, sym, ap, subst}
use Rattle.std.specs.Prelude.{Result, Ok, Err, IfOk, IfErr, OnOk}
use Rattle.hyd_net.specs.Sound.{IsSound}
use Rattle.hyd_spec.specs.ProgramTypes.{Project}
use Rattle.hyd_spec_certificates.specs.CertificateText.{end_line}
use Rattle.hyd_spec_reports.specs.PromisesOfRunsAndChecks.{Outcome, last_line, is_finished}
use Rattle.hyd_spec_open_ends.specs.OpenStandings.{OpenStanding}
use Rattle.hyd_spec_open_checks.specs.OpenChecks.{open_header_for}
use Rattle.hyd_spec_spread.specs.Spreads.{Spread, IsSpread}
use Rattle.hyd_spec_spread_runs.specs.RunsForSpreads.{StartIsDecided}
use Rattle.hyd_spec_spread_reports.specs.TextsOfSpreadReports.{second_line}
use Rattle.hyd_cert.specs.Lines.{Header, header_text}
use Rattle.hyd_io.specs.declared.output.Channel.TheVariants.{Cert, Report}
use Rattle.hyd_io.specs.declared.output.OutFault.{OutFault}
use Rattle.hyd_io.specs.Output.{PenState}
use Rattle.hyd_run.specs.Pens.{RunMoment, AreOpen, PutIn, IsCutInOrder, PutsInOrder, PutsLast, OneRose, LeavesRest}
use Rattle.hyd_run.specs.Runs.{fresh, first_line, outcome_of}
use Rattle.hyd_run.specs.declared.outcome.RunEnd.{RunEnd}
use Rattle.hyd_spread_run_so_far.specs.SpreadRunSoFar.{Asked, IsEnd, IsSoFar, IsOver, RunBegins}
use Rattle.hyd_spread_run_so_far.specs.SpreadRunSoFar.{RunPuts, IsPutOutOver, IsBrokenOffOver}
use Rattle.hyd_spread_run_so_far.proofs.SpreadRunLemmas.{so-far-begins, first-cut-short, is-whole, last-cut-short}
use Rattle.hyd_spread_run_so_far.proofs.SpreadRunLemmas.{put-out, broken-off}

-- the header and the first lines were put in, or a fault cut them off
begins-with : (project : Project) (asked : Asked) (header : Header) (result : Result (Unit {0}) OutFault)
    (before now : RunMoment) → header ≡ open_header_for project → StartIsDecided project asked.spread
    → PutsInOrder (header_text header) (first_line ++ second_line project asked.spread) result before now
    → RunBegins result project asked before now
begins-with project asked header (Ok done) before now same decided put =
    so-far-begins project asked before now decided
    (subst (λ (h : Header). PutIn (header_text h) (first_line ++ second_line project asked.spread) before now) same
    put)
begins-with project asked header (Err fault) before now same decided cut =
    first-cut-short project asked fault before now decided
    (subst (λ (h : Header). IsCutInOrder fault (header_text h) (first_line ++ second_line project asked.spread) before
    now) same cut)

pub begins-so : (project : Project) (asked : Asked) (spread : Spread) (header : Header)
    (result : Result (Unit {0}) OutFault) (before now : RunMoment) → asked.spread ≡ spread
    → header ≡ open_header_for project → StartIsDecided project asked.spread
    → PutsInOrder (header_text header) (first_line ++ second_line project spread) result before now
    → RunBegins result project asked before now
begins-so project asked spread header result before now of_rows same decided puts =
    begins-with project asked header result before now same decided
    (subst (λ (s : Spread). PutsInOrder (header_text header) (first_line ++ second_line project s) result before now)
    (sym of_rows) puts)

pub open-still : (certificate report : List ℕ) (result : Result (Unit {0}) OutFault) (before now : RunMoment)
    → PutsInOrder certificate report result before now → OnOk result (AreOpen now)
open-still certificate report (Ok done) before now put = put.unbroken
open-still certificate report (Err fault) before now cut = tt

-- the run is over at a standing that stays
pub steps-over : (project : Project) (asked : Asked) (outcome : Outcome) (left next : OpenStanding)
    (start before now : RunMoment) → IsOver project asked outcome left next before now
    → IsSoFar project asked left start before → IsSoFar project asked next start now
steps-over project asked outcome left next start before now over so_far =
    subst (λ (s : OpenStanding). IsSoFar project asked s start now) (sym over.stays)
    (subst (λ (x : RunMoment). IsSoFar project asked left start x) (sym over.nothing) so_far)

-- the last lines were put in, or a fault cut them off
pub ending : (project : Project) (asked : Asked) (end : RunEnd) (result : Result (Unit {0}) OutFault)
    (left : OpenStanding) (start before now : RunMoment) (records : ℕ) → records ≡ left.known.number
    → records < 2 ^ 32 → IsEnd project asked left (outcome_of end)
    → PutsLast (end_line records (is_finished (outcome_of end)))
    (last_line project left.known records (outcome_of end)) result before now
    → IsSoFar project asked left start before
    → IfOk result (λ done. RunPuts (Ok end) project asked start now)
    × IfErr result (λ fault. RunPuts (Err fault) project asked start now)
ending project asked end (Ok done) left start before now records counted few ends put so_far = (
  is-whole project asked (outcome_of end) left start before now records counted few ends put.0 put.1 so_far,
  tt,
)
ending project asked end (Err fault) left start before now records counted few ends cut so_far = (
  tt,
  last-cut-short project asked fault (outcome_of end) left start before now records counted ends cut so_far,
)

-- ---- what a run gives

module _ (project : Project) (asked : Asked) (start now : RunMoment) (sound : IsSound project)
    (spread : IsSpread project asked.spread) (certificate : start.certificate ≡ fresh Cert)
    (report : start.report ≡ fresh Report) where
  c-held : start.certificate.held ≡ []
  c-held = ap (λ (p : PenState). p.held) certificate

  r-held : start.report.held ≡ []
  r-held = ap (λ (p : PenState). p.held) report

  pub gives-whole : (result : Result RunEnd OutFault) → RunPuts result project asked start now
      → OnOk result (now.certificate ≡ fresh Cert) → OnOk result (now.report ≡ fresh Report)
      → IfOk result (λ end. IsPutOutOver project asked (outcome_of end) start.told now.told)
  gives-whole (Ok end) puts e f =
      put-out project asked (outcome_of end) start now sound spread c-held r-held (ap (λ (p : PenState). p.held) e)
      (ap (λ (p : PenState). p.held) f) puts
  gives-whole (Err fault) puts e f = tt

  pub gives-broken : (result : Result RunEnd OutFault) → RunPuts result project asked start now
      → IfErr result (λ fault. IsBrokenOffOver project asked start.told now.told)
  gives-broken (Ok end) puts = tt
  gives-broken (Err fault) puts = broken-off project asked fault start now sound spread c-held r-held puts

  pub gives-rose : (result : Result RunEnd OutFault) → RunPuts result project asked start now
      → IfErr result (λ fault. OneRose fault start.told.counts now.told.counts)
  gives-rose (Ok end) puts = tt
  gives-rose (Err fault) puts = puts.cut_off.rose

  pub gives-steady : (result : Result RunEnd OutFault) → RunPuts result project asked start now
      → OnOk result (now.told.counts ≡ start.told.counts)
  gives-steady (Ok end) puts = puts.put.steady
  gives-steady (Err fault) puts = tt

  pub gives-rest : (result : Result RunEnd OutFault) → RunPuts result project asked start now
      → LeavesRest start.told now.told
  gives-rest (Ok end) puts = puts.put.leaves
  gives-rest (Err fault) puts = puts.cut_off.leaves
