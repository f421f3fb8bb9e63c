-- The beginning and the end of a run that names links.
use Rattle.std.proofs.Common.{◌≡◌, ℕ, ◌<◌, ◌^◌, List, [], sym, ap, subst, arith}
use Rattle.std.specs.Prelude.{Result, Ok, Err, IfOk, IfErr, OnOk}
use Rattle.hyd_net.specs.Sound.{IsSound}
use Rattle.hyd_spec.specs.ProgramTypes.{Project}
use Rattle.hyd_spec_certificates.specs.RecordAndStanding.{Standing, initial_standing}
use Rattle.hyd_spec_certificates.specs.CertificateText.{end_line}
use Rattle.hyd_spec_reports.specs.PromisesOfRunsAndChecks.{Outcome, EndsSo, last_line, is_finished}
use Rattle.hyd_cert.specs.Lines.{Header, header_text}
use Rattle.hyd_cert.specs.PlacesWithFlows.{with_flows}
use Rattle.hyd_io.specs.declared.output.Channel.TheVariants.{Cert, Report}
use Rattle.hyd_io.specs.declared.output.OutFault.{OutFault}
use Rattle.hyd_io.specs.Output.{PenState}
use Rattle.hyd_sim.specs.RunView.{header_for}
use Rattle.hyd_sim.specs.declared.settings.Settings.{Settings}
use Rattle.hyd_run.specs.Pens.{RunMoment, PutIn, IsCutInOrder, IsCutAtEnd, OneRose, LeavesRest}
use Rattle.hyd_run.specs.Runs.{fresh, first_line, EndNames, outcome_of}
use Rattle.hyd_run.specs.declared.outcome.RunEnd.{RunEnd}
use Rattle.hyd_run_naming_flows.specs.NamingRuns.{IsSoFarNaming, IsWholeNaming, IsCutShortNaming, IsPutOutNaming}
use Rattle.hyd_run_naming_flows.specs.NamingRuns.{IsBrokenOffNaming, RunPutsNaming}
use Rattle.hyd_run_naming_flows.proofs.RunLemmas.{so-far-begins, first-cut-short, is-whole, last-cut-short, put-out}
use Rattle.hyd_run_naming_flows.proofs.RunLemmas.{broken-off}

-- the header and the first line were put in, or a fault cut them off
module _ (project : Project) (settings : Settings) (named : List ℕ) (header : Header) (before now : RunMoment)
    (same : header ≡ header_for project) where
  pub begun : (left : Standing) → left ≡ initial_standing project
      → PutIn (header_text (with_flows header)) first_line before now
      → IsSoFarNaming project settings named left before now
  begun left start put =
      subst (λ (s : Standing). IsSoFarNaming project settings named s before now) (sym start)
      (so-far-begins project settings named before now
      (subst (λ (h : Header). PutIn (header_text (with_flows h)) first_line before now) same put))

  pub begun-cut-off : (fault : OutFault)
      → IsCutInOrder fault (header_text (with_flows header)) first_line before now
      → IsCutShortNaming project settings named fault before now
  begun-cut-off fault cut =
      first-cut-short project settings named fault before now
      (subst (λ (h : Header). IsCutInOrder fault (header_text (with_flows h)) first_line before now) same cut)

-- the last lines were put in, or a fault cut them off
module _ (project shown : Project) (settings : Settings) (named : List ℕ) (outcome : Outcome) (left : Standing)
    (start before now : RunMoment) (records : ℕ) (same : shown ≡ project) (counted : records ≡ left.number)
    (ends : EndsSo project left settings.rounds outcome) (names : EndNames project left settings.rounds outcome)
    (so_far : IsSoFarNaming project settings named left start before) where
  pub ended : left.number < 2 ^ 32
      → PutIn (end_line records (is_finished outcome)) (last_line shown left records outcome) before now
      → now.certificate.held ≡ [] → IsWholeNaming project settings named outcome start now
  ended few put emptied =
      is-whole project settings named outcome left start before now records counted (omega (arith, counted, few)) ends
      names (subst (λ (p : Project). PutIn (end_line records (is_finished outcome)) (last_line p left records outcome)
      before now) same put) emptied so_far

  pub ended-cut-off : (fault : OutFault)
      → IsCutAtEnd fault (end_line records (is_finished outcome)) (last_line shown left records outcome) before now
      → IsCutShortNaming project settings named fault start now
  ended-cut-off fault cut =
      last-cut-short project settings named fault outcome left start before now records counted ends names
      (subst (λ (p : Project). IsCutAtEnd fault (end_line records (is_finished outcome)) (last_line p left records
      outcome) before now) same cut) so_far

-- what the last lines make of a run, as of the one that was begun
pub ending-puts : (project p : Project) (settings s : Settings) (named : List ℕ) (left : Standing) (outcome : Outcome)
    (result : Result RunEnd OutFault) (start before now : RunMoment) → p ≡ project → s ≡ settings
    → (EndsSo p left s.rounds outcome → EndNames p left s.rounds outcome → (ns : List ℕ) (x : RunMoment)
    → IsSoFarNaming p s ns left x before → RunPutsNaming result p s ns x now)
    → EndsSo project left settings.rounds outcome → EndNames project left settings.rounds outcome
    → IsSoFarNaming project settings named left start before → RunPutsNaming result project settings named start now
ending-puts project p settings s named left outcome result start before now e f puts ends names so_far =
    subst (λ (t : Settings). EndsSo project left t.rounds outcome → EndNames project left t.rounds outcome
    → (ns : List ℕ) (x : RunMoment) → IsSoFarNaming project t ns left x before
    → RunPutsNaming result project t ns x now) f
    (subst (λ (q : Project). EndsSo q left s.rounds outcome → EndNames q left s.rounds outcome → (ns : List ℕ)
    (x : RunMoment) → IsSoFarNaming q s ns left x before → RunPutsNaming result q s ns x now) e puts) ends names named
    start so_far

-- ---- what a run gives

module _ (project : Project) (settings : Settings) (named : List ℕ) (start now : RunMoment) (sound : IsSound project)
    (certificate : start.certificate ≡ fresh Cert) (report : start.report ≡ fresh Report) where
  c-held : start.certificate.held ≡ []
  c-held = ap (λ (p : PenState). p.held) certificate

  r-held : start.report.held ≡ []
  r-held = ap (λ (p : PenState). p.held) report

  pub gives-whole : (result : Result RunEnd OutFault) → RunPutsNaming result project settings named start now
      → OnOk result (now.certificate ≡ fresh Cert) → OnOk result (now.report ≡ fresh Report)
      → IfOk result (λ end. IsPutOutNaming project settings named (outcome_of end) start.told now.told)
  gives-whole (Ok end) puts e f =
      put-out project settings named (outcome_of end) start now sound c-held r-held (ap (λ (p : PenState). p.held) e)
      (ap (λ (p : PenState). p.held) f) puts
  gives-whole (Err fault) puts e f = tt

  pub gives-broken : (result : Result RunEnd OutFault) → RunPutsNaming result project settings named start now
      → IfErr result (λ fault. IsBrokenOffNaming project settings named start.told now.told)
  gives-broken (Ok end) puts = tt
  gives-broken (Err fault) puts = broken-off project settings named fault start now sound c-held r-held puts

  pub gives-rose : (result : Result RunEnd OutFault) → RunPutsNaming result project settings named start now
      → IfErr result (λ fault. OneRose fault start.told.counts now.told.counts)
  gives-rose (Ok end) puts = tt
  gives-rose (Err fault) puts = puts.cut_off.rose

  pub gives-steady : (result : Result RunEnd OutFault) → RunPutsNaming result project settings named start now
      → OnOk result (now.told.counts ≡ start.told.counts)
  gives-steady (Ok end) puts = puts.put.steady
  gives-steady (Err fault) puts = tt

  pub gives-rest : (result : Result RunEnd OutFault) → RunPutsNaming result project settings named start now
      → LeavesRest start.told now.told
  gives-rest (Ok end) puts = puts.put.leaves
  gives-rest (Err fault) puts = puts.cut_off.leaves
