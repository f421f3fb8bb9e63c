-- The beginning and the end of a run.
use Rattle.std.proofs.Common.{◌≡◌, ℕ, ◌<◌, ◌^◌, List, [], Option, None, sym, ap, subst, ◌∙◌, arith}
use Rattle.std.specs.Prelude.{IsTrue, Result, Ok, Err, IfOk, IfErr, OnOk}
use Rattle.hyd_net.specs.Sound.{IsSound}
use Rattle.hyd_spec.specs.ProgramTypes.{Project}
use Rattle.hyd_spec_certificates.specs.RecordAndStanding.{Standing, initial_standing}
use Rattle.hyd_spec_certificates.specs.CertificateText.{end_line}
use Rattle.hyd_spec_reports.specs.PromisesOfRunsAndChecks.{Outcome, EndsSo, last_line, is_finished}
use Rattle.hyd_cert.specs.Lines.{Header, header_text}
use Rattle.hyd_io.specs.declared.output.Channel.{Channel}
use Rattle.hyd_io.specs.declared.output.Channel.TheVariants.{Cert, Report}
use Rattle.hyd_io.specs.declared.output.OutFault.{OutFault}
use Rattle.hyd_io.specs.Output.{PenState}
use Rattle.hyd_sim.specs.RunView.{header_for}
use Rattle.hyd_sim.specs.declared.settings.Settings.{Settings}
use Rattle.hyd_run.specs.Pens.{Told, RunMoment, moment, AreOpen, PutIn, IsCutInOrder, IsCutAtEnd, OneRose, LeavesRest}
use Rattle.hyd_run.specs.Runs.{sharpness_of, fresh, first_line, IsSoFar, IsWhole, IsCutShort, IsPutOut, IsBrokenOff}
use Rattle.hyd_run.specs.Runs.{EndNames, RunPuts, outcome_of}
use Rattle.hyd_run.specs.declared.outcome.RunEnd.{RunEnd}
use Rattle.hyd_run.proofs.RunLemmas.{so-far-begins, first-cut-short, is-whole, last-cut-short, put-out, broken-off}

pub fresh-open : (c r : PenState) (t : Told) → c ≡ fresh Cert → r ≡ fresh Report → IsTrue t.ready
    → AreOpen (moment c r t)
fresh-open c r t e f ready = record {
  certificate_to = ap (λ (p : PenState). p.to) e;
  certificate_fault = ap (λ (p : PenState). p.fault) e;
  report_to = ap (λ (p : PenState). p.to) f;
  report_fault = ap (λ (p : PenState). p.fault) f;
  ready = ready;
}

pub pen-fresh : (to : Channel) (pen : PenState) → pen.to ≡ to → pen.fault ≡ None → pen.held ≡ [] → pen ≡ fresh to
pen-fresh to pen e f g =
    ap (λ (t : Channel). record { to = t; fault = pen.fault; held = pen.held }) e
    ∙ (ap (λ (x : Option OutFault). record { to = to; fault = x; held = pen.held }) f
    ∙ ap (λ (h : List ℕ). record { to = to; fault = None; held = h }) g)

-- the header and the first line were put in, or a fault cut them off
pub begun : (project : Project) (settings : Settings) (left : Standing) (header : Header) (before now : RunMoment)
    → header ≡ header_for project
    → left ≡ initial_standing project → PutIn (header_text header) first_line before now
    → IsSoFar project (sharpness_of settings) left before now
begun project settings left header before now same start put =
    subst (λ (s : Standing). IsSoFar project (sharpness_of settings) s before now) (sym start)
    (so-far-begins project (sharpness_of settings) before now
    (subst (λ (h : Header). PutIn (header_text h) first_line before now) same put))

pub begun-cut-off : (project : Project) (settings : Settings) (fault : OutFault) (header : Header)
    (before now : RunMoment)
    → header ≡ header_for project
    → IsCutInOrder fault (header_text header) first_line before now → IsCutShort project settings fault before now
begun-cut-off project settings fault header before now same cut =
    first-cut-short project settings fault before now
    (subst (λ (h : Header). IsCutInOrder fault (header_text h) first_line before now) same cut)

-- the last lines were put in, or a fault cut them off
pub ended : (project shown : Project) (settings : Settings) (outcome : Outcome) (left : Standing) (start before
    now : RunMoment) (records : ℕ)
    → shown ≡ project → records ≡ left.number → left.number < 2 ^ 32 → EndsSo project left settings.rounds outcome
    → EndNames project left settings.rounds outcome
    → PutIn (end_line records (is_finished outcome)) (last_line shown left records outcome) before now
    → now.certificate.held ≡ []
    → IsSoFar project (sharpness_of settings) left start before → IsWhole project settings outcome start now
ended project shown settings outcome left start before now records same counted few ends names put =
    is-whole project settings outcome left start before now records counted (omega (arith, counted, few)) ends names
    (subst (λ (p : Project). PutIn (end_line records (is_finished outcome)) (last_line p left records outcome)
    before now) same put)

pub ended-cut-off : (project shown : Project) (settings : Settings) (fault : OutFault) (outcome : Outcome) (left :
    Standing) (start before now : RunMoment) (records : ℕ)
    → shown ≡ project → records ≡ left.number → EndsSo project left settings.rounds outcome
    → EndNames project left settings.rounds outcome
    → IsCutAtEnd fault (end_line records (is_finished outcome)) (last_line shown left records outcome) before now
    → IsSoFar project (sharpness_of settings) left start before → IsCutShort project settings fault start now
ended-cut-off project shown settings fault outcome left start before now records same counted ends names cut =
    last-cut-short project settings fault outcome left start before now records counted ends names
    (subst (λ (p : Project). IsCutAtEnd fault (end_line records (is_finished outcome)) (last_line p left records
    outcome) before now) same cut)

-- ---- what a run gives

module _ (project : Project) (settings : Settings) (start now : RunMoment) (sound : IsSound project)
    (certificate : start.certificate ≡ fresh Cert) (report : start.report ≡ fresh Report) where
  c-held : start.certificate.held ≡ []
  c-held = ap (λ (p : PenState). p.held) certificate

  r-held : start.report.held ≡ []
  r-held = ap (λ (p : PenState). p.held) report

  pub gives-whole : (result : Result RunEnd OutFault) → RunPuts result project settings start now
      → OnOk result (now.certificate ≡ fresh Cert) → OnOk result (now.report ≡ fresh Report)
      → IfOk result (λ end. IsPutOut project settings (outcome_of end) start.told now.told)
  gives-whole (Ok end) puts e f =
      put-out project settings (outcome_of end) start now sound c-held r-held (ap (λ (p : PenState). p.held) e) (ap
      (λ (p : PenState). p.held) f) puts
  gives-whole (Err fault) puts e f = tt

  pub gives-broken : (result : Result RunEnd OutFault) → RunPuts result project settings start now
      → IfErr result (λ fault. IsBrokenOff project settings start.told now.told)
  gives-broken (Ok end) puts = tt
  gives-broken (Err fault) puts = broken-off project settings fault start now sound c-held r-held puts

  pub gives-rose : (result : Result RunEnd OutFault) → RunPuts result project settings start now
      → IfErr result (λ fault. OneRose fault start.told.counts now.told.counts)
  gives-rose (Ok end) puts = tt
  gives-rose (Err fault) puts = puts.cut_off.rose

  pub gives-steady : (result : Result RunEnd OutFault) → RunPuts result project settings start now
      → OnOk result (now.told.counts ≡ start.told.counts)
  gives-steady (Ok end) puts = puts.put.steady
  gives-steady (Err fault) puts = tt

  pub gives-rest : (result : Result RunEnd OutFault) → RunPuts result project settings start now
      → LeavesRest start.told now.told
  gives-rest (Ok end) puts = puts.put.leaves
  gives-rest (Err fault) puts = puts.cut_off.leaves

-- what the last lines make of a run, as of the one that was begun
pub ending-puts : (project p : Project) (settings s : Settings) (left : Standing) (outcome : Outcome)
    (result : Result RunEnd OutFault) (start before now : RunMoment) → p ≡ project → s ≡ settings
    → (EndsSo p left s.rounds outcome → EndNames p left s.rounds outcome → (x : RunMoment)
    → IsSoFar p (sharpness_of s) left x before → RunPuts result p s x now)
    → EndsSo project left settings.rounds outcome → EndNames project left settings.rounds outcome
    → IsSoFar project (sharpness_of settings) left start before → RunPuts result project settings start now
ending-puts project p settings s left outcome result start before now e f puts ends names so_far =
    subst (λ (t : Settings). EndsSo project left t.rounds outcome → EndNames project left t.rounds outcome
    → (x : RunMoment) → IsSoFar project (sharpness_of t) left x before → RunPuts result project t x now) f
    (subst (λ (q : Project). EndsSo q left s.rounds outcome → EndNames q left s.rounds outcome → (x : RunMoment)
    → IsSoFar q (sharpness_of s) left x before → RunPuts result q s x now) e puts) ends names start so_far
