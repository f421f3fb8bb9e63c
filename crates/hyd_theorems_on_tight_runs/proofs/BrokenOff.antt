-- What a fault left of a tight run begins the texts of one that finishes.
use Rattle.std.proofs.Common.{◌≡◌, ℕ, true, List, [], ◌++◌, Option, Some, None, MatchOption, sym, ap, refl, ◌∙◌}
use Rattle.std.proofs.Common.{append_assoc, append-nil}
use Rattle.std.specs.Prelude.{⊤}
use Rattle.hyd_net.specs.Sound.{IsSound}
use Rattle.hyd_spec.specs.ProgramTypes.{Project}
use Rattle.hyd_spec.specs.Lists.{IsFrontOf}
use Rattle.hyd_spec_certificates.specs.declared.StopCause.{StopCause}
use Rattle.hyd_spec_reports.specs.PromisesOfRunsAndChecks.{Found, Outcome, Finished, Stopped, EndsSo}
use Rattle.hyd_spec_reports.specs.PromisesOfRunsAndChecks.{certificate_so_far}
use Rattle.hyd_spec_reports.specs.PromisesOfRunsAndChecks.{report_so_far}
use Rattle.hyd_theorems_on_nesting.specs.GoingOnOrStopped.{IsReason}
use Rattle.hyd_theorems_on_tight_runs.specs.TightRuns.{IsTightRun, FinishesTight, BreaksOffTight}
use Rattle.hyd_theorems_on_tight_runs.proofs.TwoRuns.{whole}
use Rattle.hyd_theorems_on_tight_runs.proofs.Texts.{all_tight, begins, never_stops, certificate_begins, report_begins}
use Rattle.hyd_theorems_on_tight_runs.proofs.Texts.{whole_certificate, whole_report}

-- a front of a front
front_on : (front rest middle end : List ℕ) → front ++ rest ≡ middle → IsFrontOf middle end → IsFrontOf front end
front_on front rest middle end e k = (
  rest ++ k.0,
  sym (append_assoc front rest k.0) ∙ (ap (λ t. t ++ k.0) e ∙ k.1),
)

module _ (project : Project) (sound : IsSound project) (text report written printed : List ℕ)
    (b : FinishesTight project text report) (k : BreaksOffTight project written printed) where
  tight_run : IsTightRun project k.breaks_off.founds k.breaks_off.left
  tight_run = record {
    is_run = k.breaks_off.is_run;
    tight = all_tight project k.sharpness k.asked k.breaks_off.founds k.breaks_off.sharp;
  }

  -- both texts, as far as the run went
  record BothFronts (last : Option Outcome) : Type 0 where
    certificate : IsFrontOf (certificate_so_far project k.breaks_off.founds last) text
    report_too : IsFrontOf (report_so_far project k.breaks_off.left k.breaks_off.founds last) report

  if_finished : k.breaks_off.left.finished ≡ true → BothFronts (Some Finished)
  if_finished finished =
      let same = whole project k.breaks_off.founds b.writes.founds k.breaks_off.left b.writes.left
      k.breaks_off.is_run b.writes.is_run finished
      (begins project text report b k.breaks_off.founds k.breaks_off.left tight_run) in
      record {
        certificate = (
          [],
          append-nil _ ∙ (ap (λ (fs : List Found). whole_certificate project fs) same
              ∙ sym b.writes.certificate.is_text),
        );
        report_too = (
          [],
          append-nil _ ∙ (ap (λ (fs : List Found). whole_report project fs) same ∙ sym b.writes.report),
        );
      }

  by_last : (last : Option Outcome) → MatchOption last ⊤ (EndsSo project k.breaks_off.left k.rounds)
      → ((cause : StopCause) → last ≡ Some (Stopped cause) → IsReason cause) → BothFronts last
  by_last None ends unspent = record {
    certificate = certificate_begins project text report b k.breaks_off.founds k.breaks_off.left tight_run;
    report_too = report_begins project text report b k.breaks_off.founds k.breaks_off.left tight_run;
  }
  by_last (Some Finished) ends unspent = if_finished ends
  by_last (Some (Stopped cause)) ends unspent =
      absurd (never_stops project text report b k.breaks_off.founds k.breaks_off.left tight_run sound ends.0 k.rounds
      cause (unspent cause refl) ends.1)

  both : BothFronts k.breaks_off.last
  both = by_last k.breaks_off.last k.breaks_off.ends_so k.unspent

  pub broken_certificate : IsFrontOf written text
  broken_certificate =
      front_on written k.breaks_off.unwritten _ text k.breaks_off.front_of_certificate both.certificate

  pub broken_report : IsFrontOf printed report
  broken_report = front_on printed k.breaks_off.unprinted _ report k.breaks_off.front_of_report both.report_too
