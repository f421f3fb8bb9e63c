-- A check never refuses the certificate of a run that names links: where it ends, it accepts it, and prints its report.
use Rattle.std.proofs.Common.{◌≡◌, ℕ, Bool, List, length, inl, inr, refl, sym, ap, ap₂, ◌∙◌}
use Rattle.std.specs.List.{AllByRecursion}
use Rattle.hyd_spec.specs.ProgramTypes.{Project}
use Rattle.hyd_spec.specs.NodeNumbers.{junction_count, tank_count}
use Rattle.hyd_spec_certificates.specs.RecordAndStanding.{Standing, initial_standing}
use Rattle.hyd_spec_certificates.specs.declared.CertRefused.{CertRefused}
use Rattle.hyd_spec_reports.specs.PromisesOfRunsAndChecks.{IsRun, accepted_line}
use Rattle.hyd_spec_flows.specs.FlowTexts.{Entry, IsTextWithFlows}
use Rattle.hyd_spec_flows.specs.declared.FlowFails.{FlowFails}
use Rattle.hyd_spec_reports_with_flows.specs.PromisesWithFlows.{FoundNaming, IsFoundNaming, founds_in, entries_of}
use Rattle.hyd_spec_reports_with_flows.specs.PromisesWithFlows.{report_with_flows, BeginsWithEntries}
use Rattle.hyd_spec_reports_with_flows.specs.PromisesWithFlows.{CheckAcceptsNaming, CheckRefusesNaming}
use Rattle.hyd_spec_reports_with_flows.specs.PromisesWithFlows.{CheckRefusesPart, CheckRefusesEndNaming}
use Rattle.hyd_sim.specs.RunView.{header_for}
use Rattle.hyd_theorems_on_runs.proofs.OneRun.{one_left}
use Rattle.hyd_theorems_on_flow_texts.proofs.FirstLines.{flows_header_of}
use Rattle.hyd_theorems_on_flow_texts.proofs.EntriesOfOneText.{one_reading, front_entries}
use Rattle.hyd_theorems_on_flow_texts.proofs.OneFaultWithFlows.{fault_no_text, other_counts}
use Rattle.hyd_cert_check.specs.Checks.{CheckEnds}
use Rattle.hyd_cert_check.specs.ChecksWithFlows.{CheckRefusesGrammarNaming, CheckRefusesCountsNaming, CheckEndsNaming}
use Rattle.hyd_cert_check.specs.ChecksWithFlows.{CheckRefusalNaming, grammar, counts, record_refused, part_refused}
use Rattle.hyd_cert_check.specs.ChecksWithFlows.{other_end}
use Rattle.hyd_spec_check_ends.specs.declared.CheckEnd.{CheckEnd}
use Rattle.hyd_spec_check_ends.specs.declared.CheckEnd.TheVariants.{Accepted, Refused}
use Rattle.hyd_theorems_on_checks.specs.CertificateOfRun.{IsCertificateOfRunNaming}
use Rattle.hyd_theorems_on_checks.specs.CertificateOfRun.{IsCertificateOfSomeRun}
use Rattle.hyd_theorems_on_checks.proofs.BeginningsOfLists.{Begins}
use Rattle.hyd_theorems_on_checks.proofs.RunsByEntries.{rows_are, one_by_entries}
use Rattle.hyd_theorems_on_checks.proofs.EntriesNotRefused.{no_refused_record, no_refused_part}
use Rattle.hyd_theorems_on_checks.proofs.TextsWithoutFlows.{run_without_flows, plain_end}
use Rattle.hyd_theorems_on_checks.proofs.TextsWithFlows.{run_with_flows, naming_end}
use Rattle.hyd_theorems_on_checks.proofs.NeverRefused.{never_refused, ends_accepted}

-- ---- what the text says

module _ (project : Project) (text : List ℕ) (is : IsCertificateOfRunNaming project text) where
  -- the entries with which it begins are the first of the run's
  pub begins_so : (entries : List Entry) → BeginsWithEntries project text entries
      → Begins entries (entries_of is.namings)
  begins_so entries begun =
      let front = front_entries text begun.unread (junction_count project) (tank_count project) entries
      (entries_of is.namings) (length is.namings) is.left.finished is.certificate begun.entries_fit begun.is_text in
      record { more = front.0; is = front.1 }

  record SaysSo (namings : List FoundNaming) (left : Standing) (periods : ℕ) (finished : Bool) : Type 0 where
    same : is.namings ≡ namings
    leaves : is.left ≡ left
    number : length is.namings ≡ periods
    word : is.left.finished ≡ finished

  says_so : (namings : List FoundNaming) (left : Standing) (periods : ℕ) (finished : Bool)
      → IsRun project (founds_in namings) left → AllByRecursion (IsFoundNaming project) namings
      → IsTextWithFlows text (junction_count project) (tank_count project) (entries_of namings) periods finished
      → SaysSo namings left periods finished
  says_so namings left periods finished run parts certificate =
      let reading = one_reading text (junction_count project) (tank_count project) (entries_of is.namings)
      (entries_of namings) (length is.namings) periods is.left.finished finished is.certificate certificate in
      let same = one_by_entries project is.namings namings is.left left is.is_run run is.parts parts reading.0 in
      record {
        same = same;
        leaves = one_left project (initial_standing project) (founds_in is.namings) (founds_in namings) is.left left
            is.is_run run (ap (λ (all : List FoundNaming). founds_in all) same);
        number = reading.1.0;
        word = reading.1.1;
      }

-- ---- refusals

module _ (project : Project) (text printed : List ℕ) (is : IsCertificateOfRunNaming project text) where
  no_fault : CheckRefusesGrammarNaming project text printed → ⊥
  no_fault refuses =
      fault_no_text (junction_count project) (tank_count project) text refuses.number refuses.is_fault (record {
        entries = entries_of is.namings;
        periods = length is.namings;
        finished = is.left.finished;
        is_text = is.certificate;
      })

  no_other_counts : CheckRefusesCountsNaming project text printed → ⊥
  no_other_counts refuses =
      let certificate = is.certificate in
      other_counts (junction_count project) (tank_count project) text (header_for project) _ refl refl
      (flows_header_of text (junction_count project) (tank_count project) (entries_of is.namings) (length is.namings)
      is.left.finished certificate) refuses.other_counts certificate.is_text

  no_record : (cause : CertRefused) → CheckRefusesNaming project text printed cause → ⊥
  no_record cause refuses =
      no_refused_record project refuses.namings (founds_in is.namings) (entries_of is.namings) refuses.left is.left
      refuses.entry cause refuses.is_run refuses.refused is.is_run (sym (rows_are is.namings))
      (begins_so project text is _ refuses.is_text)

  no_part : (cause : FlowFails) → CheckRefusesPart project text printed cause → ⊥
  no_part cause refuses =
      no_refused_part project refuses.namings is.namings refuses.found refuses.part is.left cause refuses.is_run
      refuses.is_found refuses.refused is.is_run is.parts (begins_so project text is _ refuses.is_text)

  no_other_end : CheckRefusesEndNaming project text printed → ⊥
  no_other_end refuses =
      let so = says_so project text is refuses.namings refuses.left refuses.periods refuses.finished refuses.is_run
      refuses.parts refuses.certificate in
      refuses.other_end (
        sym so.number ∙ ap (λ (namings : List FoundNaming). length namings) so.same,
        sym so.word ∙ ap (λ (s : Standing). s.finished) so.leaves,
      )

  pub never_refused_naming : CheckRefusalNaming project text printed → ⊥
  never_refused_naming (grammar refuses) = no_fault refuses
  never_refused_naming (counts refuses) = no_other_counts refuses
  never_refused_naming (record_refused cause refuses) = no_record cause refuses
  never_refused_naming (part_refused cause refuses) = no_part cause refuses
  never_refused_naming (other_end refuses) = no_other_end refuses

  -- ---- what is accepted

  abbrev its_report : List ℕ
  its_report = report_with_flows project is.namings (accepted_line (length is.namings) is.left.finished)

  pub one_report_naming : CheckAcceptsNaming project text printed → printed ≡ its_report
  one_report_naming accepts =
      let so = says_so project text is accepts.namings accepts.left (length accepts.namings) accepts.left.finished
      accepts.is_run accepts.parts accepts.certificate in
      let same = sym so.same in
      let leaves = sym so.leaves in
      accepts.report
      ∙ ap₂ (λ (namings : List FoundNaming) (s : Standing). report_with_flows project namings
      (accepted_line (length namings) s.finished)) same leaves

  accepted_by : (end : CheckEnd) → CheckEndsNaming project text printed end → end ≡ Accepted
  accepted_by Accepted ends = refl
  accepted_by Refused ends = absurd (never_refused_naming ends)

  report_by : (end : CheckEnd) → CheckEndsNaming project text printed end → printed ≡ its_report
  report_by Accepted ends = one_report_naming ends
  report_by Refused ends = absurd (never_refused_naming ends)

  its_end : (end : CheckEnd) → CheckEnds project text printed end → CheckEndsNaming project text printed end
  its_end end ends = naming_end project text (run_with_flows project text is) printed end ends

  pub naming_accepted : (end : CheckEnd) → CheckEnds project text printed end → end ≡ Accepted
  naming_accepted end ends = accepted_by end (its_end end ends)

  pub naming_with_report : (end : CheckEnd) → CheckEnds project text printed end → printed ≡ its_report
  naming_with_report end ends = report_by end (its_end end ends)

-- ---- runs with flows and without

pub some_accepted : (project : Project) (text printed : List ℕ) (end : CheckEnd) → IsCertificateOfSomeRun project text
    → CheckEnds project text printed end → end ≡ Accepted
some_accepted project text printed end (inl is) ends = ends_accepted project text printed end is ends
some_accepted project text printed end (inr is) ends = naming_accepted project text printed is end ends

pub some_not_refused : (project : Project) (text printed : List ℕ) → IsCertificateOfSomeRun project text
    → CheckEnds project text printed Refused → ⊥
some_not_refused project text printed (inl is) ends =
    never_refused project text printed is
    (plain_end project text (run_without_flows project text is) printed Refused ends)
some_not_refused project text printed (inr is) ends =
    never_refused_naming project text printed is
    (naming_end project text (run_with_flows project text is) printed Refused ends)
