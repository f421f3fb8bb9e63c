-- Records that are valid one after another are those of a run.
use Rattle.std.proofs.Common.{◌≡◌, ℕ, suc, List, [], ◌∷◌, ◌++◌, length, refl, sym, ap, subst, ◌∙◌, append_assoc}
use Rattle.std.proofs.Common.{append-nil}
use Rattle.hyd_net.specs.Sound.{IsSound}
use Rattle.hyd_spec.specs.ProgramTypes.{Project}
use Rattle.hyd_spec.specs.NodeNumbers.{junction_count, tank_count}
use Rattle.hyd_spec_certificates.specs.PeriodNetwork.{Grid}
use Rattle.hyd_spec_certificates.specs.RecordAndStanding.{Record, Standing}
use Rattle.hyd_spec_certificates.specs.Valid.{IsValid, AreValidFrom, AreValid, none as no_record, more as more_records}
use Rattle.hyd_spec_certificates.specs.CertificateText.{IsCertificateText, version_of}
use Rattle.hyd_spec_reports.specs.PromisesOfRunsAndChecks.{Found, IsRun, none as no_period, rows_of}
use Rattle.hyd_theorems_on_runs.proofs.OnePeriodMore.{run_more}
use Rattle.hyd_theorems_on_runs.proofs.RunsGoOnOrStop.{run_keeps}
use Rattle.hyd_theorems_on_runs.proofs.ReportsExist.{report_is}
use Rattle.hyd_theorems_on_checks.specs.CertificateOfRun.{IsCertificateOfRun, IsRunOf}

module _ (project : Project) (sound : IsSound project) where
  -- what goes on behind a run
  record GoesOn (before : List Found) (rows : List Record) (last : Standing) : Type 0 where
    founds : List Found
    is_run : IsRun project (before ++ founds) last
    records : rows_of founds ≡ rows

  -- what is found of a record that is valid where a run leaves
  abbrev found_of : (before : List Found) (at next : Standing) (grid : Grid) (row : Record) → IsRun project before at
      → IsValid project at grid row next → Found
  found_of before at next grid row run valid =
      let keeps = run_keeps project sound before at run in
      let report = report_is project sound grid at row keeps.0 keeps.1 valid.is_grid next valid.leads_on in
      record { standing = at; grid = grid; row = row; lines = report.0; next = next }

  one_more : (before : List Found) (at next : Standing) (grid : Grid) (row : Record) (run : IsRun project before at)
      (valid : IsValid project at grid row next)
      → IsRun project (before ++ (found_of before at next grid row run valid ∷ [])) next
  one_more before at next grid row run valid =
      let keeps = run_keeps project sound before at run in
      let report = report_is project sound grid at row keeps.0 keeps.1 valid.is_grid next valid.leads_on in
      run_more project before at (found_of before at next grid row run valid) run refl
      (record { valid = valid; report = report.1 })

  along : (before : List Found) (at : Standing) (rows : List Record) (last : Standing) → IsRun project before at
      → AreValidFrom project at rows last → GoesOn before rows last
  along before at _ _ run no_record = record {
    founds = [];
    is_run = subst (λ (fs : List Found). IsRun project fs at) (sym (append-nil before)) run;
    records = refl;
  }
  along before at _ last run (more_records {next = next} {row = row} {rows = rows} grid valid on) =
      let found = found_of before at next grid row run valid in
      let rest = along (before ++ (found ∷ [])) next rows last (one_more before at next grid row run valid) on in
      record {
        founds = found ∷ rest.founds;
        is_run = subst (λ (fs : List Found). IsRun project fs last) (append_assoc before (found ∷ []) rest.founds)
            rest.is_run;
        records = ap (λ (rs : List Record). row ∷ rs) rest.records;
      }

  pub run_of : (rows : List Record) (last : Standing) → AreValid project rows last → IsRunOf project rows last
  run_of rows last valid =
      let k = along [] _ rows last no_period valid in
      record { founds = k.founds; is_run = k.is_run; records = k.records }

  count_of : (founds : List Found) → length (rows_of founds) ≡ length founds
  count_of [] = refl
  count_of (found ∷ founds) = ap (λ (n : ℕ). suc n) (count_of founds)

  pub certificate_of : (text : List ℕ) (rows : List Record) (last : Standing) → AreValid project rows last
      → IsCertificateText text (version_of project) (junction_count project) (tank_count project) rows (length rows)
      last.finished
      → IsCertificateOfRun project text
  certificate_of text rows last valid certificate =
      let run = run_of rows last valid in
      record {
        founds = run.founds;
        left = last;
        is_run = run.is_run;
        certificate = subst (λ (n : ℕ). IsCertificateText text (version_of project) (junction_count project)
            (tank_count project) (rows_of run.founds) n last.finished)
            (ap (λ (rs : List Record). length rs) (sym run.records) ∙ count_of run.founds)
            (subst (λ (rs : List Record). IsCertificateText text (version_of project) (junction_count project)
            (tank_count project) rs (length rows) last.finished) (sym run.records) certificate);
      }
