-- The certificate of a run of one reading that names links is that of a run of each other reading, with the same report
-- and FLOW lines, so no check by these refuses it.
use Rattle.std.proofs.Common.{◌≡◌, ℕ, Bool, true, false, List, [], ◌∷◌, ◌++◌, map, length, codes, inl, inr, refl, sym, ap}
use Rattle.std.proofs.Common.{ap₂, subst, ◌∙◌, append-nil}
use Rattle.std.specs.Prelude.{MatchBool}
use Rattle.std.specs.Fmt.{decimal}
use Rattle.std.specs.List.{AllZip, AllByRecursion}
use Rattle.std.proofs.lemmas.List.{append_cancel_left}
use Rattle.hyd_num.specs.PrintedDecimals.{flow_quantity}
use Rattle.hyd_spec_lines.specs.Lines.{Row}
use Rattle.hyd_spec_input.specs.Project.{IsProject}
use Rattle.hyd_spec.specs.Lists.{joined}
use Rattle.hyd_spec.specs.ProgramTypes.{Project}
use Rattle.hyd_spec.specs.NodeNumbers.{junction_count, tank_count}
use Rattle.hyd_spec_certificates.specs.CertificateText.{line}
use Rattle.hyd_spec_certificates.specs.PeriodNetwork.{Grid}
use Rattle.hyd_spec_certificates.specs.PrintedIntervals.{Prints, is_report_time}
use Rattle.hyd_spec_certificates.specs.RecordAndStanding.{Standing}
use Rattle.hyd_spec_reports.specs.ReportLine.{ReportLine, line_text}
use Rattle.hyd_spec_reports.specs.PromisesOfRunsAndChecks.{Sharpness, Outcome, Finished, accepted_line}
use Rattle.hyd_spec_flows.specs.FlowParts.{NamedLink, FlowPart, flow_interval}
use Rattle.hyd_spec_flows.specs.FlowTexts.{Entry, IsTextWithFlows}
use Rattle.hyd_spec_reports_with_flows.specs.FlowLines.{FlowLine, IsFlowLine, AreFlowLines, flow_line_text}
use Rattle.hyd_spec_reports_with_flows.specs.PromisesWithFlows.{FoundNaming, IsFoundNaming, founds_in, entries_of}
use Rattle.hyd_spec_reports_with_flows.specs.PromisesWithFlows.{period_text, report_with_flows, RunWritesNaming}
use Rattle.hyd_cert_check.specs.Checks.{CheckEnds}
use Rattle.hyd_spec_check_ends.specs.declared.CheckEnd.{CheckEnd}
use Rattle.hyd_spec_check_ends.specs.declared.CheckEnd.TheVariants.{Accepted, Refused}
use Rattle.hyd_theorems_on_checks.specs.CertificateOfRun.{IsCertificateOfRunNaming, IsCertificateOfSomeRun}
use Rattle.hyd_theorems_on_checks.proofs.WrittenAndAccepted.{written_naming_is}
use Rattle.hyd_theorems_on_checks.proofs.NeverRefusedNaming.{naming_with_report, some_accepted, some_not_refused}
use Rattle.hyd_theorems_on_rereading.specs.WithoutSpare.{bare_project}
use Rattle.hyd_theorems_on_rereading.proofs.SameHeaders.{same_junctions, same_tanks}
use Rattle.hyd_theorems_on_rereading.proofs.RunsWithoutSpare.{runs, reports}
use Rattle.hyd_theorems_on_rereading.proofs.OneNetwork.{one_network}
use Rattle.hyd_theorems_on_answers.proofs.OtherReadings.{carried}

module _ (p q : Project) (same : bare_project p ≡ bare_project q) where
  -- ---- FLOW lines

  flow_line_on : (grid : Grid) (time : ℕ) (named : NamedLink) (each : FlowLine) → IsFlowLine p grid time named each
      → IsFlowLine q grid time named each
  flow_line_on grid time named each is =
      let unit : p.options.unit ≡ q.options.unit = ap (λ (r : Project). r.options.unit) same in
      record {
        link = is.link;
        is_link = is.is_link;
        ends = is.ends;
        prints = subst (λ u. Prints (flow_quantity u) (flow_interval is.link named) is.ends) unit is.prints;
        is_line = is.is_line;
      }

  each_line_on : (grid : Grid) (time : ℕ) (part : FlowPart) (lines : List FlowLine)
      → AllZip (IsFlowLine p grid time) part lines → AllZip (IsFlowLine q grid time) part lines
  each_line_on grid time [] [] all = tt
  each_line_on grid time [] (each ∷ lines) all = absurd all
  each_line_on grid time (named ∷ part) [] all = absurd all
  each_line_on grid time (named ∷ part) (each ∷ lines) all =
      (flow_line_on grid time named each all.0, each_line_on grid time part lines all.1)

  lines_by_time : (grid : Grid) (time : ℕ) (part : FlowPart) (lines : List FlowLine) (b : Bool)
      → MatchBool b (AllZip (IsFlowLine p grid time) part lines) (lines ≡ [])
      → MatchBool b (AllZip (IsFlowLine q grid time) part lines) (lines ≡ [])
  lines_by_time grid time part lines true all = each_line_on grid time part lines all
  lines_by_time grid time part lines false none = none

  flow_lines_on : (grid : Grid) (standing : Standing) (part : FlowPart) (lines : List FlowLine)
      → AreFlowLines p grid standing part lines → AreFlowLines q grid standing part lines
  flow_lines_on grid standing part lines are =
      let due : is_report_time p standing.time ≡ is_report_time q standing.time =
      ap (λ (r : Project). is_report_time r standing.time) same in
      subst (λ (b : Bool). MatchBool b (AllZip (IsFlowLine q grid standing.time) part lines) (lines ≡ [])) due
      (lines_by_time grid standing.time part lines (is_report_time p standing.time) are)

  parts_on : (namings : List FoundNaming) → AllByRecursion (IsFoundNaming p) namings
      → AllByRecursion (IsFoundNaming q) namings
  parts_on [] all = tt
  parts_on (naming ∷ namings) all =
      let found = naming.found in
      let is = all.0 in (
        record {
          held = is.held;
          lines = flow_lines_on found.grid found.standing naming.part naming.flows is.lines;
        },
        parts_on namings all.1,
      )

  -- ---- certificates

  text_on : (text : List ℕ) (entries : List Entry) (periods : ℕ) (finished : Bool)
      → IsTextWithFlows text (junction_count p) (tank_count p) entries periods finished
      → IsTextWithFlows text (junction_count q) (tank_count q) entries periods finished
  text_on text entries periods finished is =
      subst (λ (n : ℕ). IsTextWithFlows text n (tank_count q) entries periods finished) (same_junctions p q same)
      (subst (λ (k : ℕ). IsTextWithFlows text (junction_count p) k entries periods finished) (same_tanks p q same) is)

  -- the run itself is carried over
  pub carried_naming : (text : List ℕ) → IsCertificateOfRunNaming p text → IsCertificateOfRunNaming q text
  carried_naming text is = record {
    namings = is.namings;
    left = is.left;
    is_run = runs p q same (founds_in is.namings) is.left is.is_run;
    parts = parts_on is.namings is.parts;
    certificate = text_on text (entries_of is.namings) (length is.namings) is.left.finished is.certificate;
  }

  pub carried_some : (text : List ℕ) → IsCertificateOfSomeRun p text → IsCertificateOfSomeRun q text
  carried_some text (inl is) = inl (carried p q same text is)
  carried_some text (inr is) = inr (carried_naming text is)

  -- ---- reports

  same_lines : (lines : List ReportLine) → joined (map (line_text p) lines) ≡ joined (map (line_text q) lines)
  same_lines lines =
      let a = joined (map (line_text p) lines) in
      let b = joined (map (line_text q) lines) in
      sym (append-nil a) ∙ (append_cancel_left (line (codes "HYD" ∷ (decimal 1 ∷ []))) (a ++ []) (b ++ [])
      (reports p q same lines []) ∙ append-nil b)

  same_flow_lines : (lines : List FlowLine)
      → joined (map (flow_line_text p) lines) ≡ joined (map (flow_line_text q) lines)
  same_flow_lines lines = ap (λ (r : Project). joined (map (flow_line_text r) lines)) same

  same_periods : (namings : List FoundNaming)
      → joined (map (period_text p) namings) ≡ joined (map (period_text q) namings)
  same_periods [] = refl
  same_periods (naming ∷ namings) =
      ap₂ (λ a b. a ++ b) (ap₂ (λ a b. a ++ b) (same_lines naming.found.lines) (same_flow_lines naming.flows))
      (same_periods namings)

  pub reports_with_flows : (namings : List FoundNaming) (last : List ℕ)
      → report_with_flows p namings last ≡ report_with_flows q namings last
  reports_with_flows namings last =
      ap (λ t. line (codes "HYD" ∷ (decimal 1 ∷ [])) ++ (t ++ last)) (same_periods namings)

  -- ---- checks

  pub not_refused : (text printed : List ℕ) → IsCertificateOfSomeRun p text → CheckEnds q text printed Refused → ⊥
  not_refused text printed is ends = some_not_refused q text printed (carried_some text is) ends

  pub all_accepted : (text printed : List ℕ) (end : CheckEnd) → IsCertificateOfSomeRun p text
      → CheckEnds q text printed end → end ≡ Accepted
  all_accepted text printed end is ends = some_accepted q text printed end (carried_some text is) ends

  pub report_naming : (text printed : List ℕ) (end : CheckEnd) (is : IsCertificateOfRunNaming p text)
      → CheckEnds q text printed end
      → printed ≡ report_with_flows p is.namings (accepted_line (length is.namings) is.left.finished)
  unfolding carried_naming
  report_naming text printed end is ends =
      naming_with_report q text printed (carried_naming text is) end ends
      ∙ sym (reports_with_flows is.namings (accepted_line (length is.namings) is.left.finished))

-- ---- readings

pub readings_accepted_naming : (rows : List Row) (p q : Project) → IsProject rows p → IsProject rows q
    → (named : List ℕ) (rounds : ℕ) (sharpness : Sharpness) (outcome : Outcome)
    (certificate report printed : List ℕ) (end : CheckEnd)
    → RunWritesNaming p named rounds sharpness outcome certificate report → CheckEnds q certificate printed end
    → end ≡ Accepted
readings_accepted_naming rows p q f g named rounds sharpness outcome certificate text printed end run ends =
    all_accepted p q (one_network rows p q f g) certificate printed end
    (inr (written_naming_is p named rounds sharpness outcome certificate text run)) ends

pub readings_report_naming : (rows : List Row) (p q : Project) → IsProject rows p → IsProject rows q
    → (named : List ℕ) (rounds : ℕ) (sharpness : Sharpness) (certificate report printed : List ℕ) (end : CheckEnd)
    → RunWritesNaming p named rounds sharpness Finished certificate report → CheckEnds q certificate printed end
    → printed ≡ report
readings_report_naming rows p q f g named rounds sharpness certificate text printed end run ends =
    let finished : run.left.finished ≡ true = run.ends_so in
    let is : IsCertificateOfRunNaming p certificate = record {
      namings = run.namings;
      left = run.left;
      is_run = run.is_run;
      parts = run.parts;
      certificate = subst (λ (b : Bool). IsTextWithFlows certificate (junction_count p) (tank_count p)
          (entries_of run.namings) (length run.namings) b) (sym finished) run.certificate;
    } in
    report_naming p q (one_network rows p q f g) certificate printed end is ends
    ∙ (ap (λ (b : Bool). report_with_flows p run.namings (accepted_line (length run.namings) b)) finished
    ∙ sym run.report)
