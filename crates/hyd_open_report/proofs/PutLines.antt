-- What is put of the parts of a period is the text of its lines.
use Rattle.std.proofs.Common.{◌≡◌, ℕ, ◌+◌, List, ◌++◌, map, take, drop, sym, ap, ◌∙◌}
use Rattle.hyd_spec.specs.ProgramTypes.{Project, LinkState}
use Rattle.hyd_spec.specs.Lists.{joined}
use Rattle.hyd_spec_certificates.specs.declared.Event.{Event}
use Rattle.hyd_spec_certificates.specs.PeriodNetwork.{Grid}
use Rattle.hyd_spec_certificates.specs.RecordAndStanding.{Record}
use Rattle.hyd_spec_certificates.specs.PrintedIntervals.{is_report_time}
use Rattle.hyd_spec_reports.specs.ReportLine.{ReportLine}
use Rattle.hyd_spec_reports.specs.Report.{event_line, change_line}
use Rattle.hyd_spec_open_reports.specs.OpenReportLine.{OpenLine, known_line, open_line_text}
use Rattle.hyd_period_facts.specs.declared.facts.Facts.{Facts}
use Rattle.hyd_report.specs.EventTextsAndChangesByRules.{before_rules}
use Rattle.hyd_report.specs.NodeAndLinkLines.{texts}
use Rattle.hyd_report.specs.PeriodLines.{state_lines, middle_lines, lines_of}
use Rattle.hyd_open_report.specs.OpenPeriodLines.{open_texts, open_start_lines, open_middle_lines, opened_lines}
use Rattle.hyd_open_report.specs.OpenPeriodLines.{open_end_lines, open_lines_by}
use Rattle.hyd_open_report.specs.declared.late.Late.{Late}
use Rattle.hyd_open_report.proofs.OpenTexts.{open_texts-map, three_parts, known_start, open_start}

-- lines that are made of items at a time
pub items_texts : {X : Type 0} (project : Project) (h : ℕ → X → ReportLine) (t time late : ℕ) (xs ys : List X)
    → t ≡ time → xs ≡ ys
    → joined (map (λ x. open_line_text project (record { line = h t x; late = late })) xs)
    ≡ open_texts project (map (λ x. record { line = h time x; late = late }) ys)
items_texts {X} project h t time late xs ys at same =
    let line : ℕ → X → OpenLine = λ n x. record { line = h n x; late = late } in
    open_texts-map project (line t) xs
    ∙ (ap (λ n. open_texts project (map (line n) xs)) at
    ∙ ap (λ (zs : List X). open_texts project (map (line time) zs)) same)

-- the lines of an end
pub end_texts : {X Y : Type 0} (project : Project) (h : ℕ → X → ReportLine) (k : ℕ → Y → ReportLine)
    (t time : ℕ) (xs xs' : List X) (ys ys' : List Y) (opened : List OpenLine) → t ≡ time → xs ≡ xs' → ys ≡ ys'
    → joined (map (λ x. open_line_text project (record { line = h t x; late = 0 })) xs)
    ++ (joined (map (λ y. open_line_text project (record { line = k t y; late = 0 })) ys) ++ open_texts project opened)
    ≡ open_texts project (map (λ x. known_line (h time x)) xs' ++ (map (λ y. known_line (k time y)) ys' ++ opened))
end_texts {X} {Y} project h k t time xs xs' ys ys' opened at same alike =
    let rules = joined (map (λ (y : Y). open_line_text project (record { line = k t y; late = 0 })) ys) in
    ap (λ s. s ++ (rules ++ open_texts project opened)) (items_texts project h t time 0 xs xs' at same)
    ∙ (ap (λ s. open_texts project (map (λ (x : X). known_line (h time x)) xs') ++ (s ++ open_texts project opened))
    (items_texts project k t time 0 ys ys' at alike)
    ∙ three_parts project (map (λ (x : X). known_line (h time x)) xs') (map (λ (y : Y). known_line (k time y)) ys')
    opened)

module _ (project : Project) (grid : Grid) (states : List LinkState) (row : Record) (facts : Facts) (late : Late)
    (events : List Event) where
  -- where the start is known: the lines of a period where nothing is open, and those of events at an open end
  pub known_report : late.start ≡ 0
      → texts project (lines_of project grid states row facts)
      ++ open_texts project (opened_lines facts late.end events)
      ≡ open_texts project (open_lines_by project grid states row facts late events)
  known_report known =
      known_start project (change_line facts.time) (take (before_rules facts.changes.list) facts.changes.list)
      (middle_lines project grid states row facts) (event_line (facts.time + facts.length)) facts.events.list
      (change_line (facts.time + facts.length)) (drop (before_rules facts.changes.list) facts.changes.list)
      (opened_lines facts late.end events)
      ∙ ap (λ (n : ℕ). open_texts project (open_start_lines facts n
      ++ (map known_line (open_middle_lines project grid states row facts n) ++ open_end_lines facts late.end events)))
      (sym known)

  -- where it is open: those of its start and of its end
  pub open_report : (late.start ≡ 0 → ⊥)
      → open_texts project (open_start_lines facts late.start)
      ++ open_texts project (open_end_lines facts late.end events)
      ≡ open_texts project (open_lines_by project grid states row facts late events)
  open_report some =
      open_start project late.start (is_report_time project facts.time) (open_start_lines facts late.start)
      (open_end_lines facts late.end events) (state_lines project grid states row facts) some
