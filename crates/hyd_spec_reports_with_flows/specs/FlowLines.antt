-- The lines that print the flows of named links, and what each claims of a period of a history.
-- Source: this program's format.
use Rattle.std.specs.Prelude.{◌≡◌, ℕ, List, [], ◌∷◌, codes, decimal, slice_get, Some, MatchBool}
use Rattle.std.specs.List.{AllZip}
use Rattle.hyd_num.specs.PrintedDecimals.{decimal_text, flow_quantity}
use Rattle.hyd_spec.specs.ProgramTypes.{Project, Link}
use Rattle.hyd_spec.specs.Assignment.{flow_at}
use Rattle.hyd_spec.specs.PeriodLength.{Period}
use Rattle.hyd_spec_certificates.specs.Interval.{Interval}
use Rattle.hyd_spec_certificates.specs.PeriodNetwork.{Grid, GridLink}
use Rattle.hyd_spec_certificates.specs.RecordAndStanding.{Standing}
use Rattle.hyd_spec_certificates.specs.CertificateText.{line}
use Rattle.hyd_spec_certificates.specs.PrintedIntervals.{FlowLies, Prints, is_report_time}
use Rattle.hyd_spec_reports.specs.ReportLine.{clock_text, link_id, node_id, side_word}
use Rattle.hyd_spec_flows.specs.FlowParts.{NamedLink, FlowPart, flow_interval}
use Rattle.hyd_spec_flows.specs.declared.FlowFails.{FlowFails}
use Rattle.hyd_spec_flows.specs.declared.FlowFails.TheVariants.{Name, Vector}

-- When a period begins (seconds), a link by its number, and the printed ends of its flow (ten-thousandths of the file's
-- flow unit).
pub record FlowLine : Type 0 where
  pub time : ℕ
  pub link : ℕ
  pub ends : Interval

-- `FLOW h:mm:ss id a b`
abbrev pub flow_line_text : Project → FlowLine → List ℕ
flow_line_text project each =
    line (codes "FLOW" ∷ (clock_text each.time ∷ (link_id project each.link
    ∷ (decimal_text each.ends.lo ∷ (decimal_text each.ends.hi ∷ [])))))

-- The line of a named link in a period that begins at this time: its interval, rounded outward.
pub record IsFlowLine (project : Project) (grid : Grid) (time : ℕ) (named : NamedLink) (each : FlowLine) : Type 0 where
  pub link : GridLink
  pub is_link : slice_get grid.links named.link ≡ Some link
  pub ends : Interval
  pub prints : Prints (flow_quantity project.options.unit) (flow_interval link named) ends
  pub is_line : each ≡ record { time = time; link = named.link; ends = ends }

-- The lines of a part: one for each named link, in order, where the period begins at a report time, else none.
abbrev pub AreFlowLines : Project → Grid → Standing → FlowPart → List FlowLine → Type 0
AreFlowLines project grid standing part lines =
    MatchBool (is_report_time project standing.time) (AllZip (IsFlowLine project grid standing.time) part lines)
    (lines ≡ [])

-- The line holds of a period of a history at scale S: the period begins then, and the flow of the link, which is one of
-- the network, lies between the printed ends.
pub record FlowHolds (project : Project) (S : ℕ) (period : Period) (each : FlowLine) : Type 0 where
  pub begins : period.time ≡ each.time
  pub link : Link
  pub is_link : slice_get project.links.list each.link ≡ Some link
  pub flow_lies : FlowLies project S each.ends (flow_at period.assignment.flows each.link)

-- ---- refusals

-- The words of a refusal of a part, by the numbers of links.
abbrev pub flow_refusal_words : Project → FlowFails → List (List ℕ)
flow_refusal_words project (Name link) = decimal link ∷ (codes "NAME" ∷ [])
flow_refusal_words project (Vector link side junction) =
    decimal link ∷ (side_word side ∷ (codes "JUNCTION" ∷ (node_id project junction ∷ [])))

-- `BADCERT period p FLOW l` and why the part was refused.
abbrev pub refused_flow_line : Project → ℕ → FlowFails → List ℕ
refused_flow_line project period cause =
    line (codes "BADCERT" ∷ (codes "period" ∷ (decimal period ∷ (codes "FLOW" ∷ flow_refusal_words project cause))))
