-- The lines of a report, with their numbers, and the bytes of each. Printed numbers are whole ten-thousandths of the
-- file's units, settings billionths, times seconds from the start of the run. Nodes, links, controls and rules
-- are given by their numbers, counted from 0.
-- Source: this program's format.
use Rattle.std.specs.Prelude.{ℕ, ◌+◌, ◌/◌, ◌%◌, List, [], ◌∷◌, ◌++◌, map, codes, slice_index_or, unsigned_abs}
use Rattle.std.specs.Fmt.{decimal, signed_decimal}
use Rattle.hyd_num.specs.PrintedDecimals.{decimal_text, setting_text, last_digits}
use Rattle.hyd_spec.specs.ProgramTypes.{Project, LinkState, Open, Closed, Speed, Throttle, Limit}
use Rattle.hyd_spec.specs.declared.TankState.{TankState}
use Rattle.hyd_spec.specs.declared.TankState.TheVariants.{Full, Between, Empty}
use Rattle.hyd_spec_certificates.specs.declared.Problem.{Problem}
use Rattle.hyd_spec_certificates.specs.declared.Problem.TheVariants.{Main, Pinned}
use Rattle.hyd_spec_certificates.specs.declared.Side.{Side}
use Rattle.hyd_spec_certificates.specs.declared.Side.TheVariants.{Upper, Lower}
use Rattle.hyd_spec_certificates.specs.declared.StatusWord.{StatusWord}
use Rattle.hyd_spec_certificates.specs.declared.StatusWord.TheVariants.{Open as WordOpen, Closed as WordClosed}
use Rattle.hyd_spec_certificates.specs.declared.StatusWord.TheVariants.{Active as WordActive, Unsure as WordUnsure}
use Rattle.hyd_spec_certificates.specs.declared.StopCause.{StopCause}
use Rattle.hyd_spec_certificates.specs.declared.StopCause.TheVariants.{Demand as DemandOutOfRange, NoCertificate}
use Rattle.hyd_spec_certificates.specs.declared.StopCause.TheVariants.{RoundsSpent, RuleOpen, EventOpen, TankOpen}
use Rattle.hyd_spec_certificates.specs.declared.StopCause.TheVariants.{ControlOpen}
use Rattle.hyd_spec_certificates.specs.declared.CertRefused.{CertRefused}
use Rattle.hyd_spec_certificates.specs.declared.CertRefused.TheVariants.{Place, Demand, Fails, Open as MatterOpen}
use Rattle.hyd_spec_certificates.specs.declared.CertRefused.TheVariants.{Length, After}
use Rattle.hyd_spec.specs.Lists.{joined}
use Rattle.hyd_spec_certificates.specs.Interval.{Interval}
use Rattle.hyd_spec.specs.NodeNumbers.{tank_node, junction_count}
use Rattle.hyd_spec_certificates.specs.CertificateText.{line}
use Rattle.hyd_spec_certificates.specs.Stops.{period_of}
use Rattle.hyd_spec_certificates.specs.RefusedRecords.{refused_period}

-- A line of a report, the first and the last one aside.
pub data ReportLine : Type 0 where
  -- at a time a control, by its number, gave a link a state
  ControlLine : ℕ → ℕ → ℕ → LinkState → ReportLine
  -- a report time
  TimeLine : ℕ → ReportLine
  -- a junction, by its number: head, pressure, outflow
  JunctionLine : ℕ → Interval → Interval → Interval → ReportLine
  -- a reservoir, by its number: head
  ReservoirLine : ℕ → Interval → ReportLine
  -- a tank, by its number: head, level, inflow, state
  TankLine : ℕ → Interval → Interval → Interval → TankState → ReportLine
  -- a link, by its number: flow, status
  LinkLine : ℕ → Interval → StatusWord → ReportLine
  -- at a time a tank, by its number, became full
  FilledLine : ℕ → ℕ → ReportLine
  -- at a time a tank, by its number, became empty
  EmptiedLine : ℕ → ℕ → ReportLine
  -- at a time a tank, by its number, reached the level of a control, by its number
  ReachedLine : ℕ → ℕ → ℕ → ReportLine
  -- at a time a rule, by its number, gave a link a state
  RuleLine : ℕ → ℕ → ℕ → LinkState → ReportLine

-- ---- words

-- A time as h:mm:ss.
abbrev pub clock_text : ℕ → List ℕ
clock_text time =
    decimal (time / 3600) ++ (codes ":" ++ (last_digits 2 (time / 60 % 60) ++ (codes ":" ++ last_digits 2 (time % 60))))

-- The ID of a node.
abbrev pub node_id : Project → ℕ → List ℕ
node_id project node = slice_index_or project.node_ids node []

-- The ID of tank number `tank`.
abbrev pub tank_id : Project → ℕ → List ℕ
tank_id project tank = node_id project (tank_node project tank)

-- The ID of reservoir number `reservoir`.
abbrev pub reservoir_id : Project → ℕ → List ℕ
reservoir_id project reservoir = node_id project (junction_count project + reservoir)

-- The ID of a link.
abbrev pub link_id : Project → ℕ → List ℕ
link_id project link = slice_index_or project.link_ids link []

-- The ID of a rule.
abbrev pub rule_id : Project → ℕ → List ℕ
rule_id project rule = slice_index_or (map (λ r. r.id.list) project.rules.list) rule []

-- A state that a control or a rule gave: every one with a number by its setting.
abbrev pub state_words : LinkState → List (List ℕ)
state_words Open = codes "OPEN" ∷ []
state_words Closed = codes "CLOSED" ∷ []
state_words (Speed nano) = codes "SETTING" ∷ (setting_text (unsigned_abs nano) ∷ [])
state_words (Throttle nano law) = codes "SETTING" ∷ (setting_text (unsigned_abs nano) ∷ [])
state_words (Limit nano ticks) = codes "SETTING" ∷ (setting_text (unsigned_abs nano) ∷ [])

-- The word of a tank's state.
abbrev pub tank_word : TankState → List ℕ
tank_word Empty = codes "EMPTY"
tank_word Between = codes "BETWEEN"
tank_word Full = codes "FULL"

-- The word of a link's status.
abbrev pub status_text : StatusWord → List ℕ
status_text WordOpen = codes "OPEN"
status_text WordClosed = codes "CLOSED"
status_text WordActive = codes "ACTIVE"
status_text WordUnsure = codes "UNSURE"

-- A key word and the two ends of an interval, before further words.
abbrev pub with_ends : List ℕ → Interval → List (List ℕ) → List (List ℕ)
with_ends key ends rest = key ∷ (decimal_text ends.lo ∷ (decimal_text ends.hi ∷ rest))

-- ---- lines

-- A link (its ID) and the state that it was given.
abbrev pub given_words : List ℕ → LinkState → List (List ℕ)
given_words id state = codes "LINK" ∷ (id ∷ state_words state)

-- What happened to a tank (its ID) at a time.
abbrev pub event_words : List ℕ → ℕ → List (List ℕ) → List (List ℕ)
event_words id time what = codes "EVENT" ∷ (clock_text time ∷ (codes "TANK" ∷ (id ∷ what)))

-- A junction's ID, head, pressure and outflow.
abbrev pub junction_words : List ℕ → Interval → Interval → Interval → List (List ℕ)
junction_words id head pressure outflow =
    codes "JUNCTION" ∷ (id ∷
    with_ends (codes "head") head (with_ends (codes "pressure") pressure (with_ends (codes "outflow") outflow [])))

-- A reservoir's ID and head.
abbrev pub reservoir_words : List ℕ → Interval → List (List ℕ)
reservoir_words id head = codes "RESERVOIR" ∷ (id ∷ with_ends (codes "head") head [])

-- A tank's ID, head, level, inflow and state.
abbrev pub tank_words : List ℕ → Interval → Interval → Interval → TankState → List (List ℕ)
tank_words id head level inflow state =
    codes "TANK" ∷ (id ∷ with_ends (codes "head") head (with_ends (codes "level") level
    (with_ends (codes "inflow") inflow
    (codes "state" ∷ (tank_word state ∷ [])))))

-- A link's ID, flow and status.
abbrev pub link_words : List ℕ → Interval → StatusWord → List (List ℕ)
link_words id flow status = codes "LINK" ∷ (id ∷ with_ends (codes "flow") flow
    (codes "status" ∷ (status_text status ∷ [])))

-- The words of a line.
abbrev pub line_words : Project → ReportLine → List (List ℕ)
line_words project (ControlLine time number link state) =
    codes "CONTROL" ∷ (decimal (number + 1) ∷ (clock_text time ∷ given_words (link_id project link) state))
line_words project (TimeLine time) = codes "TIME" ∷ (clock_text time ∷ [])
line_words project (JunctionLine j head pressure outflow) = junction_words (node_id project j) head pressure outflow
line_words project (ReservoirLine r head) = reservoir_words (reservoir_id project r) head
line_words project (TankLine k head level inflow state) = tank_words (tank_id project k) head level inflow state
line_words project (LinkLine l flow status) = link_words (link_id project l) flow status
line_words project (FilledLine time tank) = event_words (tank_id project tank) time (codes "FULL" ∷ [])
line_words project (EmptiedLine time tank) = event_words (tank_id project tank) time (codes "EMPTY" ∷ [])
line_words project (ReachedLine time tank control) =
    event_words (tank_id project tank) time (codes "CONTROL" ∷ (decimal (control + 1) ∷ []))
line_words project (RuleLine time rule link state) =
    codes "RULE" ∷ (rule_id project rule ∷ (clock_text time ∷ given_words (link_id project link) state))

-- The bytes of a line.
abbrev pub line_text : Project → ReportLine → List ℕ
line_text project each = line (line_words project each)

-- ---- the last line

-- The words of a problem, a pinned tank by its ID.
abbrev pub problem_words : Project → Problem → List (List ℕ)
problem_words project Main = codes "MAIN" ∷ []
problem_words project (Pinned tank) = codes "PINNED" ∷ (tank_id project tank ∷ [])

-- The word of a side.
abbrev pub side_word : Side → List ℕ
side_word Upper = codes "UPPER"
side_word Lower = codes "LOWER"

-- The words of a stop's cause; clauses and controls are counted from 1 in print.
abbrev pub cause_words : Project → StopCause → List (List ℕ)
cause_words project (NoCertificate period problem side junction) =
    codes "NOCERT" ∷ (problem_words project problem ++ (side_word side
    ∷ (codes "JUNCTION" ∷ (node_id project junction ∷ []))))
cause_words project (TankOpen period tank lo hi) =
    codes "TANK" ∷ (tank_id project tank ∷ (signed_decimal lo ∷ (signed_decimal hi ∷ [])))
cause_words project (RuleOpen period rule clause lo hi) =
    codes "RULE" ∷ (rule_id project rule ∷ (codes "CLAUSE" ∷ (decimal (clause + 1) ∷
    (signed_decimal lo ∷ (signed_decimal hi ∷ [])))))
cause_words project (ControlOpen period control lo hi) =
    codes "CONTROL" ∷ (decimal (control + 1) ∷ (signed_decimal lo ∷ (signed_decimal hi ∷ [])))
cause_words project (EventOpen period earliest latest) = codes "EVENT" ∷ (decimal earliest ∷ (decimal latest ∷ []))
cause_words project (RoundsSpent period problem side rounds) =
    codes "ROUNDS" ∷ (problem_words project problem ++ (side_word side ∷ (decimal rounds ∷ [])))
cause_words project (DemandOutOfRange period junction demand) =
    codes "DEMAND" ∷ (node_id project junction ∷ (signed_decimal demand ∷ []))

-- `STOP period p time h:mm:ss` and the cause.
abbrev pub stop_line : Project → ℕ → StopCause → List ℕ
stop_line project time cause =
    line (codes "STOP" ∷ (codes "period" ∷ (decimal (period_of cause)
    ∷ (codes "time" ∷ (clock_text time ∷ cause_words project cause)))))

-- `DONE n` after a finished run; n counts the records.
abbrev pub done_line : ℕ → List ℕ
done_line records = line (codes "DONE" ∷ (decimal records ∷ []))

-- `PARTIAL n` after the certificate of a stopped run was accepted; n counts the records.
abbrev pub partial_line : ℕ → List ℕ
partial_line records = line (codes "PARTIAL" ∷ (decimal records ∷ []))

-- The words of a refusal.
abbrev pub refusal_words : Project → CertRefused → List (List ℕ)
refusal_words project (Place period) = codes "PLACE" ∷ []
refusal_words project (Demand period) = codes "DEMAND" ∷ []
refusal_words project (Fails period problem side junction) =
    codes "FAILS" ∷ (problem_words project problem ++ (side_word side ∷
    (codes "JUNCTION" ∷ (node_id project junction ∷ []))))
refusal_words project (MatterOpen period) = codes "OPEN" ∷ []
refusal_words project (Length period) = codes "LENGTH" ∷ []
refusal_words project (After period) = codes "AFTER" ∷ []

-- `BADCERT period p` and why the record was refused.
abbrev pub refused_line : Project → CertRefused → List ℕ
refused_line project cause =
    line (codes "BADCERT" ∷ (codes "period" ∷ (decimal (refused_period cause) ∷ refusal_words project cause)))

-- `BADCERT line N END` where the end line, the line of that number, counted from 1, says what isn't so.
abbrev pub refused_end_line : ℕ → List ℕ
refused_end_line number = line (codes "BADCERT" ∷ (codes "line" ∷ (decimal number ∷ (codes "END" ∷ []))))

-- The report of some lines and a last one: it begins with the line `HYD 1`.
abbrev pub report_text : Project → List ReportLine → List ℕ → List ℕ
report_text project lines last =
    line (codes "HYD" ∷ (decimal 1 ∷ [])) ++ (joined (map (line_text project) lines) ++ last)
