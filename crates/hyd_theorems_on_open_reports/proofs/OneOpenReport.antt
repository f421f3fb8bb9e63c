-- A record of a run whose ends may be open has one report.
use Rattle.std.proofs.Common.{◌≡◌, ◌≢◌, ℕ, suc, ℤ, ◌-ℤ◌, Bool, true, false, MatchBool, List, [], ◌∷◌, ◌++◌, refl, sym}
use Rattle.std.proofs.Common.{ap}
use Rattle.std.proofs.Common.{subst, ◌∙◌, map}
use Rattle.std.specs.Prelude.{Option}
use Rattle.hyd_num.specs.Rational.{Rational}
use Rattle.hyd_num.specs.PrintedDecimals.{head_quantity, pressure_quantity, flow_quantity}
use Rattle.hyd_num.proofs.Floors.{one_ceiling, one_floor}
use Rattle.hyd_spec.specs.ProgramTypes.{Project, Tank, Link}
use Rattle.hyd_spec_certificates.specs.Interval.{Interval}
use Rattle.hyd_spec.specs.DemandsHeadsAndPumpLifts.{is_us}
use Rattle.hyd_spec.specs.Rules.{state_of_link}
use Rattle.hyd_spec_certificates.specs.PeriodNetwork.{Grid, GridLink, GridJunction}
use Rattle.hyd_spec_certificates.specs.FlowIntervals.{difference, out_box}
use Rattle.hyd_spec_certificates.specs.RecordAndStanding.{Record, Standing}
use Rattle.hyd_spec_certificates.specs.Decided.{Watch, heads_below, heads_above, links_at}
use Rattle.hyd_spec_reports.specs.ReportLine.{ReportLine, TimeLine, JunctionLine, ReservoirLine, TankLine, LinkLine}
use Rattle.hyd_spec_certificates.specs.PrintedIntervals.{Prints}
use Rattle.hyd_spec_reports.specs.Report.{LineEach, IsJunctionLine, IsReservoirLine, IsTankLine, IsLinkLine}
use Rattle.hyd_spec_certificates.specs.StatusesOfLinks.{status_of}
use Rattle.hyd_spec_reports.specs.Report.{AreStateLines, event_line, change_line}
use Rattle.hyd_spec_open_ends.specs.OpenStandings.{OpenStanding, OpenRecord}
use Rattle.hyd_spec_open_ends.specs.OpenEnds.{Way, EndsIn, by_rules, by_instant, by_watched}
use Rattle.hyd_spec_open_ends.specs.Arrivals.{Arrives}
use Rattle.hyd_spec_open_reports.specs.OpenReportLine.{OpenLine, known_line}
use Rattle.hyd_spec_open_reports.specs.OpenReport.{open_control_lines, tells_state, events_left, changes_left}
use Rattle.hyd_spec_open_reports.specs.OpenReport.{line_at_end, AreOpenEndLines, at_last, at_end, IsOpenReport}
use Rattle.hyd_theorems_on_open_ends.proofs.OneOpenEnd.{one_way}
use Rattle.hyd_theorems_on_open_stops.proofs.ArrivalsDecided.{one_reached}

-- ---- printed numbers

pub one_print : (quantity : ℤ → Rational) (ticks a b : Interval) → Prints quantity ticks a → Prints quantity ticks b
    → a ≡ b
one_print quantity ticks a b x y =
    let lo = one_floor _ _ a.lo b.lo x.down y.down in
    let hi = one_ceiling _ _ a.hi b.hi x.up y.up in
    λ i. record { lo = lo i; hi = hi i }

-- ---- lines

pub one_each : (X : Type 0) (P : ℕ → X → ReportLine → Type 0) (k : ℕ) (xs : List X) (ls ms : List ReportLine)
    → ((j : ℕ) (x : X) (l m : ReportLine) → P j x l → P j x m → l ≡ m) → LineEach P k xs ls → LineEach P k xs ms
    → ls ≡ ms
one_each X P k [] [] [] one a b = refl
one_each X P k [] [] (m ∷ ms) one a b = absurd b
one_each X P k [] (l ∷ ls) ms one a b = absurd a
one_each X P k (x ∷ xs) [] ms one a b = absurd a
one_each X P k (x ∷ xs) (l ∷ ls) [] one a b = absurd b
one_each X P k (x ∷ xs) (l ∷ ls) (m ∷ ms) one a b =
    let first = one k x l m a.0 b.0 in
    let rest = one_each X P (suc k) xs ls ms one a.1 b.1 in cc

module _ (project : Project) (grid : Grid) (standing : Standing) (row : Record) where
  one_junction : (j : ℕ) (junction : GridJunction) (l m : ReportLine) → IsJunctionLine project grid row j junction l
      → IsJunctionLine project grid row j junction m → l ≡ m
  one_junction j junction l m x y =
      let heads = y.heads_are ∙ sym x.heads_are in
      let head = one_print (head_quantity (is_us project)) x.heads x.head y.head x.head_is
      (subst (λ (h : Interval). Prints (head_quantity (is_us project)) h y.head) heads y.head_is) in
      let pressure = one_print (pressure_quantity (is_us project)) _ x.pressure y.pressure x.pressure_is
      (subst (λ (h : Interval). Prints (pressure_quantity (is_us project)) (record {
        lo = h.lo -ℤ junction.elevation;
        hi = h.hi -ℤ junction.elevation;
      }) y.pressure) heads y.pressure_is) in
      let outflow = one_print (flow_quantity project.options.unit) _ x.outflow y.outflow x.outflow_is
      (subst (λ (h : Interval). Prints (flow_quantity project.options.unit) (out_box junction h.lo h.hi) y.outflow)
      heads y.outflow_is) in
      let same : JunctionLine j x.head x.pressure x.outflow ≡ JunctionLine j y.head y.pressure y.outflow =
      λ i. JunctionLine j (head i) (pressure i) (outflow i) in
      x.is_line ∙ (same ∙ sym y.is_line)

  one_reservoir : (r : ℕ) (height : ℤ) (l m : ReportLine) → IsReservoirLine project r height l
      → IsReservoirLine project r height m → l ≡ m
  one_reservoir r height l m x y =
      x.is_line ∙ (ap (ReservoirLine r) (one_print (head_quantity (is_us project)) _ x.head y.head x.head_is
      y.head_is) ∙ sym y.is_line)

  pub one_tank : (k : ℕ) (tank : Tank) (l m : ReportLine) → IsTankLine project grid standing row k tank l
      → IsTankLine project grid standing row k tank m → l ≡ m
  one_tank k tank l m x y =
      let head = one_print (head_quantity (is_us project)) _ x.head y.head x.head_is y.head_is in
      let level = one_print (head_quantity (is_us project)) _ x.level y.level x.level_is y.level_is in
      let inflow = one_print (flow_quantity project.options.unit) _ x.inflow y.inflow x.inflow_is y.inflow_is in
      let state : x.state ≡ y.state = (let p = x.state_is in let q = y.state_is in cc) in
      let same : TankLine k x.head x.level x.inflow x.state ≡ TankLine k y.head y.level y.inflow y.state =
      λ i. TankLine k (head i) (level i) (inflow i) (state i) in
      x.is_line ∙ (same ∙ sym y.is_line)

  pub one_link : (k : ℕ) (link : Link) (l m : ReportLine) → IsLinkLine project grid standing row k link l
      → IsLinkLine project grid standing row k link m → l ≡ m
  one_link k link l m x y =
      let place : x.place ≡ y.place = (let p = x.place_is in let q = y.place_is in cc) in
      let box : y.box ≡ x.box = (let p = x.box_is in let q = y.box_is in cc) in
      let flow = one_print (flow_quantity project.options.unit) x.box x.flow y.flow x.flow_is
      (subst (λ (b : Interval). Prints (flow_quantity project.options.unit) b y.flow) box y.flow_is) in
      let line = λ (f : Interval) (p : GridLink). LinkLine k f (status_of (is_us project) project.bends.list link.kind
      (state_of_link (links_at project standing) k)
      (difference p (heads_below grid row) (heads_above grid row))) in
      let same : line x.flow x.place ≡ line y.flow y.place = λ i. line (flow i) (place i) in
      x.is_line ∙ (same ∙ sym y.is_line)

  one_state : (ls ms : List ReportLine) → AreStateLines project grid standing row ls
      → AreStateLines project grid standing row ms → ls ≡ ms
  one_state ls ms x y =
      let junctions = one_each GridJunction (IsJunctionLine project grid row) 0 grid.junctions x.junctions y.junctions
      one_junction x.junctions_are y.junctions_are in
      let reservoirs = one_each ℤ (IsReservoirLine project) 0 grid.reservoirs x.reservoirs y.reservoirs one_reservoir
      x.reservoirs_are y.reservoirs_are in
      let tanks = one_each Tank (IsTankLine project grid standing row) 0 project.tanks.list x.tanks y.tanks one_tank
      x.tanks_are y.tanks_are in
      let links = one_each Link (IsLinkLine project grid standing row) 0 project.links.list x.links y.links one_link
      x.links_are y.links_are in
      let lines = λ (a b c d : List ReportLine). TimeLine standing.time ∷ (a ++ (b ++ (c ++ d))) in
      let same : lines x.junctions x.reservoirs x.tanks x.links ≡ lines y.junctions y.reservoirs y.tanks y.links =
      λ i. lines (junctions i) (reservoirs i) (tanks i) (links i) in
      x.lines_are ∙ (same ∙ sym y.lines_are)

-- ---- the end of the period

module _ (project : Project) (grid : Grid) (standing : OpenStanding) (found : OpenRecord) where
  not-last : (way : Way) → EndsIn project grid standing found.row way → standing.known.time ≢ project.times.duration
  not-last _ (by_rules x first after in_time closed) = x.not_last
  not-last _ (by_instant x same none) = x.not_last
  not-last _ (by_watched x before none) = x.not_last

  abbrev lines-of : Way → Option Watch → List OpenLine
  lines-of way reached =
      map (λ event. line_at_end standing way (λ time. event_line time event))
      (events_left project grid standing.known found reached)
      ++ map (λ change. line_at_end standing way (λ time. change_line time change))
      (changes_left project grid standing found.row way)

  pub one-end-lines : (ls ms : List OpenLine) → AreOpenEndLines project grid standing found ls
      → AreOpenEndLines project grid standing found ms → ls ≡ ms
  one-end-lines _ _ (at_last e) (at_last f) = refl
  one-end-lines _ _ (at_last e) (at_end way reached ends arrives) = absurd (not-last way ends e)
  one-end-lines _ _ (at_end way reached ends arrives) (at_last e) = absurd (not-last way ends e)
  one-end-lines _ _ (at_end way reached ends arrives) (at_end other level ends-so arrives-so) =
      let same = one_way project grid standing found.row way other ends ends-so in
      let levels = one_reached project grid standing.known found.row other reached level
      (subst (λ w. Arrives project grid standing.known found.row w reached) same arrives) arrives-so in
      λ i. lines-of (same i) (levels i)

  -- ---- the report

  by-time : (reported : Bool) (s t : List ReportLine)
      → MatchBool reported (AreStateLines project grid standing.known found.row s) (s ≡ [])
      → MatchBool reported (AreStateLines project grid standing.known found.row t) (t ≡ []) → s ≡ t
  by-time true s t x y = one_state project grid standing.known found.row s t x y
  by-time false s t x y = x ∙ sym y

  pub one_open_report : (ls ms : List OpenLine) → IsOpenReport project grid standing found ls
      → IsOpenReport project grid standing found ms → ls ≡ ms
  one_open_report ls ms x y =
      let state = by-time (tells_state project standing) x.state y.state x.state_are y.state_are in
      let ends = one-end-lines x.at_end y.at_end x.at_end_are y.at_end_are in
      let lines = λ (s : List ReportLine) (e : List OpenLine). open_control_lines project standing
      ++ (map known_line s ++ e) in
      let same : lines x.state x.at_end ≡ lines y.state y.at_end = λ i. lines (state i) (ends i) in
      x.lines_are ∙ (same ∙ sym y.lines_are)
