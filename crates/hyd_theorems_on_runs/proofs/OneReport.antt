-- A record has one report.
use Rattle.std.proofs.Common.{◌≡◌, ℕ, suc, ℤ, ◌-ℤ◌, Bool, true, false, MatchBool, List, [], ◌∷◌, ◌++◌, refl, sym, ap}
use Rattle.std.proofs.Common.{subst, ◌∙◌, ◌+◌, map}
use Rattle.hyd_num.specs.Rational.{Rational}
use Rattle.hyd_num.specs.PrintedDecimals.{head_quantity, pressure_quantity, flow_quantity}
use Rattle.hyd_num.proofs.Floors.{one_ceiling, one_floor}
use Rattle.hyd_spec.specs.ProgramTypes.{Project, Tank, Link}
use Rattle.hyd_spec_certificates.specs.Interval.{Interval}
use Rattle.hyd_spec.specs.DemandsHeadsAndPumpLifts.{is_us}
use Rattle.hyd_spec.specs.Rules.{state_of_link}
use Rattle.hyd_spec_certificates.specs.PeriodNetwork.{Grid, GridLink, GridJunction}
use Rattle.hyd_spec_certificates.specs.FlowIntervals.{difference, out_box}
use Rattle.hyd_spec_certificates.specs.RecordAndStanding.{Record, Standing}
use Rattle.hyd_spec_certificates.specs.Decided.{heads_below, heads_above, links_at, EndsBy, ByRules, WithoutRules}
use Rattle.hyd_spec.specs.declared.Change.{Change}
use Rattle.hyd_spec_certificates.specs.declared.Event.{Event}
use Rattle.hyd_spec_reports.specs.ReportLine.{ReportLine, TimeLine, JunctionLine, ReservoirLine, TankLine, LinkLine}
use Rattle.hyd_spec_certificates.specs.PrintedIntervals.{Prints}
use Rattle.hyd_spec_reports.specs.Report.{LineEach, IsJunctionLine, IsReservoirLine, IsTankLine, IsLinkLine}
use Rattle.hyd_spec_certificates.specs.StatusesOfLinks.{status_of}
use Rattle.hyd_spec_reports.specs.Report.{AreStateLines}
use Rattle.hyd_spec_certificates.specs.PrintedIntervals.{is_report_time}
use Rattle.hyd_spec_certificates.specs.EndsOfPeriods.{EndBrings, at_end}
use Rattle.hyd_spec_reports.specs.Report.{control_lines}
use Rattle.hyd_spec_certificates.specs.EndsOfPeriods.{by_rules as ended_by_rules, by_clock as ended_by_clock}
use Rattle.hyd_spec_reports.specs.Report.{AreEndLines}
use Rattle.hyd_spec_reports.specs.Report.{event_line, IsReport}
use Rattle.hyd_spec_reports.specs.Report.{change_line}
use Rattle.hyd_theorems_on_definitions.proofs.OneEndOfPeriod.{one_end, not-last}

-- ---- printed numbers

one_print : (quantity : ℤ → Rational) (ticks a b : Interval) → Prints quantity ticks a → Prints quantity ticks b → a ≡ b
one_print quantity ticks a b x y =
    let lo = one_floor _ _ a.lo b.lo x.down y.down in
    let hi = one_ceiling _ _ a.hi b.hi x.up y.up in
    λ i. record { lo = lo i; hi = hi i }

-- ---- lines

one_each : (X : Type 0) (P : ℕ → X → ReportLine → Type 0) (k : ℕ) (xs : List X) (ls ms : List ReportLine)
    → ((j : ℕ) (x : X) (l m : ReportLine) → P j x l → P j x m → l ≡ m) → LineEach P k xs ls → LineEach P k xs ms
    → ls ≡ ms
one_each X P k [] [] [] one a b = refl
one_each X P k [] [] (m ∷ ms) one a b = absurd b
one_each X P k [] (l ∷ ls) ms one a b = absurd a
one_each X P k (x ∷ xs) [] ms one a b = absurd a
one_each X P k (x ∷ xs) (l ∷ ls) [] one a b = absurd b
one_each X P k (x ∷ xs) (l ∷ ls) (m ∷ ms) one a b =
    let first = one k x l m a.0 b.0 in
    let rest = one_each X P (suc k) xs ls ms one a.1 b.1 in cc

module _ (project : Project) (grid : Grid) (standing : Standing) (row : Record) where
  one_junction : (j : ℕ) (junction : GridJunction) (l m : ReportLine) → IsJunctionLine project grid row j junction l
      → IsJunctionLine project grid row j junction m → l ≡ m
  one_junction j junction l m x y =
      let heads = y.heads_are ∙ sym x.heads_are in
      let head = one_print (head_quantity (is_us project)) x.heads x.head y.head x.head_is
      (subst (λ (h : Interval). Prints (head_quantity (is_us project)) h y.head) heads y.head_is) in
      let pressure = one_print (pressure_quantity (is_us project)) _ x.pressure y.pressure x.pressure_is
      (subst (λ (h : Interval). Prints (pressure_quantity (is_us project)) (record {
        lo = h.lo -ℤ junction.elevation;
        hi = h.hi -ℤ junction.elevation;
      }) y.pressure) heads y.pressure_is) in
      let outflow = one_print (flow_quantity project.options.unit) _ x.outflow y.outflow x.outflow_is
      (subst (λ (h : Interval). Prints (flow_quantity project.options.unit) (out_box junction h.lo h.hi) y.outflow)
      heads y.outflow_is) in
      let same : JunctionLine j x.head x.pressure x.outflow ≡ JunctionLine j y.head y.pressure y.outflow =
      λ i. JunctionLine j (head i) (pressure i) (outflow i) in
      x.is_line ∙ (same ∙ sym y.is_line)

  one_reservoir : (r : ℕ) (height : ℤ) (l m : ReportLine) → IsReservoirLine project r height l
      → IsReservoirLine project r height m → l ≡ m
  one_reservoir r height l m x y =
      x.is_line ∙ (ap (ReservoirLine r) (one_print (head_quantity (is_us project)) _ x.head y.head x.head_is
      y.head_is) ∙ sym y.is_line)

  one_tank : (k : ℕ) (tank : Tank) (l m : ReportLine) → IsTankLine project grid standing row k tank l
      → IsTankLine project grid standing row k tank m → l ≡ m
  one_tank k tank l m x y =
      let head = one_print (head_quantity (is_us project)) _ x.head y.head x.head_is y.head_is in
      let level = one_print (head_quantity (is_us project)) _ x.level y.level x.level_is y.level_is in
      let inflow = one_print (flow_quantity project.options.unit) _ x.inflow y.inflow x.inflow_is y.inflow_is in
      let state : x.state ≡ y.state = (let p = x.state_is in let q = y.state_is in cc) in
      let same : TankLine k x.head x.level x.inflow x.state ≡ TankLine k y.head y.level y.inflow y.state =
      λ i. TankLine k (head i) (level i) (inflow i) (state i) in
      x.is_line ∙ (same ∙ sym y.is_line)

  one_link : (k : ℕ) (link : Link) (l m : ReportLine) → IsLinkLine project grid standing row k link l
      → IsLinkLine project grid standing row k link m → l ≡ m
  one_link k link l m x y =
      let place : x.place ≡ y.place = (let p = x.place_is in let q = y.place_is in cc) in
      let box : y.box ≡ x.box = (let p = x.box_is in let q = y.box_is in cc) in
      let flow = one_print (flow_quantity project.options.unit) x.box x.flow y.flow x.flow_is
      (subst (λ (b : Interval). Prints (flow_quantity project.options.unit) b y.flow) box y.flow_is) in
      let line = λ (f : Interval) (p : GridLink). LinkLine k f (status_of (is_us project) project.bends.list link.kind
      (state_of_link (links_at project standing) k)
      (difference p (heads_below grid row) (heads_above grid row))) in
      let same : line x.flow x.place ≡ line y.flow y.place = λ i. line (flow i) (place i) in
      x.is_line ∙ (same ∙ sym y.is_line)

  one_state : (ls ms : List ReportLine) → AreStateLines project grid standing row ls
      → AreStateLines project grid standing row ms → ls ≡ ms
  one_state ls ms x y =
      let junctions = one_each GridJunction (IsJunctionLine project grid row) 0 grid.junctions x.junctions y.junctions
      one_junction x.junctions_are y.junctions_are in
      let reservoirs = one_each ℤ (IsReservoirLine project) 0 grid.reservoirs x.reservoirs y.reservoirs one_reservoir
      x.reservoirs_are y.reservoirs_are in
      let tanks = one_each Tank (IsTankLine project grid standing row) 0 project.tanks.list x.tanks y.tanks one_tank
      x.tanks_are y.tanks_are in
      let links = one_each Link (IsLinkLine project grid standing row) 0 project.links.list x.links y.links one_link
      x.links_are y.links_are in
      let lines = λ (a b c d : List ReportLine). TimeLine standing.time ∷ (a ++ (b ++ (c ++ d))) in
      let same : lines x.junctions x.reservoirs x.tanks x.links ≡ lines y.junctions y.reservoirs y.tanks y.links =
      λ i. lines (junctions i) (reservoirs i) (tanks i) (links i) in
      x.lines_are ∙ (same ∙ sym y.lines_are)

  -- ---- the end of the period

  differ : (n : ℕ) → EndsBy project grid standing row (ByRules n) → EndsBy project grid standing row (WithoutRules n)
      → ⊥
  differ n e f = let same = one_end project grid standing row (ByRules n) (WithoutRules n) e f in cc

  abbrev AreSame : List Event → List Event → List Change → List Change → Type 0
  AreSame e f c d = (e ≡ f) × (c ≡ d)

  one_brings : (e f : List Event) (c d : List Change) → EndBrings project grid standing row e c
      → EndBrings project grid standing row f d → AreSame e f c d
  one_brings _ _ _ _ (at_end e) (at_end f) = (refl, refl)
  one_brings _ _ _ _ (at_end e) (ended_by_rules f) =
      absurd (not-last project grid standing row (ByRules row.length) f e)
  one_brings _ _ _ _ (at_end e) (ended_by_clock f) =
      absurd (not-last project grid standing row (WithoutRules row.length) f e)
  one_brings _ _ _ _ (ended_by_rules f) (at_end e) =
      absurd (not-last project grid standing row (ByRules row.length) f e)
  one_brings _ _ _ _ (ended_by_rules e) (ended_by_rules f) = (refl, refl)
  one_brings _ _ _ _ (ended_by_rules e) (ended_by_clock f) = absurd (differ row.length e f)
  one_brings _ _ _ _ (ended_by_clock f) (at_end e) =
      absurd (not-last project grid standing row (WithoutRules row.length) f e)
  one_brings _ _ _ _ (ended_by_clock e) (ended_by_rules f) = absurd (differ row.length f e)
  one_brings _ _ _ _ (ended_by_clock e) (ended_by_clock f) = (refl, refl)

  one_end_lines : (ls ms : List ReportLine) → AreEndLines project grid standing row ls
      → AreEndLines project grid standing row ms → ls ≡ ms
  one_end_lines ls ms x y =
      let same = one_brings x.events y.events x.changes y.changes x.brings y.brings in
      let lines = λ (e : List Event) (c : List Change). map (event_line (standing.time + row.length)) e
      ++ map (change_line (standing.time + row.length)) c in
      let alike : lines x.events x.changes ≡ lines y.events y.changes = λ i. lines (same.0 i) (same.1 i) in
      x.lines_are ∙ (alike ∙ sym y.lines_are)

  -- ---- the report

  by_time : (reported : Bool) (s t : List ReportLine) → MatchBool reported (AreStateLines project grid standing row s)
      (s ≡ [])
      → MatchBool reported (AreStateLines project grid standing row t) (t ≡ []) → s ≡ t
  by_time true s t x y = one_state s t x y
  by_time false s t x y = x ∙ sym y

  pub one_report : (ls ms : List ReportLine) → IsReport project grid standing row ls
      → IsReport project grid standing row ms → ls ≡ ms
  one_report ls ms x y =
      let state = by_time (is_report_time project standing.time) x.state y.state x.state_are y.state_are in
      let ends = one_end_lines x.at_end y.at_end x.at_end_are y.at_end_are in
      let lines = λ (s e : List ReportLine). control_lines project standing ++ (s ++ e) in
      let same : lines x.state x.at_end ≡ lines y.state y.at_end = λ i. lines (state i) (ends i) in
      x.lines_are ∙ (same ∙ sym y.lines_are)
