-- Where a record is valid, no cause of a stop holds but spent rounds.
use Rattle.std.proofs.Common.{◌≡◌, ◌≢◌, ℕ, ◌<◌, ◌≤◌, ℤ, refl, sym, ap, subst, ◌∙◌, arith, List, length}
use Rattle.std.specs.Prelude.{unsigned_abs}
use Rattle.std.proofs.lemmas.Option.{slice_get_within, get_or_from_slice_get}
use Rattle.hyd_net.specs.Sound.{IsSound}
use Rattle.hyd_spec.specs.ProgramTypes.{Project, Junction}
use Rattle.hyd_spec_certificates.specs.declared.Problem.{Problem}
use Rattle.hyd_spec_certificates.specs.declared.Side.{Side}
use Rattle.hyd_spec_certificates.specs.Interval.{Interval}
use Rattle.hyd_spec.specs.DemandsHeadsAndPumpLifts.{demand_of}
use Rattle.hyd_spec_certificates.specs.PeriodNetwork.{Grid}
use Rattle.hyd_spec_certificates.specs.RecordAndStanding.{Record, Standing, vector_of}
use Rattle.hyd_spec_certificates.specs.Decided.{OpenRule, RuleIsOpen, EventIsOpen, EndsBy}
use Rattle.hyd_spec_certificates.specs.Valid.{IsGridAt, IsValid, Continues, continues, finishes, LeadsOn, LeavesLinks}
use Rattle.hyd_spec_certificates.specs.Valid.{AreStates, ControlsAreDecided, levels_next, volumes_next, demand_limit}
use Rattle.hyd_theorems_on_definitions.proofs.OneEndOfPeriod.{not-last, leaves-not-last, leaves-one, leaves-no-rule}
use Rattle.hyd_theorems_on_definitions.proofs.OneEndOfPeriod.{leaves-no-event}
use Rattle.hyd_spec_certificates.specs.declared.StopCause.{StopCause}
use Rattle.hyd_spec_certificates.specs.declared.StopCause.TheVariants.{Demand as DemandOutOfRange, NoCertificate}
use Rattle.hyd_spec_certificates.specs.declared.StopCause.TheVariants.{RoundsSpent, RuleOpen, EventOpen, TankOpen}
use Rattle.hyd_spec_certificates.specs.declared.StopCause.TheVariants.{ControlOpen}
use Rattle.hyd_spec_certificates.specs.Stops.{IsFirstDemand, HasNoCertificate, IsTightRow, LeavesRuleOpen}
use Rattle.hyd_spec_certificates.specs.Stops.{LeavesEventOpen}
use Rattle.hyd_spec_certificates.specs.Stops.{EndsAtLevels, LeavesTankOpen, LeavesControlOpen, Stops}
use Rattle.hyd_spec_certificates.specs.Certificate.{IsCertificate}
use Rattle.hyd_theorems_on_definitions.proofs.OneGrid.{one_grid}
use Rattle.hyd_theorems_on_definitions.proofs.OneRefusal.{states-decided, controls-decided}
use Rattle.hyd_theorems_on_histories.specs.Agreement.{IsKept}
use Rattle.hyd_theorems_on_nesting.specs.Nesting.{AreNested, IsTightened}
use Rattle.hyd_theorems_on_nesting.specs.GoingOnOrStopped.{IsReason}
use Rattle.hyd_theorems_on_nesting.specs.StandingsOfRuns.{IsTidy}
use Rattle.hyd_theorems_on_nesting.proofs.ClockLengthAndEndsExist.{earliest_is}
use Rattle.hyd_theorems_on_nesting.proofs.InnerRecordsDecide.{leaves_so}
use Rattle.hyd_theorems_on_nesting.proofs.TightVectorsDecide.{tight_continues, tight-nested}

module _ (project : Project) (sound : IsSound project) (standing : Standing) (grid : Grid) (row : Record)
    (next : Standing) (kept : IsKept project standing) (tidy : IsTidy project standing)
    (valid : IsValid project standing grid row next) where
  -- a grid of the standing is the record's
  same-grid : (b : Grid) → IsGridAt project standing b → b ≡ grid
  same-grid b is = one_grid project standing b grid is valid.is_grid

  tight-here : (b : Grid) (tight : Record) → IsTightRow project standing b tight
      → IsTightRow project standing grid tight
  tight-here b tight is = subst (λ g. IsTightRow project standing g tight) (same-grid b is.is_grid) is

  -- a tight row with the record's numbers
  abbrev numbered : Record → Record
  numbered tight = record tight { number = row.number; time = row.time; length = row.length }

  as-tightened : (tight : Record) → IsTightRow project standing grid tight
      → IsTightened project grid row (numbered tight)
  as-tightened tight is = record {
    number = refl;
    time = refl;
    length_is = refl;
    pinned_each = is.one_each;
    each =
        λ problem side of. is.each problem side of;
  }

  -- what the tight vectors decide
  decided : (tight : Record) → IsTightRow project standing grid tight → Continues project grid standing row next
      → Continues project grid standing (numbered tight)
      (record next {
        levels = levels_next project grid standing (numbered tight) row.length;
        volumes =
            volumes_next project grid standing (numbered tight) row.length;
      })
  decided tight is c = tight_continues project sound standing grid row next kept tidy valid (numbered tight)
      (as-tightened tight is) c

  nested-with : (tight : Record) → IsTightRow project standing grid tight → AreNested project standing grid row tight
  nested-with tight is =
      let n = tight-nested project sound standing grid row next kept tidy valid (numbered tight) (as-tightened tight is)
      in
      record {
        is_grid = n.is_grid;
        steady = n.steady;
        levels_each = n.levels_each;
        ordered = n.ordered;
        outer_certificates = n.outer_certificates;
        inner_certificates = record {
          pinned_each = is.one_each;
          each =
              λ problem side of. (is.each problem side of).is_certificate;
        };
        about = record {
          upper = λ problem of. n.about.upper problem of;
          lower =
              λ problem of. n.about.lower problem of;
        };
        vessels = n.vessels;
      }

  -- the tight vectors leave the links as the record does
  leaves : (tight : Record) → IsTightRow project standing grid tight → Continues project grid standing row next
      → LeavesLinks project grid standing tight row.length next.commanded
  leaves tight is c =
      let e = earliest_is project grid standing tight sound.times.hydraulic in
      leaves_so project sound standing grid row tight (nested-with tight is)
      row.length e.0 next.commanded e.1 c.leaves_links

  -- the levels at which a matter is left open are those at which the tight vectors decide all
  record AllDecided (levels : List Interval) : Type 0 where
    states : AreStates project levels next.tanks
    controls : ControlsAreDecided project levels

  all-decided : (levels : List Interval) → EndsAtLevels project standing levels
      → Continues project grid standing row next → AllDecided levels
  all-decided levels at c =
      let tight = tight-here at.grid at.row at.tight in
      let ends = subst (λ g. LeavesLinks project g standing at.row at.seconds at.links)
      (same-grid at.grid at.tight.is_grid) at.ends in
      let own : levels ≡ levels_next project grid standing at.row at.seconds =
      at.levels_are ∙ ap (λ g. levels_next project g standing at.row at.seconds)
      (same-grid at.grid at.tight.is_grid) in
      let d = decided at.row tight c in
      let same = leaves-one project grid standing at.row at.seconds row.length at.links next.commanded ends
      (leaves at.row tight c) in
      let e : levels ≡ levels_next project grid standing at.row row.length =
      own ∙ ap (levels_next project grid standing at.row) same in
      record {
        states = subst (λ ls. AreStates project ls next.tanks) (sym e) d.tanks;
        controls = subst (ControlsAreDecided project) (sym e) d.controls;
      }

  ends-too : (levels : List Interval) → EndsAtLevels project standing levels → standing.time ≢ project.times.duration
  ends-too levels at = leaves-not-last project at.grid standing at.row at.seconds at.links at.ends

  -- no matter is open
  no-tank : (tank : ℕ) (level : Interval) → LeavesTankOpen project standing tank level
      → Continues project grid standing row next → ⊥
  no-tank tank level is c =
      states-decided project is.levels next.tanks tank (all-decided is.levels is.at_levels c).states is.first

  no-control : (number : ℕ) (level : Interval) → LeavesControlOpen project standing number level
      → Continues project grid standing row next → ⊥
  no-control number level is c =
      controls-decided project is.levels number (all-decided is.levels is.at_levels c).controls is.first

  -- ---- the causes

  -- a cause by a matter, where the record leads on
  by-lead : {X : Type 0} → (standing.time ≢ project.times.duration) → LeadsOn project grid standing row next
      → (Continues project grid standing row next → X → ⊥) → X → ⊥
  by-lead other (continues c) f x = f c x
  by-lead other (finishes d) f x = other d.is_last

  no-demand : (j : ℕ) (demand : ℤ) → IsFirstDemand project standing.time j demand → ⊥
  no-demand j demand is =
      let inside = slice_get_within project.junctions.list j is.junction is.is_junction in
      let within : unsigned_abs (demand_of project standing.time is.junction) ≤ demand_limit =
      subst (λ (x : Junction). unsigned_abs (demand_of project standing.time x) ≤ demand_limit)
      (get_or_from_slice_get project.junctions.list j is.junction is.junction is.is_junction)
      (valid.demands j is.junction inside) in
      let over : demand_limit < unsigned_abs (demand_of project standing.time is.junction) =
      subst (λ d. demand_limit < unsigned_abs d) is.is_demand is.out_of_range in
      omega (arith, within, over)

  no-vector : (problem : Problem) (side : Side) → HasNoCertificate project standing problem side → ⊥
  no-vector problem side is =
      is.none (vector_of row problem side)
      (subst (λ g. IsCertificate g problem side (vector_of row problem side)) (sym (same-grid is.grid is.is_grid))
      (valid.certificates.each problem side is.is_problem))

  rule-open : (open_rule : OpenRule) → LeavesRuleOpen project standing open_rule → ⊥
  rule-open open_rule is = by-lead (not-last project is.grid standing is.row (RuleIsOpen open_rule) is.is_open)
      valid.leads_on
      (λ c s. leaves-no-rule project grid standing s.row row.length next.commanded open_rule
      (leaves s.row (tight-here s.grid s.row s.tight) c)
      (subst (λ g. EndsBy project g standing s.row (RuleIsOpen open_rule)) (same-grid s.grid s.tight.is_grid)
      s.is_open)) is

  event-open : (m n : ℕ) → LeavesEventOpen project standing m n → ⊥
  event-open m n is = by-lead (not-last project is.grid standing is.row (EventIsOpen m n) is.is_open) valid.leads_on
      (λ c s. leaves-no-event project grid standing s.row row.length next.commanded m n
      (leaves s.row (tight-here s.grid s.row s.tight) c)
      (subst (λ g. EndsBy project g standing s.row (EventIsOpen m n)) (same-grid s.grid s.tight.is_grid) s.is_open)) is

  pub no_stop : (rounds : ℕ) (cause : StopCause) → IsReason cause → Stops project standing rounds cause → ⊥
  no_stop rounds (DemandOutOfRange period j demand) reason stops = no-demand j demand stops.holds
  no_stop rounds (NoCertificate period problem side j) reason stops = no-vector problem side stops.holds.1
  no_stop rounds (RoundsSpent period problem side spent) reason stops = reason
  no_stop rounds (RuleOpen period rule clause lo hi) reason stops =
      rule-open (record { rule = rule; clause = clause; lo = lo; hi = hi }) stops.holds
  no_stop rounds (EventOpen period m n) reason stops = event-open m n stops.holds
  no_stop rounds (TankOpen period tank lo hi) reason stops =
      by-lead (ends-too stops.holds.levels stops.holds.at_levels) valid.leads_on
      (λ c s. no-tank tank (record { lo = lo; hi = hi }) s c) stops.holds
  no_stop rounds (ControlOpen period number lo hi) reason stops =
      by-lead (ends-too stops.holds.levels stops.holds.at_levels) valid.leads_on
      (λ c s. no-control number (record { lo = lo; hi = hi }) s c) stops.holds
