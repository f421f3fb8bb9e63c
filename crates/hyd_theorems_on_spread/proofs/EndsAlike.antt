-- Networks that number their nodes alike, with the same elevations, let the clock and the levels of tanks end a period
-- alike.
use Rattle.std.proofs.Common.{◌≡◌, ℕ, ℤ, sym, subst, List}
use Rattle.std.specs.Prelude.{IsTrue}
use Rattle.hyd_spec.specs.ProgramTypes.{Project}
use Rattle.hyd_spec.specs.Tank.{tank_inflow, walls_of, content_bounds, exact_content, is_at_maximum, is_at_minimum}
use Rattle.hyd_spec.specs.Tank.{has_reached}
use Rattle.hyd_spec.specs.Rules.{elevation_of}
use Rattle.hyd_spec.specs.PeriodLength.{Period, EndsByClock, step, duration, pattern, report, control_time}
use Rattle.hyd_spec.specs.PeriodLength.{control_clock, EndsByLevel, full, empty, control, stock_at_start}
use Rattle.hyd_spec_spread.specs.NetworksWithin.{NodeData, with_data}
use Rattle.hyd_theorems_on_spread.proofs.LinksWithin.{NumbersAlike}
use Rattle.hyd_theorems_on_spread.proofs.RulesAlike.{inflows-alike}

module _ (project : Project) (nodes : NodeData) (same : NumbersAlike project nodes)
    (elevations : (node : ℕ) → elevation_of (with_data project nodes) node ≡ elevation_of project node) where
  abbrev network : Project
  network = with_data project nodes

  pub clock-alike : (start e : ℕ) → EndsByClock network start e → EndsByClock project start e
  clock-alike start e (step later is) = step later is
  clock-alike start e (duration later is) = duration later is
  clock-alike start e (pattern later is) = pattern later is
  clock-alike start e (report later since is) = report later since is
  clock-alike start e (control_time each there when later) = control_time each there when later
  clock-alike start e (control_clock each at there when shows later) = control_clock each at there when shows later

  pub clock-back : (start e : ℕ) → EndsByClock project start e → EndsByClock network start e
  clock-back start e (step later is) = step later is
  clock-back start e (duration later is) = duration later is
  clock-back start e (pattern later is) = pattern later is
  clock-back start e (report later since is) = report later since is
  clock-back start e (control_time each there when later) = control_time each there when later
  clock-back start e (control_clock each at there when shows later) = control_clock each at there when shows later

  inflow : (k : ℕ) (flows : List ℤ) → tank_inflow network k flows ≡ tank_inflow project k flows
  inflow k flows = inflows-alike project nodes same elevations k flows

  pub level-alike : (S : ℕ) (period : Period) (seconds : ℕ) → EndsByLevel network S period seconds
      → EndsByLevel project S period seconds
  level-alike S period seconds (full k tank at state reached) = full k tank at state
      (subst (λ (q : ℤ). IsTrue (is_at_maximum S (content_bounds (walls_of project tank) tank)
      (exact_content (walls_of project tank) (stock_at_start period k) q seconds))) (inflow k period.assignment.flows)
      reached)
  level-alike S period seconds (empty k tank at state reached) = empty k tank at state
      (subst (λ (q : ℤ). IsTrue (is_at_minimum S (content_bounds (walls_of project tank) tank)
      (exact_content (walls_of project tank) (stock_at_start period k) q seconds))) (inflow k period.assignment.flows)
      reached)
  level-alike S period seconds (control each k above ticks tank there when at before reached) =
      control each k above ticks tank there when at before
      (subst (λ (q : ℤ). IsTrue (has_reached S (walls_of project tank) tank (stock_at_start period k) q above ticks
      seconds)) (inflow k period.assignment.flows) reached)

  pub level-back : (S : ℕ) (period : Period) (seconds : ℕ) → EndsByLevel project S period seconds
      → EndsByLevel network S period seconds
  level-back S period seconds (full k tank at state reached) = full k tank at state
      (subst (λ (q : ℤ). IsTrue (is_at_maximum S (content_bounds (walls_of project tank) tank)
      (exact_content (walls_of project tank) (stock_at_start period k) q seconds)))
      (sym (inflow k period.assignment.flows)) reached)
  level-back S period seconds (empty k tank at state reached) = empty k tank at state
      (subst (λ (q : ℤ). IsTrue (is_at_minimum S (content_bounds (walls_of project tank) tank)
      (exact_content (walls_of project tank) (stock_at_start period k) q seconds)))
      (sym (inflow k period.assignment.flows)) reached)
  level-back S period seconds (control each k above ticks tank there when at before reached) =
      control each k above ticks tank there when at before
      (subst (λ (q : ℤ). IsTrue (has_reached S (walls_of project tank) tank (stock_at_start period k) q above ticks
      seconds)) (sym (inflow k period.assignment.flows)) reached)
