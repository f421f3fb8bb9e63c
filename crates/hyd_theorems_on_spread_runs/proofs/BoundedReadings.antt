-- What the rules look at in a period lies between what a grid and a record leave open that bound it.
use Rattle.std.proofs.Common.{◌≡◌, ℕ, zero, suc, ◌+◌, ◌*◌, ◌-◌, ◌≤◌, ℤ, pos, refl, sym, ap, subst, ◌∙◌, arith}
use Rattle.std.proofs.Common.{false, List, [], ◌∷◌, length, map}
use Rattle.std.specs.Prelude.{Some, slice_get, slice_index_or, unsigned_abs}
use Rattle.std.specs.List.{list_any}
use Rattle.std.proofs.lemmas.Int.{ints}
use Rattle.hyd_num.specs.Rational.{Rational, whole}
use Rattle.hyd_num.proofs.Integers.{times_times, one_times}
use Rattle.hyd_net.specs.Sound.{IsSound}
use Rattle.hyd_spec.specs.ProgramTypes.{Project, Tank}
use Rattle.hyd_spec.specs.Lists.{map_from}
use Rattle.hyd_spec.specs.Assignment.{flow_at, node_heads}
use Rattle.hyd_spec.specs.Rules.{Readings, rule_values, rule_changes}
use Rattle.hyd_spec.specs.Tank.{walls_of, tank_inflow, carried_level}
use Rattle.hyd_spec.specs.PeriodLength.{Period, level_at_start, stock_at_start, readings_after, values_at}
use Rattle.hyd_spec_certificates.specs.Interval.{Interval}
use Rattle.hyd_spec_certificates.specs.Stocks.{carried_levels}
use Rattle.hyd_spec_certificates.specs.PeriodNetwork.{Grid, GridLink}
use Rattle.hyd_spec_certificates.specs.FlowIntervals.{flow_box}
use Rattle.hyd_spec_certificates.specs.RecordAndStanding.{Record, Standing}
use Rattle.hyd_spec_certificates.specs.ThreeValuedLogic.{is_yes, is_unknown}
use Rattle.hyd_spec_certificates.specs.Decided.{level_of_tank, stocks_of_tank, inflow_of_tank, least_magnitude}
use Rattle.hyd_spec_certificates.specs.Decided.{greatest_magnitude, readings_below, readings_above, heads_below}
use Rattle.hyd_spec_certificates.specs.Decided.{heads_above, clause_truth, rule_truths, decided_changes}
use Rattle.hyd_spec_spread.specs.NetworksWithin.{NodeData, with_data}
use Rattle.hyd_theorems_on_definitions.specs.LyingInIntervals.{LiesIn, LiesAround, StockLies}
use Rattle.hyd_theorems_on_definitions.proofs.StocksInIntervals.{carried_lies}
use Rattle.hyd_theorems_on_histories.specs.Agreement.{IsValueBetween, AreBetween}
use Rattle.hyd_theorems_on_histories.proofs.ListsByPlace.{lies_at}
use Rattle.hyd_theorems_on_histories.proofs.RuleReadingsBetweenEnds.{least-within, greatest-beyond}
use Rattle.hyd_theorems_on_histories.proofs.TruthsAndRuleValues.{truths_tell, all_known}
use Rattle.hyd_theorems_on_histories.proofs.Clauses.{clause_tells}
use Rattle.hyd_theorems_on_spread.proofs.RulesAlike.{rules-alike, inflows-alike}
use Rattle.hyd_theorems_on_spread_runs.specs.BoundedPeriods.{IsBounded}

-- ---- magnitudes of flows

flows-low : (S : ℕ) (box : GridLink → Interval) (links : List GridLink) (flows : List ℤ) → length links ≡ length flows
    → ((l : ℕ) (link : GridLink) → slice_get links l ≡ Some link → LiesIn S (box link) (flow_at flows l))
    → (l : ℕ) → S * slice_index_or (map least_magnitude (map box links)) l 0 ≤ slice_index_or (map unsigned_abs flows)
    l 0
flows-low S box [] [] same lie l = omega arith
flows-low S box [] (q ∷ flows) same lie l = absurd (omega (arith, same))
flows-low S box (link ∷ links) [] same lie l = absurd (omega (arith, same))
flows-low S box (link ∷ links) (q ∷ flows) same lie zero = let w = least-within S (box link) q (lie 0 link refl) in
    omega (arith, ints, w)
flows-low S box (link ∷ links) (q ∷ flows) same lie (suc l) = flows-low S box links flows (omega (arith, same))
    (λ m other is. lie (suc m) other is) l

flows-high : (S : ℕ) (box : GridLink → Interval) (links : List GridLink) (flows : List ℤ) → length links ≡ length flows
    → ((l : ℕ) (link : GridLink) → slice_get links l ≡ Some link → LiesIn S (box link) (flow_at flows l))
    → (l : ℕ) → slice_index_or (map unsigned_abs flows) l 0 ≤ S * slice_index_or
    (map greatest_magnitude (map box links)) l 0
flows-high S box [] [] same lie l = omega arith
flows-high S box [] (q ∷ flows) same lie l = absurd (omega (arith, same))
flows-high S box (link ∷ links) [] same lie l = absurd (omega (arith, same))
flows-high S box (link ∷ links) (q ∷ flows) same lie zero = let w = greatest-beyond S (box link) q (lie 0 link refl) in
    omega (arith, ints, w)
flows-high S box (link ∷ links) (q ∷ flows) same lie (suc l) = flows-high S box links flows (omega (arith, same))
    (λ m other is. lie (suc m) other is) l

-- ---- levels

around-between : (S : ℕ) (level : Interval) (x : Rational) → LiesAround S level x
    → IsValueBetween S (whole level.lo) x (whole level.hi)
around-between S level x around = record {
  some_lo = omega arith;
  some = around.some;
  some_hi = omega arith;
  low = let l = around.low in omega (arith, ints, l, one_times x.num, times_times x.den S level.lo);
  high = let h = around.high in omega (arith, ints, h, one_times x.num, times_times x.den S level.hi);
}

pub levels-between : (S : ℕ) (f : ℕ → Tank → Interval) (g : ℕ → Tank → Rational) (from : ℕ) (tanks : List Tank)
    → ((k : ℕ) (tank : Tank) → slice_get tanks k ≡ Some tank → LiesAround S (f (from + k) tank) (g (from + k) tank))
    → (k : ℕ) → IsValueBetween S (slice_index_or (map (λ (level : Interval). whole level.lo) (map_from f from tanks)) k
    (whole (pos 0)))
    (slice_index_or (map_from g from tanks) k (whole (pos 0)))
    (slice_index_or (map (λ (level : Interval). whole level.hi) (map_from f from tanks)) k (whole (pos 0)))
levels-between S f g from [] lie k = record {
  some_lo = omega arith;
  some = omega arith;
  some_hi = omega arith;
  low =
      omega (arith, ints);
  high = omega (arith, ints);
}
levels-between S f g from (tank ∷ tanks) lie zero =
    let n : from + 0 ≡ from = omega arith in
    around-between S (f from tank) (g from tank) (subst (λ (m : ℕ). LiesAround S (f m tank) (g m tank)) n
    (lie 0 tank refl))
levels-between S f g from (tank ∷ tanks) lie (suc k) =
    levels-between S f g (suc from) tanks (λ m other is.
    let n : from + suc m ≡ suc from + m = omega arith in
    subst (λ (p : ℕ). LiesAround S (f p other) (g p other)) n (lie (suc m) other is)) k

-- ---- a bounded period

module _ (project : Project) (nodes : NodeData) (S : ℕ) (period : Period) (grid : Grid) (standing : Standing)
    (row : Record) (bounded : IsBounded project nodes S period grid standing row) where
  abbrev network : Project
  network = with_data project nodes

  pub level_lies : (k : ℕ) → LiesIn S (level_of_tank standing k) (level_at_start period k)
  level_lies k = lies_at S standing.levels period.levels k bounded.levels

  pub stock_lies : (k : ℕ) → StockLies S (stocks_of_tank standing k) (stock_at_start period k)
  stock_lies k = record { level = level_lies k; volume = lies_at S standing.volumes period.volumes k bounded.volumes }

  carried_within : (seconds k : ℕ) (tank : Tank) → slice_get project.tanks.list k ≡ Some tank
      → LiesAround S (carried_levels (walls_of project tank) tank (stocks_of_tank standing k)
      (inflow_of_tank project grid row k) seconds)
      (carried_level S (walls_of project tank) tank (stock_at_start period k)
      (tank_inflow project k period.assignment.flows) seconds)
  carried_within seconds k tank at =
      carried_lies S (walls_of project tank) (stocks_of_tank standing k) (inflow_of_tank project grid row k) seconds
      (stock_at_start period k) (tank_inflow project k period.assignment.flows)
      (stock_lies k) (bounded.inflows k tank at) tank bounded.some (bounded.vessels k tank at)

  -- what the rules look at: the heads of the network, and all else by the words for the file's
  abbrev pub its_readings : ℕ → Readings
  its_readings seconds = record {
    heads = node_heads network S period.time period.levels period.assignment.heads;
    levels = map_from (λ k (tank : Tank). carried_level S (walls_of project tank) tank (stock_at_start period k)
        (tank_inflow project k period.assignment.flows) seconds) 0 project.tanks.list;
    flows = map unsigned_abs period.assignment.flows;
    links = period.links;
  }

  pub readings-are : (seconds : ℕ) → readings_after network S period seconds ≡ its_readings seconds
  readings-are seconds = λ i. record {
    heads = node_heads network S period.time period.levels period.assignment.heads;
    levels = map_from (λ k (tank : Tank). carried_level S (walls_of project tank) tank (stock_at_start period k)
        (inflows-alike project nodes bounded.numbers bounded.elevations k period.assignment.flows i) seconds) 0
        project.tanks.list;
    flows = map unsigned_abs period.assignment.flows;
    links = period.links;
  }

  pub readings_between : (seconds : ℕ) → AreBetween project S (readings_below project grid standing row seconds)
      (its_readings seconds) (readings_above project grid standing row seconds)
  readings_between seconds = record {
    heads = λ m before. bounded.heads m;
    levels = levels-between S (λ k tank. carried_levels (walls_of project tank) tank (stocks_of_tank standing k)
        (inflow_of_tank project grid row k) seconds)
        (λ k tank. carried_level S (walls_of project tank) tank (stock_at_start period k)
        (tank_inflow project k period.assignment.flows) seconds) 0 project.tanks.list
        (λ k tank at. let n : k ≡ 0 + k = omega arith in
        subst (λ (m : ℕ). LiesAround S (carried_levels (walls_of project tank) tank (stocks_of_tank standing m)
        (inflow_of_tank project grid row m) seconds) (carried_level S (walls_of project tank) tank
        (stock_at_start period m) (tank_inflow project m period.assignment.flows) seconds)) n
        (carried_within seconds k tank at));
    flows_below = flows-low S (λ link. flow_box link (heads_below grid row) (heads_above grid row))
        grid.links period.assignment.flows bounded.flow_each bounded.flows;
    flows_above = flows-high S (λ link. flow_box link (heads_below grid row) (heads_above grid row))
        grid.links period.assignment.flows bounded.flow_each bounded.flows;
    links_below = sym bounded.links;
    links_above = sym bounded.links;
  }

  -- ---- rules

  values-are : (seconds instant : ℕ) → instant ≡ standing.time + seconds → values_at network S period instant
      ≡ rule_values project S (standing.time + seconds) (its_readings seconds)
  values-are seconds instant e =
      let t = bounded.time in
      let s : instant - period.time ≡ seconds = omega (arith, e, t) in
      rules-alike project nodes bounded.numbers bounded.elevations S instant
      (readings_after network S period (instant - period.time))
      ∙ ap (rule_values project S instant) (readings-are (instant - period.time))
      ∙ (λ i. rule_values project S (e i) (its_readings (s i)))

  -- where no rule is open, the values are those that are decided
  pub decided_values : IsSound project → (seconds instant : ℕ) → instant ≡ standing.time + seconds
      → list_any is_unknown (rule_truths project grid standing row seconds) ≡ false
      → map is_yes (rule_truths project grid standing row seconds) ≡ values_at network S period instant
  decided_values sound seconds instant e known =
      all_known (rule_truths project grid standing row seconds) _ known
      (truths_tell project S (standing.time + seconds) _ _ _ (clause_truth project grid standing row seconds)
      bounded.some sound (readings_between seconds)
      (λ clause way. clause_tells project S (standing.time + seconds) _ _ _ clause bounded.some way
      (readings_between seconds)))
      ∙ sym (values-are seconds instant e)

  -- and so are the changes
  pub changes_are : IsSound project → (seconds instant : ℕ) → instant ≡ standing.time + seconds
      → list_any is_unknown (rule_truths project grid standing row seconds) ≡ false
      → decided_changes project grid standing row seconds ≡ rule_changes project (values_at network S period instant)
      period.links
  changes_are sound seconds instant e known =
      let v = decided_values sound seconds instant e known in
      let l = bounded.links in
      λ i. rule_changes project (v i) (sym l i)
