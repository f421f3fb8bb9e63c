-- Where a period's start is open, what the rules look at in a history lies between what the record's ends give over the
-- lengths, so that what they decide is what happens.
use Rattle.std.proofs.Common.{◌≡◌, ℕ, zero, suc, ◌+◌, ◌-◌, ◌≤◌, pos, refl, sym, subst}
use Rattle.std.proofs.Common.{arith, false, List, [], ◌∷◌, map}
use Rattle.std.specs.Prelude.{Some, slice_get, slice_index_or}
use Rattle.std.specs.List.{list_any}
use Rattle.std.proofs.lemmas.Int.{ints}
use Rattle.hyd_num.proofs.Integers.{times_times, one_times}
use Rattle.hyd_num.specs.Rational.{Rational, whole}
use Rattle.hyd_net.specs.Sound.{IsSound}
use Rattle.hyd_spec.specs.ProgramTypes.{Project, Tank}
use Rattle.hyd_spec.specs.Lists.{map_from}
use Rattle.hyd_spec.specs.Tank.{walls_of, tank_inflow, carried_level}
use Rattle.hyd_spec.specs.Rules.{rule_changes}
use Rattle.hyd_spec.specs.PeriodLength.{Period, stock_at_start, readings_after, values_at}
use Rattle.hyd_spec_certificates.specs.Interval.{Interval}
use Rattle.hyd_spec_certificates.specs.ThreeValuedLogic.{is_yes, is_unknown}
use Rattle.hyd_spec_certificates.specs.PeriodNetwork.{Grid}
use Rattle.hyd_spec_certificates.specs.RecordAndStanding.{Record}
use Rattle.hyd_spec_certificates.specs.Decided.{stocks_of_tank, inflow_of_tank, clause_between}
use Rattle.hyd_spec_open_ends.specs.OpenStandings.{OpenStanding}
use Rattle.hyd_spec_open_ends.specs.StocksOverLengths.{carried_levels_over}
use Rattle.hyd_spec_open_ends.specs.RulesOverLengths.{readings_below_over, readings_above_over, open_rule_truths}
use Rattle.hyd_spec_open_ends.specs.RulesOverLengths.{open_changes}
use Rattle.hyd_theorems_on_definitions.specs.LyingInIntervals.{LiesAround}
use Rattle.hyd_theorems_on_definitions.specs.VerdictsOfTests.{TellEach}
use Rattle.hyd_theorems_on_histories.specs.Agreement.{IsValueBetween, AreBetween}
use Rattle.hyd_theorems_on_histories.proofs.Clauses.{clause_tells}
use Rattle.hyd_theorems_on_histories.proofs.RuleReadingsBetweenEnds.{stock_lies, inflow_within, readings_between}
use Rattle.hyd_theorems_on_histories.proofs.TruthsAndRuleValues.{truths_tell, all_known}
use Rattle.hyd_theorems_on_open_ends.specs.AgreementOverStarts.{begun_at, IsUnderOpenly}
use Rattle.hyd_theorems_on_open_ends.proofs.StocksOverLengths.{carried_over_lies}

-- ---- levels by place

around-between : (S : ℕ) (level : Interval) (x : Rational) → LiesAround S level x
    → IsValueBetween S (whole level.lo) x (whole level.hi)
around-between S level x around = record {
  some_lo = omega arith;
  some = around.some;
  some_hi = omega arith;
  low = let l = around.low in omega (arith, ints, l, one_times x.num, times_times x.den S level.lo);
  high = let h = around.high in omega (arith, ints, h, one_times x.num, times_times x.den S level.hi);
}

levels-between : (S : ℕ) (f : ℕ → Tank → Interval) (g : ℕ → Tank → Rational) (from : ℕ) (tanks : List Tank)
    → ((k : ℕ) (tank : Tank) → slice_get tanks k ≡ Some tank → LiesAround S (f (from + k) tank) (g (from + k) tank))
    → (k : ℕ) → IsValueBetween S (slice_index_or (map (λ (level : Interval). whole level.lo) (map_from f from tanks)) k
    (whole (pos 0)))
    (slice_index_or (map_from g from tanks) k (whole (pos 0)))
    (slice_index_or (map (λ (level : Interval). whole level.hi) (map_from f from tanks)) k (whole (pos 0)))
levels-between S f g from [] lie k = record {
  some_lo = omega arith;
  some = omega arith;
  some_hi = omega arith;
  low =
      omega (arith, ints);
  high = omega (arith, ints);
}
levels-between S f g from (tank ∷ tanks) lie zero =
    let n : from + 0 ≡ from = omega arith in
    around-between S (f from tank) (g from tank) (subst (λ (m : ℕ). LiesAround S (f m tank) (g m tank)) n
    (lie 0 tank refl))
levels-between S f g from (tank ∷ tanks) lie (suc k) =
    levels-between S f g (suc from) tanks (λ m other is.
    let n : from + suc m ≡ suc from + m = omega arith in
    subst (λ (p : ℕ). LiesAround S (f p other) (g p other)) n (lie (suc m) other is)) k

-- ---- a period under a record

module _ (project : Project) (S : ℕ) (period : Period) (grid : Grid) (standing : OpenStanding) (row : Record)
    (under : IsUnderOpenly project S period grid standing row) where
  carried-there : (shortest seconds longest k : ℕ) (tank : Tank) → shortest ≤ seconds → seconds ≤ longest
      → slice_get project.tanks.list k ≡ Some tank
      → LiesAround S (carried_levels_over (walls_of project tank) tank (stocks_of_tank standing.known k)
      (inflow_of_tank project grid row k) shortest longest)
      (carried_level S (walls_of project tank) tank (stock_at_start period k)
      (tank_inflow project k period.assignment.flows) seconds)
  carried-there shortest seconds longest k tank from to at =
      carried_over_lies S (walls_of project tank) tank (stocks_of_tank standing.known k)
      (inflow_of_tank project grid row k) shortest seconds longest (stock_at_start period k)
      (tank_inflow project k period.assignment.flows) under.own.compared.some (under.own.vessels k tank at)
      (stock_lies project S period grid (begun_at standing.known period.time) row under.own k)
      (inflow_within project S period grid (begun_at standing.known period.time) row under.own k tank at) from to

  -- what the rules look at after a length lies between the ends over lengths around it
  pub between_over : (shortest seconds longest : ℕ) → shortest ≤ seconds → seconds ≤ longest
      → AreBetween project S (readings_below_over project grid standing.known row shortest longest)
      (readings_after project S period seconds)
      (readings_above_over project grid standing.known row shortest longest)
  between_over shortest seconds longest from to =
      let now = readings_between project S period grid (begun_at standing.known period.time) row under.own seconds in
      record {
        heads = now.heads;
        levels = levels-between S (λ k tank. carried_levels_over (walls_of project tank) tank
            (stocks_of_tank standing.known k) (inflow_of_tank project grid row k) shortest longest)
            (λ k tank. carried_level S (walls_of project tank) tank (stock_at_start period k)
            (tank_inflow project k period.assignment.flows) seconds) 0 project.tanks.list
            (λ k tank at. let n : k ≡ 0 + k = omega arith in
            subst (λ (m : ℕ). LiesAround S (carried_levels_over (walls_of project tank) tank
            (stocks_of_tank standing.known m) (inflow_of_tank project grid row m) shortest longest)
            (carried_level S (walls_of project tank) tank (stock_at_start period m)
            (tank_inflow project m period.assignment.flows) seconds)) n
            (carried-there shortest seconds longest k tank from to at));
        flows_below = now.flows_below;
        flows_above = now.flows_above;
        links_below = sym under.links;
        links_above = sym under.links;
      }

  module _ (sound : IsSound project) (seconds : ℕ) (begun : period.time ≤ standing.known.time + seconds) where
    own-length : ℕ
    own-length = (standing.known.time + seconds) - period.time

    values-tell : TellEach (open_rule_truths project grid standing row seconds)
        (values_at project S period (standing.known.time + seconds))
    values-tell =
        let between = between_over (seconds - standing.late) ((standing.known.time + seconds) - period.time) seconds
        (let a = under.after in let b = under.by in omega (arith, a, b, begun))
        (let a = under.after in omega (arith, a, begun)) in
        truths_tell project S (standing.known.time + seconds) _ _ _
        (clause_between project (standing.known.time + seconds)
        (readings_below_over project grid standing.known row (seconds - standing.late) seconds)
        (readings_above_over project grid standing.known row (seconds - standing.late) seconds))
        under.own.compared.some sound between
        (λ clause way. clause_tells project S (standing.known.time + seconds) _ _ _ clause under.own.compared.some way
        between)

    -- where no rule is open at an instant by which the period has begun, the values are those that are decided
    pub values_over : list_any is_unknown (open_rule_truths project grid standing row seconds) ≡ false
        → map is_yes (open_rule_truths project grid standing row seconds)
        ≡ values_at project S period (standing.known.time + seconds)
    values_over known = all_known (open_rule_truths project grid standing row seconds)
        (values_at project S period (standing.known.time + seconds)) known values-tell

    -- and so are the changes
    pub changes_over : list_any is_unknown (open_rule_truths project grid standing row seconds) ≡ false
        → open_changes project grid standing row seconds
        ≡ rule_changes project (values_at project S period (standing.known.time + seconds)) period.links
    changes_over known =
        let v = values_over known in
        let l = under.links in
        λ i. rule_changes project (v i) (sym l i)
