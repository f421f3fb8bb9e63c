-- What is computed of the stock and the inflow that the code has is what is computed of the period's.
use Rattle.std.proofs.Common.{◌≡◌, ℕ, ℤ, Bool, subst}
use Rattle.hyd_spec.specs.ProgramTypes.{Project, Tank}
use Rattle.hyd_spec.specs.Tank.{Stock, walls_of, tank_inflow, has_reached, carried_level}
use Rattle.hyd_spec.specs.PeriodLength.{Period, stock_at_start, reached_after, carried_after}
use Rattle.hyd_spec_certificates.specs.FirstSeconds.{IsFirstSecond}
use Rattle.hyd_stocks_at_scale.specs.declared.carried_levels.ExactLevel.{ExactLevel}
use Rattle.hyd_stocks_at_scale.specs.ExactLevels.{IsLevel}

module _ (project : Project) (S : ℕ) (period : Period) (k : ℕ) (tank : Tank) (stock : Stock) (q : ℤ)
    (start : stock ≡ stock_at_start period k) (flow : q ≡ tank_inflow project k period.assignment.flows) where
  pub reached_first : (rising : Bool) (given level : ℤ) (cap e : ℕ) → given ≡ level
      → IsFirstSecond (has_reached S (walls_of project tank) tank stock q rising given) cap e
      → IsFirstSecond (reached_after project S period k tank rising level) cap e
  reached_first rising given level cap e same first =
      subst (λ (z : ℤ). IsFirstSecond (reached_after project S period k tank rising z) cap e) same
      (subst (λ (x : ℤ). IsFirstSecond (has_reached S (walls_of project tank) tank (stock_at_start period k) x rising
      given) cap e) flow
      (subst (λ (s : Stock). IsFirstSecond (has_reached S (walls_of project tank) tank s q rising given) cap e) start
      first))

  pub carried_so : (seconds : ℕ) (level : ExactLevel)
      → IsLevel level (carried_level S (walls_of project tank) tank stock q seconds)
      → IsLevel level (carried_after project S period k tank seconds)
  carried_so seconds level is =
      subst (λ (x : ℤ). IsLevel level (carried_level S (walls_of project tank) tank (stock_at_start period k) x
      seconds)) flow
      (subst (λ (s : Stock). IsLevel level (carried_level S (walls_of project tank) tank s q seconds)) start is)
