-- How full a tank is at a level of parts.
use Rattle.std.proofs.Common.{◌≡◌, ℕ, ℤ, ◌+ℤ◌, ◌-ℤ◌, ◌≤ℤ◌, ◌<ℤ◌, Bool, false, ap, ◌∙◌}
use Rattle.std.specs.Prelude.{int_le}
use Rattle.hyd_spec.specs.ProgramTypes.{Tank}
use Rattle.hyd_spec.specs.Scale.{at_scale}
use Rattle.hyd_spec.specs.Tank.{tank_state, state_band}
use Rattle.hyd_spec.specs.declared.TankState.TheVariants.{Full, Between, Empty}
use Rattle.hyd_lemmas.proofs.BooleanTests.{le-from, le-not}
use Rattle.hyd_theorems_on_definitions.proofs.StocksInIntervals.{state_by}

module _ (S : ℕ) (tank : Tank) (level : ℤ) where
  pub full_is : at_scale S (tank.maximum -ℤ state_band) ≤ℤ level → tank_state S tank level ≡ Full
  full_is h = ap (λ (b : Bool). state_by b (int_le level (at_scale S (tank.minimum +ℤ state_band))))
      (le-from (at_scale S (tank.maximum -ℤ state_band)) level h)

  pub empty_is : level <ℤ at_scale S (tank.maximum -ℤ state_band)
      → level ≤ℤ at_scale S (tank.minimum +ℤ state_band) → tank_state S tank level ≡ Empty
  empty_is s h =
      ap (λ (b : Bool). state_by b (int_le level (at_scale S (tank.minimum +ℤ state_band))))
      (le-not (at_scale S (tank.maximum -ℤ state_band)) level s)
      ∙ ap (λ (b : Bool). state_by false b) (le-from level (at_scale S (tank.minimum +ℤ state_band)) h)

  pub between_is : level <ℤ at_scale S (tank.maximum -ℤ state_band)
      → at_scale S (tank.minimum +ℤ state_band) <ℤ level → tank_state S tank level ≡ Between
  between_is s h =
      ap (λ (b : Bool). state_by b (int_le level (at_scale S (tank.minimum +ℤ state_band))))
      (le-not (at_scale S (tank.maximum -ℤ state_band)) level s)
      ∙ ap (λ (b : Bool). state_by false b) (le-not level (at_scale S (tank.minimum +ℤ state_band)) h)
