-- How full a tank is at a level, and at both ends of an interval.
use Rattle.std.proofs.Common.{◌≡◌, ℤ, pos, ◌+ℤ◌, ◌-ℤ◌, ◌*ℤ◌, ◌≤ℤ◌, ◌<ℤ◌, Bool, false, refl, ap, ◌∙◌, arith, Some, None}
use Rattle.std.specs.Prelude.{int_le}
use Rattle.std.proofs.lemmas.Int.{ints}
use Rattle.hyd_spec.specs.ProgramTypes.{Tank}
use Rattle.hyd_spec.specs.Scale.{at_scale}
use Rattle.hyd_spec.specs.Tank.{tank_state, state_band}
use Rattle.hyd_spec.specs.declared.TankState.{TankState}
use Rattle.hyd_spec.specs.declared.TankState.TheVariants.{Full, Between, Empty}
use Rattle.hyd_spec_certificates.specs.Stocks.{shared_state}
use Rattle.hyd_num.proofs.Integers.{one_times}
use Rattle.hyd_lemmas.proofs.BooleanTests.{le-from, le-not}
use Rattle.hyd_theorems_on_definitions.proofs.StocksInIntervals.{state_by}

module _ (tank : Tank) (level : ℤ) where
  pub full_is : (tank.maximum -ℤ state_band) ≤ℤ level → tank_state 1 tank level ≡ Full
  full_is h = ap (λ (b : Bool). state_by b (int_le level (at_scale 1 (tank.minimum +ℤ state_band))))
      (le-from (pos 1 *ℤ (tank.maximum -ℤ state_band)) level
      (omega (arith, ints, h, one_times (tank.maximum -ℤ state_band))))

  pub empty_is : level <ℤ (tank.maximum -ℤ state_band) → level ≤ℤ (tank.minimum +ℤ state_band)
      → tank_state 1 tank level ≡ Empty
  empty_is s h =
      ap (λ (b : Bool). state_by b (int_le level (at_scale 1 (tank.minimum +ℤ state_band))))
      (le-not (pos 1 *ℤ (tank.maximum -ℤ state_band)) level (omega
      (arith, ints, s, one_times (tank.maximum -ℤ state_band))))
      ∙ ap (λ (b : Bool). state_by false b) (le-from level (pos 1 *ℤ (tank.minimum +ℤ state_band))
      (omega (arith, ints, h, one_times (tank.minimum +ℤ state_band))))

  pub between_is : level <ℤ (tank.maximum -ℤ state_band) → (tank.minimum +ℤ state_band) <ℤ level
      → tank_state 1 tank level ≡ Between
  between_is s h =
      ap (λ (b : Bool). state_by b (int_le level (at_scale 1 (tank.minimum +ℤ state_band))))
      (le-not (pos 1 *ℤ (tank.maximum -ℤ state_band)) level (omega
      (arith, ints, s, one_times (tank.maximum -ℤ state_band))))
      ∙ ap (λ (b : Bool). state_by false b) (le-not level (pos 1 *ℤ (tank.minimum +ℤ state_band))
      (omega (arith, ints, h, one_times (tank.minimum +ℤ state_band))))

-- ---- both ends

pub shared : (a b : TankState) → a ≡ b → Some a ≡ shared_state a b
shared Full Full e = refl
shared Full Between e = absurd (cc)
shared Full Empty e = absurd (cc)
shared Between Full e = absurd (cc)
shared Between Between e = refl
shared Between Empty e = absurd (cc)
shared Empty Full e = absurd (cc)
shared Empty Between e = absurd (cc)
shared Empty Empty e = refl

pub apart : (a b : TankState) → (a ≡ b → ⊥) → None ≡ shared_state a b
apart Full Full e = absurd (e refl)
apart Full Between e = refl
apart Full Empty e = refl
apart Between Full e = refl
apart Between Between e = absurd (e refl)
apart Between Empty e = refl
apart Empty Full e = refl
apart Empty Between e = refl
apart Empty Empty e = absurd (e refl)
