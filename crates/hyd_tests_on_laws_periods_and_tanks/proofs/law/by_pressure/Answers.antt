use Rattle.std.proofs.Common.{refl, arith}
use Rattle.std.proofs.lemmas.Int.{ints}
use Rattle.hyd_theorems_on_definitions.proofs.EachLaw.{IsSoundCapacity-made}
use Rattle.hyd_tests_on_laws_periods_and_tanks.proofs.law.by_pressure.Goals as goal

pub returns-clause-sound : goal.returns-clause-sound
returns-clause-sound c = record {
  demanded = omega (arith, ints);
  not_negative = omega (arith, ints);
  origin = c.pda_capacity.ensures.origin;
  capacity = IsSoundCapacity-made c.pda_capacity.result c.pda_capacity.ensures.made;
  none = record { floor_is = refl; ceiling_is = refl };
  all = record { floor_is = refl; ceiling_is = refl };
}

pub returns-clause-accepts : goal.returns-clause-accepts
returns-clause-accepts c x small = omega (arith, small)
