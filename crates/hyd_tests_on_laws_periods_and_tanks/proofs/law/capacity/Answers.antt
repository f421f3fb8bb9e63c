use Rattle.hyd_theorems_on_definitions.proofs.EachLaw.{IsSoundCapacity-made}
use Rattle.hyd_tests_on_laws_periods_and_tanks.proofs.law.capacity.Goals as goal

pub returns : goal.returns
returns c = IsSoundCapacity-made c.pda_capacity.result c.pda_capacity.ensures.made
