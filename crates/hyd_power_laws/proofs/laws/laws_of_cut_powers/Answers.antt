use Rattle.hyd_power_laws.proofs.CutPowers.{power-at_most, power-near, power-rises}
use Rattle.hyd_power_laws.proofs.ExactFromTests.{exponent_of_flows, exponent_of_heads}
use Rattle.hyd_power_laws.proofs.laws.laws_of_cut_powers.Goals as goal

pub returns-clause-of_flows : goal.returns-clause-of_flows
returns-clause-of_flows c = exponent_of_flows

pub returns-clause-of_heads : goal.returns-clause-of_heads
returns-clause-of_heads c = exponent_of_heads

pub returns-clause-at_most : goal.returns-clause-at_most
returns-clause-at_most c = power-at_most

pub returns-clause-near : goal.returns-clause-near
returns-clause-near c = power-near

pub returns-clause-rises : goal.returns-clause-rises
returns-clause-rises c = power-rises
