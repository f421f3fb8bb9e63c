use Rattle.hyd_num.proofs.power_5_33.is_root_above.Goals as goal

pub returns-clause-above : goal.returns-clause-above
returns-clause-above c = λ h. record {
  result = c.own_power-power.result;
  made = c.own_power-power.ensures;
  at_least = c.is_at_most.ensures.at_most h;
}

pub returns-clause-below : goal.returns-clause-below
returns-clause-below c = λ h. record {
  result = c.own_power-power.result;
  made = c.own_power-power.ensures;
  under = c.is_at_most.ensures.above h;
}
