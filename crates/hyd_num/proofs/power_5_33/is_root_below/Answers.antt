use Rattle.hyd_num.proofs.power_5_33.is_root_below.Goals as goal

pub returns-clause-below : goal.returns-clause-below
returns-clause-below c = λ h. record {
  result = c.own_power-power.result;
  made = c.own_power-power.ensures;
  at_most = c.is_at_most.ensures.at_most h;
}

pub returns-clause-above : goal.returns-clause-above
returns-clause-above c = λ h. record {
  result = c.own_power-power.result;
  made = c.own_power-power.ensures;
  over = c.is_at_most.ensures.above h;
}
