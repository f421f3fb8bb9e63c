use Rattle.std.proofs.Common.{refl}
use Rattle.hyd_lemmas.proofs.BooleanTests.{le-yes}
use Rattle.hyd_cases_of_histories.specs.OneLink.{link_of}
use Rattle.hyd_cases_of_histories.specs.Spurs.{setting_spur, half_spur}
use Rattle.hyd_cases_of_histories.proofs.Single.{greater}
use Rattle.hyd_cases_of_histories.proofs.claims.control_valve.Goals as goal

pub returns-clause-at_setting : goal.returns-clause-at_setting
returns-clause-at_setting c = record {
  link = link_of setting_spur;
  is_link = refl;
  state = setting_spur.start;
  is_state = refl;
  flow_lies = record { at_least = refl; at_most = refl };
  status_holds = le-yes _ _ refl;
}

pub returns-clause-below_setting : goal.returns-clause-below_setting
returns-clause-below_setting c = record {
  link = link_of half_spur;
  is_link = refl;
  state = half_spur.start;
  is_state = refl;
  flow_lies = record { at_least = refl; at_most = refl };
  status_holds = λ passes. greater _ _ refl passes;
}
