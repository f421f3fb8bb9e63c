use Rattle.std.proofs.Common.{refl}
use Rattle.hyd_cases_of_histories.specs.OneLink.{link_of}
use Rattle.hyd_cases_of_histories.specs.Spurs.{pump_spur}
use Rattle.hyd_lemmas.proofs.BooleanTests.{lt-yes}
use Rattle.hyd_cases_of_histories.proofs.claims.running_pump.Goals as goal

pub returns-clause-holds : goal.returns-clause-holds
returns-clause-holds c = record {
  link = link_of pump_spur;
  is_link = refl;
  state = pump_spur.start;
  is_state = refl;
  flow_lies = record { at_least = refl; at_most = refl };
  status_holds = lt-yes _ _ refl;
}
