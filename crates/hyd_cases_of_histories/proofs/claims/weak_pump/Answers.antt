use Rattle.std.proofs.Common.{refl}
use Rattle.hyd_lemmas.proofs.BooleanTests.{le-yes}
use Rattle.hyd_cases_of_histories.specs.OneLink.{link_of}
use Rattle.hyd_cases_of_histories.specs.Spurs.{idle_pump}
use Rattle.hyd_cases_of_histories.proofs.claims.weak_pump.Goals as goal

pub returns-clause-holds : goal.returns-clause-holds
returns-clause-holds c = record {
  link = link_of idle_pump;
  is_link = refl;
  state = idle_pump.start;
  is_state = refl;
  flow_lies = record { at_least = refl; at_most = refl };
  status_holds = le-yes _ _ refl;
}
