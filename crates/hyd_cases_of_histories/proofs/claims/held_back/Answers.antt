use Rattle.std.proofs.Common.{refl}
use Rattle.hyd_lemmas.proofs.BooleanTests.{le-yes}
use Rattle.hyd_cases_of_histories.specs.OneLink.{link_of}
use Rattle.hyd_cases_of_histories.specs.Spurs.{idle_spur}
use Rattle.hyd_cases_of_histories.proofs.claims.held_back.Goals as goal

pub returns-clause-holds : goal.returns-clause-holds
returns-clause-holds c = record {
  link = link_of idle_spur;
  is_link = refl;
  state = idle_spur.start;
  is_state = refl;
  flow_lies = record { at_least = refl; at_most = refl };
  status_holds = le-yes _ _ refl;
}
