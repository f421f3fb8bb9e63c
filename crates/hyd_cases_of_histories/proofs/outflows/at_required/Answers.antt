use Rattle.std.proofs.Common.{refl, arith}
use Rattle.hyd_lemmas.proofs.BooleanTests.{le-yes}
use Rattle.hyd_cases_of_histories.specs.Spurs.{required_spur}
use Rattle.hyd_cases_of_histories.proofs.Single.{history, junction_obeys, greater}
use Rattle.hyd_cases_of_histories.proofs.outflows.at_required.Goals as goal

pub returns-clause-most : goal.returns-clause-most
returns-clause-most c = history required_spur 1 _ _ _ _ (omega arith) refl refl
    (record { at_least = le-yes _ _ refl; at_most = le-yes _ _ refl })
    (record {
      demand = record { low = le-yes _ _ refl; high = le-yes _ _ refl };
      emitter = refl;
      balance = record { low = le-yes _ _ refl; high = le-yes _ _ refl };
    })

pub returns-clause-least : goal.returns-clause-least
returns-clause-least c = history required_spur 1 _ _ _ _ (omega arith) refl refl
    (record { at_least = le-yes _ _ refl; at_most = le-yes _ _ refl })
    (record {
      demand = record { low = le-yes _ _ refl; high = le-yes _ _ refl };
      emitter = refl;
      balance = record { low = le-yes _ _ refl; high = le-yes _ _ refl };
    })

pub returns-clause-no_more : goal.returns-clause-no_more
returns-clause-no_more c is = greater _ _ refl (junction_obeys required_spur 1 _ _ _ _ is).demand.high

pub returns-clause-no_less : goal.returns-clause-no_less
returns-clause-no_less c is = greater _ _ refl (junction_obeys required_spur 1 _ _ _ _ is).demand.low
