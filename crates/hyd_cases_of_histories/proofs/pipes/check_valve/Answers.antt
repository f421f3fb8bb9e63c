use Rattle.std.proofs.Common.{refl, inl, inr, arith}
use Rattle.std.proofs.lemmas.Bool.{leb-true}
use Rattle.hyd_lemmas.proofs.BooleanTests.{le-yes}
use Rattle.hyd_cases_of_histories.specs.Spurs.{check_spur}
use Rattle.hyd_cases_of_histories.proofs.Single.{history, link_follows, more_than, greater}
use Rattle.hyd_cases_of_histories.proofs.pipes.check_valve.Goals as goal

pub returns-clause-most : goal.returns-clause-most
returns-clause-most c = history check_spur 125 _ _ _ _ (omega arith) refl refl
    (record {
      at_least = inr (record {
        minor_within = record { crossed = leb-true _ _ refl };
        friction_within = record { crossed = leb-true _ _ refl };
      });
      at_most = (le-yes _ _ refl, record { crossed = leb-true _ _ refl });
    })
    (record {
      demand = record { low = le-yes _ _ refl; high = le-yes _ _ refl };
      emitter = refl;
      balance = record { low = le-yes _ _ refl; high = le-yes _ _ refl };
    })

pub returns-clause-least : goal.returns-clause-least
returns-clause-least c = history check_spur 125 _ _ _ _ (omega arith) refl refl
    (record {
      at_least = inr (record {
        minor_within = record { crossed = leb-true _ _ refl };
        friction_within = record { crossed = leb-true _ _ refl };
      });
      at_most = (le-yes _ _ refl, record { crossed = leb-true _ _ refl });
    })
    (record {
      demand = record { low = le-yes _ _ refl; high = le-yes _ _ refl };
      emitter = refl;
      balance = record { low = le-yes _ _ refl; high = le-yes _ _ refl };
    })

pub returns-clause-no_more : goal.returns-clause-no_more
returns-clause-no_more c is = elim (link_follows check_spur 125 _ _ _ _ is).at_least [
  | inl backward ↦ greater _ _ refl backward
  | inr passes ↦ more_than _ _ refl passes.friction_within.crossed
]

pub returns-clause-no_less : goal.returns-clause-no_less
returns-clause-no_less c is = more_than _ _ refl (link_follows check_spur 125 _ _ _ _ is).at_most.1.crossed
