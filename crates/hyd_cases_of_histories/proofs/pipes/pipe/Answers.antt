use Rattle.std.proofs.Common.{refl, arith}
use Rattle.std.proofs.lemmas.Bool.{leb-true}
use Rattle.hyd_lemmas.proofs.BooleanTests.{le-yes}
use Rattle.hyd_cases_of_histories.specs.Spurs.{pipe_spur}
use Rattle.hyd_cases_of_histories.proofs.Single.{history, link_follows, more_than}
use Rattle.hyd_cases_of_histories.proofs.pipes.pipe.Goals as goal

pub returns-clause-most : goal.returns-clause-most
returns-clause-most c = history pipe_spur 125 _ _ _ _ (omega arith) refl refl
    (record {
      at_least = record {
        minor_within = record { crossed = leb-true _ _ refl };
        friction_within = record { crossed = leb-true _ _ refl };
      };
      at_most = record { crossed = leb-true _ _ refl };
    })
    (record {
      demand = record { low = le-yes _ _ refl; high = le-yes _ _ refl };
      emitter = refl;
      balance = record { low = le-yes _ _ refl; high = le-yes _ _ refl };
    })

pub returns-clause-least : goal.returns-clause-least
returns-clause-least c = history pipe_spur 125 _ _ _ _ (omega arith) refl refl
    (record {
      at_least = record {
        minor_within = record { crossed = leb-true _ _ refl };
        friction_within = record { crossed = leb-true _ _ refl };
      };
      at_most = record { crossed = leb-true _ _ refl };
    })
    (record {
      demand = record { low = le-yes _ _ refl; high = le-yes _ _ refl };
      emitter = refl;
      balance = record { low = le-yes _ _ refl; high = le-yes _ _ refl };
    })

pub returns-clause-no_more : goal.returns-clause-no_more
returns-clause-no_more c is = more_than _ _ refl
    (link_follows pipe_spur 125 _ _ _ _ is).at_least.friction_within.crossed

pub returns-clause-no_less : goal.returns-clause-no_less
returns-clause-no_less c is = more_than _ _ refl (link_follows pipe_spur 125 _ _ _ _ is).at_most.crossed
