use Rattle.std.proofs.Common.{refl, arith}
use Rattle.std.proofs.lemmas.Bool.{leb-true}
use Rattle.hyd_lemmas.proofs.BooleanTests.{le-yes}
use Rattle.hyd_cases_of_histories.specs.Spurs.{dry_spur}
use Rattle.hyd_cases_of_histories.proofs.Single.{history, junction_obeys, more_than}
use Rattle.hyd_cases_of_histories.proofs.outflows.dry_emitter.Goals as goal

pub returns-clause-most : goal.returns-clause-most
returns-clause-most c = history dry_spur 1 _ _ _ _ (omega arith) refl refl
    (record { at_least = le-yes _ _ refl; at_most = le-yes _ _ refl })
    (record {
      demand = record { low = le-yes _ _ refl; high = le-yes _ _ refl };
      emitter = record { at_least = leb-true _ _ refl; at_most = leb-true _ _ refl };
      balance = record { low = le-yes _ _ refl; high = le-yes _ _ refl };
    })

pub returns-clause-least : goal.returns-clause-least
returns-clause-least c = history dry_spur 1 _ _ _ _ (omega arith) refl refl
    (record { at_least = le-yes _ _ refl; at_most = le-yes _ _ refl })
    (record {
      demand = record { low = le-yes _ _ refl; high = le-yes _ _ refl };
      emitter = record { at_least = leb-true _ _ refl; at_most = leb-true _ _ refl };
      balance = record { low = le-yes _ _ refl; high = le-yes _ _ refl };
    })

pub returns-clause-no_more : goal.returns-clause-no_more
returns-clause-no_more c is = more_than _ _ refl (junction_obeys dry_spur 1 _ _ _ _ is).emitter.at_least

pub returns-clause-no_less : goal.returns-clause-no_less
returns-clause-no_less c is = more_than _ _ refl (junction_obeys dry_spur 1 _ _ _ _ is).emitter.at_most
