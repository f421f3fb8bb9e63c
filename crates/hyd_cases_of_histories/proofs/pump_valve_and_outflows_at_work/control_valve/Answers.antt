use Rattle.std.proofs.Common.{refl, inl, inr, arith}
use Rattle.hyd_lemmas.proofs.BooleanTests.{le-yes}
use Rattle.hyd_cases_of_histories.specs.Spurs.{setting_spur}
use Rattle.hyd_cases_of_histories.proofs.Single.{history, link_follows, greater}
use Rattle.hyd_cases_of_histories.proofs.pump_valve_and_outflows_at_work.control_valve.Goals as goal

pub returns-clause-most : goal.returns-clause-most
returns-clause-most c = history setting_spur 1 _ _ _ _ (omega arith) refl refl
    (record { at_least = (le-yes _ _ refl, le-yes _ _ refl); at_most = inl (le-yes _ _ refl) })
    (record {
      demand = record { low = le-yes _ _ refl; high = le-yes _ _ refl };
      emitter = refl;
      balance = record { low = le-yes _ _ refl; high = le-yes _ _ refl };
    })

pub returns-clause-least : goal.returns-clause-least
returns-clause-least c = history setting_spur 1 _ _ _ _ (omega arith) refl refl
    (record { at_least = (le-yes _ _ refl, le-yes _ _ refl); at_most = inl (le-yes _ _ refl) })
    (record {
      demand = record { low = le-yes _ _ refl; high = le-yes _ _ refl };
      emitter = refl;
      balance = record { low = le-yes _ _ refl; high = le-yes _ _ refl };
    })

pub returns-clause-no_more : goal.returns-clause-no_more
returns-clause-no_more c is = greater _ _ refl (link_follows setting_spur 1 _ _ _ _ is).at_least.0

pub returns-clause-no_less : goal.returns-clause-no_less
returns-clause-no_less c is = elim (link_follows setting_spur 1 _ _ _ _ is).at_most [
  | inl reached ↦ greater _ _ refl reached
  | inr passes ↦ greater _ _ refl passes
]
