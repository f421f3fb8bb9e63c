use Rattle.std.proofs.Common.{pos, ℕ, ◌+◌, ◌≢◌, [], arith, refl}
use Rattle.hyd_lemmas.proofs.BooleanTests.{le-yes}
use Rattle.hyd_spec.specs.ProgramTypes.{LinkState, Open, Closed}
use Rattle.hyd_spec.specs.PeriodLength.{HasItsLength, at_end}
use Rattle.hyd_spec.specs.History.{IsPeriod, Begins, ComesAfter, commanded_after}
use Rattle.hyd_cases_of_histories.specs.OneLink.{network_of}
use Rattle.hyd_cases_of_histories.specs.Timed.{timed_spur, still}
use Rattle.hyd_cases_of_histories.proofs.Single.{obeys}
use Rattle.hyd_cases_of_histories.proofs.TimedPeriods.{first_lasts, second_lasts, third_lasts}
use Rattle.hyd_cases_of_histories.proofs.controls.history.Goals as goal

still_open : (time length : ℕ) → HasItsLength (network_of timed_spur) 1 (still time length Open)
    → IsPeriod (network_of timed_spur) 1 (still time length Open)
still_open time length lasts = record {
  obeys = obeys timed_spur 1 (pos 1000000000000000) (pos 0) (pos 0) (pos 0) time Open (omega arith)
      (record { at_least = le-yes _ _ refl; at_most = le-yes _ _ refl })
      (record {
        demand = record { low = le-yes _ _ refl; high = le-yes _ _ refl };
        emitter = refl;
        balance = record { low = le-yes _ _ refl; high = le-yes _ _ refl };
      });
  lasts = lasts;
}

still_closed : IsPeriod (network_of timed_spur) 1 (still 1000 200 Closed)
still_closed = record {
  obeys = obeys timed_spur 1 (pos 1000000000000000) (pos 0) (pos 0) (pos 0) 1000 Closed (omega arith)
      (record { at_least = le-yes _ _ refl; at_most = le-yes _ _ refl })
      (record {
        demand = record { low = le-yes _ _ refl; high = le-yes _ _ refl };
        emitter = refl;
        balance = record { low = le-yes _ _ refl; high = le-yes _ _ refl };
      });
  lasts = second_lasts;
}

-- one period comes after another: there is no tank
comes : (time length : ℕ) (state : LinkState) (next : ℕ) (further : LinkState) → time ≢ 4000
    → Begins (network_of timed_spur) 1 (time + length) [] [] (commanded_after (network_of timed_spur) 1
    (still time length state)) (still (time + length) next further)
    → ComesAfter (network_of timed_spur) 1 (still time length state) (still (time + length) next further)
comes time length state next further early begins = record {
  not_last = early;
  stocks = record { level_each = refl; volume_each = refl; each = λ k tank is. absurd (cc) };
  begins = begins;
}

pub returns : goal.returns
returns c = (
  record { at_time = refl; at_levels = refl; at_volumes = refl; tanks = refl; links = refl },
  (
    still_open 0 1000 first_lasts,
    (
      comes 0 1000 Open 200 Closed (λ is. omega (arith, is)) (record {
        at_time = refl;
        at_levels = refl;
        at_volumes = refl;
        tanks = refl;
        links = refl;
      }),
      (
        still_closed,
        (
          comes 1000 200 Closed 2800 Open (λ is. omega (arith, is)) (record {
            at_time = refl;
            at_levels = refl;
            at_volumes = refl;
            tanks = refl;
            links = refl;
          }),
          (
            still_open 1200 2800 third_lasts,
            (
              comes 1200 2800 Open 0 Open (λ is. omega (arith, is)) (record {
                at_time = refl;
                at_levels = refl;
                at_volumes = refl;
                tanks = refl;
                links = refl;
              }),
              (still_open 4000 0 (at_end refl refl), tt),
            ),
          ),
        ),
      ),
    ),
  ),
)
