-- A history of the village, at scale 1000: flows as they are wanted, and the heads at which valves pass them.
use Rattle.std.specs.Prelude.{pos, List, [], ◌∷◌}
use Rattle.hyd_spec.specs.ProgramTypes.{Closed, Limit}
use Rattle.hyd_spec.specs.declared.TankState.TheVariants.{Between}
use Rattle.hyd_spec.specs.PeriodLength.{Period}
use Rattle.hyd_cases_of_runs.specs.VillagePeriods.{village_period}

-- Period 0 of the history.
abbrev pub period_0 : Period
period_0 = village_period 0 8 (pos 20000000000000000) Between (Limit (pos 1000000000000) (pos 10000000000))
    (pos 999999997757518663) (pos 619999999750835407) (pos 18000000000000) (pos 10000000000000) (pos 2000000000000)
    (pos 8000000000000)

-- Period 1 of the history.
abbrev pub period_1 : Period
period_1 = village_period 8 3 (pos 20058946275211523) Between (Limit (pos 1000000000000) (pos 10000000000))
    (pos 999999998255847849) (pos 620058946026046930) (pos 14000000000000) (pos 10000000000000) (pos 2000000000000)
    (pos 4000000000000)

-- Period 2 of the history.
abbrev pub period_2 : Period
period_2 = village_period 11 3 (pos 20081051128415844) Between Closed (pos 999999999501670814)
    (pos 620081050879251251) (pos 4000000000000) (pos 0) (pos 2000000000000) (pos 4000000000000)

-- Period 3 of the history.
abbrev pub period_3 : Period
period_3 = village_period 14 2 (pos 20075524915114763) Between (Limit (pos 300000000000) (pos 3000000000))
    (pos 999999999127923925) (pos 620075524665950170) (pos 7000000000000) (pos 3000000000000) (pos 2000000000000)
    (pos 4000000000000)

-- Period 4 of the history.
abbrev pub period_4 : Period
period_4 = village_period 16 0 (pos 20077366986215123) Between (Limit (pos 300000000000) (pos 3000000000))
    (pos 999999998629594739) (pos 620077366737050530) (pos 11000000000000) (pos 3000000000000) (pos 2000000000000)
    (pos 8000000000000)

-- All of them, in order.
abbrev pub periods : List Period
periods = period_0 ∷ period_1 ∷ period_2 ∷ period_3 ∷ period_4 ∷ []
