-- A network whose valve is closed by a control at 1000 s and opened by the clock at 2:00, 1200 s after the start of its
-- run, which ends at 4000 s; and its history, in which no water flows.
use Rattle.std.specs.Prelude.{ℕ, pos, List, [], ◌∷◌}
use Rattle.hyd_spec.specs.ProgramTypes.{LinkState, Open, Closed, Control, AtTime, AtClock}
use Rattle.hyd_spec.specs.PeriodLength.{Period}
use Rattle.hyd_cases_of_histories.specs.OneLink.{Spur, plain, period_at}

-- The control that closes the valve.
abbrev pub closing : Control
closing = record { link = 0; to = Closed; when = AtTime 1000 }

-- The control that opens it.
abbrev pub opening : Control
opening = record { link = 0; to = Open; when = AtClock 7200 }

-- Its run begins at 1:40.
abbrev pub timed_spur : Spur
timed_spur = record plain { controls = closing ∷ opening ∷ []; duration = 4000; start_clock = 6000 }

-- A period in which the junction stands as high as the reservoir.
abbrev pub still : ℕ → ℕ → LinkState → Period
still time length state = period_at time length state (pos 1000000000000000) (pos 0) (pos 0) (pos 0)

-- The periods: until the control by time acts, until the one by the clock does, until the end of the run, and that end.
abbrev pub periods : List Period
periods = still 0 1000 Open ∷ still 1000 200 Closed ∷ still 1200 2800 Open ∷ still 4000 0 Open ∷ []
