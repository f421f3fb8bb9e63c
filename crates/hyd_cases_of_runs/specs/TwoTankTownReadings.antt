-- What the town's rules look at, in examples.
use Rattle.std.specs.Prelude.{pos, [], ◌∷◌}
use Rattle.hyd_num.specs.Rational.{whole}
use Rattle.hyd_spec.specs.ProgramTypes.{Open, Closed, Speed}
use Rattle.hyd_spec.specs.Rules.{Readings}
use Rattle.hyd_cases_of_runs.specs.TwoTankTown.{fast_filling, night_main, wide_main, unthrottled}

-- At 2:06 with these the third rule alone is true.
abbrev pub readings_none : Readings
readings_none = record {
  heads = pos 449999998505012 ∷ pos 215000000044849 ∷ pos 600000000000000 ∷ [];
  levels = record { num = pos 99126415941547; den = 2 } ∷ whole (pos 15013103573490) ∷ [];
  flows = 0 ∷ 0 ∷ 12000000000 ∷ 9000000000 ∷ 360000000 ∷ [];
  links = Closed ∷ Closed ∷ Open ∷ wide_main ∷ unthrottled ∷ [];
}

-- At 2:24 with these all rules but the third are true.
abbrev pub readings_three : Readings
readings_three = record {
  heads = pos 447653348193372 ∷ pos 215070399570619 ∷ pos 600000000000000 ∷ [];
  levels = record { num = pos 142960044257659; den = 3 } ∷ record { num = pos 30140799101373; den = 2 } ∷ [];
  flows = 0 ∷ 20000000001 ∷ 11800000000 ∷ 8800000000 ∷ 160000000 ∷ [];
  links = Closed ∷ Closed ∷ Open ∷ wide_main ∷ unthrottled ∷ [];
}

-- Both levels and the first flow stand at the amounts that clauses compare with, and the pump runs.
abbrev pub readings_edges : Readings
readings_edges = record {
  heads = pos 447653348193372 ∷ pos 215070399570619 ∷ pos 600000000000000 ∷ [];
  levels = whole (pos 48000000000000) ∷ whole (pos 19000000000000) ∷ [];
  flows = 0 ∷ 20000000000 ∷ 11800000000 ∷ 8800000000 ∷ 160000000 ∷ [];
  links = Speed (pos 900000000) ∷ fast_filling ∷ Open ∷ night_main ∷ Open ∷ [];
}

-- Both levels stand half a tick past those amounts.
abbrev pub readings_past_edges : Readings
readings_past_edges = record {
  heads = pos 447653348193372 ∷ pos 215070399570619 ∷ pos 600000000000000 ∷ [];
  levels = record { num = pos 95999999999999; den = 2 } ∷ record { num = pos 38000000000001; den = 2 } ∷ [];
  flows = 0 ∷ 20000000000 ∷ 11800000000 ∷ 8800000000 ∷ 160000000 ∷ [];
  links = Closed ∷ Closed ∷ Open ∷ wide_main ∷ unthrottled ∷ [];
}

-- Levels of half a tick.
abbrev pub readings_of_halves : Readings
readings_of_halves = record {
  heads = pos 449999998505013 ∷ pos 215000000044850 ∷ pos 600000000000000 ∷ [];
  levels = record { num = pos 99126415941547; den = 2 } ∷ record { num = pos 30026207146981; den = 2 } ∷ [];
  flows = [];
  links = Closed ∷ Closed ∷ Open ∷ wide_main ∷ unthrottled ∷ [];
}
