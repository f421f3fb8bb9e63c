-- Curves by straight lines: one of a pump, one of a general purpose valve and one of a tank, in metres, cubic metres
-- and cubic metres a day; and knots some of which have one place.
use Rattle.std.specs.Prelude.{ℤ, pos, neg_ℤ, false, List, [], ◌∷◌, None}
use Rattle.hyd_net.specs.ListView.{ListView}
use Rattle.hyd_net.specs.Curves.{Knot}
use Rattle.hyd_spec.specs.ProgramTypes.{VolumePoint, HeadPoint, CurvePump, Speed}
use Rattle.hyd_spec.specs.Law.{Law}
use Rattle.hyd_spec.specs.LinkLaw.{own_law}
use Rattle.hyd_spec_certificates.specs.Interval.{Interval}

-- C 0 40
-- C 1000 30
-- C 2000 15
-- C 3000 0
abbrev pub pump_points : List HeadPoint
pump_points =
    record { flow = pos 0; head = pos 400000000000000 }
    ∷ record { flow = pos 10000000000; head = pos 300000000000000 }
    ∷ record { flow = pos 20000000000; head = pos 150000000000000 }
    ∷ record { flow = pos 30000000000; head = pos 0 } ∷ []

-- G 0 0
-- G 100 1
-- G 200 4
abbrev pub valve_points : List HeadPoint
valve_points =
    record { flow = pos 0; head = pos 0 }
    ∷ record { flow = pos 1000000000; head = pos 10000000000000 }
    ∷ record { flow = pos 2000000000; head = pos 40000000000000 } ∷ []

-- Curve 0 is the pump's, curve 1 the valve's.
abbrev pub bends : List (ListView HeadPoint)
bends = record { list = pump_points; spare = 0 } ∷ record { list = valve_points; spare = 2 } ∷ []

-- The law of the pump at a speed (billionths).
abbrev pub running : ℤ → Law
running speed = own_law false bends (CurvePump 0 None) (Speed speed)

-- Head differences along the pump, before its first knot, at and between its knots and after the last one.
abbrev pub along_pump : List ℤ
along_pump = neg_ℤ (pos 500000000000000) ∷ neg_ℤ (pos 400000000000000) ∷ neg_ℤ (pos 350000000000000)
    ∷ neg_ℤ (pos 100000000000000)
    ∷ neg_ℤ (pos 99999999999999) ∷ pos 0 ∷ pos 50000000000000 ∷ pos 1000000000000000000 ∷ []

-- Head differences along the pump at a third of its speed.
abbrev pub along_slow_pump : List ℤ
along_slow_pump = neg_ℤ (pos 500000000000000) ∷ neg_ℤ (pos 44444444355556) ∷ neg_ℤ (pos 44444444355555)
    ∷ neg_ℤ (pos 44444444355554)
    ∷ neg_ℤ (pos 10000000000000) ∷ pos 0 ∷ pos 1 ∷ []

-- Intervals of head differences along the pump.
abbrev pub intervals : List Interval
intervals = record { lo = neg_ℤ (pos 100000000000000); hi = neg_ℤ (pos 100000000000000) }
    ∷ record { lo = neg_ℤ (pos 100000000000000); hi = neg_ℤ (pos 99999999999999) }
    ∷ record { lo = neg_ℤ (pos 99999999999999); hi = pos 50000000000000 }
    ∷ record { lo = neg_ℤ (pos 400000000000000); hi = neg_ℤ (pos 400000000000000) }
    ∷ record { lo = neg_ℤ (pos 400000000000000); hi = pos 0 }
    ∷ record { lo = neg_ℤ (pos 500000000000000); hi = neg_ℤ (pos 400000000000000) } ∷ []

-- Head differences along the valve.
abbrev pub along_valve : List ℤ
along_valve = neg_ℤ (pos 90000000000000) ∷ neg_ℤ (pos 40000000000000) ∷ neg_ℤ (pos 10000000000001) ∷ neg_ℤ (pos 1)
    ∷ pos 0 ∷ pos 1
    ∷ pos 10000000000000 ∷ pos 20000000000000 ∷ pos 40000000000000 ∷ pos 50000000000000 ∷ []

-- A head difference one way and a greater one the other way.
abbrev pub either_way : List ℤ
either_way = pos 20000000000000 ∷ neg_ℤ (pos 100000000000000) ∷ []

-- Knots of which the first two have one place, and the last two too.
abbrev pub steps : List Knot
steps =
    record { place = pos 0; value = pos 0 }
    ∷ record { place = pos 0; value = pos 5 }
    ∷ record { place = pos 10; value = pos 5 }
    ∷ record { place = pos 10; value = pos 20 } ∷ []

-- Knots of which the first two alone have one place.
abbrev pub rising_steps : List Knot
rising_steps =
    record { place = neg_ℤ (pos 5); value = neg_ℤ (pos 3) }
    ∷ record { place = neg_ℤ (pos 5); value = pos 1 }
    ∷ record { place = pos 2; value = pos 4 }
    ∷ record { place = pos 9; value = pos 4 }
    ∷ record { place = pos 12; value = pos 30 } ∷ []

-- Knots of which the last two alone have one place.
abbrev pub last_step : List Knot
last_step =
    record { place = neg_ℤ (pos 5); value = neg_ℤ (pos 3) }
    ∷ record { place = pos 2; value = pos 4 }
    ∷ record { place = pos 2; value = pos 9 } ∷ []

-- C 0 0
-- C 5 500
-- C 10 2000
abbrev pub volume_points : List VolumePoint
volume_points =
    record { level = pos 0; volume = pos 0 }
    ∷ record { level = pos 50000000000000; volume = pos 500000000000 }
    ∷ record { level = pos 100000000000000; volume = pos 2000000000000 } ∷ []
