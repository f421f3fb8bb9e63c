-- Exact quantities: what the numbers of the file are worth, in ticks, at a time of the run.
-- A head tick is 10^-13 m, a flow tick 10^-7 cubic metres a day; `nano` counts
-- billionths of the file's unit, or of a plain number.
-- Source: EPANET 2.2 User Manual, chapter 3 (the network model) and appendix C (sections [DEMANDS],
-- [PATTERNS], [RESERVOIRS], [CURVES], [TIMES]); that a pump's knots are cut to whole ticks, and the reverse of a
-- general purpose valve's curve, are this program's.
use Rattle.std.specs.Prelude.{ℕ, ◌+◌, ◌*◌, ◌/◌, ◌%◌, ◌^◌, ℤ, pos, neg_ℤ, unsigned_abs, ◌*ℤ◌, Bool, List, [], ◌++◌}
use Rattle.std.specs.Prelude.{length, map, reverse, slice_get, slice_index_or}
use Rattle.std.specs.Option.{option_map_or, option_or}
use Rattle.hyd_num.specs.FileQuantity.{is_us_unit, head_ticks, pressure_numerator, pressure_denominator}
use Rattle.hyd_net.specs.ListView.{ListView}
use Rattle.hyd_net.specs.Curves.{Knot}
use Rattle.hyd_spec.specs.ProgramTypes.{Project, Junction, Demand, Reservoir, Decimal, ShutoffHead, FourThirds, Given}
use Rattle.hyd_spec.specs.ProgramTypes.{HeadPoint}
use Rattle.hyd_num.specs.Rational.{Rational}
use Rattle.hyd_spec.specs.WholeNumbers.{cut}
use Rattle.hyd_spec.specs.Lists.{total}

-- The numbers of the file are in feet, inches and psi (else in metres and millimetres).
abbrev pub is_us : Project → Bool
is_us project = is_us_unit project.options.unit

-- ---- patterns

-- The multipliers of a pattern, in nano; none where there is no such pattern.
abbrev pub multipliers_of : Project → ℕ → List ℤ
multipliers_of project pattern =
    option_map_or (λ p. p.multipliers.list) (slice_get project.patterns.list pattern) []

-- The multiplier of a pattern at a time, in nano. The pattern's steps are counted from 0 at
-- time 0 less the pattern start, and the pattern is repeated.
abbrev pub multiplier_at : Project → ℕ → ℕ → ℤ
multiplier_at project pattern time =
    let multipliers = multipliers_of project pattern in
    let step = (time + project.times.pattern_start) / project.times.pattern in
    slice_index_or multipliers (step % length multipliers) (pos 0)

-- ---- demands and reservoir heads

-- The multiplier of a demand category, in nano: that of its own pattern, else of the default
-- pattern, else 1.
abbrev pub category_multiplier : Project → ℕ → Demand → ℤ
category_multiplier project time category =
    option_map_or (λ pattern. multiplier_at project pattern time)
    (option_or category.pattern project.options.default_pattern) (pos (10 ^ 9))

-- The demand of a category in flow ticks: its base times the product of its multiplier and the
-- demand multiplier, that product cut after nine decimals, the result cut to whole ticks.
abbrev pub category_demand : Project → ℕ → Demand → ℤ
category_demand project time category =
    let factor = cut (category_multiplier project time category *ℤ project.options.multiplier.nano) (10 ^ 9) in
    cut (category.base *ℤ factor) (10 ^ 9)

-- The demand of a junction at a time, in flow ticks: the sum over its categories.
abbrev pub demand_of : Project → ℕ → Junction → ℤ
demand_of project time junction = total (map (category_demand project time) junction.demands.list)

-- The head of a reservoir at a time, in head ticks: its base head, times its pattern's multiplier
-- where it has a pattern, cut to whole ticks.
abbrev pub reservoir_head : Project → ℕ → Reservoir → ℤ
reservoir_head project time reservoir =
    option_map_or (λ pattern. cut (reservoir.head *ℤ multiplier_at project pattern time) (10 ^ 9))
    reservoir.pattern reservoir.head

-- ---- pumps and pressures

-- The shutoff head of a pump, in head ticks: the head at which it no longer delivers. A curve of
-- one point gives it as 4/3 of the point's head, a curve of three points as its first head.
abbrev pub shutoff_head : Bool → ShutoffHead → Rational
shutoff_head us (FourThirds head) = record { num = pos 4 *ℤ head_ticks us head.nano; den = 3 }
shutoff_head us (Given head) = record { num = head_ticks us head.nano; den = 1 }

-- The lift of a pump at a speed (in nano): the squared speed times the shutoff head, in head ticks.
abbrev pub lift_of : Bool → ShutoffHead → ℤ → Rational
lift_of us head speed =
    let shutoff = shutoff_head us head in
    record { num = (speed *ℤ speed) *ℤ shutoff.num; den = 10 ^ 18 * shutoff.den }

-- The points of a curve by straight lines; none where there is no such curve.
abbrev pub points_of : List (ListView HeadPoint) → ℕ → List HeadPoint
points_of bends bend = option_map_or (λ (b : ListView HeadPoint). b.list) (slice_get bends bend) []

-- The knots of a pump's curve at a speed (in nano, at least 0), its flow (flow ticks) by the head difference (head
-- ticks): the squared speed times a point's head, below 0, and the speed times its flow, each cut to whole ticks.
abbrev pub pump_knots : List HeadPoint → ℤ → List Knot
pump_knots points speed =
    let w = unsigned_abs speed in
    map (λ (p : HeadPoint). record {
      place = cut (neg_ℤ (pos (w * w) *ℤ p.head)) (10 ^ 18);
      value = cut (pos w *ℤ p.flow) (10 ^ 9);
    }) points

-- The knots of a general purpose valve's curve: the flow at each loss, and in reverse their negatives.
abbrev pub valve_knots : List HeadPoint → List Knot
valve_knots points =
    map (λ (p : HeadPoint). record { place = neg_ℤ p.head; value = neg_ℤ p.flow }) (reverse points)
    ++ map (λ (p : HeadPoint). record { place = p.head; value = p.flow }) points

-- A pressure of the file in head ticks.
abbrev pub pressure_value : Bool → Decimal → Rational
pressure_value us pressure = record { num = pressure_numerator us pressure.nano; den = pressure_denominator us }

-- The minimum pressure, in head ticks: up to it a pressure-driven demand gets nothing.
abbrev pub minimum_pressure : Project → Rational
minimum_pressure project = pressure_value (is_us project) project.options.p0

-- The required pressure, in head ticks: from it on a pressure-driven demand gets all.
abbrev pub required_pressure : Project → Rational
required_pressure project = pressure_value (is_us project) project.options.pf
