-- The exact law of a link in its state, between tanks that may be full or empty.
-- Source: EPANET 2.2 User Manual, chapter 3 (pipes, pumps, valves; tanks) and appendix C ([TANKS], overflow); the
-- reverse flow of a flow-control valve, and the greatest flow by a curve of straight lines, are this program's.
use Rattle.std.specs.Prelude.{ℕ, ◌^◌, ℤ, pos, neg_ℤ, Bool, true, false, ◌&&◌, ◌||◌, not, List, slice_get, if◌then◌else◌}
use Rattle.std.specs.Option.{option_map_or}
use Rattle.hyd_net.specs.ListView.{ListView}
use Rattle.hyd_spec.specs.ProgramTypes.{Project, Tank, Link, HeadPoint, LinkKind, PipeLink, CheckPipe, PumpLink}
use Rattle.hyd_spec.specs.ProgramTypes.{CurvePump, PipeLoss, Manning, HazenWilliams}
use Rattle.hyd_spec.specs.ProgramTypes.{Tcv, Fcv, Gpv, OpenValve, Quadratic, Linear, LinkState, Open, Closed, Speed}
use Rattle.hyd_spec.specs.ProgramTypes.{Throttle}
use Rattle.hyd_spec.specs.ProgramTypes.{Limit, TankState, Full, Empty, Between}
use Rattle.hyd_spec.specs.NodeNumbers.{is_tank, tank_number}
use Rattle.hyd_spec.specs.DemandsHeadsAndPumpLifts.{is_us, lift_of, points_of, pump_knots, valve_knots}
use Rattle.hyd_spec.specs.Law.{Law, Shut, QuadraticLaw, LinearLaw, Lifted, ForwardOnly, ReverseOnly, Capped, Bent, Held}
use Rattle.hyd_spec.specs.Law.{PowerLaw}

-- A pipe that is open.
abbrev pub pipe_law : PipeLoss → Law
pipe_law (Manning capacity) = QuadraticLaw capacity
pipe_law (HazenWilliams capacity) = PowerLaw capacity

-- A valve that is fully open.
abbrev pub valve_law : OpenValve → Law
valve_law (Quadratic capacity) = QuadraticLaw capacity
valve_law Linear = LinearLaw

-- What a curve by straight lines passes at most (flow ticks), a general purpose valve's also in reverse: 10^10 cubic
-- metres a day.
abbrev pub greatest_curve_flow : ℤ
greatest_curve_flow = pos (10 ^ 17)

-- The law of a link of this kind in this state, whatever the tanks at its ends allow.
-- A running pump passes forward only, what its curve gives at the head difference plus its lift, or what the straight
-- lines between its points give at its speed; a throttled valve is a valve whose coefficient is the setting; a
-- flow-control valve passes at most its setting; an open general purpose valve follows its curve. Curves pass no more
-- than their greatest flow. A kind and a state that don't go together have the law of a closed link.
abbrev pub own_law : Bool → List (ListView HeadPoint) → LinkKind → LinkState → Law
own_law us bends (PipeLink loss) Open = pipe_law loss
own_law us bends (PipeLink loss) Closed = Shut
own_law us bends (PipeLink loss) other = Shut
own_law us bends (CheckPipe loss) Open = ForwardOnly (pipe_law loss)
own_law us bends (CheckPipe loss) Closed = Shut
own_law us bends (CheckPipe loss) other = Shut
own_law us bends (PumpLink capacity shutoff head pattern) (Speed speed) = ForwardOnly
    (Lifted (lift_of us head speed) (QuadraticLaw capacity))
own_law us bends (PumpLink capacity shutoff head pattern) Closed = Shut
own_law us bends (PumpLink capacity shutoff head pattern) other = Shut
own_law us bends (CurvePump bend pattern) (Speed speed) = Held (pos 0) greatest_curve_flow
    (Bent (pump_knots (points_of bends bend) speed))
own_law us bends (CurvePump bend pattern) Closed = Shut
own_law us bends (CurvePump bend pattern) other = Shut
own_law us bends (Tcv valve) Open = valve_law valve
own_law us bends (Tcv valve) (Throttle setting law) = valve_law law
own_law us bends (Tcv valve) Closed = Shut
own_law us bends (Tcv valve) other = Shut
own_law us bends (Fcv valve) Open = valve_law valve
own_law us bends (Fcv valve) (Limit setting ticks) = Capped ticks (valve_law valve)
own_law us bends (Fcv valve) Closed = Shut
own_law us bends (Fcv valve) other = Shut
own_law us bends (Gpv bend) Open = Held (neg_ℤ greatest_curve_flow) greatest_curve_flow
    (Bent (valve_knots (points_of bends bend)))
own_law us bends (Gpv bend) Closed = Shut
own_law us bends (Gpv bend) other = Shut

-- ---- full and empty tanks

-- The tank is full.
abbrev pub is_full : TankState → Bool
is_full Full = true
is_full Between = false
is_full Empty = false

-- The tank is empty.
abbrev pub is_empty : TankState → Bool
is_empty Full = false
is_empty Between = false
is_empty Empty = true

-- The node is a full tank.
abbrev pub is_full_tank : Project → List TankState → ℕ → Bool
is_full_tank project tanks node =
    is_tank project node && option_map_or is_full (slice_get tanks (tank_number project node)) false

-- The node is an empty tank.
abbrev pub is_empty_tank : Project → List TankState → ℕ → Bool
is_empty_tank project tanks node =
    is_tank project node && option_map_or is_empty (slice_get tanks (tank_number project node)) false

-- The node is a tank that overflows: where it is full it takes further inflow, which is spilled.
abbrev pub overflows : Project → ℕ → Bool
overflows project node =
    is_tank project node
    && option_map_or (λ (tank : Tank). tank.overflow) (slice_get project.tanks.list (tank_number project node)) false

-- Nothing flows into the node: it is a full tank that doesn't overflow.
abbrev pub takes_nothing : Project → List TankState → ℕ → Bool
takes_nothing project tanks node = is_full_tank project tanks node && not (overflows project node)

-- Nothing flows from the first node of the link to the second: into a full tank that doesn't overflow, or out of an
-- empty one.
abbrev pub forbids_forward : Project → List TankState → Link → Bool
forbids_forward project tanks link =
    takes_nothing project tanks link.to || is_empty_tank project tanks link.from

-- Nothing flows from the second node of the link to the first.
abbrev pub forbids_reverse : Project → List TankState → Link → Bool
forbids_reverse project tanks link =
    takes_nothing project tanks link.from || is_empty_tank project tanks link.to

-- The law of a link in its state, between the tanks in theirs: where its own flow would go a forbidden
-- way, it is 0.
abbrev pub law_of : Project → List TankState → Link → LinkState → Law
law_of project tanks link state =
    let own = own_law (is_us project) project.bends.list link.kind state in
    let one_way = (if forbids_forward project tanks link then ReverseOnly own else own) in
    if forbids_reverse project tanks link then ForwardOnly one_way else one_way
