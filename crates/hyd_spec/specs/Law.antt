-- The exact law of a link or an emitter: which flow belongs to a head difference, stated without
-- roots as two relations: the exact flow is at least a, the exact flow is at most a.
-- Source: EPANET 2.2 User Manual, chapter 3 (pipes, pumps, valves, emitters); the linear law of a valve without loss
-- coefficient, and the bounds between which a flow is held, are this program's.
use Rattle.std.specs.Prelude.{ℕ, ◌*◌, ◌^◌, ℤ, pos, negsuc, neg_ℤ, unsigned_abs, ◌*ℤ◌, ◌+ℤ◌, ◌-ℤ◌, ◌≤ℤ◌, ◌⊎◌, suc, ⊤}
use Rattle.std.specs.Prelude.{Bool, List}
use Rattle.hyd_num.specs.Fraction.{Fraction, fraction, over, power}
use Rattle.hyd_num.specs.FileQuantity.{is_us_unit, billionths, head_ticks, flow_fraction, pressure_fraction}
use Rattle.hyd_net.specs.PowerLawsOfPipes.{HazenWilliamsAtMost, HazenWilliamsAtLeast}
use Rattle.hyd_spec.specs.ProgramTypes.{Decimal, FlowUnit, Origin, Pipe, Valve, Pump, Emitter, PressureDemand, Capacity}
use Rattle.hyd_spec.specs.ProgramTypes.{HazenWilliamsPipe, PowerCapacity}
use Rattle.hyd_num.specs.Rational.{Rational}
use Rattle.hyd_net.specs.Curves.{Knot, value_at}
use Rattle.hyd_spec.specs.Scale.{at_scale, tolerance}
use Rattle.hyd_spec.specs.Loss.{PipeLossAtMost, PipeLossAtLeast, ValveLossAtMost, ValveLossAtLeast, SquareLossAtMost}
use Rattle.hyd_spec.specs.Loss.{SquareLossAtLeast}

-- At scale S, head difference x and flow a (S-th parts of ticks): one half of a law.
abbrev pub Relation : Type 1
Relation = ℕ → ℤ → ℤ → Type 0

-- ---- laws of a loss: the flow has the sign of the head difference

-- A loss relation: scale, magnitude of the flow, magnitude of the head.
abbrev pub Loss : Type 1
Loss = ℕ → ℕ → ℕ → Type 0

-- "The loss at a flow of q (at least 0) is at most the head y", y being of any sign.
abbrev pub loses_at_most : Loss → ℕ → ℕ → ℤ → Type 0
loses_at_most at_most S q (pos y) = at_most S q y
loses_at_most at_most S q (negsuc y) = ⊥

-- "The loss at a flow of q (at least 0) is at least the head y", y being of any sign.
abbrev pub loses_at_least : Loss → ℕ → ℕ → ℤ → Type 0
loses_at_least at_least S q (pos y) = at_least S q y
loses_at_least at_least S q (negsuc y) = ⊤

-- The flow is at least a: a forward flow a loses at most x, a reverse one at least -x in reverse.
abbrev pub odd_at_least : Loss → Loss → Relation
odd_at_least at_most at_least S x (pos a) = loses_at_most at_most S a x
odd_at_least at_most at_least S x (negsuc a) = loses_at_least at_least S (suc a) (neg_ℤ x)

-- The flow is at most a.
abbrev pub odd_at_most : Loss → Loss → Relation
odd_at_most at_most at_least S x (pos a) = loses_at_least at_least S a x
odd_at_most at_most at_least S x (negsuc a) = loses_at_most at_most S (suc a) (neg_ℤ x)

-- ---- what the numbers behind a capacity say

-- The resistance of a quadratic relation, in head ticks for a squared flow tick. A pump loses its
-- drop (a third of it for a curve of one point) at the curve's flow; an emitter passes its
-- coefficient at one psi or metre; a pressure-driven demand takes the whole demand where the pressure is
-- the required one, counted from the minimum one.
abbrev pub pump_resistance : Decimal → Decimal → ℕ → FlowUnit → Fraction
pump_resistance flow drop thirds unit =
    over (record { num = unsigned_abs (head_ticks (is_us_unit unit) drop.nano); den = thirds })
    (power (flow_fraction unit (billionths flow)) 2)

-- The resistance of an emitter: one psi or metre over the squared coefficient.
abbrev pub emitter_resistance : Decimal → FlowUnit → Fraction
emitter_resistance coefficient unit =
    over (pressure_fraction (is_us_unit unit) (10 ^ 9)) (power (flow_fraction unit (billionths coefficient)) 2)

-- The resistance of a pressure-driven demand: the required less the minimum pressure, over the squared demand.
abbrev pub pressure_resistance : ℤ → Decimal → Decimal → Bool → Fraction
pressure_resistance demand minimum required us =
    over (pressure_fraction us (unsigned_abs (required.nano -ℤ minimum.nano))) (fraction (unsigned_abs demand ^ 2) 1)

-- The relation "loses at most" of what a capacity was made of.
abbrev pub loss_at_most : Origin → Loss
loss_at_most (Pipe us length diameter roughness minor) = PipeLossAtMost us length diameter roughness minor
loss_at_most (Valve diameter k us) = ValveLossAtMost us diameter k
loss_at_most (Pump flow drop thirds unit) = SquareLossAtMost (pump_resistance flow drop thirds unit)
loss_at_most (Emitter coefficient unit) = SquareLossAtMost (emitter_resistance coefficient unit)
loss_at_most (PressureDemand demand minimum required us) = SquareLossAtMost
    (pressure_resistance demand minimum required us)

-- The relation "loses at least" of what a capacity was made of.
abbrev pub loss_at_least : Origin → Loss
loss_at_least (Pipe us length diameter roughness minor) = PipeLossAtLeast us length diameter roughness minor
loss_at_least (Valve diameter k us) = ValveLossAtLeast us diameter k
loss_at_least (Pump flow drop thirds unit) = SquareLossAtLeast (pump_resistance flow drop thirds unit)
loss_at_least (Emitter coefficient unit) = SquareLossAtLeast (emitter_resistance coefficient unit)
loss_at_least (PressureDemand demand minimum required us) = SquareLossAtLeast
    (pressure_resistance demand minimum required us)

-- The relation "loses at most" of a pipe with Hazen-Williams losses.
abbrev pub pipe_loses_at_most : HazenWilliamsPipe → Loss
pipe_loses_at_most pipe = HazenWilliamsAtMost pipe.us pipe.length pipe.diameter pipe.coefficient pipe.minor

-- The relation "loses at least" of such a pipe.
abbrev pub pipe_loses_at_least : HazenWilliamsPipe → Loss
pipe_loses_at_least pipe = HazenWilliamsAtLeast pipe.us pipe.length pipe.diameter pipe.coefficient pipe.minor

-- ---- laws

-- The law of a link: closed; a loss of the kind that a capacity's numbers give; a pipe's loss by Hazen-Williams; the
-- valve without loss coefficient, which loses 10^-6 feet for a cubic foot a second; a law lifted by a pump's head;
-- a law that passes one way only; a law held at or below a setting (flow ticks); the straight lines between knots, the
-- flow (flow ticks) by the head difference (head ticks); a law held between a least and a greatest flow (flow ticks).
pub data Law : Type 0 where
  Shut : Law
  QuadraticLaw : Capacity → Law
  PowerLaw : PowerCapacity → Law
  LinearLaw : Law
  Lifted : Rational → Law → Law
  ForwardOnly : Law → Law
  ReverseOnly : Law → Law
  Capped : ℤ → Law → Law
  Bent : List Knot → Law
  Held : ℤ → ℤ → Law → Law

-- A law R at the head difference x plus the lift: at a scale finer by the lift's denominator both
-- are whole.
abbrev pub lifted : Rational → Relation → Relation
lifted lift R S x a =
    R (S * lift.den) ((pos lift.den *ℤ x) +ℤ (pos S *ℤ lift.num)) (pos lift.den *ℤ a)

-- The exact flow at head difference x is at least a.
-- Forward only: it is the greater of 0 and the inner flow. Reverse only: the lesser. Capped: the
-- lesser of the setting and the inner flow. Held: the inner flow, but the least flow where the inner one is less, and
-- the greatest where the inner one is more.
abbrev pub flow_at_least : Law → Relation
flow_at_least Shut S x a = a ≤ℤ pos 0
flow_at_least (QuadraticLaw capacity) S x a = odd_at_least (loss_at_most capacity.origin)
    (loss_at_least capacity.origin) S x a
flow_at_least (PowerLaw capacity) S x a = odd_at_least (pipe_loses_at_most capacity.pipe)
    (pipe_loses_at_least capacity.pipe) S x a
flow_at_least LinearLaw S x a = (pos (10 ^ 6) *ℤ a) ≤ℤ (pos 8026822656 *ℤ x)
flow_at_least (Lifted lift law) S x a = lifted lift (flow_at_least law) S x a
flow_at_least (ForwardOnly law) S x a = (a ≤ℤ pos 0) ⊎ flow_at_least law S x a
flow_at_least (ReverseOnly law) S x a = (a ≤ℤ pos 0) × flow_at_least law S x a
flow_at_least (Capped setting law) S x a = (a ≤ℤ at_scale S setting) × flow_at_least law S x a
flow_at_least (Bent knots) S x a = (pos (value_at S knots x).den *ℤ a) ≤ℤ (value_at S knots x).num
flow_at_least (Held least greatest law) S x a = (a ≤ℤ at_scale S least)
    ⊎ ((a ≤ℤ at_scale S greatest) × flow_at_least law S x a)

-- The exact flow at head difference x is at most a.
abbrev pub flow_at_most : Law → Relation
flow_at_most Shut S x a = pos 0 ≤ℤ a
flow_at_most (QuadraticLaw capacity) S x a = odd_at_most (loss_at_most capacity.origin)
    (loss_at_least capacity.origin) S x a
flow_at_most (PowerLaw capacity) S x a = odd_at_most (pipe_loses_at_most capacity.pipe)
    (pipe_loses_at_least capacity.pipe) S x a
flow_at_most LinearLaw S x a = (pos 8026822656 *ℤ x) ≤ℤ (pos (10 ^ 6) *ℤ a)
flow_at_most (Lifted lift law) S x a = lifted lift (flow_at_most law) S x a
flow_at_most (ForwardOnly law) S x a = (pos 0 ≤ℤ a) × flow_at_most law S x a
flow_at_most (ReverseOnly law) S x a = (pos 0 ≤ℤ a) ⊎ flow_at_most law S x a
flow_at_most (Capped setting law) S x a = (at_scale S setting ≤ℤ a) ⊎ flow_at_most law S x a
flow_at_most (Bent knots) S x a = (value_at S knots x).num ≤ℤ (pos (value_at S knots x).den *ℤ a)
flow_at_most (Held least greatest law) S x a = (at_scale S greatest ≤ℤ a)
    ⊎ ((at_scale S least ≤ℤ a) × flow_at_most law S x a)

-- A head difference and a flow follow a law: the law's exact flow is within the tolerance of the flow,
-- that is, at least the flow less the tolerance and at most the flow plus it.
pub record Follows (law : Law) (S : ℕ) (x q : ℤ) : Type 0 where
  pub at_least : flow_at_least law S x (q -ℤ tolerance S)
  pub at_most : flow_at_most law S x (q +ℤ tolerance S)
