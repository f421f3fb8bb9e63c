-- Tanks: what their stock of water becomes under a constant inflow, and when they count as full or empty.
-- Levels, volumes and inflows of a history are S-th parts of ticks; a volume tick is 10^-9 cubic metres.
-- Source: EPANET 2.2 User Manual, chapter 3 (tanks; curves; hydraulic simulation model); the ten ticks of a next level
-- and of a next volume, the band in which a tank counts as full or empty, and that a level equal to a target has
-- reached it, are this program's.
use Rattle.std.specs.Prelude.{◌≡◌, ℕ, ◌*◌, ◌^◌, ℤ, pos, ◌+ℤ◌, ◌-ℤ◌, ◌*ℤ◌, ◌≤ℤ◌, neg_ℤ, Bool, true, false, List, [], map}
use Rattle.std.specs.Prelude.{slice_get, if◌then◌else◌, int_le, unsigned_abs, MatchBool}
use Rattle.std.specs.Option.{option_map_or}
use Rattle.hyd_net.specs.Curves.{Knot, value_at, volume_at}
use Rattle.hyd_spec.specs.ProgramTypes.{Project, Tank, VolumePoint, TankState, Full, Between, Empty}
use Rattle.hyd_num.specs.Rational.{Rational, is_at_most, whole}
use Rattle.hyd_spec.specs.Scale.{at_scale, missed_stock_ticks}
use Rattle.hyd_spec.specs.WholeNumbers.{is_same_number}
use Rattle.hyd_spec.specs.Assignment.{net_outflow}
use Rattle.hyd_spec.specs.NodeNumbers.{tank_node}

-- ---- stocks

-- What is kept of a tank from period to period: its level above the bottom and, where it has a volume curve, its volume
-- (else 0).
pub record Stock : Type 0 where
  pub level : ℤ
  pub volume : ℤ

-- How a tank holds its water: a cylinder by its area (10^-9 square metres), a tank with a volume curve by the curve's
-- points.
pub data Walls : Type 0 where
  Cylinder : ℕ → Walls
  Curve : List VolumePoint → Walls

-- The points of a volume curve of the network; none where there is no such curve.
abbrev pub shape_points : Project → ℕ → List VolumePoint
shape_points project shape = option_map_or (λ points. points.list) (slice_get project.shapes.list shape) []

-- The walls of a tank.
abbrev pub walls_of : Project → Tank → Walls
walls_of project tank =
    option_map_or (λ shape. Curve (shape_points project shape)) tank.shape (Cylinder (unsigned_abs tank.area))

-- ---- content

-- A tank's content is what its inflow adds to: the level of a cylinder, the volume of a tank with a curve.
abbrev pub content_of : Walls → Stock → ℤ
content_of (Cylinder area) stock = stock.level
content_of (Curve points) stock = stock.volume

-- The content at a level, in whole head or volume ticks.
abbrev pub content_at : Walls → ℤ → ℤ
content_at (Cylinder area) level = level
content_at (Curve points) level = volume_at points level

-- The volume that is kept at a level, in whole volume ticks: that of the curve, and 0 of a cylinder.
abbrev pub kept_volume : Walls → ℤ → ℤ
kept_volume (Cylinder area) level = pos 0
kept_volume (Curve points) level = volume_at points level

-- The least and the most that something may be, in whole ticks.
pub record Bounds : Type 0 where
  pub least : ℤ
  pub most : ℤ

-- The least and the most level of a tank.
abbrev pub level_bounds : Tank → Bounds
level_bounds tank = record { least = tank.minimum; most = tank.maximum }

-- Its content at these levels.
abbrev pub content_bounds : Walls → Tank → Bounds
content_bounds walls tank = record { least = content_at walls tank.minimum; most = content_at walls tank.maximum }

-- The content after `seconds` of a constant inflow, before its bounds are looked at. A flow tick for a day is 100
-- volume ticks, and on 10^-9 square metres it is 10^15 head ticks; a day has 86,400 seconds, and 864 is a hundredth of
-- that. Stock and inflow may be parts of a tick, at one scale.
abbrev pub exact_content : Walls → Stock → ℤ → ℕ → Rational
exact_content (Cylinder area) stock inflow seconds =
    let breadth = 86400 * area in
    record { num = (pos breadth *ℤ stock.level) +ℤ (pos (seconds * 10 ^ 15) *ℤ inflow); den = breadth }
exact_content (Curve points) stock inflow seconds =
    record { num = (pos 864 *ℤ stock.volume) +ℤ (pos seconds *ℤ inflow); den = 864 }

-- The value x has met a target (whole ticks) in one of two ways: ABOVE (`true`), it is at least the target; BELOW, it
-- is at most the target.
abbrev pub reaches : ℕ → Bool → ℤ → Rational → Bool
reaches S true ticks x = is_at_most (whole (at_scale S ticks)) x
reaches S false ticks x = is_at_most x (whole (at_scale S ticks))

-- The value x is at or above the most of its bounds.
abbrev pub is_at_maximum : ℕ → Bounds → Rational → Bool
is_at_maximum S bounds x = reaches S true bounds.most x

-- The value x is at or below the least of its bounds.
abbrev pub is_at_minimum : ℕ → Bounds → Rational → Bool
is_at_minimum S bounds x = reaches S false bounds.least x

-- ---- levels

-- What goes with a content x: the most of a range where x is at or above the most content, the least where it is at or
-- below the least, else `inside`.
abbrev pub placed : ℕ → Bounds → Bounds → Rational → Rational → Rational
placed S contents range x inside =
    if is_at_maximum S contents x then whole (at_scale S range.most)
    else if is_at_minimum S contents x then whole (at_scale S range.least)
    else inside

-- A volume curve's knots the other way round: the level at each volume.
abbrev pub level_knots : List VolumePoint → List Knot
level_knots points = map (λ (p : VolumePoint). record { place = p.volume; value = p.level }) points

-- The level at the volume x on the lines of the curve: an exact value in S-th parts, as x is. At a scale finer by the
-- denominator of x both are whole places of the curve.
abbrev pub level_on_curve : ℕ → List VolumePoint → Rational → Rational
level_on_curve S points x =
    let fine = value_at (S * x.den) (level_knots points) x.num in
    record { num = fine.num; den = fine.den * x.den }

-- The level at the volume x, held between minimum and maximum.
abbrev pub level_at_volume : ℕ → List VolumePoint → Tank → Rational → Rational
level_at_volume S points tank x =
    let level = level_on_curve S points x in placed S (level_bounds tank) (level_bounds tank) level level

-- The level at the content x.
abbrev pub level_at : ℕ → Walls → Tank → Rational → Rational
level_at S (Cylinder area) tank x = x
level_at S (Curve points) tank x = level_at_volume S points tank x

-- The carried level: the maximum where the exact content is at least that of the maximum, the minimum where it is at
-- most that of the minimum, else the level at the exact content.
abbrev pub carried_level : ℕ → Walls → Tank → Stock → ℤ → ℕ → Rational
carried_level S walls tank stock inflow seconds =
    let exact = exact_content walls stock inflow seconds in
    placed S (content_bounds walls tank) (level_bounds tank) exact (level_at S walls tank exact)

-- ---- targets

-- The level that is compared with a target: the exact one of a cylinder, which may lie beyond its bounds, and the
-- carried one of a tank with a curve.
abbrev pub watched_level : ℕ → Walls → Tank → Stock → ℤ → ℕ → Rational
watched_level S (Cylinder area) tank stock inflow seconds = exact_content (Cylinder area) stock inflow seconds
watched_level S (Curve points) tank stock inflow seconds = carried_level S (Curve points) tank stock inflow seconds

-- The target is a bound of the level: the maximum where it is met ABOVE, the minimum where it is met BELOW.
abbrev pub is_bound : Tank → Bool → ℤ → Bool
is_bound tank true target = is_same_number tank.maximum target
is_bound tank false target = is_same_number tank.minimum target

-- After `seconds` a tank has met a target level (head ticks), ABOVE or BELOW. Where the target is the bound there, a
-- tank with a curve has reached it when its exact volume has reached that of the bound.
abbrev pub has_reached : ℕ → Walls → Tank → Stock → ℤ → Bool → ℤ → ℕ → Bool
has_reached S (Cylinder area) tank stock inflow above target seconds =
    reaches S above target (watched_level S (Cylinder area) tank stock inflow seconds)
has_reached S (Curve points) tank stock inflow above target seconds =
    if is_bound tank above target
    then reaches S above (volume_at points target) (exact_content (Curve points) stock inflow seconds)
    else reaches S above target (watched_level S (Curve points) tank stock inflow seconds)

-- ---- the next stock

-- `next` lies within ten ticks of the value x, and within its bounds.
pub record IsNear (S : ℕ) (range : Bounds) (x : Rational) (next : ℤ) : Type 0 where
  pub near_below : (x.num -ℤ (pos x.den *ℤ at_scale S (pos missed_stock_ticks))) ≤ℤ (pos x.den *ℤ next)
  pub near_above : (pos x.den *ℤ next) ≤ℤ (x.num +ℤ (pos x.den *ℤ at_scale S (pos missed_stock_ticks)))
  pub above_least : at_scale S range.least ≤ℤ next
  pub below_most : next ≤ℤ at_scale S range.most

-- What may go with a content x: the most of a range where x is at or above the most content, the least where it is at
-- or below the least, any whole value near `inside` otherwise.
abbrev pub IsPlaced : ℕ → Bounds → Bounds → Rational → Rational → ℤ → Type 0
IsPlaced S contents range x inside next =
    MatchBool (is_at_maximum S contents x) (next ≡ at_scale S range.most)
    (MatchBool (is_at_minimum S contents x) (next ≡ at_scale S range.least)
    (IsNear S range inside next))

-- The content with which the next period begins: the most where the exact content is at least that, the least where it
-- is at most that, any value near the exact content otherwise.
abbrev pub IsNextContent : ℕ → Walls → Tank → Stock → ℤ → ℕ → ℤ → Type 0
IsNextContent S walls tank stock inflow seconds next =
    let exact = exact_content walls stock inflow seconds in
    IsPlaced S (content_bounds walls tank) (content_bounds walls tank) exact exact next

-- The level that goes with a volume: the maximum at its volume, the minimum at its own, any level near that at the
-- volume otherwise.
abbrev pub IsLevelAt : ℕ → List VolumePoint → Tank → ℤ → ℤ → Type 0
IsLevelAt S points tank volume level =
    IsPlaced S (content_bounds (Curve points) tank) (level_bounds tank) (whole volume)
    (level_at_volume S points tank (whole volume)) level

-- The stock with which the next period begins. A cylinder's level is its content; with a curve the volume is the
-- content, and the level goes with it.
abbrev pub IsNextStock : ℕ → Walls → Tank → Stock → ℤ → ℕ → Stock → Type 0
IsNextStock S (Cylinder area) tank stock inflow seconds next =
    IsNextContent S (Cylinder area) tank stock inflow seconds next.level × (next.volume ≡ pos 0)
IsNextStock S (Curve points) tank stock inflow seconds next =
    IsNextContent S (Curve points) tank stock inflow seconds next.volume × IsLevelAt S points tank next.volume
    next.level

-- ---- states

-- What a tank's level may lack to its maximum, or exceed its minimum by, for the tank to be full or
-- empty: 0.0005 foot, in head ticks.
abbrev pub state_band : ℤ
state_band = pos 1524000000

-- The state of a tank at a level: full from the maximum less the band on, empty up to the minimum plus the band,
-- else between.
abbrev pub tank_state : ℕ → Tank → ℤ → TankState
tank_state S tank level =
    if int_le (at_scale S (tank.maximum -ℤ state_band)) level then Full
    else if int_le level (at_scale S (tank.minimum +ℤ state_band)) then Empty
    else Between

-- ---- inflow

-- The inflow of a tank: the sum of the flows of its links toward it.
abbrev pub tank_inflow : Project → ℕ → List ℤ → ℤ
tank_inflow project tank flows = neg_ℤ (net_outflow (tank_node project tank) project.links.list flows)
