-- Curves: what pumps, general purpose valves and tanks ask of theirs.
-- Source: EPANET 2.2 User Manual, chapter 3 (pumps, valves, tanks) and appendix C ([CURVES]); which curves are
-- accepted is this program's choice.
use Rattle.std.specs.Prelude.{ℕ, ◌*◌, ◌^◌, Bool, true, false, ◌&&◌, nat_le, List, [], ◌∷◌, length, map, ℤ, pos, neg_ℤ}
use Rattle.std.specs.Prelude.{◌*ℤ◌, ◌-ℤ◌, int_div}
use Rattle.std.specs.Ordering.{int_eq}
use Rattle.std.specs.List.{list_all}
use lib.Signed.{le_z, lt_z}
use Rattle.hyd_num.specs.FileQuantity.{head_ticks, flow_ticks}
use Rattle.hyd_num.specs.Rational.{whole, is_at_most}
use Rattle.hyd_num.specs.declared.flow_units.FlowUnit.{FlowUnit}
use Rattle.hyd_net.specs.NumberRanges.{head_limit, flow_limit, volume_limit, shutoff_head_limit}
use Rattle.hyd_net.specs.NumberRanges.{least_volume_difference}
use Rattle.hyd_net.specs.Curves.{value_at, head_knots, volume_at}
use Rattle.hyd_net.specs.declared.curves.VolumePoint.{VolumePoint}
use Rattle.hyd_net.specs.declared.curves.HeadPoint.{HeadPoint}
use Rattle.hyd_spec_input.specs.SectionsAndTables.{Point}

-- ---- ranges

-- z is at most a bound up or down
abbrev pub is_within : ℕ → ℤ → Bool
is_within most z = le_z (neg_ℤ (pos most)) z && le_z z (pos most)

-- a head in range up or down
abbrev pub is_head : ℤ → Bool
is_head ticks = is_within head_limit ticks

-- a flow in range after the cut, either way
abbrev pub is_flow : FlowUnit → ℤ → Bool
is_flow unit nano = is_within flow_limit (flow_ticks unit nano)

-- ---- points in ticks

-- a curve of flows and heads
abbrev pub head_point : FlowUnit → Bool → Point → HeadPoint
head_point unit us point = record { flow = flow_ticks unit point.x; head = head_ticks us point.y }

abbrev pub head_points : FlowUnit → Bool → List Point → List HeadPoint
head_points unit us points = map (head_point unit us) points

-- a volume of v billionths of a cubic foot or a cubic metre, in volume ticks of 10^-9 m^3, cut toward zero
abbrev pub volume_ticks : Bool → ℤ → ℤ
volume_ticks true v = int_div (pos 28316846592 *ℤ v) (pos (10 ^ 12))
volume_ticks false v = v

-- a curve of levels and volumes
abbrev pub volume_point : Bool → Point → VolumePoint
volume_point us point = record { level = head_ticks us point.x; volume = volume_ticks us point.y }

abbrev pub volume_points : Bool → List Point → List VolumePoint
volume_points us points = map (volume_point us) points

-- each item and the next one
abbrev pub in_turn : {A : Type 0} → (A → A → Bool) → List A → Bool
in_turn test [] = true
in_turn test (a ∷ []) = true
in_turn test (a ∷ b ∷ items) = test a b && in_turn test (b ∷ items)

-- the last item passes
abbrev pub at_end : {A : Type 0} → (A → Bool) → List A → Bool
at_end test [] = false
at_end test (a ∷ []) = test a
at_end test (a ∷ b ∷ items) = at_end test (b ∷ items)

-- the first item passes
abbrev pub at_start : {A : Type 0} → (A → Bool) → List A → Bool
at_start test [] = false
at_start test (a ∷ items) = test a

-- ---- pump curves of one point and of three

-- a square
abbrev pub square : ℤ → ℤ
square z = z *ℤ z

-- (0, h0), (q1, h1), (q2, h2) with rising flows, falling heads and (h0 - h2) q1^2 = (h0 - h1) q2^2
abbrev pub is_parabola : Point → Point → Point → Bool
is_parabola a b c =
    (int_eq a.x (pos 0) && (lt_z (pos 0) b.x && lt_z b.x c.x))
    && ((lt_z b.y a.y && lt_z c.y b.y) && int_eq ((a.y -ℤ c.y) *ℤ square b.x) ((a.y -ℤ b.y) *ℤ square c.x))

-- a curve of four and more points is one of straight lines
abbrev pub is_bent : List Point → Bool
is_bent points = nat_le 4 (length points)

-- the curves that a pump can have
abbrev pub is_pump_curve : List Point → Bool
is_pump_curve (a ∷ []) = lt_z (pos 0) a.x && lt_z (pos 0) a.y
is_pump_curve (a ∷ b ∷ c ∷ []) = is_parabola a b c
is_pump_curve points = is_bent points

-- the flows of one point or three, after the cut
abbrev pub are_flows : FlowUnit → List Point → Bool
are_flows unit points = list_all (λ point. is_flow unit point.x) points

-- the head at which a pump of one point or three gives no flow is at most its limit: four thirds of the one head,
-- or the first of three, up or down. The drop of a curve of three points is at most 10^12, as numbers of a file are.
abbrev pub has_shutoff : Bool → List Point → Bool
has_shutoff us (a ∷ []) = le_z (pos 4 *ℤ head_ticks us a.y) (pos (3 * shutoff_head_limit))
has_shutoff us (a ∷ b ∷ c ∷ []) = is_within shutoff_head_limit (head_ticks us a.y) && le_z (a.y -ℤ b.y) (pos (10 ^ 21))
has_shutoff us _ = true

-- the flow and the drop that make a pump's capacity, and the thirds of the drop
pub record Drop : Type 0 where
  pub flow : ℤ
  pub drop : ℤ
  pub thirds : ℕ

abbrev pub drop_of : List Point → Drop
drop_of (a ∷ b ∷ c ∷ []) = record { flow = b.x; drop = a.y -ℤ b.y; thirds = 1 }
drop_of (a ∷ points) = record { flow = a.x; drop = a.y; thirds = 3 }
drop_of [] = record { flow = pos 0; drop = pos 0; thirds = 3 }

-- ---- curves by straight lines, in ticks

-- a flow rises and a head falls
abbrev pub is_slower : HeadPoint → HeadPoint → Bool
is_slower a b = lt_z a.flow b.flow && lt_z b.head a.head

-- a flow and a loss rise
abbrev pub is_faster : HeadPoint → HeadPoint → Bool
is_faster a b = lt_z a.flow b.flow && lt_z a.head b.head

abbrev pub has_flow : HeadPoint → Bool
has_flow point = is_within flow_limit point.flow

-- the curve of a pump of four and more points begins with a flow of at least 0, in the file's number: a cut takes a
-- flow that is less to 0
abbrev pub begins_forward : List Point → Bool
begins_forward points = at_start (λ (point : Point). le_z (pos 0) point.x) points

-- a pump's curve of four and more points: flows of at least 0 that rise, heads that fall to at least 0, and at flow
-- 0, by the line of the first two points, a head of at most the limit of shutoff heads
abbrev pub is_pump_bend : List HeadPoint → Bool
is_pump_bend points =
    (list_all has_flow points && in_turn is_slower points)
    && ((at_start (λ point. le_z (pos 0) point.flow) points && at_end (λ point. le_z (pos 0) point.head) points)
    && is_at_most (value_at 1 (head_knots points) (pos 0)) (whole (pos shutoff_head_limit)))

-- the curve of a general purpose valve begins at no flow and no loss, in the file's numbers
abbrev pub begins_at_0 : List Point → Bool
begins_at_0 points = at_start (λ (point : Point). int_eq point.x (pos 0) && int_eq point.y (pos 0)) points

-- it has two points at least, and its flows and losses rise
abbrev pub is_valve_bend : List HeadPoint → Bool
is_valve_bend points =
    (nat_le 2 (length points) && in_turn is_faster points)
    && list_all (λ point. has_flow point && is_head point.head) points

-- ---- volume curves, in ticks

-- a level and a volume rise
abbrev pub is_fuller : VolumePoint → VolumePoint → Bool
is_fuller a b = lt_z a.level b.level && lt_z a.volume b.volume

-- the curve covers these levels
abbrev pub covers : ℤ → ℤ → List VolumePoint → Bool
covers minimum maximum points =
    at_start (λ point. le_z point.level minimum) points && at_end (λ point. le_z maximum point.level) points

-- levels in range and volumes that rise, from at least 0 to at most their limit, over all levels of the tank; between
-- its minimum and its maximum there is the least difference of volumes or more
abbrev pub is_volume_curve : ℤ → ℤ → List VolumePoint → Bool
is_volume_curve minimum maximum points =
    ((nat_le 2 (length points) && (list_all (λ point. is_head point.level) points && in_turn is_fuller points))
    && (at_start (λ point. le_z (pos 0) point.volume) points
    && at_end (λ point. le_z point.volume (pos volume_limit)) points))
    && (covers minimum maximum points
    && le_z (pos least_volume_difference) (volume_at points maximum -ℤ volume_at points minimum))
