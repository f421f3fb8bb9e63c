-- Whether the volume curve of a tank is one that is allowed.
use Rattle.std.proofs.Common.{◌≡◌, ◌++◌, ◌^◌, ◌≤◌, nat_le, unsigned_abs, ◌==◌, ◌<ℤ◌, ◌≤ℤ◌, ◌*ℤ◌, Bool, true, false}
use Rattle.std.proofs.Common.{List, [], ◌∷◌, length, refl, sym, ap, ◌∙◌, arith, ℤ, pos, neg_ℤ, true≢false, subst}
use Rattle.std.specs.Prelude.{◌&&◌, ◌||◌}
use Rattle.std.specs.List.{list_all}
use Rattle.std.proofs.lemmas.List.{length-map}
use Rattle.std.proofs.lemmas.Int.{ints}
use Rattle.std.proofs.lemmas.Bool.{and_parts}
use Rattle.std.proofs.lemmas.Bool.Decides.{nat_tests}
use Rattle.hyd_num.specs.FileQuantity.{head_ticks}
use Rattle.hyd_num.specs.Rational.{floor}
use lib.Signed.{le_z, lt_z}
use Rattle.hyd_spec_input.specs.Curves as curve
use Rattle.hyd_spec_input.specs.Curves.{volume_point, volume_points, is_fuller, in_turn, covers, at_start, at_end}
use Rattle.hyd_net.specs.declared.curves.VolumePoint.{VolumePoint}
use Rattle.hyd_curves.specs.Points.{points_in, point_in}
use Rattle.hyd_net.specs.Curves.{Knot, between, value_from, value_at, volume_knots, volume_at}
use Rattle.hyd_curves.specs.TankCurveTests.{level_passes, begins_and_ends, IsRight}
use Rattle.hyd_curves.specs.PointsAsKnots.{IsSmall, knot_of}
use Rattle.hyd_curves.specs.declared.points.CurvePoint.{CurvePoint}
use Rattle.hyd_curves.specs.declared.points_in_ticks.Ticks.{Ticks}
use Rattle.hyd_num.proofs.Integers.{one_times}
use Rattle.hyd_lemmas.proofs.BooleanTests.{lt-from, lt-not, nat-le-from, le_z-yes, lt_z-no, lt_z-yes}
use Rattle.hyd_lemmas.proofs.ListsOptionsAndResults.{no_items}
use Rattle.hyd_curves.proofs.LinesBetweenKnots.{floor_whole}
use Rattle.hyd_curves.proofs.ItemsInTurnLemmas.{last_is}

-- a point as a volume point
abbrev pub shape_point : Bool → CurvePoint → VolumePoint
shape_point us point = volume_point us (point_in point)

abbrev pub shape : Bool → List CurvePoint → List VolumePoint
shape us points = volume_points us (points_in points)

-- ---- both ends

abbrev between_ends : ℤ → ℤ → List VolumePoint → Bool
between_ends minimum maximum points = begins_and_ends points && covers minimum maximum points

pub no_ends : (us : Bool) (minimum maximum : ℤ) (points : List CurvePoint) → length points ≡ 0
    → false ≡ between_ends minimum maximum (shape us points)
no_ends us minimum maximum points e = rw (no_items points e) refl

pub ends_are : (us : Bool) (minimum maximum : ℤ) (points rest front : List CurvePoint) (first last : CurvePoint)
    → points ≡ first ∷ rest → points ≡ front ++ last ∷ []
    → ((le_z (pos 0) (shape_point us first).volume && le_z (shape_point us last).volume (pos (10 ^ 18)))
    && (le_z (shape_point us first).level minimum && le_z maximum (shape_point us last).level))
    ≡ between_ends minimum maximum (shape us points)
ends_are us minimum maximum points rest front first last e f =
    let low : at_start (λ (p : VolumePoint). le_z (pos 0) p.volume) (shape us points) ≡ le_z (pos 0) (shape_point us
    first).volume =
    rw e refl in
    let high : at_end (λ (p : VolumePoint). le_z p.volume (pos (10 ^ 18))) (shape us points)
    ≡ le_z (shape_point us last).volume (pos (10 ^ 18)) =
    ap (λ (ps : List CurvePoint). at_end (λ (p : VolumePoint). le_z p.volume (pos (10 ^ 18))) (shape us ps)) f
    ∙ last_is (λ (p : VolumePoint). le_z p.volume (pos (10 ^ 18))) (volume_point us) front last in
    let start : at_start (λ (p : VolumePoint). le_z p.level minimum) (shape us points) ≡ le_z (shape_point us
    first).level minimum =
    rw e refl in
    let end : at_end (λ (p : VolumePoint). le_z maximum p.level) (shape us points) ≡ le_z maximum (shape_point us
    last).level =
    ap (λ (ps : List CurvePoint). at_end (λ (p : VolumePoint). le_z maximum p.level) (shape us ps)) f
    ∙ last_is (λ (p : VolumePoint). le_z maximum p.level) (volume_point us) front last in
    sym (rw (low, high, start, end) refl)

-- ---- the volume up to a level

abbrev pub point_of : Ticks → VolumePoint
point_of ticks = record { level = ticks.place; volume = ticks.value }

-- the volume is by a point and those after it, all of them right
pub record IsWalked (us : Bool) (points : List CurvePoint) (level : ℤ) (first : Ticks) (left : List CurvePoint) :
    Type 0 where
  pub value : value_from 1 (knot_of first) (volume_knots (shape us left)) level
      ≡ value_at 1 (volume_knots (shape us points)) level
  pub right : IsRight (point_of first ∷ shape us left)

-- ---- what is asked of neighbours

-- a point has at most the last one's volume
full : (most : ℤ) (a : VolumePoint) (points : List VolumePoint) → in_turn is_fuller (a ∷ points) ≡ true
    → at_end (λ (p : VolumePoint). le_z p.volume most) (a ∷ points) ≡ true → a.volume ≤ℤ most
full most a [] rises ends = le_z-yes a.volume most ends
full most a (b ∷ points) rises ends =
    let both = and_parts (is_fuller a b) (in_turn is_fuller (b ∷ points)) rises in
    let up = and_parts (lt_z a.level b.level) (lt_z a.volume b.volume) both.0 in
    let last : b.volume ≤ℤ most = full most b points both.1 ends in
    omega (arith, ints, lt_z-yes a.volume b.volume up.1, last)

-- a right point is small
pub small : (ticks : Ticks) (points : List VolumePoint) → IsRight (point_of ticks ∷ points) → IsSmall ticks
small ticks points right =
    let p = point_of ticks in
    let both = and_parts (list_all level_passes (p ∷ points)) (in_turn is_fuller (p ∷ points)) right.rises in
    let here = and_parts (level_passes p) (list_all level_passes points) both.0 in
    let level = and_parts (le_z (neg_ℤ (pos (10 ^ 17))) p.level) (le_z p.level (pos (10 ^ 17))) here.0 in
    let ends = and_parts (at_start (λ (p : VolumePoint). le_z (pos 0) p.volume) (p ∷ points))
    (at_end (λ (p : VolumePoint). le_z p.volume (pos (10 ^ 18))) (p ∷ points)) right.volumes in
    let low : pos 0 ≤ℤ p.volume = le_z-yes (pos 0) p.volume ends.0 in
    let high : p.volume ≤ℤ pos (10 ^ 18) = full (pos (10 ^ 18)) p points both.1 ends.1 in
    let least : neg_ℤ (pos (10 ^ 17)) ≤ℤ p.level = le_z-yes _ p.level level.0 in
    let most : p.level ≤ℤ pos (10 ^ 17) = le_z-yes p.level _ level.1 in
    record {
      place = omega (arith, ints, least, most);
      value = omega (arith, ints, low, high);
    }

-- the points behind a right one are right, and the next is fuller
pub behind : (a b : VolumePoint) (points : List VolumePoint) → IsRight (a ∷ b ∷ points)
    → IsRight (b ∷ points) × (a.level <ℤ b.level)
behind a b points right =
    let both = and_parts (list_all level_passes (a ∷ b ∷ points)) (in_turn is_fuller (a ∷ b ∷ points)) right.rises in
    let levels = and_parts (level_passes a) (list_all level_passes (b ∷ points)) both.0 in
    let turns = and_parts (is_fuller a b) (in_turn is_fuller (b ∷ points)) both.1 in
    let up = and_parts (lt_z a.level b.level) (lt_z a.volume b.volume) turns.0 in
    let ends = and_parts (at_start (λ (p : VolumePoint). le_z (pos 0) p.volume) (a ∷ b ∷ points))
    (at_end (λ (p : VolumePoint). le_z p.volume (pos (10 ^ 18))) (a ∷ b ∷ points)) right.volumes in
    let start : le_z (pos 0) b.volume ≡ true =
    grind (arith, ints, le_z-yes (pos 0) a.volume ends.0, lt_z-yes a.volume b.volume up.1) in (
      record { rises = rw (levels.1, turns.1) refl; volumes = rw (start, ends.1) refl },
      lt_z-yes a.level b.level up.0,
    )

-- ---- the walk

-- a level is looked up on the line to a point, or behind it
reached : (us : Bool) (a b : Knot) (later : List CurvePoint) (level : ℤ)
    → true ≡ ((length later == 0) || lt_z level b.place)
    → value_from 1 a (b ∷ volume_knots (shape us later)) level ≡ between 1 a b level
reached us a b [] level h = refl
reached us a b (p ∷ later) level h =
    let more : (length (p ∷ later) == 0) ≡ false = grind (arith, nat_tests) in
    let less : level <ℤ b.place = lt_z-yes level b.place (sym (rw more at h)) in
    rw (lt-from level (pos 1 *ℤ b.place) (omega (arith, ints, one_times b.place, less))) refl

passed : (us : Bool) (a b : Knot) (later : List CurvePoint) (level : ℤ)
    → false ≡ ((length later == 0) || lt_z level b.place)
    → value_from 1 a (b ∷ volume_knots (shape us later)) level ≡ value_from 1 b (volume_knots (shape us later)) level
passed us a b [] level h = absurd (true≢false (sym h))
passed us a b (p ∷ later) level h =
    let more : (length (p ∷ later) == 0) ≡ false = grind (arith, nat_tests) in
    let le : b.place ≤ℤ level = lt_z-no level b.place (sym (rw more at h)) in
    rw (lt-not level (pos 1 *ℤ b.place) (omega (arith, ints, one_times b.place, le))) refl

-- ticks are those of a point
pub record AreTicks (us : Bool) (point : CurvePoint) (ticks : Ticks) : Type 0 where
  pub place : ticks.place ≡ head_ticks us point.x.nano
  pub value : ticks.value ≡ curve.volume_ticks us point.y.nano

-- the first two points, in ticks
two_are : (us : Bool) (left later : List CurvePoint) (point : CurvePoint) (second : Ticks) → left ≡ point ∷ later
    → AreTicks us point second → point_of second ∷ shape us later ≡ shape us left
two_are us left later point second e t = rw (e, t.place, t.value) refl

-- a right curve begins
pub walk_begins : (us : Bool) (points rest : List CurvePoint) (level : ℤ) (point : CurvePoint) (first : Ticks)
    → points ≡ point ∷ rest → AreTicks us point first → IsRight (shape us points)
    → IsWalked us points level first rest
walk_begins us points rest level point first e t right =
    let same = two_are us points rest point first e t in
    record {
      value = ap (λ (ps : List VolumePoint). value_at 1 (volume_knots ps) level) same;
      right = subst IsRight (sym same) right;
    }

pub walk_on : (us : Bool) (points left later : List CurvePoint) (level : ℤ) (first second : Ticks) (point : CurvePoint)
    → IsWalked us points level first left → left ≡ point ∷ later → AreTicks us point second
    → false ≡ ((length later == 0) || lt_z level second.place) → IsWalked us points level second later
walk_on us points left later level first second point walked e t h =
    let same = two_are us left later point second e t in
    let right : IsRight (point_of first ∷ point_of second ∷ shape us later) =
    subst (λ (ps : List VolumePoint). IsRight (point_of first ∷ ps)) (sym same) walked.right in
    record {
      value = sym (passed us (knot_of first) (knot_of second) later level h)
          ∙ ap (λ (ps : List VolumePoint). value_from 1 (knot_of first) (volume_knots ps) level) same ∙ walked.value;
      right = (behind (point_of first) (point_of second) (shape us later) right).0;
    }

pub walk_ends : (us : Bool) (points left later : List CurvePoint) (level result : ℤ) (first second : Ticks)
    (point : CurvePoint) → IsWalked us points level first left → left ≡ point ∷ later → AreTicks us point second
    → true ≡ ((length later == 0) || lt_z level second.place)
    → result ≡ floor (between 1 (knot_of first) (knot_of second) level) → result ≡ volume_at (shape us points) level
walk_ends us points left later level result first second point walked e t h r =
    r ∙ ap floor (sym (reached us (knot_of first) (knot_of second) later level h)
    ∙ ap (λ (ps : List VolumePoint). value_from 1 (knot_of first) (volume_knots ps) level) (two_are us left later
    point second e t)
    ∙ walked.value)

-- the two points that the walk stands at
pub next_two : (us : Bool) (points left later : List CurvePoint) (level : ℤ) (first second : Ticks) (point : CurvePoint)
    → IsWalked us points level first left → left ≡ point ∷ later → AreTicks us point second
    → IsSmall second × (first.place <ℤ second.place)
next_two us points left later level first second point walked e t =
    let same = two_are us left later point second e t in
    let right : IsRight (point_of first ∷ point_of second ∷ shape us later) =
    subst (λ (ps : List VolumePoint). IsRight (point_of first ∷ ps)) (sym same) walked.right in
    let both = behind (point_of first) (point_of second) (shape us later) right in
    (small second (shape us later) both.0, both.1)

-- no point is left
pub walk_alone : (us : Bool) (points left : List CurvePoint) (level result : ℤ) (first : Ticks)
    → IsWalked us points level first left → length left ≡ 0 → result ≡ first.value
    → result ≡ volume_at (shape us points) level
walk_alone us points left level result first walked e r =
    let P : List CurvePoint → Type 0 =
    λ ps. value_from 1 (knot_of first) (volume_knots (shape us ps)) level ≡ value_at 1 (volume_knots (shape us
    points)) level in
    r ∙ sym (floor_whole first.value) ∙ ap floor (subst P (no_items left e) walked.value)

-- ---- the curve of a tank

last_passes : (passes test : VolumePoint → Bool) (points : List VolumePoint) → list_all passes points ≡ true
    → at_end test points ≡ true → (p : VolumePoint) × (passes p ≡ true) × (test p ≡ true)
last_passes passes test [] all end = absurd (true≢false (sym end))
last_passes passes test (a ∷ []) all end = (a, (and_parts (passes a) true all).0, end)
last_passes passes test (a ∷ b ∷ points) all end =
    last_passes passes test (b ∷ points) (and_parts (passes a) (list_all passes (b ∷ points)) all).1 end

first_passes : (passes test : VolumePoint → Bool) (points : List VolumePoint) → list_all passes points ≡ true
    → at_start test points ≡ true → (p : VolumePoint) × (passes p ≡ true) × (test p ≡ true)
first_passes passes test [] all start = absurd (true≢false (sym start))
first_passes passes test (a ∷ points) all start = (a, (and_parts (passes a) (list_all passes points) all).0, start)

-- levels that a right curve covers are in range
pub covered_small : (minimum maximum : ℤ) (points : List VolumePoint) → IsRight points
    → covers minimum maximum points ≡ true → minimum ≤ℤ maximum
    → (unsigned_abs minimum ≤ 10 ^ 17) × (unsigned_abs maximum ≤ 10 ^ 17)
covered_small minimum maximum points right covered order =
    let all = (and_parts (list_all level_passes points) (in_turn is_fuller points) right.rises).0 in
    let ends = and_parts (at_start (λ (p : VolumePoint). le_z p.level minimum) points)
    (at_end (λ (p : VolumePoint). le_z maximum p.level) points) covered in
    let first = first_passes level_passes (λ p. le_z p.level minimum) points all ends.0 in
    let last = last_passes level_passes (λ p. le_z maximum p.level) points all ends.1 in
    let low : neg_ℤ (pos (10 ^ 17)) ≤ℤ first.0.level =
    le_z-yes _ _ (and_parts (le_z (neg_ℤ (pos (10 ^ 17))) first.0.level) (le_z first.0.level (pos (10 ^ 17)))
    first.1).0 in
    let high : last.0.level ≤ℤ pos (10 ^ 17) =
    le_z-yes _ _ (and_parts (le_z (neg_ℤ (pos (10 ^ 17))) last.0.level) (le_z last.0.level (pos (10 ^ 17))) last.1).1 in
    let from : first.0.level ≤ℤ minimum = le_z-yes _ _ first.2 in
    let to : maximum ≤ℤ last.0.level = le_z-yes _ _ last.2 in
    (omega (arith, ints, low, high, from, to, order), omega (arith, ints, low, high, from, to, order))

-- all tests but the last pass
pub all_but_room : (two turns ends cover room : Bool) → two ≡ true → turns ≡ true → (ends && cover) ≡ true
    → room ≡ (((two && turns) && ends) && (cover && room))
all_but_room two turns ends cover room a b c =
    let both = and_parts ends cover c in
    rw (a, b, both.0, both.1) refl

pub two_points : (us : Bool) (points : List CurvePoint) → 2 ≤ length points
    → nat_le 2 (length (shape us points)) ≡ true
two_points us points l =
    let n : length (shape us points) ≡ length points =
    length-map (points_in points) (volume_point us) ∙ length-map points point_in in
    rw n (nat-le-from 2 (length points) l)
