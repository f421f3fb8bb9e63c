-- The status word of a link holds at each head difference of the interval by which it was chosen.
use Rattle.std.proofs.Common.{ℕ, ◌<◌, ℤ, pos, ◌+ℤ◌, ◌*ℤ◌, ◌≤ℤ◌, ◌<ℤ◌, List, ap, arith, Bool}
use Rattle.std.specs.Prelude.{int_le, int_lt, if◌then◌else◌}
use Rattle.std.proofs.lemmas.Int.{ints}
use Rattle.std.proofs.lemmas.Bool.{cond_both}
use Rattle.hyd_num.proofs.Integers.{times_plus, times_rises, times_reflects, times_one}
use Rattle.hyd_num.specs.Rational.{Rational, floor, ceiling}
use Rattle.hyd_num.specs.declared.flow_units.FlowUnit.{FlowUnit}
use Rattle.hyd_net.specs.ListView.{ListView}
use Rattle.hyd_net.specs.Curves.{Knot, value_at, IsPumpCurve}
use Rattle.hyd_net.specs.NetworkRanges.{HasSizes}
use Rattle.hyd_net.specs.RoundedFileNumbers.{IsKindMade, IsValveMade}
use Rattle.hyd_spec.specs.ProgramTypes.{HeadPoint, Pattern, LinkKind, PipeLink, CheckPipe, PumpLink, CurvePump, Tcv}
use Rattle.hyd_spec.specs.ProgramTypes.{Fcv, Gpv, LinkState, Open, Closed, Speed, Throttle, Limit, OpenValve}
use Rattle.hyd_spec.specs.Scale.{at_scale}
use Rattle.hyd_spec.specs.DemandsHeadsAndPumpLifts.{lift_of, points_of, pump_knots}
use Rattle.hyd_spec.specs.LinkLaw.{valve_law}
use Rattle.hyd_spec_certificates.specs.Interval.{Interval}
use Rattle.hyd_spec_certificates.specs.EnclosingFunctions.{low, high}
use Rattle.hyd_spec_certificates.specs.declared.StatusWord.TheVariants.{Open as WordOpen, Closed as WordClosed}
use Rattle.hyd_spec_certificates.specs.declared.StatusWord.TheVariants.{Active as WordActive, Unsure as WordUnsure}
use Rattle.hyd_spec_certificates.specs.StatusesOfLinks.{by_drive, by_knots, by_setting, status_of}
use Rattle.hyd_spec_certificates.specs.StatusesOfLinks.{DriveIs, drive_of, SettingIs, StatusHolds}
use Rattle.hyd_lemmas.proofs.Integers.{exchanged, floor_low, ceiling_high}
use Rattle.hyd_theorems_on_definitions.specs.LyingInIntervals.{LiesIn}
use Rattle.hyd_theorems_on_definitions.specs.SoundLawsAndGrids.{AreInOrder}
use Rattle.hyd_lemmas.proofs.BooleanTests.{le-yes, lt-yes}
use Rattle.hyd_theorems_on_definitions.proofs.EachLaw.{IsLaw-each}
use Rattle.hyd_theorems_on_definitions.proofs.LawsOfGrids.{valve-sound, bend-sound, lift-above}
use Rattle.hyd_theorems_on_definitions.proofs.CurveKnots.{pump_knots-in_order}
use Rattle.hyd_theorems_on_definitions.proofs.RisingLines.{value-positive, value-negative}

-- a word by what drives the flow at either end holds of what drives it between them
drive-by : (d : Interval) (y : ℤ) → (pos 0 <ℤ d.lo → pos 0 <ℤ y) → (d.hi ≤ℤ pos 0 → y ≤ℤ pos 0) → DriveIs (by_drive d) y
drive-by d y above below =
    cond_both (int_lt (pos 0) d.lo) WordOpen (if int_le d.hi (pos 0) then WordClosed else WordUnsure) (λ w. DriveIs w y)
    (λ e. above (lt-yes (pos 0) d.lo e))
    (λ e. cond_both (int_le d.hi (pos 0)) WordClosed WordUnsure (λ w. DriveIs w y)
    (λ f. below (le-yes d.hi (pos 0) f)) (λ f. tt))

-- ---- signs under a factor

-- a factor above 0 leaves the sign
positive-times : (s : ℕ) (a b : ℤ) → 0 < s → (pos s *ℤ a) ≤ℤ b → pos 0 <ℤ a → pos 0 <ℤ b
positive-times s a b some le h = let m = times_rises s (pos 1) a (omega (arith, ints, h)) in
    omega (arith, ints, m, le, some, times_one s)

negative-times : (s : ℕ) (a b : ℤ) → b ≤ℤ (pos s *ℤ a) → a ≤ℤ pos 0 → b ≤ℤ pos 0
negative-times s a b le h = let m = times_rises s a (pos 0) h in omega (arith, ints, m, le)

-- ---- check valves and pumps

difference-drives : (S : ℕ) (d : Interval) (x : ℤ) → 0 < S → LiesIn S d x → DriveIs (by_drive d) x
difference-drives S d x some lies = drive-by d x (positive-times S d.lo x some lies.low)
    (negative-times S d.hi x lies.high)

-- the driving difference is at least that of the least difference and the lift's floor, times scale and denominator
lift-drives : (S : ℕ) (lift : Rational) (d : Interval) (x : ℤ) → 0 < S → 0 < lift.den → LiesIn S d x
    → DriveIs (by_drive (record { lo = d.lo +ℤ floor lift; hi = d.hi +ℤ ceiling lift })) (drive_of S lift x)
lift-drives S lift d x some above lies = drive-by (record {
  lo = d.lo +ℤ floor lift;
  hi = d.hi +ℤ ceiling lift;
}) (drive_of S lift x)
    (λ h. positive-times S (pos lift.den *ℤ (d.lo +ℤ floor lift)) (drive_of S lift x) some least
    (positive-times lift.den (d.lo +ℤ floor lift) (pos lift.den *ℤ (d.lo +ℤ floor lift)) above (omega (arith, ints)) h))
    (λ h. negative-times S (pos lift.den *ℤ (d.hi +ℤ ceiling lift)) (drive_of S lift x) most
    (negative-times lift.den (d.hi +ℤ ceiling lift) (pos lift.den *ℤ (d.hi +ℤ ceiling lift)) (omega (arith, ints)) h))
  where
    least : (pos S *ℤ (pos lift.den *ℤ (d.lo +ℤ floor lift))) ≤ℤ drive_of S lift x
    least =
        let a = times_rises lift.den (pos S *ℤ d.lo) x lies.low in
        let b = times_rises S (pos lift.den *ℤ floor lift) lift.num (floor_low lift above) in
        let c = ap (λ (z : ℤ). pos S *ℤ z) (times_plus lift.den d.lo (floor lift)) in
        omega (
          arith,
          ints,
          a,
          b,
          c,
          times_plus S (pos lift.den *ℤ d.lo) (pos lift.den *ℤ floor lift),
          exchanged S
              lift.den d.lo,
        )

    most : drive_of S lift x ≤ℤ (pos S *ℤ (pos lift.den *ℤ (d.hi +ℤ ceiling lift)))
    most =
        let a = times_rises lift.den x (pos S *ℤ d.hi) lies.high in
        let b = times_rises S lift.num (pos lift.den *ℤ ceiling lift) (ceiling_high lift above) in
        let c = ap (λ (z : ℤ). pos S *ℤ z) (times_plus lift.den d.hi (ceiling lift)) in
        omega (
          arith,
          ints,
          a,
          b,
          c,
          times_plus S (pos lift.den *ℤ d.hi) (pos lift.den *ℤ ceiling lift),
          exchanged S
              lift.den d.hi,
        )

-- ---- pumps whose curve is one by straight lines

knots-drive : (S : ℕ) (knots : List Knot) (d : Interval) (x : ℤ) → 0 < S → AreInOrder knots → LiesIn S d x
    → DriveIs (by_knots knots d) (value_at S knots x).num
knots-drive S knots d x some order lies = drive-by (record {
  lo = (value_at 1 knots d.lo).num;
  hi = (value_at 1 knots d.hi).num;
}) (value_at S knots x).num
    (value-positive S knots d.lo x some order lies.low) (value-negative S knots d.hi x some order lies.high)

-- ---- flow control valves

setting-holds : (S : ℕ) (valve : OpenValve) (d : Interval) (x ticks : ℤ) → 0 < S → IsValveMade valve → LiesIn S d x
    → SettingIs (by_setting ticks (record {
      lo = low (valve_law valve) d.lo;
      hi = high (valve_law valve) d.hi;
    })) valve S x ticks
setting-holds S valve d x ticks some made lies =
    let law = IsLaw-each (valve_law valve) (valve-sound valve made) in
    let least = low (valve_law valve) d.lo in
    let greatest = high (valve_law valve) d.hi in
    cond_both (int_le ticks least) WordActive (if int_lt greatest ticks then WordOpen else WordUnsure)
    (λ w. SettingIs w valve S x ticks)
    (λ e. law.downward S x (at_scale S least) (at_scale S ticks) some
    (times_rises S ticks least (le-yes ticks least e)) (law.encloses_below S d.lo x some lies.low))
    (λ e. cond_both (int_lt greatest ticks) WordOpen WordUnsure (λ w. SettingIs w valve S x ticks)
    (λ f reached. below S greatest ticks some (lt-yes greatest ticks f)
    (law.consistent S x (at_scale S ticks) (at_scale S greatest) some reached
    (law.encloses_above S d.hi x some lies.high)))
    (λ f. tt))
  where
    below : (S : ℕ) (z ticks : ℤ) → 0 < S → z <ℤ ticks → at_scale S ticks ≤ℤ at_scale S z → ⊥
    below S z ticks some lt le = let l = times_reflects S ticks z some le in absurd (omega (arith, ints, l, lt))

-- ---- every link

pub status_holds : (unit : FlowUnit) (us : Bool) (patterns : List Pattern) (bends : List (ListView HeadPoint))
    (kind : LinkKind) (state : LinkState) (S : ℕ) (d : Interval) (x : ℤ)
    → 0 < S → IsKindMade unit kind → HasSizes unit patterns bends kind → LiesIn S d x
    → StatusHolds us bends (status_of us bends kind state d) kind state S x
status_holds unit us patterns bends (PipeLink capacity) Open S d x some made sizes lies = tt
status_holds unit us patterns bends (PipeLink capacity) Closed S d x some made sizes lies = tt
status_holds unit us patterns bends (PipeLink capacity) (Speed speed) S d x some made sizes lies = tt
status_holds unit us patterns bends (PipeLink capacity) (Throttle nano law) S d x some made sizes lies = tt
status_holds unit us patterns bends (PipeLink capacity) (Limit nano ticks) S d x some made sizes lies = tt
status_holds unit us patterns bends (CheckPipe capacity) Open S d x some made sizes lies = difference-drives S d x
    some lies
status_holds unit us patterns bends (CheckPipe capacity) Closed S d x some made sizes lies = tt
status_holds unit us patterns bends (CheckPipe capacity) (Speed speed) S d x some made sizes lies = tt
status_holds unit us patterns bends (CheckPipe capacity) (Throttle nano law) S d x some made sizes lies = tt
status_holds unit us patterns bends (CheckPipe capacity) (Limit nano ticks) S d x some made sizes lies = tt
status_holds unit us patterns bends (PumpLink capacity shutoff head pattern) Open S d x some made sizes lies = tt
status_holds unit us patterns bends (PumpLink capacity shutoff head pattern) Closed S d x some made sizes lies = tt
status_holds unit us patterns bends (PumpLink capacity shutoff head pattern) (Speed speed) S d x some made sizes
    lies = lift-drives S (lift_of us head speed) d x some (lift-above us head) lies
status_holds unit us patterns bends (PumpLink capacity shutoff head pattern) (Throttle nano law) S d x some made sizes
    lies = tt
status_holds unit us patterns bends (PumpLink capacity shutoff head pattern) (Limit nano ticks) S d x some made sizes
    lies = tt
status_holds unit us patterns bends (CurvePump bend pattern) Open S d x some made sizes lies = tt
status_holds unit us patterns bends (CurvePump bend pattern) Closed S d x some made sizes lies = tt
status_holds unit us patterns bends (CurvePump bend pattern) (Speed speed) S d x some made sizes lies =
    knots-drive S (pump_knots (points_of bends bend) speed) d x some
    (bend-sound IsPumpCurve (λ points. pump_knots points speed) bends bend sizes.0
    (λ points. pump_knots-in_order points speed)) lies
status_holds unit us patterns bends (CurvePump bend pattern) (Throttle nano law) S d x some made sizes lies = tt
status_holds unit us patterns bends (CurvePump bend pattern) (Limit nano ticks) S d x some made sizes lies = tt
status_holds unit us patterns bends (Tcv valve) Open S d x some made sizes lies = tt
status_holds unit us patterns bends (Tcv valve) Closed S d x some made sizes lies = tt
status_holds unit us patterns bends (Tcv valve) (Speed speed) S d x some made sizes lies = tt
status_holds unit us patterns bends (Tcv valve) (Throttle nano law) S d x some made sizes lies = tt
status_holds unit us patterns bends (Tcv valve) (Limit nano ticks) S d x some made sizes lies = tt
status_holds unit us patterns bends (Fcv valve) Open S d x some made sizes lies = tt
status_holds unit us patterns bends (Fcv valve) Closed S d x some made sizes lies = tt
status_holds unit us patterns bends (Fcv valve) (Speed speed) S d x some made sizes lies = tt
status_holds unit us patterns bends (Fcv valve) (Throttle nano law) S d x some made sizes lies = tt
status_holds unit us patterns bends (Fcv valve) (Limit nano ticks) S d x some made sizes lies = setting-holds S valve
    d x ticks some made lies
status_holds unit us patterns bends (Gpv bend) Open S d x some made sizes lies = tt
status_holds unit us patterns bends (Gpv bend) Closed S d x some made sizes lies = tt
status_holds unit us patterns bends (Gpv bend) (Speed speed) S d x some made sizes lies = tt
status_holds unit us patterns bends (Gpv bend) (Throttle nano law) S d x some made sizes lies = tt
status_holds unit us patterns bends (Gpv bend) (Limit nano ticks) S d x some made sizes lies = tt
