-- The status words of links, and what each claims.
-- Source: this program's; the words are those that EPANET prints (2.2 User Manual, chapter on viewing results).
use Rattle.std.specs.Prelude.{ℕ, ℤ, pos, ◌+ℤ◌, Bool, List, if◌then◌else◌, int_le, int_lt, ⊤, ◌<ℤ◌, ◌≤ℤ◌, ◌*ℤ◌}
use Rattle.hyd_num.specs.Rational.{Rational, floor, ceiling}
use Rattle.hyd_spec.specs.PassedOn.{ListView}
use Rattle.hyd_spec.specs.PassedOn.{Knot, value_at}
use Rattle.hyd_spec.specs.ProgramTypes.{LinkKind, PipeLink, CheckPipe, PumpLink, CurvePump, Tcv, Fcv, Gpv, HeadPoint}
use Rattle.hyd_spec.specs.ProgramTypes.{LinkState, Open, Closed, Speed, Throttle, Limit, OpenValve}
use Rattle.hyd_spec_certificates.specs.declared.StatusWord.{StatusWord}
use Rattle.hyd_spec_certificates.specs.declared.StatusWord.TheVariants.{Open as WordOpen, Closed as WordClosed}
use Rattle.hyd_spec_certificates.specs.declared.StatusWord.TheVariants.{Active as WordActive, Unsure as WordUnsure}
use Rattle.hyd_spec_certificates.specs.Interval.{Interval}
use Rattle.hyd_spec.specs.DemandsHeadsAndPumpLifts.{lift_of, points_of, pump_knots}
use Rattle.hyd_spec.specs.LinkLaw.{valve_law}
use Rattle.hyd_spec_certificates.specs.EnclosingFunctions.{low, high}
use Rattle.hyd_spec_certificates.specs.FlowIntervals.{difference}
use Rattle.hyd_spec.specs.Scale.{at_scale}
use Rattle.hyd_spec.specs.Law.{flow_at_least}

-- ---- the word

-- The status of a check valve pipe or a running pump, by its driving difference.
abbrev pub by_drive : Interval → StatusWord
by_drive drive =
    if int_lt (pos 0) drive.lo then WordOpen
    else if int_le drive.hi (pos 0) then WordClosed
    else WordUnsure

-- The status of a flow-control valve with a setting, by what its open valve passes.
abbrev pub by_setting : ℤ → Interval → StatusWord
by_setting setting flow =
    if int_le setting flow.lo then WordActive
    else if int_lt flow.hi setting then WordOpen
    else WordUnsure

-- The status of a running pump by the straight lines of its curve: by the sign of the value on them at either end.
abbrev pub by_knots : List Knot → Interval → StatusWord
by_knots knots d = by_drive (record { lo = (value_at 1 knots d.lo).num; hi = (value_at 1 knots d.hi).num })

-- The status word of a link in its state, by the interval of its head difference. It speaks of the link's own law. A
-- kind and a state that don't go together have the word UNSURE.
abbrev pub status_of : Bool → List (ListView HeadPoint) → LinkKind → LinkState → Interval → StatusWord
status_of us bends (PipeLink capacity) Open d = WordOpen
status_of us bends (PipeLink capacity) Closed d = WordClosed
status_of us bends (PipeLink capacity) other d = WordUnsure
status_of us bends (CheckPipe capacity) Open d = by_drive d
status_of us bends (CheckPipe capacity) Closed d = WordClosed
status_of us bends (CheckPipe capacity) other d = WordUnsure
status_of us bends (PumpLink capacity shutoff head pattern) (Speed speed) d =
    by_drive (record { lo = d.lo +ℤ floor (lift_of us head speed); hi = d.hi +ℤ ceiling (lift_of us head speed) })
status_of us bends (PumpLink capacity shutoff head pattern) Closed d = WordClosed
status_of us bends (PumpLink capacity shutoff head pattern) other d = WordUnsure
status_of us bends (CurvePump bend pattern) (Speed speed) d = by_knots (pump_knots (points_of bends bend) speed) d
status_of us bends (CurvePump bend pattern) Closed d = WordClosed
status_of us bends (CurvePump bend pattern) other d = WordUnsure
status_of us bends (Tcv valve) Open d = WordOpen
status_of us bends (Tcv valve) (Throttle setting law) d = WordActive
status_of us bends (Tcv valve) Closed d = WordClosed
status_of us bends (Tcv valve) other d = WordUnsure
status_of us bends (Fcv valve) Open d = WordOpen
status_of us bends (Fcv valve) (Limit setting ticks) d =
    by_setting ticks (record { lo = low (valve_law valve) d.lo; hi = high (valve_law valve) d.hi })
status_of us bends (Fcv valve) Closed d = WordClosed
status_of us bends (Fcv valve) other d = WordUnsure
status_of us bends (Gpv bend) Open d = WordOpen
status_of us bends (Gpv bend) Closed d = WordClosed
status_of us bends (Gpv bend) other d = WordUnsure

-- ---- what it claims

-- The driving difference of a running pump: the head difference and its lift (S-th parts of a head tick), multiplied by
-- the lift's denominator, which leaves its sign.
abbrev pub drive_of : ℕ → Rational → ℤ → ℤ
drive_of S lift x = (pos lift.den *ℤ x) +ℤ (pos S *ℤ lift.num)

-- A driving difference is above 0 where the word is OPEN, at most 0 where it is CLOSED.
abbrev pub DriveIs : StatusWord → ℤ → Type 0
DriveIs WordOpen drive = pos 0 <ℤ drive
DriveIs WordClosed drive = drive ≤ℤ pos 0
DriveIs WordActive drive = ⊥
DriveIs WordUnsure drive = ⊤

-- The open valve's exact flow is at least the setting where the word is ACTIVE, below it where it is OPEN.
abbrev pub SettingIs : StatusWord → OpenValve → ℕ → ℤ → ℤ → Type 0
SettingIs WordActive valve S x setting = flow_at_least (valve_law valve) S x (at_scale S setting)
SettingIs WordOpen valve S x setting = flow_at_least (valve_law valve) S x (at_scale S setting) → ⊥
SettingIs WordClosed valve S x setting = ⊥
SettingIs WordUnsure valve S x setting = ⊤

-- The commanded state: closed where the word is CLOSED, throttled where it is ACTIVE, open where it is OPEN.
abbrev pub StateIs : StatusWord → LinkState → Type 0
StateIs WordOpen Open = ⊤
StateIs WordOpen Closed = ⊥
StateIs WordOpen (Speed speed) = ⊥
StateIs WordOpen (Throttle setting law) = ⊥
StateIs WordOpen (Limit setting ticks) = ⊥
StateIs WordClosed Open = ⊥
StateIs WordClosed Closed = ⊤
StateIs WordClosed (Speed speed) = ⊥
StateIs WordClosed (Throttle setting law) = ⊥
StateIs WordClosed (Limit setting ticks) = ⊥
StateIs WordActive Open = ⊥
StateIs WordActive Closed = ⊥
StateIs WordActive (Speed speed) = ⊥
StateIs WordActive (Throttle setting law) = ⊤
StateIs WordActive (Limit setting ticks) = ⊥
StateIs WordUnsure state = ⊤

-- What a status word says of a link in its state, at the head difference x. UNSURE says nothing, and so it is with a
-- kind and a state that don't go together. Of a running pump whose curve is one by straight lines OPEN and CLOSED tell
-- the sign of the value on them, as of other running pumps that of the driving difference.
abbrev pub StatusHolds : Bool → List (ListView HeadPoint) → StatusWord → LinkKind → LinkState → ℕ → ℤ → Type 0
StatusHolds us bends word (PipeLink capacity) Open S x = StateIs word Open
StatusHolds us bends word (PipeLink capacity) Closed S x = StateIs word Closed
StatusHolds us bends word (PipeLink capacity) other S x = StateIs word other
StatusHolds us bends word (CheckPipe capacity) Open S x = DriveIs word x
StatusHolds us bends word (CheckPipe capacity) Closed S x = StateIs word Closed
StatusHolds us bends word (CheckPipe capacity) other S x = StateIs word other
StatusHolds us bends word (PumpLink capacity shutoff head pattern) (Speed speed) S x = DriveIs word
    (drive_of S (lift_of us head speed) x)
StatusHolds us bends word (PumpLink capacity shutoff head pattern) Closed S x = StateIs word Closed
StatusHolds us bends word (PumpLink capacity shutoff head pattern) other S x = StateIs word other
StatusHolds us bends word (CurvePump bend pattern) (Speed speed) S x = DriveIs word
    (value_at S (pump_knots (points_of bends bend) speed) x).num
StatusHolds us bends word (CurvePump bend pattern) Closed S x = StateIs word Closed
StatusHolds us bends word (CurvePump bend pattern) other S x = StateIs word other
StatusHolds us bends word (Tcv valve) Open S x = StateIs word Open
StatusHolds us bends word (Tcv valve) (Throttle setting law) S x = StateIs word (Throttle setting law)
StatusHolds us bends word (Tcv valve) Closed S x = StateIs word Closed
StatusHolds us bends word (Tcv valve) other S x = StateIs word other
StatusHolds us bends word (Fcv valve) Open S x = StateIs word Open
StatusHolds us bends word (Fcv valve) (Limit setting ticks) S x = SettingIs word valve S x ticks
StatusHolds us bends word (Fcv valve) Closed S x = StateIs word Closed
StatusHolds us bends word (Fcv valve) other S x = StateIs word other
StatusHolds us bends word (Gpv bend) Open S x = StateIs word Open
StatusHolds us bends word (Gpv bend) Closed S x = StateIs word Closed
StatusHolds us bends word (Gpv bend) other S x = StateIs word other
