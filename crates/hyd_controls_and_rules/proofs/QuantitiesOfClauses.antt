-- What clauses measure, from the lists of an instant.
use Rattle.std.proofs.Common.{◌≡◌, inl, inr, subst, ℕ, zero, suc, ◌+◌, ◌-◌, ◌<◌, ℤ, pos, ◌+ℤ◌, ◌-ℤ◌, ◌*ℤ◌, Bool, true}
use Rattle.std.proofs.Common.{false, List, [], ◌∷◌, length, map, Option, slice_index_or, nat_le, if◌then◌else◌, refl}
use Rattle.std.proofs.Common.{ap, sym, ◌∙◌, arith}
use Rattle.std.specs.Option.{option_map_or}
use Rattle.std.proofs.lemmas.Bool.{le-leb}
use Rattle.std.proofs.lemmas.Int.{ints}
use Rattle.std.proofs.lemmas.Option.{slice_get-get_or}
use Rattle.hyd_num.specs.FileQuantity.{head_ticks, flow_ticks}
use Rattle.hyd_num.specs.declared.spans.Span.{Span}
use Rattle.hyd_net.specs.ControlsAndRules.{HasPressure}
use Rattle.hyd_net.specs.RoundedFileNumbers.{IsRounded, IsExactly, IsAmount, IsValueMade}
use Rattle.hyd_spec.specs.DemandsHeadsAndPumpLifts.{is_us, pressure_value}
use Rattle.hyd_num.specs.Rational.{Rational, whole, total_of}
use Rattle.hyd_spec.specs.ProgramTypes.{Project, Tank, Junction, Decimal, Clause, What, Head, Pressure, Level, Flow}
use Rattle.hyd_spec.specs.ProgramTypes.{Setting, Status, Time, Clock, Relation, Value, Amount}
use Rattle.hyd_spec.specs.Scale.{at_scale}
use Rattle.hyd_spec.specs.NodeNumbers.{nodes_before_tanks}
use Rattle.hyd_spec_certificates.specs.SpansAsIntervals.{levels_of, flows_of}
use Rattle.hyd_spec_certificates.specs.Interval.{Interval}
use Rattle.hyd_spec_certificates.specs.declared.LevelSpan.{LevelSpan}
use Rattle.hyd_controls_and_rules.specs.RuleReadings.{IsMeasured}
use Rattle.hyd_spec.specs.Rules.{Readings, level_of, bottom_of, elevation_of, in_ticks, measured, compares, holds_on}
use Rattle.hyd_spec.specs.Rules.{clause_holds}
use Rattle.hyd_theorems_on_histories.proofs.PassedOn.{pressure-above}

-- ---- lists

-- An item of a list that was mapped twice.
pub at_twice : (A B C : Type 0) (f : B → C) (g : A → B) (xs : List A) (k : ℕ) (d : A) (e : C) → k < length xs
    → slice_index_or (map f (map g xs)) k e ≡ f (g (slice_index_or xs k d))
at_twice A B C f g [] k d e h = absurd (omega arith)
at_twice A B C f g (x ∷ xs) zero d e h = refl
at_twice A B C f g (x ∷ xs) (suc k) d e h = at_twice A B C f g xs k d e (omega arith)

-- ---- whole numbers

once : (z : ℤ) → (pos 1 *ℤ z) ≡ z
once z = omega (arith, ints)

raised : (a b z : ℤ) → a ≡ (z -ℤ b) → total_of (whole a) (whole b) ≡ whole z
raised a b z e =
    let sum : ((a *ℤ pos 1) +ℤ (b *ℤ pos 1)) ≡ z = omega (arith, ints, e) in
    ap whole sum

-- ---- carried levels

less : (x z base : ℤ) → z ≡ (x +ℤ base) → x ≡ (z -ℤ base)
less x z base e = omega (arith, ints, e)

-- The lower end of a carried level, above the level -base.
pub low_level : (levels : List LevelSpan) (k : ℕ) (d : LevelSpan) (z base : ℤ) → k < length levels
    → z ≡ ((slice_index_or levels k d).lo +ℤ base)
    → slice_index_or (map (λ (level : Interval). whole level.lo) (map levels_of levels)) k (whole
    (pos 0)) ≡ whole (z -ℤ base)
low_level levels k d z base h e =
    at_twice LevelSpan Interval Rational (λ level. whole level.lo) levels_of levels k d (whole (pos 0)) h
    ∙ ap whole (less (slice_index_or levels k d).lo z base e)

-- The upper end.
pub high_level : (levels : List LevelSpan) (k : ℕ) (d : LevelSpan) (z base : ℤ) → k < length levels
    → z ≡ ((slice_index_or levels k d).hi +ℤ base)
    → slice_index_or (map (λ (level : Interval). whole level.hi) (map levels_of levels)) k (whole
    (pos 0)) ≡ whole (z -ℤ base)
high_level levels k d z base h e =
    at_twice LevelSpan Interval Rational (λ level. whole level.hi) levels_of levels k d (whole (pos 0)) h
    ∙ ap whole (less (slice_index_or levels k d).hi z base e)

-- ---- tanks

before : (n node tank : ℕ) → node ≡ n + tank → nat_le n node ≡ true
before n node tank is = le-leb n node (omega arith)

number : (n node tank : ℕ) → node ≡ n + tank → node - n ≡ tank
number n node tank is = omega arith

bottom_is : (project : Project) (tank : ℕ) (tanks : List Tank) (here : Tank) → tank < length project.tanks.list
    → tanks ≡ project.tanks.list → here ≡ slice_index_or tanks tank here → bottom_of project tank ≡ here.bottom
bottom_is project tank tanks here h are is =
    ap (λ (o : Option Tank). option_map_or (λ t. t.bottom) o (pos 0))
    (slice_get-get_or project.tanks.list tank here h)
    ∙ ap (λ (xs : List Tank). (slice_index_or xs tank here).bottom) (sym are) ∙ ap (λ (t : Tank). t.bottom) (sym is)

-- A tank's head is its level above its bottom.
pub head_of_tank : (project : Project) (readings : Readings) (node tank : ℕ) (tanks : List Tank) (here : Tank)
    (base z : ℤ)
    → node ≡ nodes_before_tanks project + tank → tank < length project.tanks.list → tanks ≡ project.tanks.list
    → here ≡ slice_index_or tanks tank here → base ≡ here.bottom → level_of readings tank ≡ whole (z -ℤ base)
    → measured project 1 readings (Head node) ≡ whole z
head_of_tank project readings node tank tanks here base z is there are this own level =
    let n = nodes_before_tanks project in
    let head : ℕ → Rational = λ k. total_of (level_of readings k) (whole (at_scale 1 (bottom_of project k))) in
    let other : Rational = whole (slice_index_or readings.heads node (pos 0)) in
    ap (λ (b : Bool). in_ticks 1 (if b then head (node - n) else other)) (before n node tank is)
    ∙ ap (λ (k : ℕ). in_ticks 1 (head k)) (number n node tank is)
    ∙ ap (λ (x : ℤ). in_ticks 1 (total_of (level_of readings tank) (whole x))) (once (bottom_of project tank)
    ∙ bottom_is project tank tanks here there are this ∙ sym own)
    ∙ ap (λ (x : Rational). in_ticks 1 (total_of x (whole base))) level
    ∙ ap (in_ticks 1) (raised (z -ℤ base) base z refl)

-- A tank's pressure is its level.
pub pressure_of_tank : (project : Project) (readings : Readings) (node tank : ℕ) (z : ℤ)
    → node ≡ nodes_before_tanks project + tank
    → level_of readings tank ≡ whole (z -ℤ pos 0) → measured project 1 readings (Pressure node) ≡ whole z
pressure_of_tank project readings node tank z is level =
    let n = nodes_before_tanks project in
    let other : Rational = whole (slice_index_or readings.heads node (pos 0) -ℤ at_scale 1
    (elevation_of project node)) in
    let none : (z -ℤ pos 0) ≡ z = omega (arith, ints) in
    ap (λ (b : Bool). in_ticks 1 (if b then level_of readings (node - n) else other)) (before n node tank is)
    ∙ ap (λ (k : ℕ). in_ticks 1 (level_of readings k)) (number n node tank is)
    ∙ ap (in_ticks 1) (level ∙ ap whole none)

-- ---- junctions

elevation_is : (project : Project) (node : ℕ) (junctions : List Junction) (here : Junction)
    → node < length project.junctions.list
    → junctions ≡ project.junctions.list → here ≡ slice_index_or junctions node here
    → elevation_of project node ≡ here.elevation
elevation_is project node junctions here h are is =
    ap (λ (o : Option Junction). option_map_or (λ j. j.elevation) o (pos 0))
    (slice_get-get_or project.junctions.list node here h)
    ∙ ap (λ (xs : List Junction). (slice_index_or xs node here).elevation) (sym are)
    ∙ ap (λ (j : Junction). j.elevation) (sym is)

after : (n node : ℕ) → node < n → nat_le n node ≡ false
after n node h = grind arith

-- A junction's pressure is its head above its elevation.
pub pressure_of_junction : (project : Project) (readings : Readings) (node : ℕ) (junctions : List Junction)
    (here : Junction) (z : ℤ)
    → node < nodes_before_tanks project → node < length project.junctions.list → junctions ≡ project.junctions.list
    → here ≡ slice_index_or junctions node here → z ≡ (slice_index_or readings.heads node (pos 0) -ℤ here.elevation)
    → measured project 1 readings (Pressure node) ≡ whole z
pressure_of_junction project readings node junctions here z is there are this e =
    let n = nodes_before_tanks project in
    let own : ℤ = slice_index_or readings.heads node (pos 0) in
    ap (λ (b : Bool). in_ticks 1 (if b then level_of readings (node - n) else whole (own -ℤ at_scale 1
    (elevation_of project node)))) (after n node is)
    ∙ ap (λ (x : ℤ). in_ticks 1 (whole (own -ℤ x))) (once (elevation_of project node)
    ∙ elevation_is project node junctions here there are this)
    ∙ ap (λ (x : ℤ). in_ticks 1 (whole x)) (sym e)

-- Which of a junction and a tank a node with a pressure is.
pub junction_of : (project : Project) (node : ℕ) → HasPressure project node → node < nodes_before_tanks project
    → node < length project.junctions.list
junction_of project node has h = elim has.no_reservoir [ inl below ↦ below | inr above ↦ absurd (omega arith) ]

-- ---- flows

-- The magnitude of a flow, by one of the two functions of its interval.
pub flow_of : (magnitude : Interval → ℕ) (flows : List Span) (link : ℕ) (flow : Span) (z : ℤ) → link < length flows
    → z ≡ pos (magnitude (flows_of (slice_index_or flows link flow)))
    → in_ticks 1 (whole (pos (slice_index_or (map magnitude (map flows_of flows)) link 0))) ≡ whole z
flow_of magnitude flows link flow z h e =
    ap (λ (n : ℕ). in_ticks 1 (whole (pos n))) (at_twice Span Interval ℕ magnitude flows_of flows link flow 0 h)
    ∙ ap (λ (x : ℤ). in_ticks 1 (whole x)) (sym e)

-- ---- amounts

exactly : (z : ℤ) (span : Span) → IsExactly z span → IsRounded span.lo 1 span
exactly z span is = record {
  floor = record { at_most = omega (arith, ints); greatest = λ k h. omega (arith, ints, h) };
  ceiling = record {
    at_least = omega (arith, ints, is.low, is.high);
    least = λ k h. omega
        (arith, ints, is.low, is.high, h);
  };
}

-- A clause that compares with an amount holds as its whole number stands to the amount.
by_what : (project : Project) (time : ℕ) (readings : Readings) (what : What) (relation : Relation)
    (span : Span) (number : Decimal) (z : ℤ) (b : Bool)
    → IsMeasured what → IsAmount project.options.unit what number.nano span
    → measured project 1 readings what ≡ whole z
    → ((exact : Rational) → 0 < exact.den → IsRounded exact.num exact.den span
    → b ≡ compares relation (whole z) exact)
    → holds_on project 1 time readings what relation (Amount span number) ≡ b
by_what project time readings (Head node) relation span number z b is made e h =
    ap (λ x. compares relation x (whole span.lo)) e
    ∙ sym (h (whole span.lo) (omega arith) (exactly (head_ticks (is_us project) number.nano) span made))
by_what project time readings (Pressure node) relation span number z b is made e h =
    ap (λ x. compares relation x (pressure_value (is_us project) number)) e
    ∙ sym (h (pressure_value (is_us project) number) (pressure-above (is_us project)) made)
by_what project time readings (Level tank) relation span number z b is made e h =
    ap (λ x. compares relation x (whole span.lo)) e
    ∙ sym (h (whole span.lo) (omega arith) (exactly (head_ticks (is_us project) number.nano) span made))
by_what project time readings (Flow link) relation span number z b is made e h =
    ap (λ x. compares relation x (whole span.lo)) e
    ∙ sym (h (whole span.lo) (omega arith) (exactly (flow_ticks project.options.unit number.nano) span made))
by_what project time readings (Setting link) relation span number z b is made e h =
    ap (λ x. compares relation x (whole span.lo)) e
    ∙ sym (h (whole span.lo) (omega arith) (exactly number.nano span made))
by_what project time readings (Status link) relation span number z b is made e h = absurd is
by_what project time readings Time relation span number z b is made e h = absurd is
by_what project time readings Clock relation span number z b is made e h = absurd is

pub holds_by_amount : (project : Project) (time : ℕ) (readings : Readings) (clause : Clause) (span : Span)
    (number : Decimal) (z : ℤ) (b : Bool)
    → clause.value ≡ Amount span number → IsMeasured clause.what
    → IsValueMade project.options.unit clause.what clause.value
    → ((exact : Rational) → 0 < exact.den → IsRounded exact.num exact.den span
    → b ≡ compares clause.relation (whole z) exact)
    → measured project 1 readings clause.what ≡ whole z → clause_holds project 1 time readings clause ≡ b
holds_by_amount project time readings clause span number z b value is made h e =
    ap (λ (v : Value). holds_on project 1 time readings clause.what clause.relation v) value
    ∙ by_what project time readings clause.what clause.relation span number z b is
    (subst (λ (v : Value). IsValueMade project.options.unit clause.what v) value made) e h
