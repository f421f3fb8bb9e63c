-- What clauses measure, from the lists of an instant.
use Rattle.std.proofs.Common.{◌≡◌, inl, inr, subst, ℕ, zero, suc, ◌+◌, ◌-◌, ◌*◌, ◌<◌, ℤ, pos, ◌+ℤ◌, ◌-ℤ◌, ◌*ℤ◌}
use Rattle.std.proofs.Common.{Bool, true, false, List, [], ◌∷◌, length, map, Option, slice_index_or, nat_le}
use Rattle.std.proofs.Common.{if◌then◌else◌, refl, ap, sym, ◌∙◌, arith, mul-pos, unsigned_abs}
use Rattle.std.specs.List.{AllZip}
use Rattle.std.specs.Option.{option_map_or}
use Rattle.std.proofs.lemmas.Bool.{le-leb}
use Rattle.std.proofs.lemmas.Int.{ints}
use Rattle.std.proofs.lemmas.Option.{slice_get-get_or}
use Rattle.std.proofs.Math.IntN.{*ℤ_comm}
use Rattle.hyd_num.proofs.Integers.{times_plus, times_times, times_one_right}
use Rattle.hyd_num.specs.Rational.{Rational, whole, total_of}
use Rattle.hyd_lemmas.proofs.Integers.{exchanged}
use Rattle.hyd_net.specs.ControlsAndRules.{HasPressure}
use Rattle.hyd_spec.specs.ProgramTypes.{Project, Tank, Junction}
use Rattle.hyd_spec.specs.Scale.{at_scale}
use Rattle.hyd_spec.specs.NodeNumbers.{nodes_before_tanks}
use Rattle.hyd_spec.specs.Rules.{Readings, level_of, bottom_of, elevation_of, in_ticks, head_of, pressure_of}
use Rattle.hyd_stocks_at_scale.specs.declared.carried_levels.ExactLevel.{ExactLevel}
use Rattle.hyd_rules_at_scale.specs.Quantities.{IsExactly, IsQuantity, numerator_of}

-- ---- levels

-- the level of a tank among exact ones
pub level_there : (levels : List ExactLevel) (exact : List Rational) (k : ℕ) (d : ExactLevel) (e : Rational)
    → AllZip IsExactly levels exact → k < length levels
    → IsExactly (slice_index_or levels k d) (slice_index_or exact k e)
level_there [] exact k d e are lt = absurd (omega (arith, lt))
level_there (level ∷ levels) [] k d e are lt = absurd are
level_there (level ∷ levels) (x ∷ exact) zero d e are lt = are.0
level_there (level ∷ levels) (x ∷ exact) (suc k) d e are lt =
    level_there levels exact k d e are.1 (omega (arith, lt))

-- a whole value is a fraction that is this whole number
pub whole_at : (value : ExactLevel) (z y : ℤ) (x : Rational) → IsExactly value (whole z) → x ≡ whole y → z ≡ y
    → IsExactly value x
whole_at value z y x exactly is same =
    subst (λ (r : Rational). IsExactly value r) (sym is)
    (subst (λ (n : ℤ). IsExactly value (whole n)) same exactly)

-- a value raised by a whole number
raised_same : (of part den : ℕ) (w by num : ℤ) → pos of *ℤ num ≡ pos den *ℤ ((pos of *ℤ w) +ℤ pos part)
    → pos of *ℤ ((num *ℤ pos 1) +ℤ (by *ℤ pos den)) ≡ pos (den * 1) *ℤ ((pos of *ℤ (w +ℤ by)) +ℤ pos part)
raised_same of part den w by num same =
    let a = times_plus of (num *ℤ pos 1) (by *ℤ pos den) in
    let b = ap (λ (y : ℤ). pos of *ℤ y) (times_one_right num) in
    let c = ap (λ (y : ℤ). pos of *ℤ y) (*ℤ_comm by (pos den)) ∙ exchanged den of by in
    let one : den * 1 ≡ den = omega arith in
    let d = ap (λ (n : ℕ). pos n *ℤ ((pos of *ℤ (w +ℤ by)) +ℤ pos part)) one in
    let sum : ((pos of *ℤ (w +ℤ by)) +ℤ pos part) ≡ (((pos of *ℤ w) +ℤ pos part) +ℤ (pos of *ℤ by)) =
    (let e = times_plus of w by in omega (arith, ints, e)) in
    let g = ap (λ (y : ℤ). pos den *ℤ y) sum ∙ times_plus den ((pos of *ℤ w) +ℤ pos part) (pos of *ℤ by) in
    omega (arith, ints, a, b, c, d, g, same)

pub raised_is : (value : ExactLevel) (w by : ℤ) (x : Rational) → w ≡ value.whole +ℤ by → IsExactly value x
    → IsExactly (record { whole = w; part = value.part; of = value.of }) (total_of x (whole by))
raised_is value w by x is exactly =
    subst (λ (z : ℤ). IsExactly (record { whole = z; part = value.part; of = value.of }) (total_of x (whole by)))
    (sym is) (record {
      level = record {
        proper = exactly.level.proper;
        of = exactly.level.of;
        same = raised_same value.of value.part x.den value.whole by x.num exactly.level.same;
      };
      some = (let some = exactly.some in omega (arith, some));
    })

-- a value over a number of parts
parts_same : (of parts den : ℕ) (value num : ℤ) → pos of *ℤ num ≡ pos den *ℤ value
    → pos (of * parts) *ℤ num ≡ pos (den * parts) *ℤ value
parts_same of parts den value num same =
    let turned : of * parts ≡ parts * of = omega arith in
    let other : den * parts ≡ parts * den = omega arith in
    ap (λ (n : ℕ). pos n *ℤ num) turned
    ∙ (sym (times_times parts of num) ∙ (ap (λ (y : ℤ). pos parts *ℤ y) same ∙ (times_times parts den value
    ∙ ap (λ (n : ℕ). pos n *ℤ value) (sym other))))

pub in_ticks_is : (value : ExactLevel) (parts S : ℕ) (x : Rational) → parts ≡ S → 0 < parts → IsExactly value x
    → IsQuantity (record { value = value; parts = parts }) (in_ticks S x)
in_ticks_is value parts S x is some exactly =
    subst (λ (n : ℕ). IsQuantity (record { value = value; parts = parts }) (in_ticks n x)) is (record {
      some = mul-pos exactly.some some;
      same = parts_same value.of parts x.den (numerator_of value) x.num exactly.level.same;
    })

-- ---- tanks

before : (n node tank : ℕ) → node ≡ n + tank → nat_le n node ≡ true
before n node tank is = le-leb n node (omega arith)

number : (n node tank : ℕ) → node ≡ n + tank → node - n ≡ tank
number n node tank is = omega arith

pub bottom_is : (project : Project) (tank : ℕ) (tanks : List Tank) (here : Tank) → tank < length project.tanks.list
    → tanks ≡ project.tanks.list → here ≡ slice_index_or tanks tank here → bottom_of project tank ≡ here.bottom
bottom_is project tank tanks here h are is =
    ap (λ (o : Option Tank). option_map_or (λ t. t.bottom) o (pos 0))
    (slice_get-get_or project.tanks.list tank here h)
    ∙ ap (λ (xs : List Tank). (slice_index_or xs tank here).bottom) (sym are) ∙ ap (λ (t : Tank). t.bottom) (sym is)

-- a tank's head is its level above its bottom
pub head_of_tank : (project : Project) (S : ℕ) (readings : Readings) (node tank : ℕ) (bottom : ℤ)
    → node ≡ nodes_before_tanks project + tank → bottom_of project tank ≡ bottom
    → head_of project S readings node ≡ total_of (level_of readings tank) (whole (at_scale S bottom))
head_of_tank project S readings node tank bottom is own =
    let n = nodes_before_tanks project in
    let head : ℕ → Rational = λ k. total_of (level_of readings k) (whole (at_scale S (bottom_of project k))) in
    let other : Rational = whole (slice_index_or readings.heads node (pos 0)) in
    ap (λ (b : Bool). if b then head (node - n) else other) (before n node tank is)
    ∙ ap head (number n node tank is)
    ∙ ap (λ (z : ℤ). total_of (level_of readings tank) (whole (at_scale S z))) own

-- a tank's pressure is its level
pub pressure_of_tank : (project : Project) (S : ℕ) (readings : Readings) (node tank : ℕ)
    → node ≡ nodes_before_tanks project + tank → pressure_of project S readings node ≡ level_of readings tank
pressure_of_tank project S readings node tank is =
    let n = nodes_before_tanks project in
    let other : Rational = whole (slice_index_or readings.heads node (pos 0) -ℤ at_scale S
    (elevation_of project node)) in
    ap (λ (b : Bool). if b then level_of readings (node - n) else other) (before n node tank is)
    ∙ ap (λ (k : ℕ). level_of readings k) (number n node tank is)

-- ---- other nodes

after : (n node : ℕ) → node < n → nat_le n node ≡ false
after n node h = grind arith

pub head_before_tanks : (project : Project) (S : ℕ) (readings : Readings) (node : ℕ) (head : ℤ)
    → node < nodes_before_tanks project → head ≡ slice_index_or readings.heads node (pos 0)
    → head_of project S readings node ≡ whole head
head_before_tanks project S readings node head lt is =
    let n = nodes_before_tanks project in
    let tank : Rational = total_of (level_of readings (node - n)) (whole (at_scale S (bottom_of project (node - n))))
    in
    ap (λ (b : Bool). if b then tank else whole (slice_index_or readings.heads node (pos 0))) (after n node lt)
    ∙ ap whole (sym is)

elevation_is : (project : Project) (node : ℕ) (junctions : List Junction) (here : Junction)
    → node < length project.junctions.list
    → junctions ≡ project.junctions.list → here ≡ slice_index_or junctions node here
    → elevation_of project node ≡ here.elevation
elevation_is project node junctions here h are is =
    ap (λ (o : Option Junction). option_map_or (λ j. j.elevation) o (pos 0))
    (slice_get-get_or project.junctions.list node here h)
    ∙ ap (λ (xs : List Junction). (slice_index_or xs node here).elevation) (sym are)
    ∙ ap (λ (j : Junction). j.elevation) (sym is)

-- a junction's pressure is its head above its elevation
pub pressure_of_junction : (project : Project) (S : ℕ) (readings : Readings) (node : ℕ) (junctions : List Junction)
    (here : Junction) (z : ℤ)
    → node < nodes_before_tanks project → node < length project.junctions.list → junctions ≡ project.junctions.list
    → here ≡ slice_index_or junctions node here
    → z ≡ (slice_index_or readings.heads node (pos 0) -ℤ at_scale S here.elevation)
    → pressure_of project S readings node ≡ whole z
pressure_of_junction project S readings node junctions here z lt there are this e =
    let n = nodes_before_tanks project in
    let own : ℤ = slice_index_or readings.heads node (pos 0) in
    ap (λ (b : Bool). if b then level_of readings (node - n) else whole (own -ℤ at_scale S
    (elevation_of project node))) (after n node lt)
    ∙ ap (λ (x : ℤ). whole (own -ℤ at_scale S x)) (elevation_is project node junctions here there are this)
    ∙ ap whole (sym e)

-- which of a junction and a tank a node with a pressure is
pub junction_of : (project : Project) (node : ℕ) → HasPressure project node → node < nodes_before_tanks project
    → node < length project.junctions.list
junction_of project node has h = elim has.no_reservoir [ inl below ↦ below | inr above ↦ absurd (omega arith) ]

-- ---- flows

-- the magnitude of a flow
pub magnitude_there : (flows : List ℤ) (k : ℕ) → k < length flows
    → slice_index_or (map unsigned_abs flows) k 0 ≡ unsigned_abs (slice_index_or flows k (pos 0))
magnitude_there [] k lt = absurd (omega (arith, lt))
magnitude_there (q ∷ flows) zero lt = refl
magnitude_there (q ∷ flows) (suc k) lt = magnitude_there flows k (omega (arith, lt))
