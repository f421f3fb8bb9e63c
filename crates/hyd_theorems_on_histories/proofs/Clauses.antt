-- A clause that both ends of what rules look at decide is decided so between them.
use Rattle.std.proofs.Common.{◌≡◌, ℕ, ◌*◌, ◌<◌, ℤ, pos, ◌+ℤ◌, ◌-ℤ◌, ◌*ℤ◌, ◌≤ℤ◌, refl, ap, arith, Bool, true, false}
use Rattle.std.proofs.Common.{mul-pos}
use Rattle.std.specs.Prelude.{if◌then◌else◌, slice_index_or, List}
use Rattle.std.proofs.Math.IntN.{*ℤ_comm}
use Rattle.std.proofs.lemmas.Int.{ints}
use Rattle.hyd_num.proofs.Integers.{times_plus, times_minus, times_times, one_times}
use Rattle.hyd_num.specs.Rational.{Rational, whole, total_of}
use Rattle.hyd_net.specs.ControlsAndRules.{Compares}
use Rattle.hyd_spec.specs.ProgramTypes.{Project, LinkState, Clause, What, Head, Pressure, Level, Flow, Setting, Status}
use Rattle.hyd_spec.specs.ProgramTypes.{Time, Clock, Relation, Less, NotMore, More, NotLess, Equal, Unequal, Value}
use Rattle.hyd_spec.specs.Scale.{at_scale}
use Rattle.hyd_spec.specs.NodeNumbers.{nodes_before_tanks, is_tank, tank_number}
use Rattle.hyd_spec.specs.Assignment.{head_at}
use Rattle.hyd_spec.specs.Rules.{Readings, in_ticks, level_of, head_of, pressure_of, elevation_of, bottom_of, amount}
use Rattle.hyd_spec.specs.Rules.{compares, holds_on, clause_holds, setting_of, state_of_link, status_holds, state_word}
use Rattle.hyd_spec_certificates.specs.ThreeValuedLogic.{at_both_ends}
use Rattle.hyd_theorems_on_definitions.specs.VerdictsOfTests.{IsAtMost, IsOneWay, Tells}
use Rattle.hyd_lemmas.proofs.BooleanTests.{nat-le-no}
use Rattle.hyd_theorems_on_definitions.proofs.DecidedByEnds.{compare_tells}
use Rattle.hyd_theorems_on_histories.specs.Agreement.{IsValueBetween, AreBetween}

-- ---- values

between-at-most : (S : ℕ) (lo x hi : Rational) → IsValueBetween S lo x hi → IsAtMost (in_ticks 1 lo) (in_ticks S x)
between-at-most S lo x hi b = record {
  crossed = let l = b.low in let e : lo.den * 1 ≡ lo.den = omega arith in
      rw e (omega (arith, ints, l, *ℤ_comm lo.num (pos (x.den * S)), *ℤ_comm x.num (pos lo.den)));
}

between-at-least : (S : ℕ) (lo x hi : Rational) → IsValueBetween S lo x hi → IsAtMost (in_ticks S x) (in_ticks 1 hi)
between-at-least S lo x hi b = record {
  crossed = let h = b.high in let e : hi.den * 1 ≡ hi.den = omega arith in
      rw e (omega (arith, ints, h, *ℤ_comm hi.num (pos (x.den * S)), *ℤ_comm x.num (pos hi.den)));
}

total-is : (S : ℕ) (t : ℤ) (x : Rational) → total_of x (whole (at_scale S t))
    ≡ record { num = x.num +ℤ (pos x.den *ℤ (pos S *ℤ t)); den = x.den }
total-is S t x =
    let n : (x.num *ℤ pos 1) +ℤ ((pos S *ℤ t) *ℤ pos x.den) ≡ x.num +ℤ (pos x.den *ℤ (pos S *ℤ t)) =
    omega (arith, ints, one_times x.num, *ℤ_comm x.num (pos 1), *ℤ_comm (pos S *ℤ t) (pos x.den)) in
    let d : x.den * 1 ≡ x.den = omega arith in
    λ i. record { num = n i; den = d i }

raised-low : (S a b : ℕ) (t n m : ℤ) → (pos (b * S) *ℤ n) ≤ℤ (pos a *ℤ m)
    → (pos (b * S) *ℤ (n +ℤ (pos a *ℤ (pos 1 *ℤ t)))) ≤ℤ (pos a *ℤ (m +ℤ (pos b *ℤ (pos S *ℤ t))))
raised-low S a b t n m h =
    rw (times_plus (b * S) n (pos a *ℤ (pos 1 *ℤ t)), times_plus a m (pos b *ℤ (pos S *ℤ t)))
    (let e : pos (b * S) *ℤ (pos a *ℤ (pos 1 *ℤ t)) ≡ pos a *ℤ (pos b *ℤ (pos S *ℤ t)) = shuffle S a b t in
    omega (arith, ints, h, e))
  where
    commuted : (p q : ℕ) (z : ℤ) → pos (p * q) *ℤ z ≡ pos (q * p) *ℤ z
    commuted p q z = let same : p * q ≡ q * p = omega arith in ap (λ (n : ℕ). pos n *ℤ z) same

    shuffle : (S a b : ℕ) (t : ℤ) → pos (b * S) *ℤ (pos a *ℤ (pos 1 *ℤ t)) ≡ pos a *ℤ (pos b *ℤ (pos S *ℤ t))
    shuffle S a b t =
        rw one_times (omega (
          arith,
          ints,
          times_times (b * S) a t,
          commuted (b * S) a t,
          times_times a (b * S) t,
          ap
              (λ (z : ℤ). pos a *ℤ z) (times_times b S t),
        ))

raised-high : (S a b : ℕ) (t n m : ℤ) → (pos a *ℤ m) ≤ℤ (pos (b * S) *ℤ n)
    → (pos a *ℤ (m +ℤ (pos b *ℤ (pos S *ℤ t)))) ≤ℤ (pos (b * S) *ℤ (n +ℤ (pos a *ℤ (pos 1 *ℤ t))))
raised-high S a b t n m h =
    rw (times_plus (b * S) n (pos a *ℤ (pos 1 *ℤ t)), times_plus a m (pos b *ℤ (pos S *ℤ t)))
    (let e : pos (b * S) *ℤ (pos a *ℤ (pos 1 *ℤ t)) ≡ pos a *ℤ (pos b *ℤ (pos S *ℤ t)) = shuffle S a b t in
    omega (arith, ints, h, e))
  where
    commuted : (p q : ℕ) (z : ℤ) → pos (p * q) *ℤ z ≡ pos (q * p) *ℤ z
    commuted p q z = let same : p * q ≡ q * p = omega arith in ap (λ (n : ℕ). pos n *ℤ z) same

    shuffle : (S a b : ℕ) (t : ℤ) → pos (b * S) *ℤ (pos a *ℤ (pos 1 *ℤ t)) ≡ pos a *ℤ (pos b *ℤ (pos S *ℤ t))
    shuffle S a b t =
        rw one_times (omega (
          arith,
          ints,
          times_times (b * S) a t,
          commuted (b * S) a t,
          times_times a (b * S) t,
          ap
              (λ (z : ℤ). pos a *ℤ z) (times_times b S t),
        ))

raised : (S : ℕ) (t : ℤ) (lo x hi : Rational) → IsValueBetween S lo x hi
    → IsValueBetween S (total_of lo (whole (at_scale 1 t))) (total_of x (whole (at_scale S t)))
    (total_of hi (whole (at_scale 1 t)))
raised S t lo x hi b = rw (total-is 1 t lo, total-is S t x, total-is 1 t hi) (record {
  some_lo = b.some_lo;
  some = b.some;
  some_hi = b.some_hi;
  low = raised-low S lo.den x.den t lo.num x.num b.low;
  high = raised-high S hi.den x.den t hi.num x.num b.high;
})

pub whole-between : (S : ℕ) (lo x hi : ℤ) → (pos S *ℤ lo) ≤ℤ x → x ≤ℤ (pos S *ℤ hi)
    → IsValueBetween S (whole lo) (whole x) (whole hi)
whole-between S lo x hi l h = record {
  some_lo = omega arith;
  some = omega arith;
  some_hi = omega arith;
  low = let e : 1 * S ≡ S = omega arith in rw e (omega (arith, ints, l, one_times x));
  high = let e : 1 * S ≡ S = omega arith in rw e (omega (arith, ints, h, one_times x));
}

either-between : (S : ℕ) (b : Bool) (l m x y h g : Rational) → IsValueBetween S l x h
    → (b ≡ false → IsValueBetween S m y g)
    → IsValueBetween S (if b then l else m) (if b then x else y) (if b then h else g)
either-between S true l m x y h g p q = p
either-between S false l m x y h g p q = q refl

-- ---- what is measured

head-between : (project : Project) (S : ℕ) (below x above : Readings) (node : ℕ) → AreBetween project S below x above
    → IsValueBetween S (head_of project 1 below node) (head_of project S x node) (head_of project 1 above node)
head-between project S below x above node b =
    either-between S (is_tank project node) _ _ _ _ _ _
    (raised S (bottom_of project (tank_number project node)) (level_of below (tank_number project node))
    (level_of x (tank_number project node)) (level_of above (tank_number project node))
    (b.levels (tank_number project node)))
    (λ no. let lies = b.heads node (nat-le-no (nodes_before_tanks project) node no) in
    whole-between S (head_at below.heads node) (head_at x.heads node) (head_at above.heads node) lies.low lies.high)

pressure-between : (project : Project) (S : ℕ) (below x above : Readings) (node : ℕ)
    → AreBetween project S below x above
    → IsValueBetween S (pressure_of project 1 below node) (pressure_of project S x node)
    (pressure_of project 1 above node)
pressure-between project S below x above node b =
    either-between S (is_tank project node) _ _ _ _ _ _ (b.levels (tank_number project node))
    (λ no. let lies = b.heads node (nat-le-no (nodes_before_tanks project) node no) in
    whole-between S (head_at below.heads node -ℤ at_scale 1 (elevation_of project node))
    (head_at x.heads node -ℤ at_scale S (elevation_of project node)) (head_at above.heads node -ℤ at_scale 1
    (elevation_of project node))
    (let l = lies.low in
    rw one_times (omega (arith, ints, l, times_minus S (head_at below.heads node) (elevation_of project node))))
    (let h = lies.high in
    rw one_times (omega (arith, ints, h, times_minus S (head_at above.heads node) (elevation_of project node)))))

flow-between : (project : Project) (S : ℕ) (below x above : Readings) (link : ℕ) → AreBetween project S below x above
    → IsValueBetween S (whole (pos (slice_index_or below.flows link 0))) (whole (pos (slice_index_or x.flows link 0)))
    (whole (pos (slice_index_or above.flows link 0)))
flow-between project S below x above link b =
    let l = b.flows_below link in let h = b.flows_above link in
    whole-between S (pos (slice_index_or below.flows link 0)) (pos (slice_index_or x.flows link 0))
    (pos (slice_index_or above.flows link 0))
    (omega (arith, ints, l)) (omega (arith, ints, h))

-- ---- clauses

same-tells : (b : Bool) → Tells (at_both_ends b b) b
same-tells true = refl
same-tells false = refl

value-tells : (relation : Relation) (S : ℕ) (lo x hi number : Rational) → IsOneWay relation → 0 < S
    → IsValueBetween S lo x hi
    → Tells (at_both_ends (compares relation (in_ticks 1 lo) number) (compares relation (in_ticks 1 hi) number))
    (compares relation (in_ticks S x) number)
value-tells relation S lo x hi number way some b = compare_tells relation (in_ticks 1 lo) (in_ticks S x)
    (in_ticks 1 hi) number way
    (let a = b.some_lo in omega (arith, a)) (mul-pos b.some some) (let a = b.some_hi in omega (arith, a))
    (between-at-most S lo x hi b) (between-at-least S lo x hi b)

one-way-head : (node : ℕ) (relation : Relation) → Compares (Head node) relation → IsOneWay relation
one-way-head node Less way = tt
one-way-head node NotMore way = tt
one-way-head node More way = tt
one-way-head node NotLess way = tt
one-way-head node Equal way = way
one-way-head node Unequal way = way

one-way-pressure : (node : ℕ) (relation : Relation) → Compares (Pressure node) relation → IsOneWay relation
one-way-pressure node Less way = tt
one-way-pressure node NotMore way = tt
one-way-pressure node More way = tt
one-way-pressure node NotLess way = tt
one-way-pressure node Equal way = way
one-way-pressure node Unequal way = way

one-way-level : (tank : ℕ) (relation : Relation) → Compares (Level tank) relation → IsOneWay relation
one-way-level tank Less way = tt
one-way-level tank NotMore way = tt
one-way-level tank More way = tt
one-way-level tank NotLess way = tt
one-way-level tank Equal way = way
one-way-level tank Unequal way = way

one-way-flow : (link : ℕ) (relation : Relation) → Compares (Flow link) relation → IsOneWay relation
one-way-flow link Less way = tt
one-way-flow link NotMore way = tt
one-way-flow link More way = tt
one-way-flow link NotLess way = tt
one-way-flow link Equal way = way
one-way-flow link Unequal way = way

-- what depends on the links alone
links-tell : (f : List LinkState → Bool) (below x above : Readings) → below.links ≡ x.links → above.links ≡ x.links
    → Tells (at_both_ends (f below.links) (f above.links)) (f x.links)
links-tell f below x above l h = rw (l, h) (same-tells (f x.links))

subject-tells : (project : Project) (S time : ℕ) (below x above : Readings) (what : What) (relation : Relation)
    (value : Value)
    → 0 < S → Compares what relation → AreBetween project S below x above
    → Tells (at_both_ends (holds_on project 1 time below what relation value)
    (holds_on project 1 time above what relation value)) (holds_on project S time x what relation value)
subject-tells project S time below x above (Head node) relation value some way b =
    value-tells relation S _ _ _ (amount project (Head node) value) (one-way-head node relation way) some
    (head-between project S below x above node b)
subject-tells project S time below x above (Pressure node) relation value some way b =
    value-tells relation S _ _ _ (amount project (Pressure node) value) (one-way-pressure node relation way) some
    (pressure-between project S below x above node b)
subject-tells project S time below x above (Level tank) relation value some way b =
    value-tells relation S _ _ _ (amount project (Level tank) value) (one-way-level tank relation way) some
    (b.levels tank)
subject-tells project S time below x above (Flow link) relation value some way b =
    value-tells relation S _ _ _ (amount project (Flow link) value) (one-way-flow link relation way) some
    (flow-between project S below x above link b)
subject-tells project S time below x above (Setting link) relation value some way b =
    links-tell (λ ls. compares relation (whole (setting_of (state_of_link ls link)))
    (amount project (Setting link) value)) below x above b.links_below b.links_above
subject-tells project S time below x above (Status link) relation value some way b =
    links-tell (λ ls. status_holds relation (state_word (state_of_link ls link)) value)
    below x above b.links_below b.links_above
subject-tells project S time below x above Time relation value some way b =
    same-tells (holds_on project S time x Time relation value)
subject-tells project S time below x above Clock relation value some way b =
    same-tells (holds_on project S time x Clock relation value)

pub clause_tells : (project : Project) (S time : ℕ) (below x above : Readings) (clause : Clause)
    → 0 < S → Compares clause.what clause.relation → AreBetween project S below x above
    → Tells (at_both_ends (clause_holds project 1 time below clause) (clause_holds project 1 time above clause))
    (clause_holds project S time x clause)
clause_tells project S time below x above clause some way b =
    subject-tells project S time below x above clause.what clause.relation clause.value some way b
