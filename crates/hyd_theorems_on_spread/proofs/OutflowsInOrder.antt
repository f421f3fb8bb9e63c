-- Outflows of junctions in order: by lesser and greater demands, and by emitters whose capacities reach further.
use Rattle.std.proofs.Common.{◌≡◌, ℕ, suc, ◌*◌, ◌<◌, ◌≤◌, ℤ, pos, negsuc, ◌-ℤ◌, ◌≤ℤ◌, ◌<ℤ◌, refl}
use Rattle.std.proofs.Common.{arith, Bool, true, false}
use Rattle.std.specs.Prelude.{MatchBool, int_le, if◌then◌else◌}
use Rattle.std.specs.Int.{int_min}
use Rattle.std.proofs.lemmas.Int.{ints}
use Rattle.std.proofs.lemmas.Bool.{cond_both}
use Rattle.std.proofs.Math.Nat.{mul-le-mul_right, le_of_mul-le-mul_right}
use Rattle.hyd_num.specs.BinaryNumbers.{numerator, denominator}
use Rattle.hyd_num.specs.Rational.{floor, ceiling}
use Rattle.hyd_num.proofs.EndsInOrder.{denominator_positive}
use Rattle.hyd_spec.specs.ProgramTypes.{Project, Capacity}
use Rattle.hyd_spec.specs.Outflow.{is_pressure_driven}
use Rattle.hyd_spec.specs.DemandsHeadsAndPumpLifts.{is_us, minimum_pressure, required_pressure}
use Rattle.hyd_spec_certificates.specs.EnclosingFunctions.{root_down, root_up, quadratic_low, quadratic_high}
use Rattle.hyd_spec_certificates.specs.EnclosingFunctions.{DemandLaw, Fixed, demand_low, demand_high}
use Rattle.hyd_spec_certificates.specs.PeriodNetwork.{IsDriven, IsDemandLaw}
use Rattle.hyd_lemmas.proofs.BooleanTests.{le-yes, le-no}
use Rattle.hyd_lemmas.proofs.Integers.{min_is}
use Rattle.hyd_theorems_on_definitions.proofs.Roots.{root_down-is, root_up-is}
use Rattle.hyd_theorems_on_definitions.proofs.Outflows.{high-positive}
use Rattle.hyd_theorems_on_definitions.specs.PressureDrivenDemand.{stepped}
use Rattle.hyd_theorems_on_spread.proofs.CapacitiesInOrder.{IsLesser, lesser-demand}

-- ---- roots

root_down-rises : (p q r s : ℕ) → 0 < q → 0 < s → p * s ≤ r * q → root_down p q ≤ root_down r s
root_down-rises p q r s above some le =
    let a = root_down-is p q above in
    (root_down-is r s some).greatest (root_down p q) (le_of_mul-le-mul_right (
    let l = mul-le-mul_right s a.at_most in
    let m : root_down p q * root_down p q * s * q ≤ r * q = omega (arith, l, le) in m) above)

root_up-rises : (p q r s : ℕ) → 0 < q → 0 < s → p * s ≤ r * q → root_up p q ≤ root_up r s
root_up-rises p q r s above some le =
    let a = root_up-is r s some in
    (root_up-is p q above).least (root_up r s) (le_of_mul-le-mul_right (
    let l = mul-le-mul_right q a.at_least in
    let m : p * s ≤ root_up r s * root_up r s * q * s = omega (arith, l, le) in m) some)

-- ---- capacities

-- the ends of the first lie at those of the second or farther out
pub record Covers (wide inner : Capacity) : Type 0 where
  pub low : numerator wide.lo * denominator inner.lo ≤ numerator inner.lo * denominator wide.lo
  pub high : numerator inner.hi * denominator wide.hi ≤ numerator wide.hi * denominator inner.hi

scaled : (a b c d k : ℕ) → a * b ≤ c * d → a * k * b ≤ c * k * d
scaled a b c d k le = let l = mul-le-mul_right k le in omega (arith, l)

pub covers-low : (wide inner : Capacity) → Covers wide inner → (d : ℤ) → quadratic_low wide d ≤ℤ quadratic_low inner d
covers-low wide inner c (pos d) =
    let r = root_down-rises (numerator wide.lo * d) (denominator wide.lo) (numerator inner.lo * d)
    (denominator inner.lo) (denominator_positive wide.lo) (denominator_positive inner.lo)
    (scaled (numerator wide.lo) (denominator inner.lo) (numerator inner.lo) (denominator wide.lo) d c.low) in
    omega (arith, ints, r)
covers-low wide inner c (negsuc d) =
    let r = root_up-rises (numerator inner.hi * suc d) (denominator inner.hi) (numerator wide.hi * suc d)
    (denominator wide.hi) (denominator_positive inner.hi) (denominator_positive wide.hi)
    (scaled (numerator inner.hi) (denominator wide.hi) (numerator wide.hi) (denominator inner.hi) (suc d) c.high)
    in
    omega (arith, ints, r)

pub covers-high : (wide inner : Capacity) → Covers wide inner → (d : ℤ)
    → quadratic_high inner d ≤ℤ quadratic_high wide d
covers-high wide inner c (pos d) =
    let r = root_up-rises (numerator inner.hi * d) (denominator inner.hi) (numerator wide.hi * d) (denominator wide.hi)
    (denominator_positive inner.hi) (denominator_positive wide.hi)
    (scaled (numerator inner.hi) (denominator wide.hi) (numerator wide.hi) (denominator inner.hi) d c.high) in
    omega (arith, ints, r)
covers-high wide inner c (negsuc d) =
    let r = root_down-rises (numerator wide.lo * suc d) (denominator wide.lo) (numerator inner.lo * suc d)
    (denominator inner.lo) (denominator_positive wide.lo) (denominator_positive inner.lo)
    (scaled (numerator wide.lo) (denominator inner.lo) (numerator inner.lo) (denominator wide.lo) (suc d) c.low) in
    omega (arith, ints, r)

-- a lesser capacity passes less at a pressure of at least 0
lesser-low : (a b : Capacity) → IsLesser a b → (z : ℤ) → pos 0 ≤ℤ z → quadratic_low a z ≤ℤ quadratic_low b z
lesser-low a b le (pos d) some =
    let r = root_down-rises (numerator a.lo * d) (denominator a.lo) (numerator b.lo * d) (denominator b.lo)
    (denominator_positive a.lo) (denominator_positive b.lo)
    (scaled (numerator a.lo) (denominator b.lo) (numerator b.lo) (denominator a.lo) d le.low) in
    omega (arith, ints, r)
lesser-low a b le (negsuc d) some = absurd (omega (arith, ints))

lesser-high : (a b : Capacity) → IsLesser a b → (z : ℤ) → pos 0 ≤ℤ z → quadratic_high a z ≤ℤ quadratic_high b z
lesser-high a b le (pos d) some =
    let r = root_up-rises (numerator a.hi * d) (denominator a.hi) (numerator b.hi * d) (denominator b.hi)
    (denominator_positive a.hi) (denominator_positive b.hi)
    (scaled (numerator a.hi) (denominator b.hi) (numerator b.hi) (denominator a.hi) d le.high) in
    omega (arith, ints, r)
lesser-high a b le (negsuc d) some = absurd (omega (arith, ints))

-- ---- demands

-- of two demands the first asks for no more at any pressure
pub record AsksNoMore (x y : DemandLaw) : Type 0 where
  pub low : (p : ℤ) → demand_low x p ≤ℤ demand_low y p
  pub high : (p : ℤ) → demand_high x p ≤ℤ demand_high y p

pub low-positive : (c : Capacity) (z : ℤ) → pos 0 ≤ℤ z → pos 0 ≤ℤ quadratic_low c z
low-positive c (pos n) le = omega (arith, ints)
low-positive c (negsuc n) le = absurd (omega (arith, ints))

pub stepped-is : (P : ℤ → Type 0) (D none all : ℤ) (f : ℤ → ℤ) (p : ℤ) → P (pos 0) → P D
    → (none <ℤ p → P (int_min D (f (p -ℤ none)))) → P (stepped D none all f p)
stepped-is P D none all f p at_none at_all between =
    cond_both (int_le p none) (pos 0) (if int_le all p then D else int_min D (f (p -ℤ none))) P (λ e. at_none)
    (λ e. cond_both (int_le all p) D (int_min D (f (p -ℤ none))) P (λ g. at_all) (λ g. between (le-no p none e)))

stepped-positive : (D none all : ℤ) (f : ℤ → ℤ) (p : ℤ) → pos 0 ≤ℤ D → ((z : ℤ) → pos 0 ≤ℤ z → pos 0 ≤ℤ f z)
    → pos 0 ≤ℤ stepped D none all f p
stepped-positive D none all f p some positive = stepped-is (λ z. pos 0 ≤ℤ z) D none all f p (omega (arith, ints)) some
    (λ lt. min_is (λ z. pos 0 ≤ℤ z) D (f (p -ℤ none)) (λ e. some)
    (λ e. positive (p -ℤ none) (omega (arith, ints, lt))))

min-both : (a b c d : ℤ) → a ≤ℤ b → c ≤ℤ d → int_min a c ≤ℤ int_min b d
min-both a b c d p q = min_is (λ z. z ≤ℤ int_min b d) a c
    (λ le. min_is (λ z. a ≤ℤ z) b d (λ e. p) (λ e. omega (arith, ints, le, q)))
    (λ le. min_is (λ z. c ≤ℤ z) b d (λ e. omega (arith, ints, le, p)) (λ e. q))

stepped-rises : (D E none all : ℤ) (f g : ℤ → ℤ) (p : ℤ) → D ≤ℤ E
    → ((z : ℤ) → pos 0 ≤ℤ z → f z ≤ℤ g z) → stepped D none all f p ≤ℤ stepped E none all g p
stepped-rises D E none all f g p le rises = by-none (int_le p none) (λ e. le-no p none e)
  where
    by-all : (b : Bool) → f (p -ℤ none) ≤ℤ g (p -ℤ none)
        → (if b then D else int_min D (f (p -ℤ none))) ≤ℤ (if b then E else int_min E (g (p -ℤ none)))
    by-all true more = le
    by-all false more = min-both D E (f (p -ℤ none)) (g (p -ℤ none)) le more

    by-none : (b : Bool) → (b ≡ false → none <ℤ p)
        → (if b then pos 0 else (if int_le all p then D else int_min D (f (p -ℤ none))))
        ≤ℤ (if b then pos 0 else (if int_le all p then E else int_min E (g (p -ℤ none))))
    by-none true is = omega (arith, ints)
    by-none false is =
        let lt = is refl in by-all (int_le all p) (rises (p -ℤ none) (omega (arith, ints, lt)))

-- ---- which demands are driven by pressure

pub driven-above-zero : (project : Project) (E : ℤ) → is_pressure_driven project E ≡ true → pos 0 ≤ℤ E
driven-above-zero project E e = cond_both (int_le E (pos 0)) false project.options.pda (λ b. b ≡ true → pos 0 ≤ℤ E)
    (λ g never. absurd (cc)) (λ g is. let l = le-no E (pos 0) g in omega (arith, ints, l)) e

under-pressure : (project : Project) (E : ℤ) → is_pressure_driven project E ≡ true → project.options.pda ≡ true
under-pressure project E e = cond_both (int_le E (pos 0)) false project.options.pda
    (λ b. b ≡ true → project.options.pda ≡ true) (λ g never. absurd (cc)) (λ g is. is) e

-- where analysis is pressure-driven, a demand that is not is at most 0
pub fixed-below : (project : Project) (D E : ℤ) → is_pressure_driven project D ≡ false
    → is_pressure_driven project E ≡ true → D ≤ℤ pos 0
fixed-below project D E off on = by-sign (int_le D (pos 0)) (λ e. le-yes D (pos 0) e) off
  where
    by-sign : (b : Bool) → (b ≡ true → D ≤ℤ pos 0) → (if b then false else project.options.pda) ≡ false → D ≤ℤ pos 0
    by-sign true is fails = is refl
    by-sign false is fails = let held = under-pressure project E on in absurd (cc)

-- a demand that is above a driven one is driven too
pub also-driven : (project : Project) (D E : ℤ) → D ≤ℤ E → is_pressure_driven project D ≡ true
    → is_pressure_driven project E ≡ false → ⊥
also-driven project D E le on off =
    let small = fixed-below project E D off on in
    let some : pos 0 <ℤ D = cond_both (int_le D (pos 0)) false project.options.pda (λ b. b ≡ true → pos 0 <ℤ D)
    (λ g never. absurd (cc)) (λ g is. le-no D (pos 0) g) on in
    let r : ⊥ = omega (arith, ints, small, some, le) in r

pub demand-high-positive : (project : Project) (E : ℤ) (law : DemandLaw) (p : ℤ) → pos 0 ≤ℤ E
    → IsDriven project E law → pos 0 ≤ℤ demand_high law p
demand-high-positive project E law p some is = rw is.is_law
    (stepped-positive E (floor (minimum_pressure project)) (floor (required_pressure project))
    (quadratic_high is.capacity) p some (high-positive is.capacity))

module _ (project : Project) (D E : ℤ) (le : D ≤ℤ E) (x y : DemandLaw) where
  both-fixed : x ≡ Fixed D → y ≡ Fixed E → AsksNoMore x y
  both-fixed e f = record { low = λ p. rw (e, f) le; high = λ p. rw (e, f) le }

  one-driven : D ≤ℤ pos 0 → pos 0 ≤ℤ E → x ≡ Fixed D → IsDriven project E y → AsksNoMore x y
  one-driven small some e d = record {
    low = λ p.
        let l = stepped-positive E (ceiling (minimum_pressure project)) (ceiling (required_pressure project))
        (quadratic_low d.capacity) p some (low-positive d.capacity) in
        rw (e, d.is_law) (omega (arith, ints, l, small));
    high = λ p.
        let l = stepped-positive E (floor (minimum_pressure project)) (floor (required_pressure project))
        (quadratic_high d.capacity) p some (high-positive d.capacity) in
        rw (e, d.is_law) (omega (arith, ints, l, small));
  }

  both-driven : IsDriven project D x → IsDriven project E y → AsksNoMore x y
  both-driven c d =
      let lesser = lesser-demand c.capacity d.capacity D E project.options.p0 project.options.pf (is_us project)
      c.origin d.origin c.made d.made le in
      record {
        low = λ p. rw (c.is_law, d.is_law) (stepped-rises D E (ceiling (minimum_pressure project))
            (ceiling (required_pressure project)) (quadratic_low c.capacity) (quadratic_low d.capacity) p le
            (lesser-low c.capacity d.capacity lesser));
        high = λ p. rw (c.is_law, d.is_law) (stepped-rises D E (floor (minimum_pressure project))
            (floor (required_pressure project)) (quadratic_high c.capacity) (quadratic_high d.capacity) p le
            (lesser-high c.capacity d.capacity lesser));
      }

  by-case : (b c : Bool) → is_pressure_driven project D ≡ b → is_pressure_driven project E ≡ c
      → MatchBool b (IsDriven project D x) (x ≡ Fixed D) → MatchBool c (IsDriven project E y) (y ≡ Fixed E)
      → AsksNoMore x y
  by-case true true p q c d = both-driven c d
  by-case true false p q c d = absurd (also-driven project D E le p q)
  by-case false true p q c d = one-driven (fixed-below project D E p q) (driven-above-zero project E q) c d
  by-case false false p q c d = both-fixed c d

  -- the laws of two demands
  pub asks-no-more : IsDemandLaw project D x → IsDemandLaw project E y → AsksNoMore x y
  asks-no-more is other =
      by-case (is_pressure_driven project D) (is_pressure_driven project E) refl refl is other
