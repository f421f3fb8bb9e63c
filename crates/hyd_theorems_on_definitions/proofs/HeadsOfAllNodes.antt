-- Heads of all nodes: how those of an assignment compare with those of a vector.
use Rattle.std.proofs.Common.{◌≡◌, ℕ, zero, suc, ◌<◌, ℤ, pos, ◌-ℤ◌, ◌*ℤ◌, ◌≤ℤ◌, ◌<ℤ◌, refl, sym, subst, arith, List, []}
use Rattle.std.proofs.Common.{◌∷◌, ◌++◌, length, inl, inr}
use Rattle.std.specs.Prelude.{map}
use Rattle.std.proofs.lemmas.Int.{ints, by_lt_z}
use Rattle.std.proofs.lemmas.Bool.{cases_eq}
use Rattle.hyd_num.proofs.Integers.{times_plus}
use Rattle.hyd_spec.specs.ProgramTypes.{Reservoir, Tank}
use Rattle.hyd_spec_certificates.specs.declared.Side.TheVariants.{Upper, Lower}
use Rattle.hyd_spec_certificates.specs.declared.Problem.TheVariants.{Main}
use Rattle.hyd_spec.specs.Lists.{map_from}
use Rattle.hyd_spec_certificates.specs.Interval.{Interval}
use Rattle.hyd_spec.specs.Scale.{at_scale}
use Rattle.hyd_spec.specs.Assignment.{head_at, tank_heads}
use Rattle.hyd_spec_certificates.specs.PeriodNetwork.{tank_intervals, end_on, tank_side}
use Rattle.hyd_theorems_on_definitions.specs.LyingInIntervals.{LevelsLie}

-- how far the head of a node lies above a vector's
abbrev pub excess : ℕ → List ℤ → List ℤ → ℕ → ℤ
excess S heads u m = head_at heads m -ℤ (pos S *ℤ head_at u m)

-- how far it lies below
abbrev pub lack : ℕ → List ℤ → List ℤ → ℕ → ℤ
lack S heads u m = (pos S *ℤ head_at u m) -ℤ head_at heads m

pub excess_after : (S : ℕ) (xs ys ps rs : List ℤ) (t : ℤ) → length xs ≡ length ys → ((m : ℕ) → excess S ps rs m ≤ℤ t)
    → (m : ℕ) → (m < length xs → excess S xs ys m ≤ℤ t) → excess S (xs ++ ps) (ys ++ rs) m ≤ℤ t
excess_after S [] [] ps rs t same after m here = after m
excess_after S [] (y ∷ ys) ps rs t same after m here = absurd (omega arith)
excess_after S (x ∷ xs) [] ps rs t same after m here = absurd (omega arith)
excess_after S (x ∷ xs) (y ∷ ys) ps rs t same after zero here = here (omega arith)
excess_after S (x ∷ xs) (y ∷ ys) ps rs t same after (suc m) here =
    excess_after S xs ys ps rs t (omega arith) after m (λ lt. here (omega arith))

pub lack_after : (S : ℕ) (xs ys ps rs : List ℤ) (t : ℤ) → length xs ≡ length ys → ((m : ℕ) → lack S ps rs m ≤ℤ t)
    → (m : ℕ) → (m < length xs → lack S xs ys m ≤ℤ t) → lack S (xs ++ ps) (ys ++ rs) m ≤ℤ t
lack_after S [] [] ps rs t same after m here = after m
lack_after S [] (y ∷ ys) ps rs t same after m here = absurd (omega arith)
lack_after S (x ∷ xs) [] ps rs t same after m here = absurd (omega arith)
lack_after S (x ∷ xs) (y ∷ ys) ps rs t same after zero here = here (omega arith)
lack_after S (x ∷ xs) (y ∷ ys) ps rs t same after (suc m) here =
    lack_after S xs ys ps rs t (omega arith) after m (λ lt. here (omega arith))

pub head_front : (xs ps : List ℤ) (m : ℕ) → m < length xs → head_at (xs ++ ps) m ≡ head_at xs m
head_front [] ps m lt = absurd (omega arith)
head_front (x ∷ xs) ps zero lt = refl
head_front (x ∷ xs) ps (suc m) lt = head_front xs ps m (omega arith)

outside : (S : ℕ) → (pos 0 -ℤ (pos S *ℤ pos 0)) ≤ℤ pos 0
outside S = omega (arith, ints)

outside_below : (S : ℕ) → ((pos S *ℤ pos 0) -ℤ pos 0) ≤ℤ pos 0
outside_below S = omega (arith, ints)

-- ---- tanks, each on the side of the vector

pub tanks_below : (S k : ℕ) (tanks : List Tank) (intervals : List Interval) (levels : List ℤ)
    → LevelsLie S intervals levels → (m : ℕ)
    → excess S (tank_heads S tanks levels) (map_from (λ k tank. end_on (tank_side Main Upper k) tank) k
    (tank_intervals tanks intervals)) m ≤ℤ pos 0
tanks_below S k [] intervals levels lie m = outside S
tanks_below S k (tank ∷ tanks) [] [] lie m = outside S
tanks_below S k (tank ∷ tanks) [] (level ∷ levels) lie m = absurd lie
tanks_below S k (tank ∷ tanks) (x ∷ intervals) [] lie m = absurd lie
tanks_below S k (tank ∷ tanks) (x ∷ intervals) (level ∷ levels) lie zero =
    let l = lie.0.high in omega (arith, ints, l, times_plus S x.hi tank.bottom)
tanks_below S k (tank ∷ tanks) (x ∷ intervals) (level ∷ levels) lie (suc m) = tanks_below S (suc k) tanks intervals
    levels lie.1 m

pub tanks_above : (S k : ℕ) (tanks : List Tank) (intervals : List Interval) (levels : List ℤ)
    → LevelsLie S intervals levels → (m : ℕ)
    → lack S (tank_heads S tanks levels) (map_from (λ k tank. end_on (tank_side Main Lower k) tank) k
    (tank_intervals tanks intervals)) m ≤ℤ pos 0
tanks_above S k [] intervals levels lie m = outside_below S
tanks_above S k (tank ∷ tanks) [] [] lie m = outside_below S
tanks_above S k (tank ∷ tanks) [] (level ∷ levels) lie m = absurd lie
tanks_above S k (tank ∷ tanks) (x ∷ intervals) [] lie m = absurd lie
tanks_above S k (tank ∷ tanks) (x ∷ intervals) (level ∷ levels) lie zero =
    let l = lie.0.low in omega (arith, ints, l, times_plus S x.lo tank.bottom)
tanks_above S k (tank ∷ tanks) (x ∷ intervals) (level ∷ levels) lie (suc m) = tanks_above S (suc k) tanks intervals
    levels lie.1 m

-- ---- reservoirs, whose heads are the same

pub reservoirs_below : (S : ℕ) (f : Reservoir → ℤ) (reservoirs : List Reservoir) (ps rs : List ℤ) (t : ℤ) → pos 0 ≤ℤ t
    → ((m : ℕ) → excess S ps rs m ≤ℤ t)
    → (m : ℕ) → excess S (map (λ r. at_scale S (f r)) reservoirs ++ ps) (map f reservoirs ++ rs) m ≤ℤ t
reservoirs_below S f [] ps rs t some after m = after m
reservoirs_below S f (r ∷ reservoirs) ps rs t some after zero = omega (arith, ints)
reservoirs_below S f (r ∷ reservoirs) ps rs t some after (suc m) = reservoirs_below S f reservoirs ps rs t some after m

pub reservoirs_above : (S : ℕ) (f : Reservoir → ℤ) (reservoirs : List Reservoir) (ps rs : List ℤ) (t : ℤ) → pos 0 ≤ℤ t
    → ((m : ℕ) → lack S ps rs m ≤ℤ t)
    → (m : ℕ) → lack S (map (λ r. at_scale S (f r)) reservoirs ++ ps) (map f reservoirs ++ rs) m ≤ℤ t
reservoirs_above S f [] ps rs t some after m = after m
reservoirs_above S f (r ∷ reservoirs) ps rs t some after zero = omega (arith, ints)
reservoirs_above S f (r ∷ reservoirs) ps rs t some after (suc m) = reservoirs_above S f reservoirs ps rs t some after m

-- ---- the first place where a function is greatest

pub record IsGreatestBelow (f : ℕ → ℤ) (n i : ℕ) : Type 0 where
  pub below : i < n
  pub each : (m : ℕ) → m < n → f m ≤ℤ f i
  pub before : (m : ℕ) → m < i → f m <ℤ f i

pub greatest_below : (f : ℕ → ℤ) (n : ℕ) → 0 < n → (i : ℕ) × IsGreatestBelow f n i
greatest_below f zero some = absurd (omega arith)
greatest_below f (suc zero) some = (
  0,
  record {
    below = omega arith;
    each = λ m lt. subst (λ (k : ℕ). f k ≤ℤ f 0) (let e : 0 ≡ m = omega arith in
        e) (let l : f 0 ≤ℤ f 0 = omega (arith, ints) in l);
    before = λ m lt. absurd (omega (arith, lt));
  },
)
greatest_below f (suc (suc n)) some = further (greatest_below f (suc n) (omega arith))
  where
    further : ((i : ℕ) × IsGreatestBelow f (suc n) i) → (i : ℕ) × IsGreatestBelow f (suc (suc n)) i
    further (i, best) = by_lt_z (f i) (f (suc n))
        (λ lt. (
          suc n,
          record {
            below = omega arith;
            each = λ m le. last m le lt;
            before = λ m le. (let b : f m ≤ℤ f i = best.each m le in omega (arith, ints, b, lt));
          },
        ))
        (λ ge. (
          i,
          record {
            below = (let b : i < suc n = best.below in omega arith);
            each = λ m le. old m le ge;
            before = best.before;
          },
        ))
      where
        last : (m : ℕ) → m < suc (suc n) → f i <ℤ f (suc n) → f m ≤ℤ f (suc n)
        last m le lt = elim (cases_eq m (suc n)) [
          | inl e ↦ subst (λ (k : ℕ). f m ≤ℤ f k) e (let l : f m ≤ℤ f m = omega (arith, ints) in l)
          | inr ne ↦ let b : f m ≤ℤ f i = best.each m (let s : m < suc n = omega arith in s) in omega (arith, ints)
        ]

        old : (m : ℕ) → m < suc (suc n) → f (suc n) ≤ℤ f i → f m ≤ℤ f i
        old m le ge = elim (cases_eq m (suc n)) [
          | inl e ↦ subst (λ (k : ℕ). f k ≤ℤ f i) (sym e) ge
          | inr ne ↦ best.each m (let s : m < suc n = omega arith in s)
        ]
