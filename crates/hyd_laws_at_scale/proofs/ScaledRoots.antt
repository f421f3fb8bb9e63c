-- Binary numbers that are taken as many times as a tick has parts, and the roots of such numbers.
use Rattle.std.proofs.Common.{◌≡◌, ℕ, ◌+◌, ◌*◌, ◌^◌, ◌<◌, ◌≤◌, ℤ, pos, negsuc, neg_ℤ, ◌+ℤ◌, ◌≤ℤ◌, ◌<ℤ◌}
use Rattle.std.proofs.Common.{unsigned_abs, ap, sym, ◌∙◌, arith, mul-le-mul_right, mul-lt-mul_of_pos_right}
use Rattle.std.proofs.Common.{lt_of_mul-lt-mul_right, le_of_mul-le-mul_right}
use Rattle.std.proofs.Common.{Bool, true, false, refl, lit≤}
use Rattle.std.specs.Bool.{OnTrue, OnFalse}
use Rattle.std.proofs.Math.Nat.{pow-le-pow_right}
use Rattle.std.proofs.lemmas.Nat.{pow_pos, pow-add}
use Rattle.std.proofs.lemmas.Int.{ints}
use borrow.Author.Differences.{up, down}
use Rattle.hyd_num.specs.declared.binary.Scaled.{Scaled}
use Rattle.hyd_num.specs.BinaryNumbers.{numerator, denominator}
use Rattle.hyd_num.specs.QuotientsAndRoots.{IsSquareRootDown, IsSquareRootUp}
use Rattle.hyd_num.proofs.EndsInOrder.{denominator_positive}
use Rattle.hyd_spec.specs.ProgramTypes.{Capacity}
use Rattle.hyd_spec_certificates.specs.EnclosingFunctions.{root_down, root_up}
use Rattle.hyd_spec_witnesses.specs.EnclosingFunctionsAtScale.{quadratic_low_at, quadratic_high_at, IsCapacityInRange}
use Rattle.hyd_theorems_on_definitions.proofs.Roots.{down_is, up_is}

-- ---- a number with a greater exponent

pub taken_is : (c t : Scaled) (p : ℕ) → t.mant ≡ c.mant → t.exp ≡ c.exp +ℤ pos p
    → numerator t * denominator c ≡ 2 ^ p * numerator c * denominator t
taken_is c t p e f =
    let g : up t.exp + down c.exp ≡ p + up c.exp + down t.exp = omega (arith, ints, f) in
    let a : 2 ^ (up t.exp + down c.exp) ≡ 2 ^ up t.exp * 2 ^ down c.exp = pow-add 2 (up t.exp) (down c.exp) in
    let b : 2 ^ (p + up c.exp + down t.exp) ≡ 2 ^ (p + up c.exp) * 2 ^ down t.exp =
    pow-add 2 (p + up c.exp) (down t.exp) in
    let d : 2 ^ (p + up c.exp) ≡ 2 ^ p * 2 ^ up c.exp = pow-add 2 p (up c.exp) in
    let h : 2 ^ up t.exp * 2 ^ down c.exp ≡ 2 ^ p * 2 ^ up c.exp * 2 ^ down t.exp =
    sym a ∙ (ap (λ x. 2 ^ x) g ∙ (b ∙ ap (λ x. x * 2 ^ down t.exp) d)) in
    rw e (omega (arith, ap (λ x. c.mant * x) h))

-- it is below 2^66 up to the exponent 3, and not above that
pub below_limit : (c : Scaled) (p : ℕ) → (c.exp +ℤ pos p) ≤ℤ pos 3 → 2 ^ p * numerator c < 2 ^ 66 * denominator c
below_limit c p le =
    let l : p + up c.exp ≤ 3 + down c.exp = omega (arith, ints, le) in
    let a : 2 ^ (p + up c.exp) ≤ 2 ^ (3 + down c.exp) = pow-le-pow_right {n = 2} (lit≤ tt) l in
    let b : 2 ^ (p + up c.exp) ≡ 2 ^ p * 2 ^ up c.exp = pow-add 2 p (up c.exp) in
    let d : 2 ^ (3 + down c.exp) ≡ 2 ^ 3 * 2 ^ down c.exp = pow-add 2 3 (down c.exp) in
    let m : c.mant * 2 ^ (p + up c.exp) < 2 ^ 63 * 2 ^ (p + up c.exp) =
    mul-lt-mul_of_pos_right c.short (pow_pos (p + up c.exp)) in
    let e = ap (λ x. c.mant * x) b in
    omega (arith, a, d, m, e)

pub beyond_limit : (c : Scaled) (p : ℕ) → pos 3 <ℤ (c.exp +ℤ pos p) → 2 ^ 66 * denominator c ≤ 2 ^ p * numerator c
beyond_limit c p lt =
    let l : 4 + down c.exp ≤ p + up c.exp = omega (arith, ints, lt) in
    let a : 2 ^ (4 + down c.exp) ≤ 2 ^ (p + up c.exp) = pow-le-pow_right {n = 2} (lit≤ tt) l in
    let b : 2 ^ (p + up c.exp) ≡ 2 ^ p * 2 ^ up c.exp = pow-add 2 p (up c.exp) in
    let d : 2 ^ (4 + down c.exp) ≡ 2 ^ 4 * 2 ^ down c.exp = pow-add 2 4 (down c.exp) in
    let m : 2 ^ 62 * 2 ^ (p + up c.exp) ≤ c.mant * 2 ^ (p + up c.exp) =
    mul-le-mul_right (2 ^ (p + up c.exp)) c.normal in
    let e = ap (λ x. c.mant * x) b in
    omega (arith, a, d, m, e)

-- ---- equal fractions

at_most_too : (a m n d p q : ℕ) → 0 < d → p * d ≡ n * q → a * d ≤ n * m → a * q ≤ p * m
at_most_too a m n d p q some e h =
    let l : a * d * q ≤ n * m * q = mul-le-mul_right q h in
    let g = ap (λ x. x * m) e in
    let r : a * q * d ≤ p * m * d = omega (arith, l, g) in
    le_of_mul-le-mul_right r some

at_least_too : (a m n d p q : ℕ) → 0 < d → p * d ≡ n * q → n * m ≤ a * d → p * m ≤ a * q
at_least_too a m n d p q some e h =
    let l : n * m * q ≤ a * d * q = mul-le-mul_right q h in
    let g = ap (λ x. x * m) e in
    let r : p * m * d ≤ a * q * d = omega (arith, l, g) in
    le_of_mul-le-mul_right r some

-- ---- what the roots ask of the number that is taken

pub taken_least : (nc dc nt dt s : ℕ) → 0 < dc → 1 ≤ s → nt * dc ≡ s * nc * dt → dc ≤ nc * 2 ^ 61 → dt ≤ nt * 2 ^ 61
taken_least nc dc nt dt s some more e least =
    let a : dc * dt ≤ nc * 2 ^ 61 * dt = mul-le-mul_right dt least in
    let b : 1 * (nc * 2 ^ 61 * dt) ≤ s * (nc * 2 ^ 61 * dt) = mul-le-mul_right (nc * 2 ^ 61 * dt) more in
    let g = ap (λ x. x * 2 ^ 61) e in
    let r : dt * dc ≤ nt * 2 ^ 61 * dc = omega (arith, a, b, g) in
    le_of_mul-le-mul_right r some

pub taken_greatest : (nc dc nt dt s : ℕ) → 0 < dt → nt * dc ≡ s * nc * dt → s * nc < 2 ^ 66 * dc → nt < 2 ^ 66 * dt
taken_greatest nc dc nt dt s some e greatest =
    let a : s * nc * dt < 2 ^ 66 * dc * dt = mul-lt-mul_of_pos_right greatest some in
    let r : nt * dc < 2 ^ 66 * dt * dc = omega (arith, a, e) in
    lt_of_mul-lt-mul_right dc r

-- the lower end of a capacity in range
pub lower_in_range : (c : Capacity) (s : ℕ) → IsCapacityInRange s c → s * numerator c.lo < 2 ^ 66 * denominator c.lo
lower_in_range c s greatest =
    let a : s * numerator c.hi * denominator c.lo < 2 ^ 66 * denominator c.hi * denominator c.lo =
    mul-lt-mul_of_pos_right greatest (denominator_positive c.lo) in
    let b : numerator c.lo * denominator c.hi * s ≤ numerator c.hi * denominator c.lo * s =
    mul-le-mul_right s c.ordered in
    let r : s * numerator c.lo * denominator c.hi < 2 ^ 66 * denominator c.lo * denominator c.hi =
    omega (arith, a, b) in
    lt_of_mul-lt-mul_right (denominator c.hi) r

-- a number that is below 2^66 when it is taken, is below it
pub one_in_range : (c : Scaled) (s : ℕ) → 1 ≤ s → s * numerator c < 2 ^ 66 * denominator c
    → numerator c < 2 ^ 66 * denominator c
one_in_range c s more greatest =
    let a : 1 * numerator c ≤ s * numerator c = mul-le-mul_right (numerator c) more in
    omega (arith, a, greatest)

-- ---- the roots

pub down_taken : (c t : Scaled) (s d r : ℕ) → numerator t * denominator c ≡ s * numerator c * denominator t
    → IsSquareRootDown (numerator t * d) (denominator t) r → r ≡ root_down ((s * numerator c) * d) (denominator c)
down_taken c t s d r e root = down_is _ _ r (denominator_positive c) (record {
  at_most = at_most_too (r * r) d (numerator t) (denominator t) (s * numerator c) (denominator c)
      (denominator_positive t) (sym e) root.at_most;
  greatest = λ k h. root.greatest k (at_most_too (k * k) d (s * numerator c) (denominator c) (numerator t)
      (denominator t) (denominator_positive c) e h);
})

pub up_taken : (c t : Scaled) (s d r : ℕ) → numerator t * denominator c ≡ s * numerator c * denominator t
    → IsSquareRootUp (numerator t * d) (denominator t) r → r ≡ root_up ((s * numerator c) * d) (denominator c)
up_taken c t s d r e root = up_is _ _ r (denominator_positive c) (record {
  at_least = at_least_too (r * r) d (numerator t) (denominator t) (s * numerator c) (denominator c)
      (denominator_positive t) (sym e) root.at_least;
  least = λ k h. root.least k (at_least_too (k * k) d (s * numerator c) (denominator c) (numerator t)
      (denominator t) (denominator_positive c) e h);
})

-- ---- both directions of the flow

pub low_forward : (s : ℕ) (c : Capacity) (d : ℤ) (m r : ℕ) → pos 0 ≤ℤ d → m ≡ unsigned_abs d
    → r ≡ root_down ((s * numerator c.lo) * m) (denominator c.lo) → pos r ≡ quadratic_low_at s c d
low_forward s c (pos d) m r le e root =
    ap pos (root ∙ ap (λ (n : ℕ). root_down ((s * numerator c.lo) * n) (denominator c.lo)) e)
low_forward s c (negsuc d) m r le e root = absurd (omega (arith, ints, le))

pub low_reverse : (s : ℕ) (c : Capacity) (d : ℤ) (m r : ℕ) → d <ℤ pos 0 → m ≡ unsigned_abs d
    → r ≡ root_up ((s * numerator c.hi) * m) (denominator c.hi) → neg_ℤ (pos r) ≡ quadratic_low_at s c d
low_reverse s c (pos d) m r lt e root = absurd (omega (arith, ints, lt))
low_reverse s c (negsuc d) m r lt e root =
    ap (λ (n : ℕ). neg_ℤ (pos n)) (root ∙ ap (λ (n : ℕ). root_up ((s * numerator c.hi) * n) (denominator c.hi)) e)

pub high_forward : (s : ℕ) (c : Capacity) (d : ℤ) (m r : ℕ) → pos 0 ≤ℤ d → m ≡ unsigned_abs d
    → r ≡ root_up ((s * numerator c.hi) * m) (denominator c.hi) → pos r ≡ quadratic_high_at s c d
high_forward s c (pos d) m r le e root =
    ap pos (root ∙ ap (λ (n : ℕ). root_up ((s * numerator c.hi) * n) (denominator c.hi)) e)
high_forward s c (negsuc d) m r le e root = absurd (omega (arith, ints, le))

pub high_reverse : (s : ℕ) (c : Capacity) (d : ℤ) (m r : ℕ) → d <ℤ pos 0 → m ≡ unsigned_abs d
    → r ≡ root_down ((s * numerator c.lo) * m) (denominator c.lo) → neg_ℤ (pos r) ≡ quadratic_high_at s c d
high_reverse s c (pos d) m r lt e root = absurd (omega (arith, ints, lt))
high_reverse s c (negsuc d) m r lt e root =
    ap (λ (n : ℕ). neg_ℤ (pos n)) (root ∙ ap (λ (n : ℕ). root_down ((s * numerator c.lo) * n) (denominator c.lo)) e)

-- ---- tests

pub fits_yes : (c : Capacity) (p : ℕ) (b : Bool) → (b ≡ true → (c.hi.exp +ℤ pos p) ≤ℤ pos 3)
    → OnTrue b (IsCapacityInRange (2 ^ p) c)
fits_yes c p true h = below_limit c.hi p (h refl)
fits_yes c p false h = tt

pub fits_no : (c : Capacity) (p : ℕ) (b : Bool) → (b ≡ false → pos 3 <ℤ (c.hi.exp +ℤ pos p))
    → OnFalse b (IsCapacityInRange (2 ^ p) c → ⊥)
fits_no c p true h = tt
fits_no c p false h = λ fits. let l = beyond_limit c.hi p (h refl) in omega (arith, l, fits)
