-- How much a rounding adds: a number rounded down or up is within one part in 2^62 of what was rounded.
use Rattle.std.proofs.Common.{refl, ◌≡◌, ℕ, ◌+◌, ◌-◌, ◌*◌, ◌^◌, ◌<◌, ◌≤◌, ℤ, pos, ◌+ℤ◌, ◌-ℤ◌, sym, ap, ◌∙◌, arith}
use Rattle.std.proofs.Common.{mul-pos, inl, inr, lit<, lit≤}
use Rattle.std.proofs.Math.Nat.{mul-le-mul_right, le_of_mul-le-mul_right}
use Rattle.std.proofs.lemmas.Nat.{pow_pos, pow-add}
use Rattle.std.proofs.lemmas.Bool.{cases_lt, cases_eq}
use Rattle.std.proofs.lemmas.Int.{ints}
use borrow.Author.Differences.{up, down}
use Rattle.hyd_num.specs.declared.binary.Scaled.{Scaled}
use Rattle.hyd_num.specs.BinaryNumbers.{numerator, denominator, IsDown, IsUp}

-- the least mantissa, which is the number of grains in a number of that mantissa
pub grain : ℕ
grain = 2 ^ 62

pub grain_is : grain ≡ 2 ^ 62
unfolding grain
grain_is = refl

pub grain_above : 0 < grain
unfolding grain
grain_above = lit< tt

-- one exponent more, seen through the two parts of an exponent
pub exponents : (z : ℤ) → up (z +ℤ pos 1) + down z ≡ 1 + (up z + down (z +ℤ pos 1))
exponents z = omega (arith, ints)

pub doubled : (z : ℤ) → 2 ^ up (z +ℤ pos 1) * 2 ^ down z ≡ 2 * (2 ^ up z * 2 ^ down (z +ℤ pos 1))
doubled z =
    sym (pow-add 2 (up (z +ℤ pos 1)) (down z)) ∙ ap (λ i. 2 ^ i) (exponents z) ∙ pow-add 2 1 (up z + down (z +ℤ pos 1))
    ∙ ap (λ x. 2 * x) (pow-add 2 (up z) (down (z +ℤ pos 1)))

-- the number of one more in the last place, below the end of the mantissas and at it
more : (s : Scaled) → s.mant + 1 < 2 ^ 63 → Scaled
more s h = record { mant = s.mant + 1; exp = s.exp; normal = omega (arith, s.normal); short = h }

turn : Scaled → Scaled
turn s = record { mant = 2 ^ 62; exp = s.exp +ℤ pos 1; normal = omega arith; short = lit< tt }

below_more : (p q : ℕ) (s : Scaled) → IsDown p q s → s.mant + 1 < 2 ^ 63 → p * denominator s < (s.mant + 1)
    * 2 ^ up s.exp * q
unfolding more
below_more p q s made h = elim (cases_lt (p * denominator s) ((s.mant + 1) * 2 ^ up s.exp * q)) [
  | inl l ↦ l
  | inr g ↦
      let le : (s.mant + 1) * 2 ^ up s.exp * denominator s ≤ numerator s * denominator s = made.greatest (more s h) g in
      let above : 0 < 2 ^ up s.exp * denominator s = mul-pos (pow_pos (up s.exp)) (pow_pos (down s.exp)) in
      absurd (omega (arith, le, above))
]

turn_fits : (m u d v e q p : ℕ) → 0 < d → v * d ≡ 2 * (u * e) → m + 1 ≡ 2 ^ 63 → (m + 1) * u * q ≤ p * d
    → 2 ^ 62 * v * q ≤ p * e
turn_fits m u d v e q p above double end h =
    let a : (m + 1) * u * q * e ≤ p * d * e = mul-le-mul_right e h in
    let b : (m + 1) * (u * q * e) ≡ 2 ^ 63 * (u * q * e) = ap (λ x. x * (u * q * e)) end in
    let c : v * d * (2 ^ 62 * q) ≡ 2 * (u * e) * (2 ^ 62 * q) = ap (λ x. x * (2 ^ 62 * q)) double in
    let all : 2 ^ 62 * v * q * d ≤ p * e * d = omega (arith, a, b, c) in
    le_of_mul-le-mul_right all above

turn_passes : (m u d v e : ℕ) → 0 < u * e → v * d ≡ 2 * (u * e) → m + 1 ≡ 2 ^ 63 → 2 ^ 62 * v * d ≤ m * u * e → ⊥
turn_passes m u d v e above double end h =
    let b : (m + 1) * (u * e) ≡ 2 ^ 63 * (u * e) = ap (λ x. x * (u * e)) end in
    let c : 2 ^ 62 * (v * d) ≡ 2 ^ 62 * (2 * (u * e)) = ap (λ x. 2 ^ 62 * x) double in
    omega (arith, b, c, h, above)

below_turn : (p q : ℕ) (s : Scaled) → IsDown p q s → s.mant + 1 ≡ 2 ^ 63 → p * denominator s < (s.mant + 1)
    * 2 ^ up s.exp * q
unfolding turn
below_turn p q s made end = elim (cases_lt (p * denominator s) ((s.mant + 1) * 2 ^ up s.exp * q)) [
  | inl l ↦ l
  | inr g ↦
      let le : numerator (turn s) * denominator s ≤ numerator s * denominator (turn s) =
      made.greatest (turn s) (turn_fits s.mant (2 ^ up s.exp) (2 ^ down s.exp) (2 ^ up (s.exp +ℤ pos 1))
      (2 ^ down (s.exp +ℤ pos 1)) q p
      (pow_pos (down s.exp)) (doubled s.exp) end g) in
      absurd (turn_passes s.mant (2 ^ up s.exp) (2 ^ down s.exp) (2 ^ up (s.exp +ℤ pos 1)) (2 ^ down (s.exp +ℤ pos 1))
      (mul-pos (pow_pos (up s.exp)) (pow_pos (down (s.exp +ℤ pos 1)))) (doubled s.exp) end le)
]

-- what was rounded down is below the next place
pub below_next : (p q : ℕ) (s : Scaled) → IsDown p q s → p * denominator s < (s.mant + 1) * 2 ^ up s.exp * q
below_next p q s made = elim (cases_lt (s.mant + 1) (2 ^ 63)) [
  | inl l ↦ below_more p q s made l
  | inr g ↦ below_turn p q s made (omega (arith, g, s.short))
]

one_grain : (m u q pd : ℕ) → grain ≤ m → pd < (m + 1) * u * q → pd * grain ≤ m * u * q * (grain + 1)
one_grain m u q pd least below =
    let a : pd * grain ≤ (m + 1) * u * q * grain = mul-le-mul_right grain (omega (arith, below)) in
    let b : grain * (u * q) ≤ m * (u * q) = mul-le-mul_right (u * q) least in
    omega (arith, a, b)

normal_grain : (s : Scaled) → grain ≤ s.mant
unfolding grain
normal_grain s = s.normal

pub down-near : (p q : ℕ) (s : Scaled) → IsDown p q s → p * denominator s * grain ≤ numerator s * q * (grain + 1)
down-near p q s made = one_grain s.mant (2 ^ up s.exp) q (p * denominator s) (normal_grain s) (below_next p q s made)

-- the number of one less in the last place, above the least mantissa and at it
less : (s : Scaled) (n : ℕ) → 2 ^ 62 ≤ n → n < 2 ^ 63 → Scaled
less s n normal short = record { mant = n; exp = s.exp; normal = normal; short = short }

back : Scaled → Scaled
back s = record { mant = 2 ^ 63 - 1; exp = s.exp -ℤ pos 1; normal = lit≤ tt; short = lit< tt }

halved_exponents : (z : ℤ) → up z + down (z -ℤ pos 1) ≡ 1 + (up (z -ℤ pos 1) + down z)
halved_exponents z = omega (arith, ints)

halved : (z : ℤ) → 2 ^ up z * 2 ^ down (z -ℤ pos 1) ≡ 2 * (2 ^ up (z -ℤ pos 1) * 2 ^ down z)
halved z =
    sym (pow-add 2 (up z) (down (z -ℤ pos 1))) ∙ ap (λ i. 2 ^ i) (halved_exponents z)
    ∙ pow-add 2 1 (up (z -ℤ pos 1) + down z)
    ∙ ap (λ x. 2 * x) (pow-add 2 (up (z -ℤ pos 1)) (down z))

less_gains : (n m u q pd : ℕ) → grain ≤ n → m ≡ n + 1 → n * u * q < pd → m * u * q * grain ≤ pd * (grain + 1)
less_gains n m u q pd least is below =
    let a : n * u * q * (grain + 1) ≤ pd * (grain + 1) = mul-le-mul_right (grain + 1) (omega (arith, below)) in
    let b : grain * (u * q) ≤ n * (u * q) = mul-le-mul_right (u * q) least in
    let e : m * (u * q * grain) ≡ (n + 1) * (u * q * grain) = ap (λ x. x * (u * q * grain)) is in
    omega (arith, a, b, e)

less_passes : (n m u d : ℕ) → m ≡ n + 1 → 0 < u * d → m * u * d ≤ n * u * d → ⊥
less_passes n m u d is above h =
    let e : m * (u * d) ≡ (n + 1) * (u * d) = ap (λ x. x * (u * d)) is in
    omega (arith, h, e, above)

above_less : (p q n : ℕ) (s : Scaled) → IsUp p q s → 2 ^ 62 ≤ n → s.mant ≡ n + 1
    → numerator s * q * grain ≤ p * denominator s * (grain + 1)
unfolding less grain
above_less p q n s made least is = elim (cases_lt (n * 2 ^ up s.exp * q) (p * denominator s)) [
  | inl l ↦ less_gains n s.mant (2 ^ up s.exp) q (p * denominator s) least is l
  | inr g ↦
      let short : n < 2 ^ 63 = omega (arith, is, s.short) in
      let le : numerator s * denominator s ≤ n * 2 ^ up s.exp * denominator s = made.least (less s n least short) g in
      absurd (less_passes n s.mant (2 ^ up s.exp) (denominator s) is
      (mul-pos (pow_pos (up s.exp)) (pow_pos (down s.exp))) le)
]

back_gains : (u d v f q p : ℕ) → 0 < f → u * f ≡ 2 * (v * d) → (2 ^ 63 - 1) * v * q < p * f
    → 2 ^ 62 * u * q * 2 ^ 62 ≤ p * d * (2 ^ 62 + 1)
back_gains u d v f q p above half below =
    let a : (2 ^ 63 - 1) * v * q * (d * (2 ^ 62 + 1)) ≤ p * f * (d * (2 ^ 62 + 1)) = mul-le-mul_right
    (d * (2 ^ 62 + 1)) (omega (arith, below)) in
    let e : u * f * (2 ^ 62 * q * 2 ^ 62) ≡ 2 * (v * d) * (2 ^ 62 * q * 2 ^ 62) = ap (λ x. x * (2 ^ 62 * q * 2 ^ 62))
    half in
    let all : 2 ^ 62 * u * q * 2 ^ 62 * f ≤ p * d * (2 ^ 62 + 1) * f = omega (arith, a, e) in
    le_of_mul-le-mul_right all above

back_passes : (u d v f : ℕ) → 0 < v * d → u * f ≡ 2 * (v * d) → 2 ^ 62 * u * f ≤ (2 ^ 63 - 1) * v * d → ⊥
back_passes u d v f above half h =
    let e : 2 ^ 62 * (u * f) ≡ 2 ^ 62 * (2 * (v * d)) = ap (λ x. 2 ^ 62 * x) half in
    omega (arith, h, e, above)

at_least_mantissa : (m u q t : ℕ) → m ≡ 2 ^ 62 → 2 ^ 62 * u * q * 2 ^ 62 ≤ t → m * u * q * 2 ^ 62 ≤ t
at_least_mantissa m u q t is h = omega (arith, ap (λ x. x * (u * q * 2 ^ 62)) is, h)

above_back : (p q : ℕ) (s : Scaled) → IsUp p q s → s.mant ≡ 2 ^ 62 → numerator s * q * grain ≤ p * denominator s
    * (grain + 1)
unfolding back grain
above_back p q s made is = elim (cases_lt ((2 ^ 63 - 1) * 2 ^ up (s.exp -ℤ pos 1) * q)
    (p * 2 ^ down (s.exp -ℤ pos 1))) [
      | inl l ↦ at_least_mantissa s.mant (2 ^ up s.exp) q _ is
          (back_gains (2 ^ up s.exp) (2 ^ down s.exp) (2 ^ up (s.exp -ℤ pos 1)) (2 ^ down (s.exp -ℤ pos 1)) q p
          (pow_pos (down (s.exp -ℤ pos 1))) (halved s.exp) l)
      | inr g ↦
          let le : numerator s * 2 ^ down (s.exp -ℤ pos 1) ≤ (2 ^ 63 - 1) * 2 ^ up (s.exp -ℤ pos 1) * denominator s =
          made.least (back s) g in
          let e : s.mant * (2 ^ up s.exp * 2 ^ down (s.exp -ℤ pos 1)) ≡ 2 ^ 62
          * (2 ^ up s.exp * 2 ^ down (s.exp -ℤ pos 1)) = ap (λ x. x * (2 ^ up s.exp * 2 ^ down (s.exp -ℤ pos 1))) is in
          absurd (back_passes (2 ^ up s.exp) (2 ^ down s.exp) (2 ^ up (s.exp -ℤ pos 1)) (2 ^ down (s.exp -ℤ pos 1))
          (mul-pos (pow_pos (up (s.exp -ℤ pos 1))) (pow_pos (down s.exp))) (halved s.exp) (omega (arith, le, e)))
    ]

pub up-near : (p q : ℕ) (s : Scaled) → IsUp p q s → numerator s * q * grain ≤ p * denominator s * (grain + 1)
up-near p q s made = elim (cases_eq s.mant (2 ^ 62)) [
  | inl e ↦ above_back p q s made e
  | inr n ↦ above_less p q (s.mant - 1) s made (omega (arith, n, s.normal)) (omega (arith, n, s.normal))
]

-- ---- neighbours

-- a greater number at most one grain further, in factors
pub record Above (s : Scaled) : Type 0 where
  pub number : Scaled
  pub passes : numerator s * denominator number < numerator number * denominator s
  pub near : numerator number * denominator s * grain ≤ numerator s * denominator number * (grain + 1)
  -- and it is the number of one more in the last place
  pub one_more : numerator number * denominator s ≡ (s.mant + 1) * 2 ^ up s.exp * denominator number

-- a smaller number at most one grain further
pub record Below (s : Scaled) : Type 0 where
  pub number : Scaled
  pub passes : numerator number * denominator s < numerator s * denominator number
  pub near : numerator s * denominator number * grain ≤ numerator number * denominator s * (grain + 1)

more_near : (m x y : ℕ) → 0 < x → grain ≤ m → y ≡ (m + 1) * x → (m * x < y) × (y * grain ≤ m * x * (grain + 1))
more_near m x y some normal is = (
  omega (arith, is, some),
  (let b : grain * x ≤ m * x = mul-le-mul_right x normal in
      let e : y * grain ≡ (m + 1) * x * grain = ap (λ z. z * grain) is in omega (arith, b, e)),
)

above_from : (s t : Scaled) → numerator t * denominator s ≡ (s.mant + 1) * 2 ^ up s.exp * denominator t → Above s
above_from s t is =
    let some : 0 < 2 ^ up s.exp * denominator t = mul-pos (pow_pos (up s.exp)) (pow_pos (down t.exp)) in
    let both : (s.mant * (2 ^ up s.exp * denominator t) < numerator t * denominator s)
    × (numerator t * denominator s * grain ≤ s.mant * (2 ^ up s.exp * denominator t) * (grain + 1))
    = more_near s.mant (2 ^ up s.exp * denominator t) (numerator t * denominator s) some (normal_grain s)
    (omega (arith, is)) in
    record { number = t; passes = omega (arith, both.0); near = omega (arith, both.1); one_more = is }

turn_is : (m u d v e : ℕ) → v * d ≡ 2 * (u * e) → m + 1 ≡ 2 ^ 63 → 2 ^ 62 * v * d ≡ (m + 1) * u * e
turn_is m u d v e double end =
    omega (arith, ap (λ x. x * (u * e)) end, ap (λ x. 2 ^ 62 * x) double)

above_turn : (s : Scaled) → s.mant + 1 ≡ 2 ^ 63 → Above s
unfolding turn
above_turn s e = above_from s (turn s) (turn_is s.mant (2 ^ up s.exp) (2 ^ down s.exp) (2 ^ up (s.exp +ℤ pos 1))
    (2 ^ down (s.exp +ℤ pos 1)) (doubled s.exp) e)

above_one : (s : Scaled) → s.mant + 1 < 2 ^ 63 → Above s
unfolding more
above_one s h = above_from s (more s h) refl

pub above_of : (s : Scaled) → Above s
above_of s = elim (cases_lt (s.mant + 1) (2 ^ 63)) [
  | inl l ↦ above_one s l
  | inr g ↦ above_turn s (omega (arith, g, s.short))
]

-- n x is the smaller number, m x the greater one
less_near : (n m x : ℕ) → 0 < x → grain ≤ n → m ≡ n + 1 → (n * x < m * x) × (m * x * grain ≤ n * x * (grain + 1))
less_near n m x some normal is =
    let e : m * x ≡ (n + 1) * x = ap (λ z. z * x) is in
    let f : m * x * grain ≡ (n + 1) * x * grain = ap (λ z. z * grain) e in
    (omega (arith, e, some), (let b : grain * x ≤ n * x = mul-le-mul_right x normal in omega (arith, b, f)))

below_one : (s : Scaled) (n : ℕ) → 2 ^ 62 ≤ n → s.mant ≡ n + 1 → Below s
unfolding less grain
below_one s n normal is =
    let short : n < 2 ^ 63 = omega (arith, is, s.short) in
    let both : (n * (2 ^ up s.exp * denominator s) < s.mant * (2 ^ up s.exp * denominator s))
    × (s.mant * (2 ^ up s.exp * denominator s) * grain ≤ n * (2 ^ up s.exp * denominator s) * (grain + 1))
    = less_near n s.mant (2 ^ up s.exp * denominator s) (mul-pos (pow_pos (up s.exp)) (pow_pos (down s.exp))) normal
    is in
    record { number = less s n normal short; passes = omega (arith, both.0); near = omega (arith, both.1) }

-- x is the smaller number's power of two, y the greater one's
back_near : (m x y : ℕ) → 0 < x → m ≡ 2 ^ 62 → y ≡ 2 * x → ((2 ^ 63 - 1) * x < m * y)
    × (m * y * 2 ^ 62 ≤ (2 ^ 63 - 1) * x * (2 ^ 62 + 1))
back_near m x y some is half =
    let e : m * y ≡ 2 ^ 62 * y = ap (λ z. z * y) is in
    let f : m * y * 2 ^ 62 ≡ 2 ^ 62 * y * 2 ^ 62 = ap (λ z. z * 2 ^ 62) e in
    (omega (arith, e, half, some), omega (arith, f, half))

below_back : (s : Scaled) → s.mant ≡ 2 ^ 62 → Below s
unfolding back grain
below_back s is =
    let both = back_near s.mant (2 ^ up (s.exp -ℤ pos 1) * denominator s) (2 ^ up s.exp * 2 ^ down (s.exp -ℤ pos 1))
    (mul-pos (pow_pos (up (s.exp -ℤ pos 1))) (pow_pos (down s.exp))) is (halved s.exp) in
    record { number = back s; passes = omega (arith, both.0); near = omega (arith, both.1) }

pub below_of : (s : Scaled) → Below s
below_of s = elim (cases_eq s.mant (2 ^ 62)) [
  | inl e ↦ below_back s e
  | inr n ↦ below_one s (s.mant - 1) (omega (arith, n, s.normal)) (omega (arith, n, s.normal))
]
