-- Contents in parts of a tick: held within their bounds, and the bounds that go with them.
use Rattle.std.proofs.Common.{◌≡◌, ◌-◌, ◌*◌, ◌^◌, ◌<◌, ◌≤◌, ℤ, pos, negsuc, ◌+ℤ◌, ◌*ℤ◌, ◌≤ℤ◌, ◌<ℤ◌, unsigned_abs, inl}
use Rattle.std.proofs.Common.{inr, refl, ap, subst, ◌∙◌, arith, to_z, of_z, w64, SFits}
use Rattle.std.specs.Prelude.{if◌then◌else◌}
use Rattle.std.specs.Int.{int_max, int_min, saturate_signed, w128}
use Rattle.std.proofs.lemmas.Int.{ints, clamps, to_z-of_z, fits_signed_from_abs}
use Rattle.std.proofs.lemmas.Bool.{cond_both, cases_lt}
use Rattle.hyd_num.proofs.Integers.{times_plus, times_one, times_rises, times_reflects}
use Rattle.hyd_num.specs.Rational.{Rational, floor, ceiling}
use Rattle.hyd_spec.specs.Tank.{Bounds, is_at_maximum, is_at_minimum}
use Rattle.hyd_spec_certificates.specs.Stocks.{end_of}
use Rattle.hyd_lemmas.proofs.Integers.{floor_low, floor_greatest, ceiling_high, ceiling_least}
use Rattle.hyd_theorems_on_definitions.proofs.ValuesAtTwoScales.{one-within}
use Rattle.hyd_theorems_on_definitions.proofs.ValuesByContent.{above-yes, above-no, below-yes, below-no}
use Rattle.hyd_theorems_on_definitions.proofs.SoundTankLemmas.{some-area}
use Rattle.hyd_net.specs.NumberRanges.{Lies}
use Rattle.hyd_tank.specs.Contents.{bounds_of, in_ticks, held_in, IsBetween}
use Rattle.hyd_tank.specs.declared.contents_of_tanks.Bounds.{Bounds as Limits}

-- ---- parts

breadth-is : (b : ℤ) → pos 1 ≤ℤ b → b ≡ pos (unsigned_abs b)
breadth-is (pos n) h = refl
breadth-is (negsuc n) h = absurd (omega (arith, ints, h))

pub parts_are : (b z : ℤ) → pos 1 ≤ℤ b → b *ℤ z ≡ pos (unsigned_abs b) *ℤ z
parts_are b z h = ap (λ (n : ℤ). n *ℤ z) (breadth-is b h)

-- ---- what goes with a content, by its three cases

pub end-is : (P : ℤ → Type 0) (contents range : Bounds) (x : Rational) (inside : ℤ)
    → ((pos x.den *ℤ contents.most) ≤ℤ x.num → P range.most)
    → (x.num <ℤ (pos x.den *ℤ contents.most) → x.num ≤ℤ (pos x.den *ℤ contents.least) → P range.least)
    → (x.num <ℤ (pos x.den *ℤ contents.most) → (pos x.den *ℤ contents.least) <ℤ x.num → P inside)
    → P (end_of contents range x inside)
end-is P contents range x inside full empty between =
    cond_both (is_at_maximum 1 contents x) range.most (if is_at_minimum 1 contents x then range.least else inside) P
    (λ e. full (let a = above-yes 1 contents.most x e in omega (arith, ints, a, one-within x.den contents.most)))
    (λ e. let short = above-no 1 contents.most x e in let below = one-within x.den contents.most in
    cond_both (is_at_minimum 1 contents x) range.least inside P
    (λ g. let a = below-yes 1 contents.least x g in
    empty (omega (arith, ints, short, below)) (omega (arith, ints, a, one-within x.den contents.least)))
    (λ g. let a = below-no 1 contents.least x g in
    between (omega (arith, ints, short, below)) (omega (arith, ints, a, one-within x.den contents.least))))

-- at or beyond a bound, and between them
pub end-most : (contents range : Bounds) (x : Rational) (inside : ℤ) → (pos x.den *ℤ contents.most) ≤ℤ x.num
    → end_of contents range x inside ≡ range.most
end-most contents range x inside h = end-is (λ z. z ≡ range.most) contents range x inside
    (λ m. refl) (λ m l. absurd (omega (arith, ints, h, m))) (λ m l. absurd (omega (arith, ints, h, m)))

pub end-least : (contents range : Bounds) (x : Rational) (inside : ℤ) → x.num <ℤ (pos x.den *ℤ contents.most)
    → x.num ≤ℤ (pos x.den *ℤ contents.least)
    → end_of contents range x inside ≡ range.least
end-least contents range x inside s h = end-is (λ z. z ≡ range.least) contents range x inside
    (λ m. absurd (omega (arith, ints, s, m))) (λ m l. refl) (λ m l. absurd (omega (arith, ints, h, l)))

pub end-between : (contents range : Bounds) (x : Rational) (inside : ℤ) → IsBetween contents x
    → end_of contents range x inside ≡ inside
end-between contents range x inside is =
    let s = is.below_most in
    let h = is.above_least in
    end-is (λ z. z ≡ inside) contents range x inside
    (λ m. absurd (omega (arith, ints, s, m))) (λ m l. absurd (omega (arith, ints, h, l))) (λ m l. refl)

-- between its bounds a value is rounded to a number between them
pub floor_between : (bounds : Bounds) (x : Rational) → 0 < x.den → IsBetween bounds x
    → (bounds.least ≤ℤ floor x) × (floor x ≤ℤ bounds.most)
floor_between bounds x some is = (
  floor_greatest x bounds.least some (let h = is.above_least in omega (arith, ints, h)),
  times_reflects x.den (floor x) bounds.most some (let a = floor_low x some in let h = is.below_most in
      omega (arith, ints, a, h)),
)

pub ceiling_between : (bounds : Bounds) (x : Rational) → 0 < x.den → IsBetween bounds x
    → (bounds.least ≤ℤ ceiling x) × (ceiling x ≤ℤ bounds.most)
ceiling_between bounds x some is = (
  times_reflects x.den bounds.least (ceiling x) some (let a = ceiling_high x some in let h = is.above_least in
      omega (arith, ints, a, h)),
  ceiling_least x bounds.most some (let h = is.below_most in omega (arith, ints, h)),
)

-- ---- sums that stay at the ends of 128 bits

-- the number of 128 bits that is nearest
pub data IsNearest (z r : ℤ) : Type 0 where
  itself : r ≡ z → IsNearest z r
  above : pos (2 ^ 127 - 1) ≤ℤ z → r ≡ pos (2 ^ 127 - 1) → IsNearest z r
  below : z ≤ℤ negsuc (2 ^ 127 - 1) → r ≡ negsuc (2 ^ 127 - 1) → IsNearest z r

pub nearest : (z : ℤ) → IsNearest z (saturate_signed w128 z)
nearest (pos n) = elim (cases_lt n (2 ^ 127)) [
  | inl lt ↦ itself (ap pos (omega arith))
  | inr le ↦ above (omega (arith, ints)) (ap pos (omega arith))
]
nearest (negsuc n) = elim (cases_lt n (2 ^ 127)) [
  | inl lt ↦ itself (ap negsuc (omega arith))
  | inr le ↦ below (omega (arith, ints)) (ap negsuc (omega arith))
]

-- a sum is held as the exact one is, where the first part and the bounds are small
held-sum : (a c r s least most : ℤ) → IsNearest c r → IsNearest (a +ℤ r) s → pos 0 ≤ℤ a → a ≤ℤ pos (9 * 10 ^ 37)
    → pos 0 ≤ℤ least → least ≤ℤ pos (9 * 10 ^ 37) → pos 0 ≤ℤ most
    → most ≤ℤ pos (9 * 10 ^ 37) → int_max least (int_min s most) ≡ int_max least (int_min (a +ℤ c) most)
held-sum a c r s least most (itself e) (itself f) al ah ll lh ml mh = omega (arith, ints, clamps)
held-sum a c r s least most (itself e) (above g f) al ah ll lh ml mh = omega (arith, ints, clamps)
held-sum a c r s least most (itself e) (below g f) al ah ll lh ml mh = omega (arith, ints, clamps)
held-sum a c r s least most (above h e) (itself f) al ah ll lh ml mh = omega (arith, ints, clamps)
held-sum a c r s least most (above h e) (above g f) al ah ll lh ml mh = omega (arith, ints, clamps)
held-sum a c r s least most (above h e) (below g f) al ah ll lh ml mh = omega (arith, ints, clamps)
held-sum a c r s least most (below h e) (itself f) al ah ll lh ml mh = omega (arith, ints, clamps)
held-sum a c r s least most (below h e) (above g f) al ah ll lh ml mh = omega (arith, ints, clamps)
held-sum a c r s least most (below h e) (below g f) al ah ll lh ml mh = omega (arith, ints, clamps)

held : (a c least most : ℤ) → pos 0 ≤ℤ a → a ≤ℤ pos (9 * 10 ^ 37) → pos 0 ≤ℤ least → least ≤ℤ pos (9 * 10 ^ 37)
    → pos 0 ≤ℤ most → most ≤ℤ pos (9 * 10 ^ 37)
    → int_max least (int_min (saturate_signed w128 (a +ℤ saturate_signed w128 c)) most)
    ≡ int_max least (int_min (a +ℤ c) most)
held a c least most = held-sum a c (saturate_signed w128 c) (saturate_signed w128 (a +ℤ saturate_signed w128 c)) least
    most (nearest c) (nearest (a +ℤ saturate_signed w128 c))

-- ---- numbers as the code has them

small-64 : (z : ℤ) → pos 0 ≤ℤ z → z ≤ℤ pos (10 ^ 18) → SFits w64 z
small-64 z low high = fits_signed_from_abs w64 z (omega (arith, ints))

small-128 : (z : ℤ) → Lies (pos 0) (pos (9 * 10 ^ 37)) z → SFits w128 z
small-128 z range = fits_signed_from_abs w128 z (omega (arith, ints, range.at_least, range.at_most))

-- a number of ticks in parts
pub parts_from : (r b t : ℤ) → r ≡ to_z w128 (of_z w128 b) *ℤ to_z w64 (of_z w64 t)
    → Lies (pos 1) (pos (9 * 10 ^ 19)) b → pos 0 ≤ℤ t → t ≤ℤ pos (10 ^ 18)
    → r ≡ b *ℤ t
parts_from r b t e range low high =
    let f : to_z w128 (of_z w128 b) ≡ b = omega (arith, ints, range.at_least, range.at_most) in
    e ∙ ap (λ (z : ℤ). z *ℤ to_z w64 (of_z w64 t)) f ∙ ap (λ (z : ℤ). b *ℤ z) (to_z-of_z w64 t (small-64 t low high))

pub parts_of : (r b t : ℤ) → r ≡ to_z w128 (of_z w128 b) *ℤ to_z w64 (of_z w64 t) → Lies (pos 1) (pos (9 * 10 ^ 19)) b
    → pos 0 ≤ℤ t → t ≤ℤ pos (10 ^ 18)
    → r ≡ pos (unsigned_abs b) *ℤ t
parts_of r b t e range low high = parts_from r b t e range low high ∙ parts_are b t range.at_least

-- such numbers are small
pub parts_small : (b t : ℤ) → Lies (pos 1) (pos (9 * 10 ^ 19)) b → pos 0 ≤ℤ t → t ≤ℤ pos (10 ^ 18)
    → Lies (pos 0) (pos (9 * 10 ^ 37)) (b *ℤ t)
parts_small b t range low high =
    let n = unsigned_abs b in
    let e = breadth-is b range.at_least in
    let p = parts_are b t range.at_least in
    let few : n ≤ 9 * 10 ^ 19 = omega (arith, ints, range.at_most, e) in
    let l = times_rises n (pos 0) t low in
    let zero : pos n *ℤ pos 0 ≡ pos 0 = omega (arith, ints) in
    let h = times_rises n t (pos (10 ^ 18)) high in
    let full : (pos n *ℤ pos (10 ^ 18)) ≤ℤ pos (9 * 10 ^ 37) = omega (arith, ints, few) in
    record { at_least = omega (arith, ints, p, l, zero); at_most = omega (arith, ints, p, h, full) }

-- the content that is held
pub held_is : (b drive content inflow least most : ℤ) (l m a k s r : ℤ) → Lies (pos 1) (pos (9 * 10 ^ 19)) b
    → pos 0 ≤ℤ least → least ≤ℤ pos (10 ^ 18) → pos 0 ≤ℤ most → most ≤ℤ pos (10 ^ 18) → pos 0 ≤ℤ content
    → content ≤ℤ pos (10 ^ 18)
    → SFits w128 drive → SFits w128 inflow → SFits w128 k → SFits w128 s
    → l ≡ b *ℤ least → m ≡ b *ℤ most → a ≡ b *ℤ content
    → k ≡ saturate_signed w128 (to_z w128 (of_z w128 drive) *ℤ to_z w128 (of_z w128 inflow))
    → s ≡ saturate_signed w128 (to_z w128 (of_z w128 a) +ℤ to_z w128 (of_z w128 k))
    → r ≡ int_max (to_z w128 (of_z w128 l)) (int_min (to_z w128 (of_z w128 s)) (to_z w128 (of_z w128 m)))
    → r ≡ int_max (b *ℤ least) (int_min ((b *ℤ content) +ℤ (drive *ℤ inflow)) (b *ℤ most))
held_is b drive content inflow least most l m a k s r range ll lh ml mh cl ch fd fi fk fs le me ae ke se re =
    let lr = parts_small b least range ll lh in
    let mr = parts_small b most range ml mh in
    let ar = parts_small b content range cl ch in
    let k-is : k ≡ saturate_signed w128 (drive *ℤ inflow) =
    ke ∙ ap (λ (z : ℤ). saturate_signed w128 (z *ℤ to_z w128 (of_z w128 inflow))) (to_z-of_z w128 drive fd)
    ∙ ap (λ (z : ℤ). saturate_signed w128 (drive *ℤ z)) (to_z-of_z w128 inflow fi) in
    let a-is : to_z w128 (of_z w128 a) ≡ b *ℤ content = ap (λ (z : ℤ). to_z w128 (of_z w128 z)) ae
    ∙ to_z-of_z w128 (b *ℤ content) (small-128 (b *ℤ content) ar) in
    let l-is : to_z w128 (of_z w128 l) ≡ b *ℤ least = ap (λ (z : ℤ). to_z w128 (of_z w128 z)) le
    ∙ to_z-of_z w128 (b *ℤ least) (small-128 (b *ℤ least) lr) in
    let m-is : to_z w128 (of_z w128 m) ≡ b *ℤ most = ap (λ (z : ℤ). to_z w128 (of_z w128 z)) me
    ∙ to_z-of_z w128 (b *ℤ most) (small-128 (b *ℤ most) mr) in
    let s-is : to_z w128 (of_z w128 s) ≡ saturate_signed w128
    ((b *ℤ content) +ℤ saturate_signed w128 (drive *ℤ inflow)) =
    to_z-of_z w128 s fs ∙ se ∙ ap (λ (z : ℤ). saturate_signed w128 (z +ℤ to_z w128 (of_z w128 k))) a-is
    ∙ ap (λ (z : ℤ). saturate_signed w128 ((b *ℤ content) +ℤ z)) (to_z-of_z w128 k fk ∙ k-is) in
    re ∙ ap (λ (z : ℤ). int_max z (int_min (to_z w128 (of_z w128 s)) (to_z w128 (of_z w128 m)))) l-is
    ∙ ap (λ (z : ℤ). int_max (b *ℤ least) (int_min z (to_z w128 (of_z w128 m)))) s-is
    ∙ ap (λ (z : ℤ). int_max (b *ℤ least)
    (int_min (saturate_signed w128 ((b *ℤ content) +ℤ saturate_signed w128 (drive *ℤ inflow))) z)) m-is
    ∙ held (b *ℤ content) (drive *ℤ inflow) (b *ℤ least) (b *ℤ most) ar.at_least ar.at_most lr.at_least lr.at_most
    mr.at_least mr.at_most

-- ---- ends of the content that is held

module _ (b : ℤ) (bounds : Limits) (n : ℤ) (some : pos 1 ≤ℤ b) (apart : bounds.least <ℤ bounds.most) where
  least-parts : b *ℤ bounds.least ≡ pos (unsigned_abs b) *ℤ bounds.least
  least-parts = parts_are b bounds.least some

  most-parts : b *ℤ bounds.most ≡ pos (unsigned_abs b) *ℤ bounds.most
  most-parts = parts_are b bounds.most some

  parts-apart : (pos (unsigned_abs b) *ℤ bounds.least) <ℤ (pos (unsigned_abs b) *ℤ bounds.most)
  parts-apart =
      let l = times_rises (unsigned_abs b) (bounds.least +ℤ pos 1) bounds.most (omega (arith, ints, apart)) in
      let positive = some-area b some in
      omega (arith, ints, l, positive, times_plus (unsigned_abs b) bounds.least (pos 1), times_one (unsigned_abs b))

  -- the held number has the bounds of the number, and is that number between them
  held-end : (range : Bounds) (f : Rational → ℤ) → end_of (bounds_of bounds) range (in_ticks b (held_in b bounds n))
      (f (in_ticks b (held_in b bounds n)))
      ≡ end_of (bounds_of bounds) range (in_ticks b n) (f (in_ticks b n))
  held-end range f =
      let h = held_in b bounds n in
      end-is (λ z. end_of (bounds_of bounds) range (in_ticks b h) (f (in_ticks b h)) ≡ z) (bounds_of bounds) range
      (in_ticks b n) (f (in_ticks b n))
      (λ m. end-most (bounds_of bounds) range (in_ticks b h) (f (in_ticks b h))
      (omega (arith, ints, clamps, m, least-parts, most-parts, parts-apart)))
      (λ m l. end-least (bounds_of bounds) range (in_ticks b h) (f (in_ticks b h))
      (omega (arith, ints, clamps, m, l, least-parts, most-parts, parts-apart))
      (omega (arith, ints, clamps, m, l, least-parts, most-parts, parts-apart)))
      (λ m l. let same : n ≡ h = omega (arith, ints, clamps, m, l, least-parts, most-parts) in
      subst (λ (z : ℤ). end_of (bounds_of bounds) range (in_ticks b z) (f (in_ticks b z)) ≡ f (in_ticks b n)) same
      (end-between (bounds_of bounds) range (in_ticks b n) (f (in_ticks b n)) (record {
        above_least = l;
        below_most = m;
      })))

pub held_end : (b : ℤ) (bounds : Limits) (n : ℤ) → pos 1 ≤ℤ b → bounds.least <ℤ bounds.most
    → (range : Bounds) (f : Rational → ℤ)
    → end_of (bounds_of bounds) range (in_ticks b (held_in b bounds n)) (f (in_ticks b (held_in b bounds n)))
    ≡ end_of (bounds_of bounds) range (in_ticks b n) (f (in_ticks b n))
held_end b bounds n some apart = held-end b bounds n some apart

-- the number that is held lies within the bounds
pub held_within : (b : ℤ) (bounds : Limits) (n : ℤ) → pos 1 ≤ℤ b → bounds.least <ℤ bounds.most
    → ((pos (unsigned_abs b) *ℤ bounds.least) ≤ℤ held_in b bounds n)
    × (held_in b bounds n ≤ℤ (pos (unsigned_abs b) *ℤ bounds.most))
held_within b bounds n some apart =
    let l = least-parts b bounds n some apart in
    let m = most-parts b bounds n some apart in
    let p = parts-apart b bounds n some apart in
    (omega (arith, ints, clamps, l, m, p), omega (arith, ints, clamps, l, m, p))
