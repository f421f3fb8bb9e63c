-- When the level of a tank without a volume curve reaches a target.
use Rattle.std.proofs.Common.{◌≡◌, ℕ, ◌-◌, ◌*◌, ◌^◌, ◌≤◌, ℤ, pos, negsuc, neg_ℤ, ◌-ℤ◌, ◌*ℤ◌, ◌≤ℤ◌, Bool, true, false}
use Rattle.std.proofs.Common.{sym, ap, subst, ◌∙◌, arith, to_z, of_z, SFits}
use Rattle.std.specs.Int.{saturate_signed, w128}
use Rattle.std.proofs.Math.IntN.{*ℤ_comm}
use Rattle.std.proofs.lemmas.Int.{ints, to_z-of_z}
use Rattle.hyd_num.proofs.Integers.{times_minus, times_neg, times_rises, times_times}
use Rattle.hyd_spec.specs.ProgramTypes.{Tank}
use Rattle.hyd_spec.specs.Tank.{Walls, Cylinder, exact_content, has_reached}
use Rattle.hyd_spec_certificates.specs.FirstSeconds.{IsFirstSecond, IsEarliestSecond, IsLatestSecond}
use Rattle.hyd_spec_certificates.specs.Interval.{Interval}
use Rattle.hyd_spec_certificates.specs.Stocks.{Stocks, least_stock, greatest_stock}
use Rattle.hyd_net.specs.NumberRanges.{LiesWithin}
use Rattle.hyd_theorems_on_definitions.proofs.ValuesAtTwoScales.{one-within}
use Rattle.hyd_theorems_on_definitions.proofs.ValuesByContent.{above-yes, above-from, below-yes, below-from}
use Rattle.hyd_tank.specs.Contents.{IsFirstMeeting}
use Rattle.hyd_tank.specs.StockIntervals.{level_stock}
use Rattle.hyd_tank.proofs.Contents.{IsNearest, itself, above, below, nearest}
use Rattle.hyd_tank.proofs.RateMeetsNeed.{first_like}

-- ---- a rate that stays at the ends of 128 bits meets a small need as the exact one does

met : (need g r : ℤ) (s : ℕ) → 1 ≤ s → IsNearest g r → LiesWithin (9 * 10 ^ 37) need → need ≤ℤ (pos s *ℤ r)
    → need ≤ℤ (pos s *ℤ g)
met need g r s some (itself e) small h = subst (λ (z : ℤ). need ≤ℤ (pos s *ℤ z)) e h
met need g r s some (above f e) small h =
    let l = times_rises s (pos (2 ^ 127 - 1)) g f in
    let m : pos (2 ^ 127 - 1) ≤ℤ (pos s *ℤ pos (2 ^ 127 - 1)) = omega (arith, ints, some) in
    let n = small.at_most in
    omega (arith, ints, l, m, n)
met need g r s some (below f e) small h =
    let m : (pos s *ℤ negsuc (2 ^ 127 - 1)) ≤ℤ negsuc (2 ^ 127 - 1) = omega (arith, ints, some) in
    let same : pos s *ℤ r ≡ pos s *ℤ negsuc (2 ^ 127 - 1) = ap (λ (z : ℤ). pos s *ℤ z) e in
    let n = small.at_least in
    absurd (omega (arith, ints, h, m, same, n))

met-back : (need g r : ℤ) (s : ℕ) → 1 ≤ s → IsNearest g r → LiesWithin (9 * 10 ^ 37) need → need ≤ℤ (pos s *ℤ g)
    → need ≤ℤ (pos s *ℤ r)
met-back need g r s some (itself e) small h = subst (λ (z : ℤ). need ≤ℤ (pos s *ℤ z)) (sym e) h
met-back need g r s some (above f e) small h =
    let m : pos (2 ^ 127 - 1) ≤ℤ (pos s *ℤ pos (2 ^ 127 - 1)) = omega (arith, ints, some) in
    let same : pos s *ℤ r ≡ pos s *ℤ pos (2 ^ 127 - 1) = ap (λ (z : ℤ). pos s *ℤ z) e in
    let n = small.at_most in
    omega (arith, ints, m, same, n)
met-back need g r s some (below f e) small h =
    let l = times_rises s g (negsuc (2 ^ 127 - 1)) f in
    let m : (pos s *ℤ negsuc (2 ^ 127 - 1)) ≤ℤ negsuc (2 ^ 127 - 1) = omega (arith, ints, some) in
    let n = small.at_least in
    absurd (omega (arith, ints, h, l, m, n))

-- ---- a cylinder

-- what a day's inflow adds in parts
added : (s : ℕ) (q : ℤ) → pos (s * 10 ^ 15) *ℤ q ≡ pos s *ℤ (q *ℤ pos (10 ^ 15))
added s q = sym (times_times s (10 ^ 15) q) ∙ ap (λ (z : ℤ). pos s *ℤ z) (*ℤ_comm (pos (10 ^ 15)) q)

taken : (s : ℕ) (q : ℤ) → pos s *ℤ (neg_ℤ q *ℤ pos (10 ^ 15)) ≡ neg_ℤ (pos (s * 10 ^ 15) *ℤ q)
taken s q =
    sym (added s (neg_ℤ q)) ∙ times_neg (s * 10 ^ 15) q

pub rises_first : (area : ℕ) (tank : Tank) (level q target b need rate : ℤ) (cap e : ℕ) → b ≡ pos (86400 * area)
    → need ≡ b *ℤ (target -ℤ level) → LiesWithin (9 * 10 ^ 37) need
    → rate ≡ saturate_signed w128 (q *ℤ pos (10 ^ 15)) → IsFirstMeeting need rate cap e
    → IsFirstSecond (has_reached 1 (Cylinder area) tank (level_stock level) q true target) cap e
rises_first area tank level q target b need rate cap e broad lack small speed first =
    first_like (λ s. need ≤ℤ (pos s *ℤ rate)) (λ s. has_reached 1 (Cylinder area) tank (level_stock level) q true
    target s ≡ true) cap e
    (λ s some h. above-from 1 target (exact_content (Cylinder area) (level_stock level) q s)
    (let m = met need (q *ℤ pos (10 ^ 15)) rate s some near small h in
    omega (arith, ints, m, needed, apart, added s q, one-within (86400 * area) target)))
    (λ s some h. met-back need (q *ℤ pos (10 ^ 15)) rate s some near small
    (let a = above-yes 1 target (exact_content (Cylinder area) (level_stock level) q s) h in
    omega (arith, ints, a, needed, apart, added s q, one-within (86400 * area) target)))
    first
  where
    near : IsNearest (q *ℤ pos (10 ^ 15)) rate
    near = subst (IsNearest (q *ℤ pos (10 ^ 15))) (sym speed) (nearest (q *ℤ pos (10 ^ 15)))

    needed : need ≡ pos (86400 * area) *ℤ (target -ℤ level)
    needed = lack ∙ ap (λ (z : ℤ). z *ℤ (target -ℤ level)) broad

    apart : pos (86400 * area) *ℤ (target -ℤ level) ≡ (pos (86400 * area) *ℤ target) -ℤ (pos (86400 * area) *ℤ level)
    apart = times_minus (86400 * area) target level

pub falls_first : (area : ℕ) (tank : Tank) (level q back target b need rate : ℤ) (cap e : ℕ) → b ≡ pos (86400 * area)
    → need ≡ b *ℤ (level -ℤ target) → LiesWithin (9 * 10 ^ 37) need
    → back ≡ neg_ℤ q → rate ≡ saturate_signed w128 (back *ℤ pos (10 ^ 15)) → IsFirstMeeting need rate cap e
    → IsFirstSecond (has_reached 1 (Cylinder area) tank (level_stock level) q false target) cap e
falls_first area tank level q back target b need rate cap e broad lack small turned speed first =
    first_like (λ s. need ≤ℤ (pos s *ℤ rate)) (λ s. has_reached 1 (Cylinder area) tank (level_stock level) q false
    target s ≡ true) cap e
    (λ s some h. below-from 1 target (exact_content (Cylinder area) (level_stock level) q s)
    (let m = met need (neg_ℤ q *ℤ pos (10 ^ 15)) rate s some near small h in
    omega (arith, ints, m, needed, apart, taken s q, one-within (86400 * area) target)))
    (λ s some h. met-back need (neg_ℤ q *ℤ pos (10 ^ 15)) rate s some near small
    (let a = below-yes 1 target (exact_content (Cylinder area) (level_stock level) q s) h in
    omega (arith, ints, a, needed, apart, taken s q, one-within (86400 * area) target)))
    first
  where
    near : IsNearest (neg_ℤ q *ℤ pos (10 ^ 15)) rate
    near = subst (IsNearest (neg_ℤ q *ℤ pos (10 ^ 15))) (sym
        (speed ∙ ap (λ (z : ℤ). saturate_signed w128 (z *ℤ pos (10 ^ 15))) turned)) (nearest (neg_ℤ q *ℤ pos (10 ^ 15)))

    needed : need ≡ pos (86400 * area) *ℤ (level -ℤ target)
    needed = lack ∙ ap (λ (z : ℤ). z *ℤ (level -ℤ target)) broad

    apart : pos (86400 * area) *ℤ (level -ℤ target) ≡ (pos (86400 * area) *ℤ level) -ℤ (pos (86400 * area) *ℤ target)
    apart = times_minus (86400 * area) level target

-- ---- numbers as the code has them

pub need_is : (r b t x : ℤ) → SFits w128 r → SFits w128 b → r ≡ to_z w128 (of_z w128 b) *ℤ t → t ≡ x
    → to_z w128 (of_z w128 r) ≡ b *ℤ x
need_is r b t x fr fb e f =
    to_z-of_z w128 r fr ∙ e ∙ ap (λ (z : ℤ). z *ℤ t) (to_z-of_z w128 b fb) ∙ ap (λ (z : ℤ). b *ℤ z) f

pub speed_is : (r q x : ℤ) → SFits w128 r → r ≡ saturate_signed w128 (q *ℤ pos (10 ^ 15)) → q ≡ x
    → to_z w128 (of_z w128 r) ≡ saturate_signed w128 (x *ℤ pos (10 ^ 15))
speed_is r q x fr e f = to_z-of_z w128 r fr ∙ e ∙ ap (λ (z : ℤ). saturate_signed w128 (z *ℤ pos (10 ^ 15))) f

-- ---- the earliest and the latest second

module _ (walls : Walls) (tank : Tank) (stocks : Stocks) (inflow : Interval) (target : ℤ) (cap e : ℕ) where
  pub earliest_up : (rising : Bool) → rising ≡ true → IsFirstSecond (has_reached 1 walls tank (greatest_stock stocks)
      inflow.hi rising target) cap e
      → IsEarliestSecond walls tank stocks inflow target rising cap e
  earliest_up true is first = first
  earliest_up false is first = absurd (cc)

  pub latest_up : (rising : Bool) → rising ≡ true → IsFirstSecond (has_reached 1 walls tank (least_stock stocks)
      inflow.lo rising target) cap e
      → IsLatestSecond walls tank stocks inflow target rising cap e
  latest_up true is first = first
  latest_up false is first = absurd (cc)

  pub earliest_down : (rising : Bool) → rising ≡ false → IsFirstSecond (has_reached 1 walls tank (least_stock stocks)
      inflow.lo rising target) cap e
      → IsEarliestSecond walls tank stocks inflow target rising cap e
  earliest_down true is first = absurd (cc)
  earliest_down false is first = first

  pub latest_down : (rising : Bool) → rising ≡ false → IsFirstSecond (has_reached 1 walls tank (greatest_stock stocks)
      inflow.hi rising target) cap e
      → IsLatestSecond walls tank stocks inflow target rising cap e
  latest_down true is first = absurd (cc)
  latest_down false is first = first
