-- Contents in shares: how they move, and on which side of a content they lie.
use Rattle.std.proofs.Common.{◌≡◌, ℕ, ◌*◌, ◌^◌, ◌<◌, ◌≤◌, ◌↔◌, ℤ, pos, ◌+ℤ◌, ◌*ℤ◌, ◌≤ℤ◌, unsigned_abs, sym, ap}
use Rattle.std.proofs.Common.{◌∙◌, arith, mul-pos, subst}
use Rattle.std.proofs.lemmas.Int.{ints}
use Rattle.hyd_num.proofs.Integers.{times_plus, times_times, times_rises, times_reflects}
use Rattle.hyd_num.specs.Rational.{Rational}
use Rattle.hyd_spec.specs.Tank.{Stock, Cylinder, exact_content}
use Rattle.hyd_lemmas.proofs.Integers.{exchanged}
use Rattle.hyd_tank.proofs.Contents.{IsNearest, itself, above, below, parts_are}
use Rattle.hyd_stocks_at_scale.specs.Motions.{IsInShares, LiesAs}

-- ---- exact contents in shares

-- a flow tick for a second is 312,500,000,000 shares of a cylinder's level, of which 27 times the area make one
pub cylinder_shares : (area : ℕ) (stock : Stock) (q : ℤ) (seconds : ℕ) → 0 < area
    → IsInShares (pos (27 * area)) ((pos (27 * area) *ℤ stock.level) +ℤ (pos seconds *ℤ (pos 312500000000 *ℤ q)))
    (exact_content (Cylinder area) stock q seconds)
cylinder_shares area stock q seconds some =
    let level = stock.level in
    let both : pos (86400 * area) *ℤ ((pos (27 * area) *ℤ level) +ℤ (pos seconds *ℤ (pos 312500000000 *ℤ q)))
    ≡ (pos (86400 * area) *ℤ (pos (27 * area) *ℤ level)) +ℤ (pos (86400 * area)
    *ℤ (pos seconds *ℤ (pos 312500000000 *ℤ q))) =
    times_plus (86400 * area) (pos (27 * area) *ℤ level) (pos seconds *ℤ (pos 312500000000 *ℤ q)) in
    let other : pos (27 * area) *ℤ ((pos (86400 * area) *ℤ level) +ℤ (pos (seconds * 10 ^ 15) *ℤ q))
    ≡ (pos (27 * area) *ℤ (pos (86400 * area) *ℤ level)) +ℤ (pos (27 * area) *ℤ (pos (seconds * 10 ^ 15) *ℤ q)) =
    times_plus (27 * area) (pos (86400 * area) *ℤ level) (pos (seconds * 10 ^ 15) *ℤ q) in
    let kept = exchanged (27 * area) (86400 * area) level in
    let risen : pos (86400 * area) *ℤ (pos seconds *ℤ (pos 312500000000 *ℤ q))
    ≡ pos (27 * area) *ℤ (pos (seconds * 10 ^ 15) *ℤ q) =
    ap (λ (z : ℤ). pos (86400 * area) *ℤ z) (times_times seconds 312500000000 q)
    ∙ times_times (86400 * area) (seconds * 312500000000) q
    ∙ ap (λ (n : ℕ). pos n *ℤ q) (let e : 86400 * area * (seconds * 312500000000)
    ≡ 27 * area * (seconds * 10 ^ 15) = omega arith in e)
    ∙ sym (times_times (27 * area) (seconds * 10 ^ 15) q) in
    record { some = mul-pos (omega arith) some; same = omega (arith, ints, both, other, kept, risen) }

-- the same by equal numbers
pub shares_along : (b breadth a start r rate : ℤ) (seconds : ℕ) (x : Rational) → b ≡ breadth → a ≡ start → r ≡ rate
    → IsInShares breadth (start +ℤ (pos seconds *ℤ rate)) x → IsInShares b (a +ℤ (pos seconds *ℤ r)) x
shares_along b breadth a start r rate seconds x e f g is =
    subst (λ (z : ℤ). IsInShares z (a +ℤ (pos seconds *ℤ r)) x) (sym e)
    (subst (λ (z : ℤ). IsInShares breadth (z +ℤ (pos seconds *ℤ r)) x) (sym f)
    (subst (λ (z : ℤ). IsInShares breadth (start +ℤ (pos seconds *ℤ z)) x) (sym g) is))

-- ---- sums that stay at the ends of 128 bits

-- each number of at most 10^38 lies on the same side
lies : (a c r s y : ℤ) → IsNearest c r → IsNearest (a +ℤ r) s → unsigned_abs a ≤ 33 * 10 ^ 36
    → unsigned_abs y ≤ 10 ^ 38 → ((y ≤ℤ s) ↔ (y ≤ℤ (a +ℤ c))) × ((s ≤ℤ y) ↔ ((a +ℤ c) ≤ℤ y))
lies a c r s y (itself e) (itself f) small within = (
  ((λ h. omega (arith, ints, e, f, h)), (λ h. omega (arith, ints, e, f, h))),
  ((λ h. omega (arith, ints, e, f, h)), (λ h. omega (arith, ints, e, f, h))),
)
lies a c r s y (itself e) (above g f) small within = (
  ((λ h. omega (arith, ints, e, f, g, h, within)), (λ h. omega (arith, ints, e, f, g, h, within))),
  ((λ h. omega (arith, ints, e, f, g, h, within)), (λ h. omega (arith, ints, e, f, g, h, within))),
)
lies a c r s y (itself e) (below g f) small within = (
  ((λ h. omega (arith, ints, e, f, g, h, within)), (λ h. omega (arith, ints, e, f, g, h, within))),
  ((λ h. omega (arith, ints, e, f, g, h, within)), (λ h. omega (arith, ints, e, f, g, h, within))),
)
lies a c r s y (above k e) (itself f) small within = (
  ((λ h. omega (arith, ints, e, f, k, h, small, within)), (λ h. omega (arith, ints, e, f, k, h, small, within))),
  ((λ h. omega (arith, ints, e, f, k, h, small, within)), (λ h. omega (arith, ints, e, f, k, h, small, within))),
)
lies a c r s y (above k e) (above g f) small within = (
  ((λ h. omega (arith, ints, e, f, k, h, small, within)), (λ h. omega (arith, ints, e, f, k, h, small, within))),
  ((λ h. omega (arith, ints, e, f, k, h, small, within)), (λ h. omega (arith, ints, e, f, k, h, small, within))),
)
lies a c r s y (above k e) (below g f) small within = absurd (omega (arith, ints, e, f, g, small))
lies a c r s y (below k e) (itself f) small within = (
  ((λ h. omega (arith, ints, e, f, k, h, small, within)), (λ h. omega (arith, ints, e, f, k, h, small, within))),
  ((λ h. omega (arith, ints, e, f, k, h, small, within)), (λ h. omega (arith, ints, e, f, k, h, small, within))),
)
lies a c r s y (below k e) (above g f) small within = absurd (omega (arith, ints, e, f, g, small))
lies a c r s y (below k e) (below g f) small within = (
  ((λ h. omega (arith, ints, e, f, k, h, small, within)), (λ h. omega (arith, ints, e, f, k, h, small, within))),
  ((λ h. omega (arith, ints, e, f, k, h, small, within)), (λ h. omega (arith, ints, e, f, k, h, small, within))),
)

pub lies_as : (a c r s : ℤ) → IsNearest c r → IsNearest (a +ℤ r) s → unsigned_abs a ≤ 33 * 10 ^ 36
    → LiesAs (a +ℤ c) s
lies_as a c r s near sum small = record {
  at_least = λ y within. (lies a c r s y near sum small within).0;
  at_most = λ y within. (lies a c r s y near sum small within).1;
}

-- ---- a content in shares at or beyond a number

module _ (breadth shares : ℤ) (x : Rational) (broad : pos 1 ≤ℤ breadth) (is : IsInShares breadth shares x) where
  abbrev wide : ℕ
  wide = unsigned_abs breadth

  wide-some : 0 < wide
  wide-some = omega (arith, ints, broad)

  -- the denominator times the shares is the breadth times the numerator
  crossed : (y : ℤ) → pos x.den *ℤ (breadth *ℤ y) ≡ pos wide *ℤ (pos x.den *ℤ y)
  crossed y = ap (λ (z : ℤ). pos x.den *ℤ z) (parts_are breadth y broad) ∙ exchanged wide x.den y

  turned : pos x.den *ℤ shares ≡ pos wide *ℤ x.num
  turned = is.same ∙ parts_are breadth x.num broad

  pub from_shares : (y : ℤ) → (breadth *ℤ y) ≤ℤ shares → (pos x.den *ℤ y) ≤ℤ x.num
  from_shares y h =
      let l = times_rises x.den (breadth *ℤ y) shares h in
      times_reflects wide (pos x.den *ℤ y) x.num wide-some (omega (arith, ints, l, crossed y, turned))

  pub to_shares : (y : ℤ) → (pos x.den *ℤ y) ≤ℤ x.num → (breadth *ℤ y) ≤ℤ shares
  to_shares y h =
      let l = times_rises wide (pos x.den *ℤ y) x.num h in
      times_reflects x.den (breadth *ℤ y) shares is.some (omega (arith, ints, l, crossed y, turned))

  pub up_to_shares : (y : ℤ) → shares ≤ℤ (breadth *ℤ y) → x.num ≤ℤ (pos x.den *ℤ y)
  up_to_shares y h =
      let l = times_rises x.den shares (breadth *ℤ y) h in
      times_reflects wide x.num (pos x.den *ℤ y) wide-some (omega (arith, ints, l, crossed y, turned))

  pub below_shares : (y : ℤ) → x.num ≤ℤ (pos x.den *ℤ y) → shares ≤ℤ (breadth *ℤ y)
  below_shares y h =
      let l = times_rises wide x.num (pos x.den *ℤ y) h in
      times_reflects x.den shares (breadth *ℤ y) is.some (omega (arith, ints, l, crossed y, turned))
