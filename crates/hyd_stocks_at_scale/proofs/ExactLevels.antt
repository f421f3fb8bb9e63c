-- Exact levels: whole ones, those of shares, and what is held within bounds.
use Rattle.std.proofs.Common.{◌≡◌, ℕ, ◌+◌, ◌*◌, ◌/◌, ◌%◌, ◌<◌, ◌≤◌, ℤ, pos, ◌+ℤ◌, ◌*ℤ◌, ◌≤ℤ◌, ◌<ℤ◌}
use Rattle.std.proofs.Common.{unsigned_abs, sym, ap, ◌∙◌, arith, mul-pos, List}
use Rattle.std.proofs.lemmas.Int.{ints}
use Rattle.std.proofs.lemmas.Nat.{div-add-mod'}
use Rattle.std.proofs.Math.Nat.{mul_comm}
use Rattle.hyd_num.proofs.Integers.{times_plus, times_one, times_rises, times_reflects, times_times, one_times}
use Rattle.hyd_num.specs.Rational.{Rational, whole}
use Rattle.hyd_net.specs.Curves.{value_at}
use Rattle.hyd_spec.specs.ProgramTypes.{VolumePoint}
use Rattle.hyd_spec.specs.Scale.{at_scale}
use Rattle.hyd_spec.specs.Tank.{Bounds, placed, level_knots, level_on_curve}
use Rattle.hyd_lemmas.proofs.Integers.{exchanged}
use Rattle.hyd_theorems_on_definitions.proofs.ValuesByContent.{placed-is}
use Rattle.hyd_tank.proofs.Contents.{parts_are}
use Rattle.hyd_stocks_at_scale.specs.declared.carried_levels.ExactLevel.{ExactLevel}
use Rattle.hyd_stocks_at_scale.specs.declared.volume_curve.Mixed.{Mixed}
use Rattle.hyd_stocks_at_scale.specs.Motions.{IsInShares, LiesAs, share_limit}
use Rattle.hyd_stocks_at_scale.specs.VolumeCurves.{value_of, IsMixed}
use Rattle.hyd_stocks_at_scale.specs.ExactLevels.{IsLevel, in_parts_of}

-- ---- what is placed, by its three cases

pub placed_most : (P : Rational → Type 0) (S : ℕ) (contents range : Bounds) (x v : Rational)
    → (pos x.den *ℤ (pos S *ℤ contents.most)) ≤ℤ x.num → P (whole (at_scale S range.most))
    → P (placed S contents range x v)
placed_most P S contents range x v h is =
    placed-is P S contents range x v (λ m. is) (λ s m. absurd (omega (arith, ints, s, h)))
    (λ s m. absurd (omega (arith, ints, s, h)))

pub placed_least : (P : Rational → Type 0) (S : ℕ) (contents range : Bounds) (x v : Rational)
    → x.num <ℤ (pos x.den *ℤ (pos S *ℤ contents.most)) → x.num ≤ℤ (pos x.den *ℤ (pos S *ℤ contents.least))
    → P (whole (at_scale S range.least)) → P (placed S contents range x v)
placed_least P S contents range x v below h is =
    placed-is P S contents range x v (λ m. absurd (omega (arith, ints, m, below))) (λ s m. is)
    (λ s m. absurd (omega (arith, ints, m, h)))

pub placed_inside : (P : Rational → Type 0) (S : ℕ) (contents range : Bounds) (x v : Rational)
    → x.num <ℤ (pos x.den *ℤ (pos S *ℤ contents.most)) → (pos x.den *ℤ (pos S *ℤ contents.least)) <ℤ x.num
    → P v → P (placed S contents range x v)
placed_inside P S contents range x v below above is =
    placed-is P S contents range x v (λ m. absurd (omega (arith, ints, m, below)))
    (λ s m. absurd (omega (arith, ints, m, above))) (λ s m. is)

-- ---- levels

pub shares_level : (breadth shares w : ℤ) (d p : ℕ) (x : Rational) → pos d ≡ breadth
    → (pos d *ℤ w) +ℤ pos p ≡ shares → IsInShares breadth shares x
    → pos d *ℤ x.num ≡ pos x.den *ℤ ((pos d *ℤ w) +ℤ pos p)
shares_level breadth shares w d p x e f is =
    ap (λ (z : ℤ). z *ℤ x.num) e ∙ (sym is.same ∙ ap (λ (z : ℤ). pos x.den *ℤ z) (sym f))

pub fine_level : (of part w : ℕ) → pos (864 * of) *ℤ ((pos of *ℤ pos w) +ℤ pos part)
    ≡ pos (of * 864) *ℤ ((pos (864 * of) *ℤ pos (w / 864)) +ℤ pos (w % 864 * of + part))
fine_level of part w =
    let d = ap (λ (n : ℕ). of * n) (div-add-mod' w 864) in
    let same : of * w + part ≡ 864 * of * (w / 864) + (w % 864 * of + part) = omega (arith, d) in
    ap (λ (n : ℕ). pos n *ℤ pos (of * w + part)) (mul_comm 864 of) ∙ ap (λ (n : ℕ). pos (of * 864) *ℤ pos n) same

-- the number that lies on the same sides as a small one is that one
pub exactly : (exact z : ℤ) → LiesAs exact z → unsigned_abs z ≤ share_limit → z ≡ exact
exactly exact z lies small =
    let a = (lies.at_least z (omega (arith, small))).0 (omega (arith, ints)) in
    let b = (lies.at_most z (omega (arith, small))).0 (omega (arith, ints)) in
    omega (arith, ints, a, b)

-- shares of a level that isn't negative
pub not_negative : (breadth : ℤ) (S : ℕ) (t : ℤ) → pos 1 ≤ℤ breadth → pos 0 ≤ℤ t → pos 0 ≤ℤ (breadth *ℤ (pos S *ℤ t))
not_negative breadth S t broad low =
    let n = unsigned_abs breadth in
    let e = parts_are breadth (pos S *ℤ t) broad in
    let inner = times_rises S (pos 0) t low in
    let outer = times_rises n (pos S *ℤ pos 0) (pos S *ℤ t) inner in
    let nothing : pos n *ℤ (pos S *ℤ pos 0) ≡ pos 0 = omega (arith, ints) in
    omega (arith, ints, e, outer, nothing)

-- ---- a level on a curve, held within bounds

module _ (S : ℕ) (range : Bounds) (exact : Mixed) (level : ExactLevel) (mixed : IsMixed exact)
    (order : range.least ≤ℤ range.most) where
  abbrev x : Rational
  x = in_parts_of exact

  some : 0 < exact.of
  some = let p = mixed.proper in omega (arith, p)

  at : (y : ℤ) → pos (exact.of * 864) *ℤ y ≡ pos exact.of *ℤ (pos 864 *ℤ y)
  at y = sym (times_times exact.of 864 y)

  from : (y : ℤ) → (pos 864 *ℤ y) ≤ℤ exact.whole → (pos x.den *ℤ y) ≤ℤ x.num
  from y h = let l = times_rises exact.of (pos 864 *ℤ y) exact.whole h in omega (arith, ints, l, at y)

  below : (y : ℤ) → exact.whole <ℤ (pos 864 *ℤ y) → x.num <ℤ (pos x.den *ℤ y)
  below y h =
      let l = times_rises exact.of (exact.whole +ℤ pos 1) (pos 864 *ℤ y) (omega (arith, ints, h)) in
      let p = mixed.proper in
      omega (arith, ints, l, p, at y, times_plus exact.of exact.whole (pos 1), times_one exact.of)

  ordered : (pos x.den *ℤ (pos S *ℤ range.least)) ≤ℤ (pos x.den *ℤ (pos S *ℤ range.most))
  ordered = times_rises x.den (pos S *ℤ range.least) (pos S *ℤ range.most)
      (times_rises S range.least range.most order)

  pub held_most : (pos 864 *ℤ (pos S *ℤ range.most)) ≤ℤ exact.whole → IsLevel level (whole (at_scale S range.most))
      → IsLevel level (placed S range range x x)
  held_most h is = placed_most (λ (r : Rational). IsLevel level r) S range range x x (from (pos S *ℤ range.most) h) is

  pub held_least : exact.whole <ℤ (pos 864 *ℤ (pos S *ℤ range.least))
      → IsLevel level (whole (at_scale S range.least)) → IsLevel level (placed S range range x x)
  held_least h is =
      let l = below (pos S *ℤ range.least) h in
      placed_least (λ (r : Rational). IsLevel level r) S range range x x (omega (arith, ints, l, ordered))
      (omega (arith, ints, l)) is

  -- a value that is just a whole number
  same-whole : (y : ℤ) → x.num ≡ pos x.den *ℤ y → IsLevel level x → IsLevel level (whole y)
  same-whole y e is =
      let den-some : 0 < exact.of * 864 = mul-pos some (omega arith) in
      let value = (pos level.of *ℤ level.whole) +ℤ pos level.part in
      let cross : pos x.den *ℤ (pos level.of *ℤ y) ≡ pos x.den *ℤ value =
      exchanged level.of x.den y ∙ (ap (λ (z : ℤ). pos level.of *ℤ z) (sym e) ∙ is.same) in
      let up = times_reflects x.den (pos level.of *ℤ y) value den-some (omega (arith, ints, cross)) in
      let down = times_reflects x.den value (pos level.of *ℤ y) den-some (omega (arith, ints, cross)) in
      record {
        proper = is.proper;
        of = is.of;
        same = omega (arith, ints, up, down, one_times value);
      }

  pub held_inside : exact.whole <ℤ (pos 864 *ℤ (pos S *ℤ range.most))
      → (pos 864 *ℤ (pos S *ℤ range.least)) ≤ℤ exact.whole → IsLevel level x → IsLevel level (placed S range range x x)
  held_inside short h is =
      let m = below (pos S *ℤ range.most) short in
      let l = from (pos S *ℤ range.least) h in
      placed-is (λ (r : Rational). IsLevel level r) S range range x x
      (λ k. absurd (omega (arith, ints, k, m)))
      (λ s k. same-whole (pos S *ℤ range.least) (omega (arith, ints, k, l)) is)
      (λ s k. is)

-- the level on the curve in shares, as it is read
pub fine_read : (S T : ℕ) (points : List VolumePoint) (num z : ℤ) (exact : Mixed) → T ≡ 864 * S → z ≡ num
    → value_of exact ≡ value_at T (level_knots points) z
    → in_parts_of exact ≡ level_on_curve S points (record { num = num; den = 864 })
fine_read S T points num z exact e f g =
    ap (λ (r : Rational). (let v : Rational = record { num = r.num; den = r.den * 864 } in v))
    (g ∙ (ap (λ (n : ℕ). value_at n (level_knots points) z) (e ∙ mul_comm 864 S)
    ∙ ap (λ (y : ℤ). value_at (S * 864) (level_knots points) y) f))
