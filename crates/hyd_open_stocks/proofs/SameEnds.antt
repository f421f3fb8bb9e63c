-- Ends that go with contents: the same where a content is another one held within the bounds.
use Rattle.std.proofs.Common.{◌≡◌, ℕ, ◌*◌, ◌^◌, ◌<◌, ℤ, pos, ◌+ℤ◌, ◌-ℤ◌, ◌*ℤ◌, ◌≤ℤ◌, ◌<ℤ◌, Bool, true, false, refl, sym}
use Rattle.std.proofs.Common.{ap}
use Rattle.std.proofs.Common.{◌∙◌, subst, inl, inr, ◌⊎◌, arith, length}
use Rattle.std.specs.Prelude.{Option, Some, None, slice_get, unsigned_abs}
use Rattle.std.specs.Int.{int_max, int_min}
use Rattle.std.proofs.lemmas.Int.{ints, clamps}
use Rattle.hyd_num.specs.Rational.{Rational, floor, ceiling}
use Rattle.hyd_num.proofs.Integers.{times_plus, times_rises}
use Rattle.hyd_net.specs.Sound.{IsSound}
use Rattle.hyd_spec.specs.ProgramTypes.{Project, Tank}
use Rattle.hyd_spec.specs.Tank.{Walls, Cylinder, Curve, Bounds, walls_of, shape_points, content_bounds, level_bounds}
use Rattle.hyd_spec.specs.Tank.{level_at}
use Rattle.hyd_spec_certificates.specs.Stocks.{end_of, lower_end, upper_end, lower_level, upper_level}
use Rattle.hyd_tank.specs.StockIntervals.{IsTankOf, cylinder, IsCylinder, IsBasin}
use Rattle.hyd_tank.proofs.Contents.{end-most, end-least}
use Rattle.hyd_tank.proofs.TanksOfSoundNetworks.{tank_of, is_cylinder, is_basin, walls_without, walls_with}

-- two contents have the same ends: they are one, or both lie at or beyond the same bound
pub data HaveSameEnds (bounds : Bounds) (x y : Rational) : Type 0 where
  one : y ≡ x → HaveSameEnds bounds x y
  above : (pos x.den *ℤ bounds.most) ≤ℤ x.num → (pos y.den *ℤ bounds.most) ≤ℤ y.num → HaveSameEnds bounds x y
  below : x.num <ℤ (pos x.den *ℤ bounds.most) → x.num ≤ℤ (pos x.den *ℤ bounds.least)
      → y.num <ℤ (pos y.den *ℤ bounds.most) → y.num ≤ℤ (pos y.den *ℤ bounds.least) → HaveSameEnds bounds x y

end-same : (contents range : Bounds) (f : Rational → ℤ) (x y : Rational) → HaveSameEnds contents x y
    → end_of contents range y (f y) ≡ end_of contents range x (f x)
end-same contents range f x y (one is) = ap (λ (r : Rational). end_of contents range r (f r)) is
end-same contents range f x y (above a b) = end-most contents range y (f y) b ∙ sym (end-most contents range x (f x) a)
end-same contents range f x y (below a b c d) =
    end-least contents range y (f y) c d ∙ sym (end-least contents range x (f x) a b)

pub lower_same : (walls : Walls) (tank : Tank) (room : ℤ) (x y : Rational) → HaveSameEnds
    (content_bounds walls tank) x y
    → lower_level walls tank y room ≡ lower_level walls tank x room
lower_same walls tank room = end-same (content_bounds walls tank) (level_bounds tank)
    (λ (r : Rational). int_max (level_bounds tank).least (floor (level_at 1 walls tank r) -ℤ room))

pub upper_same : (walls : Walls) (tank : Tank) (room : ℤ) (x y : Rational) → HaveSameEnds
    (content_bounds walls tank) x y
    → upper_level walls tank y room ≡ upper_level walls tank x room
upper_same walls tank room = end-same (content_bounds walls tank) (level_bounds tank)
    (λ (r : Rational). int_min (level_bounds tank).most (ceiling (level_at 1 walls tank r) +ℤ room))

pub lower_content_same : (bounds : Bounds) (room : ℤ) (x y : Rational) → HaveSameEnds bounds x y
    → lower_end bounds bounds y y room ≡ lower_end bounds bounds x x room
lower_content_same bounds room =
    end-same bounds bounds (λ (r : Rational). int_max bounds.least (floor r -ℤ room))

pub upper_content_same : (bounds : Bounds) (room : ℤ) (x y : Rational) → HaveSameEnds bounds x y
    → upper_end bounds bounds y y room ≡ upper_end bounds bounds x x room
upper_content_same bounds room =
    end-same bounds bounds (λ (r : Rational). int_min bounds.most (ceiling r +ℤ room))

-- ---- contents that are held

abbrev pub content : ℕ → ℤ → ℤ → Rational
content D c d = record { num = (pos D *ℤ c) +ℤ d; den = D }

-- A content is held, and then moves by the same. Where it lay beyond a bound, it goes on away from it.
pub held_same : (bounds : Bounds) (D : ℕ) (c h d : ℤ) → 0 < D → bounds.least <ℤ bounds.most
    → h ≡ int_min (int_max c bounds.least) bounds.most
    → (bounds.most <ℤ c → pos 0 ≤ℤ d) → (c <ℤ bounds.least → d ≤ℤ pos 0)
    → HaveSameEnds bounds (content D c d) (content D h d)
held_same bounds D c h d some apart is forth back = by-place (compare-to c bounds.most)
  where
    compare-to : (a b : ℤ) → (a ≤ℤ b) ⊎ (b <ℤ a)
    compare-to a b = grind (arith, ints)

    strictly : (pos D *ℤ bounds.least) <ℤ (pos D *ℤ bounds.most)
    strictly =
        let l = times_rises D (bounds.least +ℤ pos 1) bounds.most (omega (arith, ints, apart)) in
        let o : pos D *ℤ pos 1 ≡ pos D = omega (arith, ints) in
        omega (arith, ints, l, some, times_plus D bounds.least (pos 1), o)

    by-place : (c ≤ℤ bounds.most) ⊎ (bounds.most <ℤ c) → HaveSameEnds bounds (content D c d) (content D h d)
    by-place (inr over) =
        let m : h ≡ bounds.most = omega (arith, ints, clamps, is, over, apart) in
        let f = forth over in
        let e : pos D *ℤ h ≡ pos D *ℤ bounds.most = ap (λ (z : ℤ). pos D *ℤ z) m in
        let l = times_rises D bounds.most c (omega (arith, ints, over)) in
        above (omega (arith, ints, l, f)) (omega (arith, ints, e, f))
    by-place (inl under) = elim (compare-to bounds.least c) [
      | inl from ↦
          let m : h ≡ c = omega (arith, ints, clamps, is, under, from) in
          one (ap (λ (z : ℤ). content D z d) m)
      | inr short ↦
          let m : h ≡ bounds.least = omega (arith, ints, clamps, is, short, apart) in
          let b = back short in
          let e : pos D *ℤ h ≡ pos D *ℤ bounds.least = ap (λ (z : ℤ). pos D *ℤ z) m in
          let l = times_rises D c bounds.least (omega (arith, ints, short)) in
          below (omega (arith, ints, l, b, strictly)) (omega (arith, ints, l, b)) (omega (arith, ints, e, b, strictly))
          (omega (arith, ints, e, b))
    ]

-- ---- the bounds of tanks of sound networks lie apart

apart-by : (project : Project) (tank : Tank) (shape : Option ℕ) → tank.shape ≡ shape → IsTankOf project tank
    → (content_bounds (walls_of project tank) tank).least <ℤ (content_bounds (walls_of project tank) tank).most
apart-by project tank None e is =
    subst (λ (w : Walls). (content_bounds w tank).least <ℤ (content_bounds w tank).most)
    (sym (walls_without project tank e)) (is_cylinder project tank e is).levels.apart
apart-by project tank (Some n) e is =
    let apart = (is_basin project tank n e is).1.shape.apart in
    subst (λ (w : Walls). (content_bounds w tank).least <ℤ (content_bounds w tank).most)
    (sym (walls_with project tank n e)) (omega (arith, ints, apart))

pub contents_apart : (project : Project) → IsSound project → (k : ℕ) (tank : Tank)
    → slice_get project.tanks.list k ≡ Some tank
    → (content_bounds (walls_of project tank) tank).least <ℤ (content_bounds (walls_of project tank) tank).most
contents_apart project sound k tank at = apart-by project tank tank.shape refl (tank_of project sound k tank at)
