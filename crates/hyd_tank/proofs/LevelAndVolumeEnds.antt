-- Ends of levels and of volumes after some seconds, as the definitions have them.
use Rattle.std.proofs.Common.{◌≡◌, ℕ, ◌*◌, ◌^◌, ℤ, pos, ◌+ℤ◌, ◌-ℤ◌, ◌*ℤ◌, ◌≤ℤ◌, ◌<ℤ◌, refl, sym, ap, ◌∙◌, arith, List}
use Rattle.std.proofs.Common.{to_z, of_z, w64, SFits}
use Rattle.std.specs.Int.{int_max, int_min, w128}
use Rattle.std.proofs.lemmas.Int.{ints, to_z-of_z}
use Rattle.hyd_num.specs.Rational.{Rational, floor, ceiling}
use Rattle.hyd_spec.specs.Tank.{Bounds, Cylinder, Curve, level_bounds, content_bounds, exact_content, level_at}
use Rattle.hyd_spec.specs.ProgramTypes.{Tank, VolumePoint}
use Rattle.hyd_spec_certificates.specs.Interval.{Interval}
use Rattle.hyd_spec_certificates.specs.Stocks.{Stocks, end_of, lower_end, upper_end, lower_level, upper_level}
use Rattle.hyd_tank.specs.declared.contents_of_tanks.Bounds.{Bounds as Limits}
use Rattle.hyd_tank.specs.Contents.{bounds_of, in_ticks, held_in}
use Rattle.hyd_tank.specs.StockIntervals.{level_stock}
use Rattle.hyd_tank.specs.Targets.{AreVolumes}
use Rattle.hyd_tank.proofs.Contents.{held_end}

pub interval_is : (a b x y : ℤ) → a ≡ x → b ≡ y → (let i : Interval = record {
  lo = a;
  hi = b;
} in i) ≡ record { lo = x; hi = y }
interval_is a b x y e f = rw (e, f) refl

-- ---- numbers as the code has them

pub held_plain : (b drive content q h : ℤ) (bounds : Limits) → SFits w64 content → SFits w128 q
    → h ≡ held_in b bounds ((b *ℤ to_z w64 (of_z w64 content)) +ℤ (drive *ℤ to_z w128 (of_z w128 q)))
    → h ≡ held_in b bounds ((b *ℤ content) +ℤ (drive *ℤ q))
held_plain b drive content q h bounds fc fq e =
    e ∙ ap (λ (z : ℤ). held_in b bounds ((b *ℤ z) +ℤ (drive *ℤ to_z w128 (of_z w128 q)))) (to_z-of_z w64 content fc)
    ∙ ap (λ (z : ℤ). held_in b bounds ((b *ℤ content) +ℤ (drive *ℤ z))) (to_z-of_z w128 q fq)

pub lower_plain : (b h w r : ℤ) (bounds : Bounds) → SFits w128 b → SFits w128 h → SFits w64 w
    → r ≡ lower_end bounds bounds (in_ticks (to_z w128 (of_z w128 b)) (to_z w128 (of_z w128 h)))
    (in_ticks (to_z w128 (of_z w128 b)) (to_z w128 (of_z w128 h))) (to_z w64 (of_z w64 w))
    → r ≡ lower_end bounds bounds (in_ticks b h) (in_ticks b h) w
lower_plain b h w r bounds fb fh fw e =
    e ∙ ap (λ (z : ℤ). lower_end bounds bounds (in_ticks z (to_z w128 (of_z w128 h)))
    (in_ticks z (to_z w128 (of_z w128 h))) (to_z w64 (of_z w64 w))) (to_z-of_z w128 b fb)
    ∙ ap (λ (z : ℤ). lower_end bounds bounds (in_ticks b z) (in_ticks b z) (to_z w64 (of_z w64 w)))
    (to_z-of_z w128 h fh)
    ∙ ap (λ (z : ℤ). lower_end bounds bounds (in_ticks b h) (in_ticks b h) z) (to_z-of_z w64 w fw)

pub upper_plain : (b h w r : ℤ) (bounds : Bounds) → SFits w128 b → SFits w128 h → SFits w64 w
    → r ≡ upper_end bounds bounds (in_ticks (to_z w128 (of_z w128 b)) (to_z w128 (of_z w128 h)))
    (in_ticks (to_z w128 (of_z w128 b)) (to_z w128 (of_z w128 h))) (to_z w64 (of_z w64 w))
    → r ≡ upper_end bounds bounds (in_ticks b h) (in_ticks b h) w
upper_plain b h w r bounds fb fh fw e =
    e ∙ ap (λ (z : ℤ). upper_end bounds bounds (in_ticks z (to_z w128 (of_z w128 h)))
    (in_ticks z (to_z w128 (of_z w128 h))) (to_z w64 (of_z w64 w))) (to_z-of_z w128 b fb)
    ∙ ap (λ (z : ℤ). upper_end bounds bounds (in_ticks b z) (in_ticks b z) (to_z w64 (of_z w64 w)))
    (to_z-of_z w128 h fh)
    ∙ ap (λ (z : ℤ). upper_end bounds bounds (in_ticks b h) (in_ticks b h) z) (to_z-of_z w64 w fw)

-- ---- ends of contents

pub lower_held : (b : ℤ) (bounds : Limits) (n w h r : ℤ) → pos 1 ≤ℤ b → bounds.least <ℤ bounds.most
    → h ≡ held_in b bounds n
    → r ≡ lower_end (bounds_of bounds) (bounds_of bounds) (in_ticks b h) (in_ticks b h) w
    → r ≡ lower_end (bounds_of bounds) (bounds_of bounds) (in_ticks b n) (in_ticks b n) w
lower_held b bounds n w h r some apart e f =
    f ∙ ap (λ (z : ℤ). lower_end (bounds_of bounds) (bounds_of bounds) (in_ticks b z) (in_ticks b z) w) e
    ∙ held_end b bounds n some apart (bounds_of bounds) (λ (x : Rational). int_max bounds.least (floor x -ℤ w))

pub upper_held : (b : ℤ) (bounds : Limits) (n w h r : ℤ) → pos 1 ≤ℤ b → bounds.least <ℤ bounds.most
    → h ≡ held_in b bounds n
    → r ≡ upper_end (bounds_of bounds) (bounds_of bounds) (in_ticks b h) (in_ticks b h) w
    → r ≡ upper_end (bounds_of bounds) (bounds_of bounds) (in_ticks b n) (in_ticks b n) w
upper_held b bounds n w h r some apart e f =
    f ∙ ap (λ (z : ℤ). upper_end (bounds_of bounds) (bounds_of bounds) (in_ticks b z) (in_ticks b z) w) e
    ∙ held_end b bounds n some apart (bounds_of bounds) (λ (x : Rational). int_min bounds.most (ceiling x +ℤ w))

-- ---- a cylinder

exact-is : (area s : ℕ) (b d level q : ℤ) → b ≡ pos (86400 * area) → d ≡ pos (s * 10 ^ 15)
    → in_ticks b ((b *ℤ level) +ℤ (d *ℤ q)) ≡ exact_content (Cylinder area) (level_stock level) q s
exact-is area s b d level q e f = rw (e, f) refl

pub cylinder_lower : (area s : ℕ) (b d level q w h r : ℤ) (bounds : Limits) (ends : Bounds) → b ≡ pos (86400 * area)
    → d ≡ pos (s * 10 ^ 15) → bounds_of bounds ≡ ends
    → pos 1 ≤ℤ b → bounds.least <ℤ bounds.most → h ≡ held_in b bounds ((b *ℤ level) +ℤ (d *ℤ q))
    → r ≡ lower_end (bounds_of bounds) (bounds_of bounds) (in_ticks b h) (in_ticks b h) w
    → r ≡ lower_end ends ends (exact_content (Cylinder area) (level_stock level) q s)
    (exact_content (Cylinder area) (level_stock level) q s) w
cylinder_lower area s b d level q w h r bounds ends eb ed ee some apart eh er =
    lower_held b bounds ((b *ℤ level) +ℤ (d *ℤ q)) w h r some apart eh er
    ∙ ap (λ (x : Rational). lower_end (bounds_of bounds) (bounds_of bounds) x x w) (exact-is area s b d level q eb ed)
    ∙ ap (λ (k : Bounds). lower_end k k (exact_content (Cylinder area) (level_stock level) q s)
    (exact_content (Cylinder area) (level_stock level) q s) w) ee

pub cylinder_upper : (area s : ℕ) (b d level q w h r : ℤ) (bounds : Limits) (ends : Bounds) → b ≡ pos (86400 * area)
    → d ≡ pos (s * 10 ^ 15) → bounds_of bounds ≡ ends
    → pos 1 ≤ℤ b → bounds.least <ℤ bounds.most → h ≡ held_in b bounds ((b *ℤ level) +ℤ (d *ℤ q))
    → r ≡ upper_end (bounds_of bounds) (bounds_of bounds) (in_ticks b h) (in_ticks b h) w
    → r ≡ upper_end ends ends (exact_content (Cylinder area) (level_stock level) q s)
    (exact_content (Cylinder area) (level_stock level) q s) w
cylinder_upper area s b d level q w h r bounds ends eb ed ee some apart eh er =
    upper_held b bounds ((b *ℤ level) +ℤ (d *ℤ q)) w h r some apart eh er
    ∙ ap (λ (x : Rational). upper_end (bounds_of bounds) (bounds_of bounds) x x w) (exact-is area s b d level q eb ed)
    ∙ ap (λ (k : Bounds). upper_end k k (exact_content (Cylinder area) (level_stock level) q s)
    (exact_content (Cylinder area) (level_stock level) q s) w) ee

-- ---- numbers that are moved, as the code has them

pub floor_moved : (least n f w r : ℤ) → SFits w128 n → SFits w64 w → SFits w64 r → n ≡ f
    → r ≡ int_max least (to_z w128 (of_z w128 n) -ℤ to_z w64 (of_z w64 w))
    → to_z w64 (of_z w64 r) ≡ int_max least (f -ℤ w)
floor_moved least n f w r fn fw fr e g =
    to_z-of_z w64 r fr ∙ g ∙ ap (λ (z : ℤ). int_max least (z -ℤ to_z w64 (of_z w64 w))) (to_z-of_z w128 n fn ∙ e)
    ∙ ap (λ (z : ℤ). int_max least (f -ℤ z)) (to_z-of_z w64 w fw)

pub ceiling_moved : (most n f w r : ℤ) → SFits w128 n → SFits w64 w → SFits w64 r → n ≡ f
    → r ≡ int_min most (to_z w128 (of_z w128 n) +ℤ to_z w64 (of_z w64 w))
    → to_z w64 (of_z w64 r) ≡ int_min most (f +ℤ w)
ceiling_moved most n f w r fn fw fr e g =
    to_z-of_z w64 r fr ∙ g ∙ ap (λ (z : ℤ). int_min most (z +ℤ to_z w64 (of_z w64 w))) (to_z-of_z w128 n fn ∙ e)
    ∙ ap (λ (z : ℤ). int_min most (f +ℤ z)) (to_z-of_z w64 w fw)

-- held within the tank's levels and then moved
module _ (tank : Tank) (levels : Limits) (n h f w r : ℤ) (are : bounds_of levels ≡ level_bounds tank)
    (fn : SFits w128 n) (fh : SFits w128 h) (fw : SFits w64 w) (fr : SFits w64 r)
    (exact : f ≡ int_max tank.minimum (int_min n tank.maximum))
    (within : h ≡ int_max levels.least (int_min (to_z w128 (of_z w128 n)) levels.most)) where
  held-level : h ≡ f
  held-level =
      within
      ∙ ap (λ (k : Bounds). int_max k.least (int_min (to_z w128 (of_z w128 n)) k.most)) are
      ∙ ap (λ (z : ℤ). int_max tank.minimum (int_min z tank.maximum)) (to_z-of_z w128 n fn)
      ∙ sym exact

  pub floor_held : r ≡ int_max levels.least (to_z w128 (of_z w128 h) -ℤ to_z w64 (of_z w64 w))
      → to_z w64 (of_z w64 r) ≡ int_max tank.minimum (f -ℤ w)
  floor_held g = floor_moved levels.least h f w r fh fw fr held-level g
      ∙ ap (λ (k : Bounds). int_max k.least (f -ℤ w)) are

  pub ceiling_held : r ≡ int_min levels.most (to_z w128 (of_z w128 h) +ℤ to_z w64 (of_z w64 w))
      → to_z w64 (of_z w64 r) ≡ int_min tank.maximum (f +ℤ w)
  ceiling_held g = ceiling_moved levels.most h f w r fh fw fr held-level g
      ∙ ap (λ (k : Bounds). int_min k.most (f +ℤ w)) are

-- ---- a tank with a volume curve

-- the exact volume after some seconds, in parts
abbrev pub volume_parts : ℤ → ℕ → ℤ → ℤ
volume_parts v s q = (pos 864 *ℤ v) +ℤ (pos s *ℤ q)

module _ (tank : Tank) (points : List VolumePoint) (volumes : Limits) (are : AreVolumes tank points volumes)
    (v q h : ℤ) (s : ℕ)
    (held : h ≡ held_in (pos 864) volumes (volume_parts v s q)) (w r : ℤ) where
  pub volume_lower : r ≡ lower_end (bounds_of volumes) (bounds_of volumes) (in_ticks (pos 864) h)
      (in_ticks (pos 864) h) w
      → r ≡ lower_end (content_bounds (Curve points) tank) (content_bounds (Curve points) tank)
      (in_ticks (pos 864) (volume_parts v s q)) (in_ticks (pos 864) (volume_parts v s q)) w
  volume_lower e =
      lower_held (pos 864) volumes (volume_parts v s q) w h r (omega (arith, ints)) are.range.apart held e
      ∙ ap (λ (k : Bounds). lower_end k k (in_ticks (pos 864) (volume_parts v s q))
      (in_ticks (pos 864) (volume_parts v s q)) w) are.value

  pub volume_upper : r ≡ upper_end (bounds_of volumes) (bounds_of volumes) (in_ticks (pos 864) h)
      (in_ticks (pos 864) h) w
      → r ≡ upper_end (content_bounds (Curve points) tank) (content_bounds (Curve points) tank)
      (in_ticks (pos 864) (volume_parts v s q)) (in_ticks (pos 864) (volume_parts v s q)) w
  volume_upper e =
      upper_held (pos 864) volumes (volume_parts v s q) w h r (omega (arith, ints)) are.range.apart held e
      ∙ ap (λ (k : Bounds). upper_end k k (in_ticks (pos 864) (volume_parts v s q))
      (in_ticks (pos 864) (volume_parts v s q)) w) are.value

  along : (f : Rational → ℤ)
      → end_of (content_bounds (Curve points) tank) (level_bounds tank) (in_ticks (pos 864) h)
      (f (in_ticks (pos 864) h))
      ≡ end_of (content_bounds (Curve points) tank) (level_bounds tank) (in_ticks (pos 864) (volume_parts v s q))
      (f (in_ticks (pos 864) (volume_parts v s q)))
  along f =
      ap (λ (z : ℤ). end_of (content_bounds (Curve points) tank) (level_bounds tank) (in_ticks (pos 864) z)
      (f (in_ticks (pos 864) z))) held
      ∙ sym (ap (λ (k : Bounds). end_of k (level_bounds tank)
      (in_ticks (pos 864) (held_in (pos 864) volumes (volume_parts v s q)))
      (f (in_ticks (pos 864) (held_in (pos 864) volumes (volume_parts v s q))))) are.value)
      ∙ held_end (pos 864) volumes (volume_parts v s q) (omega (arith, ints)) are.range.apart (level_bounds tank) f
      ∙ ap (λ (k : Bounds). end_of k (level_bounds tank) (in_ticks (pos 864) (volume_parts v s q))
      (f (in_ticks (pos 864) (volume_parts v s q)))) are.value

  pub level_lower : r ≡ lower_level (Curve points) tank (in_ticks (pos 864) h) w
      → r ≡ lower_level (Curve points) tank (in_ticks (pos 864) (volume_parts v s q)) w
  level_lower e = e ∙ along (λ (x : Rational). int_max tank.minimum (floor (level_at 1 (Curve points) tank x) -ℤ w))

  pub level_upper : r ≡ upper_level (Curve points) tank (in_ticks (pos 864) h) w
      → r ≡ upper_level (Curve points) tank (in_ticks (pos 864) (volume_parts v s q)) w
  level_upper e = e ∙ along (λ (x : Rational). int_min tank.maximum (ceiling (level_at 1 (Curve points) tank x) +ℤ w))

pub stocks_are : (a b k d x y z u : ℤ) → a ≡ x → b ≡ y → k ≡ z → d ≡ u
    → (let s : Stocks = record { level = record { lo = a; hi = b }; volume = record { lo = k; hi = d } } in s)
    ≡ record { level = record { lo = x; hi = y }; volume = record { lo = z; hi = u } }
stocks_are a b k d x y z u e f g h = rw (e, f, g, h) refl
