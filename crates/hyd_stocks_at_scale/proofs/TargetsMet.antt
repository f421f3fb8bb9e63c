-- Contents that stand for target levels, and when they are met.
use Rattle.std.proofs.Common.{◌≡◌, ℕ, ◌*◌, ◌<◌, ◌↔◌, ℤ, pos, neg_ℤ, ◌+ℤ◌, ◌-ℤ◌, ◌*ℤ◌, ◌≤ℤ◌, ◌<ℤ◌, Bool}
use Rattle.std.proofs.Common.{true, false, IsTrue, sym, ap, subst, ◌∙◌, arith, List}
use Rattle.std.specs.Int.{int_min}
use Rattle.std.proofs.lemmas.Int.{ints}
use Rattle.hyd_num.proofs.Integers.{times_neg}
use Rattle.hyd_num.specs.Rational.{floor, ceiling}
use Rattle.hyd_net.specs.Curves.{volume_at}
use Rattle.hyd_spec.specs.ProgramTypes.{Tank, VolumePoint}
use Rattle.hyd_spec.specs.Tank.{Stock, Walls, Cylinder, Curve, exact_content, has_reached}
use Rattle.hyd_spec_certificates.specs.FirstSeconds.{IsFirstSecond}
use Rattle.hyd_theorems_on_definitions.proofs.ValuesByContent.{above-yes, above-from, below-yes, below-from}
use Rattle.hyd_tank.specs.StockIntervals.{IsBasin}
use Rattle.hyd_tank.specs.Contents.{IsFirstMeeting}
use Rattle.hyd_tank.proofs.RateMeetsNeed.{first_like}
use Rattle.hyd_stocks_at_scale.specs.declared.motions.Motion.{Motion}
use Rattle.hyd_stocks_at_scale.specs.declared.first_seconds.Target.{Target}
use Rattle.hyd_stocks_at_scale.specs.declared.first_seconds.Target.TheVariants.{Always, Never, Shares}
use Rattle.hyd_stocks_at_scale.specs.Motions.{Moves, exact_shares}
use Rattle.hyd_stocks_at_scale.specs.Targets.{Meets, IsFirstMet, StandsFor}
use Rattle.hyd_stocks_at_scale.proofs.ContentsInShares.{from_shares, to_shares, up_to_shares, below_shares}
use Rattle.hyd_stocks_at_scale.proofs.TargetVolumes.{times_volume, risen_always, risen_never, risen_met, fallen_always}
use Rattle.hyd_stocks_at_scale.proofs.TargetVolumes.{fallen_never, fallen_least, fallen_met}

-- ---- cylinders

module _ (S area : ℕ) (tank : Tank) (level z : ℤ) (e : z ≡ pos (27 * area) *ℤ (pos S *ℤ level)) (stock : Stock) (q : ℤ)
    (motion : Motion) (seconds : ℕ) (moves : Moves (Cylinder area) stock q motion) where
  abbrev y : ℤ
  y = pos S *ℤ level

  at-level : z ≡ motion.breadth *ℤ y
  at-level = e ∙ sym (ap (λ (b : ℤ). b *ℤ y) moves.breadth)

  broad : pos 1 ≤ℤ motion.breadth
  broad = moves.ranges.breadth.at_least

  rises : IsTrue (has_reached S (Cylinder area) tank stock q true level seconds) ↔ (z ≤ℤ exact_shares motion seconds)
  rises =
      let x = exact_content (Cylinder area) stock q seconds in (
        (λ r. let a = to_shares motion.breadth (exact_shares motion seconds) x broad (moves.exact seconds) y
            (above-yes S level x r) in omega (arith, ints, a, at-level)),
        (λ m. above-from S level x (from_shares motion.breadth (exact_shares motion seconds) x broad
            (moves.exact seconds) y (omega (arith, ints, m, at-level)))),
      )

  falls : IsTrue (has_reached S (Cylinder area) tank stock q false level seconds) ↔ (exact_shares motion seconds ≤ℤ z)
  falls =
      let x = exact_content (Cylinder area) stock q seconds in (
        (λ r. let a = below_shares motion.breadth (exact_shares motion seconds) x broad (moves.exact seconds) y
            (below-yes S level x r) in omega (arith, ints, a, at-level)),
        (λ m. below-from S level x (up_to_shares motion.breadth (exact_shares motion seconds) x broad
            (moves.exact seconds) y (omega (arith, ints, m, at-level)))),
      )

pub cylinder_stands : (S area : ℕ) (tank : Tank) (level z : ℤ) → z ≡ pos (27 * area) *ℤ (pos S *ℤ level)
    → (rising : Bool) → StandsFor S (Cylinder area) tank level rising (Shares z)
cylinder_stands S area tank level z e true = λ stock q motion seconds moves.
    rises S area tank level z e stock q motion seconds moves
cylinder_stands S area tank level z e false = λ stock q motion seconds moves.
    falls S area tank level z e stock q motion seconds moves

-- ---- tanks with a volume curve

pub shares_are : (points : List VolumePoint) (stock : Stock) (q : ℤ) (motion : Motion) (seconds : ℕ)
    → Moves (Curve points) stock q motion → exact_shares motion seconds
    ≡ (pos 864 *ℤ stock.volume) +ℤ (pos seconds *ℤ q)
shares_are points stock q motion seconds moves =
    let is = (moves.exact seconds).same in
    let b = ap (λ (z : ℤ). z *ℤ ((pos 864 *ℤ stock.volume) +ℤ (pos seconds *ℤ q))) moves.breadth in
    omega (arith, ints, is, b)

module _ (S : ℕ) (some : 0 < S) (tank : Tank) (points : List VolumePoint) (basin : IsBasin tank points)
    (level : ℤ) where
  pub risen_always_stands : level ≤ℤ tank.minimum → StandsFor S (Curve points) tank level true Always
  risen_always_stands low = λ stock q motion seconds moves. (
    (λ r. tt),
    (λ m. risen_always S some tank points basin stock q seconds level low),
  )

  pub risen_never_stands : tank.maximum <ℤ level → StandsFor S (Curve points) tank level true Never
  risen_never_stands high = λ stock q motion seconds moves. (
    (λ r. risen_never S some tank points basin stock q seconds level high r),
    (λ m. absurd m),
  )

  pub risen_stands : (z : ℤ) → tank.minimum <ℤ level → level ≤ℤ tank.maximum
      → z ≡ int_min (ceiling (times_volume (864 * S) points level))
      (pos 864 *ℤ (pos S *ℤ volume_at points tank.maximum))
      → StandsFor S (Curve points) tank level true (Shares z)
  risen_stands z over within e = λ stock q motion seconds moves.
      let is = shares_are points stock q motion seconds moves in
      subst (λ (x : ℤ). IsTrue (has_reached S (Curve points) tank stock q true level seconds) ↔ (z ≤ℤ x)) (sym is)
      (risen_met S some tank points basin stock q seconds level z over within e)

  pub fallen_always_stands : tank.maximum ≤ℤ level → StandsFor S (Curve points) tank level false Always
  fallen_always_stands high = λ stock q motion seconds moves. (
    (λ r. tt),
    (λ m. fallen_always S some tank points basin stock q seconds level high),
  )

  pub fallen_never_stands : level <ℤ tank.minimum → StandsFor S (Curve points) tank level false Never
  fallen_never_stands low = λ stock q motion seconds moves. (
    (λ r. fallen_never S some tank points basin stock q seconds level low r),
    (λ m. absurd m),
  )

  pub fallen_least_stands : (z : ℤ) → level ≡ tank.minimum
      → z ≡ pos 864 *ℤ (pos S *ℤ volume_at points tank.minimum)
      → StandsFor S (Curve points) tank level false (Shares z)
  fallen_least_stands z same e = λ stock q motion seconds moves.
      let is = shares_are points stock q motion seconds moves in
      subst (λ (y : ℤ). IsTrue (has_reached S (Curve points) tank stock q false y seconds) ↔
      (exact_shares motion seconds ≤ℤ z)) (sym same)
      (subst (λ (y : ℤ). IsTrue (has_reached S (Curve points) tank stock q false tank.minimum seconds) ↔
      (exact_shares motion seconds ≤ℤ y)) (sym e)
      (subst (λ (x : ℤ). IsTrue (has_reached S (Curve points) tank stock q false tank.minimum seconds) ↔
      (x ≤ℤ (pos 864 *ℤ (pos S *ℤ volume_at points tank.minimum)))) (sym is)
      (fallen_least S some tank points basin stock q seconds)))

  pub fallen_stands : (z : ℤ) → tank.minimum <ℤ level → level <ℤ tank.maximum
      → z ≡ int_min (floor (times_volume (864 * S) points level))
      ((pos 864 *ℤ (pos S *ℤ volume_at points tank.maximum)) -ℤ pos 1)
      → StandsFor S (Curve points) tank level false (Shares z)
  fallen_stands z over within e = λ stock q motion seconds moves.
      let is = shares_are points stock q motion seconds moves in
      subst (λ (x : ℤ). IsTrue (has_reached S (Curve points) tank stock q false level seconds) ↔ (x ≤ℤ z)) (sym is)
      (fallen_met S some tank points basin stock q seconds level z over within e)

-- ---- first seconds

pub rises_met : (motion : Motion) (need z : ℤ) (cap e : ℕ) → need ≡ z -ℤ motion.start
    → IsFirstMeeting need motion.rate cap e → IsFirstMet motion (Shares z) true cap e
rises_met motion need z cap e same first =
    first_like (λ s. need ≤ℤ (pos s *ℤ motion.rate)) (λ s. z ≤ℤ exact_shares motion s) cap e
    (λ s some h. omega (arith, ints, h, same)) (λ s some h. omega (arith, ints, h, same)) first

pub falls_met : (motion : Motion) (need back z : ℤ) (cap e : ℕ) → need ≡ motion.start -ℤ z → back ≡ neg_ℤ motion.rate
    → IsFirstMeeting need back cap e → IsFirstMet motion (Shares z) false cap e
falls_met motion need back z cap e same turned first =
    first_like (λ s. need ≤ℤ (pos s *ℤ back)) (λ s. exact_shares motion s ≤ℤ z) cap e
    (λ s some h. omega (arith, ints, h, same, speed s)) (λ s some h. omega (arith, ints, h, same, speed s)) first
  where
    speed : (s : ℕ) → pos s *ℤ back ≡ neg_ℤ (pos s *ℤ motion.rate)
    speed s = ap (λ (z : ℤ). pos s *ℤ z) turned ∙ times_neg s motion.rate

pub first_stands : (S : ℕ) (walls : Walls) (tank : Tank) (level : ℤ) (rising : Bool) (target : Target) (stock : Stock)
    (q : ℤ) (motion : Motion) (cap e : ℕ) → StandsFor S walls tank level rising target → Moves walls stock q motion
    → IsFirstMet motion target rising cap e → IsFirstSecond (has_reached S walls tank stock q rising level) cap e
first_stands S walls tank level rising target stock q motion cap e stands moves first =
    first_like (λ s. Meets rising target (exact_shares motion s))
    (λ s. IsTrue (has_reached S walls tank stock q rising level s)) cap e
    (λ s some h. (stands stock q motion s moves).1 h) (λ s some h. (stands stock q motion s moves).0 h) first
