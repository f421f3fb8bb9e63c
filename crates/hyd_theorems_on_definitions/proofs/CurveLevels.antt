-- The level at a volume and the volume at a level undo each other along a curve whose levels and volumes rise.
use Rattle.std.proofs.Common.{◌≡◌, ℕ, ◌*◌, ◌<◌, ℤ, pos, ◌+ℤ◌, ◌-ℤ◌, ◌*ℤ◌, ◌<ℤ◌, sym, ap, subst, ◌∙◌, arith, Bool, List}
use Rattle.std.proofs.Common.{[], ◌∷◌}
use Rattle.std.specs.Prelude.{⊤, unsigned_abs, int_lt, if◌then◌else◌}
use Rattle.std.proofs.Math.IntN.{*ℤ_comm}
use Rattle.std.proofs.lemmas.Int.{ints}
use Rattle.std.proofs.lemmas.Bool.{cond_both}
use Rattle.hyd_num.proofs.Integers.{times_plus, times_minus, times_rises, times_one, times_times}
use Rattle.hyd_num.specs.Rational.{Rational, whole}
use Rattle.hyd_net.specs.Curves.{Knot, on_line, between, value_from, volume_knots}
use Rattle.hyd_spec.specs.ProgramTypes.{VolumePoint}
use Rattle.hyd_spec.specs.Tank.{level_knots}
use Rattle.hyd_lemmas.proofs.Integers.{exchanged}
use Rattle.hyd_lemmas.proofs.BooleanTests.{lt-from, lt-no, lt-yes}
use Rattle.hyd_theorems_on_definitions.proofs.RisingLines.{Follows, AreClimbing, line, line-is, spread, difference-is}
use Rattle.hyd_theorems_on_definitions.proofs.RisingLines.{from-first, some-den}

-- two numbers are one, or both above 0, or both below
pub data AreAlike (a b : ℤ) : Type 0 where
  same : a ≡ b → AreAlike a b
  above : pos 0 <ℤ a → pos 0 <ℤ b → AreAlike a b
  below : a <ℤ pos 0 → b <ℤ pos 0 → AreAlike a b

-- a point lies above and after another
pub record Rises (p q : VolumePoint) : Type 0 where
  pub levels : p.level <ℤ q.level
  pub volumes : p.volume <ℤ q.volume

abbrev pub AreRisingPoints : VolumePoint → List VolumePoint → Type 0
AreRisingPoints p [] = ⊤
AreRisingPoints p (q ∷ rest) = Rises p q × AreRisingPoints q rest

abbrev pub at-level : VolumePoint → Knot
at-level p = record { place = p.level; value = p.volume }

abbrev pub at-volume : VolumePoint → Knot
at-volume p = record { place = p.volume; value = p.level }

level-climbs : (p q : VolumePoint) → Rises p q → Follows (at-volume p) (at-volume q)
level-climbs p q r = record {
  later = let v = r.volumes in omega (arith, ints, v);
  higher = let l = r.levels in
      omega (arith, ints, l);
}

volume-climbs : (p q : VolumePoint) → Rises p q → Follows (at-level p) (at-level q)
volume-climbs p q r = record {
  later = let l = r.levels in omega (arith, ints, l);
  higher = let v = r.volumes in
      omega (arith, ints, v);
}

levels-climb : (p : VolumePoint) (points : List VolumePoint) → AreRisingPoints p points
    → AreClimbing (at-volume p) (level_knots points)
levels-climb p [] rising = tt
levels-climb p (q ∷ rest) rising = (level-climbs p q rising.0, levels-climb q rest rising.1)

pub volumes-climb : (p : VolumePoint) (points : List VolumePoint) → AreRisingPoints p points
    → AreClimbing (at-level p) (volume_knots points)
volumes-climb p [] rising = tt
volumes-climb p (q ∷ rest) rising = (volume-climbs p q rising.0, volumes-climb q rest rising.1)

-- ---- one line

abbrev width-of : Knot → Knot → ℕ
width-of knot next = unsigned_abs (next.place -ℤ knot.place)

abbrev rise-of : Knot → Knot → ℕ
rise-of knot next = unsigned_abs (next.value -ℤ knot.value)

-- what two neighbours that lie apart have is a line
between-is : (T : ℕ) (knot next : Knot) (x : ℤ) → Follows knot next → knot.place <ℤ next.place
    → between T knot next x ≡ record {
      num = line T (width-of knot next) (rise-of knot next) knot.place knot.value x;
      den = width-of knot next;
    }
between-is T knot next x f apart =
    subst (λ (b : Bool). (if b then on_line T knot next x else whole
    (pos T *ℤ (if int_lt x (pos T *ℤ knot.place) then knot.value else next.value)))
    ≡ record {
      num = line T (width-of knot next) (rise-of knot next) knot.place knot.value x;
      den = width-of knot next;
    }) (sym (lt-from knot.place next.place apart))
    (ap (λ (z : ℤ). record { num = z; den = width-of knot next }) (line-is T knot next x f))

-- before the second place a line that rises is below its value
line-below : (T W D : ℕ) (place value x : ℤ) → 0 < D → x <ℤ (pos T *ℤ (place +ℤ pos W))
    → line T W D place value x <ℤ (pos W *ℤ (pos T *ℤ (value +ℤ pos D)))
line-below T W D place value x some lt =
    let a = times_rises D ((x -ℤ (pos T *ℤ place)) +ℤ pos 1) (pos T *ℤ pos W)
    (omega (arith, ints, lt, times_plus T place (pos W))) in
    let same : pos D *ℤ (pos T *ℤ pos W) ≡ pos W *ℤ (pos T *ℤ pos D) =
    times_times D T (pos W) ∙ *ℤ_comm (pos (D * T)) (pos W) ∙ ap (λ (z : ℤ). pos W *ℤ z) (*ℤ_comm (pos D) (pos T)) in
    let apart : pos W *ℤ (pos T *ℤ (value +ℤ pos D)) ≡ (pos W *ℤ (pos T *ℤ value)) +ℤ (pos W *ℤ (pos T *ℤ pos D)) =
    ap (λ (z : ℤ). pos W *ℤ z) (times_plus T value (pos D)) ∙ times_plus W (pos T *ℤ value) (pos T *ℤ pos D) in
    omega (
      arith,
      ints,
      a,
      same,
      apart,
      some,
      spread T W value,
      times_plus D (x -ℤ (pos T *ℤ place)) (pos 1),
      times_one D,
    )

between-below : (T : ℕ) (knot next : Knot) (x : ℤ) → Follows knot next → knot.place <ℤ next.place
    → knot.value <ℤ next.value → x <ℤ (pos T *ℤ next.place)
    → (between T knot next x).num <ℤ (pos (between T knot next x).den *ℤ (pos T *ℤ next.value))
between-below T knot next x f later rises lt =
    let wide = difference-is knot.place next.place f.later in
    let high = difference-is knot.value next.value f.higher in
    let place : knot.place +ℤ pos (width-of knot next) ≡ next.place = omega (arith, ints, wide) in
    let value : knot.value +ℤ pos (rise-of knot next) ≡ next.value = omega (arith, ints, high) in
    subst (λ (r : Rational). r.num <ℤ (pos r.den *ℤ (pos T *ℤ next.value))) (sym (between-is T knot next x f later))
    (subst (λ (v : ℤ). line T (width-of knot next) (rise-of knot next) knot.place knot.value x
    <ℤ (pos (width-of knot next) *ℤ (pos T *ℤ v))) value
    (line-below T (width-of knot next) (rise-of knot next) knot.place knot.value x (omega (arith, ints, rises, high))
    (subst (λ (p : ℤ). x <ℤ (pos T *ℤ p)) (sym place) lt)))

-- how far the level at n is above t, and n above the volume at t, T-fold
abbrev pub over-level : ℕ → Rational → ℤ → ℤ
over-level T r t = r.num -ℤ (pos r.den *ℤ (pos T *ℤ t))

abbrev pub over-volume : ℕ → Rational → ℤ → ℤ
over-volume T f n = (pos f.den *ℤ n) -ℤ (pos T *ℤ f.num)

-- on one line the two are the same
line-same : (T W D : ℕ) (level volume t n : ℤ) → (line T W D volume level n -ℤ (pos W *ℤ (pos T *ℤ t)))
    ≡ ((pos D *ℤ n) -ℤ (pos T *ℤ line 1 D W level volume t))
line-same T W D level volume t n =
    omega (
      arith,
      ints,
      times_minus D n (pos T *ℤ volume),
      times_plus T (pos (1 * D) *ℤ volume) (pos W *ℤ (t -ℤ (pos 1 *ℤ level))),
      inner,
      exchanged D T volume,
      spread T W level,
      outer,
      times_minus T (pos W *ℤ t) (pos W *ℤ level),
      exchanged W T t,
      exchanged W T level,
    )
  where
    inner : pos T *ℤ (pos (1 * D) *ℤ volume) ≡ pos T *ℤ (pos D *ℤ volume)
    inner = ap (λ (d : ℕ). pos T *ℤ (pos d *ℤ volume)) (let e : 1 * D ≡ D = omega arith in e)

    outer : pos T *ℤ (pos W *ℤ (t -ℤ (pos 1 *ℤ level))) ≡ pos T *ℤ ((pos W *ℤ t) -ℤ (pos W *ℤ level))
    outer = ap (λ (w : ℤ). pos T *ℤ w)
        (ap (λ (z : ℤ). pos W *ℤ z) (let e : t -ℤ (pos 1 *ℤ level) ≡ t -ℤ level = omega (arith, ints) in
        e) ∙ times_minus W t level)

neighbours-same : (T : ℕ) (p q : VolumePoint) (t n : ℤ) → Rises p q
    → over-level T (between T (at-volume p) (at-volume q) n) t ≡ over-volume T (between 1 (at-level p) (at-level q) t) n
neighbours-same T p q t n r =
    subst (λ (x : Rational). over-level T x t ≡ over-volume T (between 1 (at-level p) (at-level q) t) n)
    (sym (between-is T (at-volume p) (at-volume q) n (level-climbs p q r) r.volumes))
    (subst (λ (y : Rational). over-level T (record {
      num = line T (width-of (at-volume p) (at-volume q)) (rise-of (at-volume p) (at-volume q)) p.volume p.level n;
      den = width-of (at-volume p) (at-volume q);
    }) t ≡ over-volume T y n)
    (sym (between-is 1 (at-level p) (at-level q) t (volume-climbs p q r) r.levels))
    (line-same T (width-of (at-volume p) (at-volume q)) (rise-of (at-volume p) (at-volume q)) p.level p.volume t n))

-- ---- the curve

-- the level at n lies beyond t as n lies beyond the volume at t
pub levels_undo : (T : ℕ) (p q : VolumePoint) (rest : List VolumePoint) (t n : ℤ) → 0 < T → AreRisingPoints p (q ∷ rest)
    → AreAlike (over-level T (value_from T (at-volume p) (level_knots (q ∷ rest)) n) t)
    (over-volume T (value_from 1 (at-level p) (volume_knots (q ∷ rest)) t) n)
levels_undo T p q [] t n some rising = same (neighbours-same T p q t n rising.0)
levels_undo T p q (r ∷ rest) t n some rising =
    cond_both (int_lt n (pos T *ℤ q.volume)) (between T (at-volume p) (at-volume q) n)
    (value_from T (at-volume q) (level_knots (r ∷ rest)) n)
    (λ (x : Rational). AreAlike (over-level T x t) (over-volume T
    (value_from 1 (at-level p) (volume_knots (q ∷ (r ∷ rest))) t) n))
    (λ e. cond_both (int_lt t (pos 1 *ℤ q.level)) (between 1 (at-level p) (at-level q) t)
    (value_from 1 (at-level q) (volume_knots (r ∷ rest)) t)
    (λ (y : Rational). AreAlike (over-level T (between T (at-volume p) (at-volume q) n) t) (over-volume T y n))
    (λ g. same (neighbours-same T p q t n rising.0))
    (λ g. below
    (let a = between-below T (at-volume p) (at-volume q) n (level-climbs p q rising.0) rising.0.volumes
    rising.0.levels (lt-yes n (pos T *ℤ q.volume) e) in
    let x = between T (at-volume p) (at-volume q) n in
    let c = lt-no t (pos 1 *ℤ q.level) g in
    let b = times_rises x.den (pos T *ℤ q.level) (pos T *ℤ t) (times_rises T q.level t (omega (arith, ints, c))) in
    omega (arith, ints, a, b))
    (let y = value_from 1 (at-level q) (volume_knots (r ∷ rest)) t in
    let c = lt-no t (pos 1 *ℤ q.level) g in
    let a = from-first 1 (at-level q) (volume_knots (r ∷ rest)) t (volumes-climb q (r ∷ rest) rising.1) c in
    let b = times_rises T (pos y.den *ℤ (pos 1 *ℤ q.volume)) y.num a in
    let d = lt-yes n (pos T *ℤ q.volume) e in
    let k = times_rises y.den (n +ℤ pos 1) (pos T *ℤ q.volume) (omega (arith, ints, d)) in
    let dens = some-den 1 (at-level q) (volume_knots (r ∷ rest)) t in
    omega (arith, ints, b, k, dens, swap y.den q.volume, times_plus y.den n (pos 1), times_one y.den))))
    (λ e. cond_both (int_lt t (pos 1 *ℤ q.level)) (between 1 (at-level p) (at-level q) t)
    (value_from 1 (at-level q) (volume_knots (r ∷ rest)) t)
    (λ (y : Rational). AreAlike (over-level T (value_from T (at-volume q) (level_knots (r ∷ rest)) n) t)
    (over-volume T y n))
    (λ g. above
    (let x = value_from T (at-volume q) (level_knots (r ∷ rest)) n in
    let a = from-first T (at-volume q) (level_knots (r ∷ rest)) n (levels-climb q (r ∷ rest) rising.1)
    (lt-no n (pos T *ℤ q.volume) e) in
    let dens = some-den T (at-volume q) (level_knots (r ∷ rest)) n in
    let c = lt-yes t (pos 1 *ℤ q.level) g in
    let b = times_rises x.den (pos T *ℤ (t +ℤ pos 1)) (pos T *ℤ q.level)
    (times_rises T (t +ℤ pos 1) q.level (omega (arith, ints, c))) in
    let more : pos x.den *ℤ (pos T *ℤ (t +ℤ pos 1)) ≡ (pos x.den *ℤ (pos T *ℤ t)) +ℤ (pos x.den *ℤ pos T) =
    ap (λ (z : ℤ). pos x.den *ℤ z) (times_plus T t (pos 1) ∙ ap (λ (z : ℤ). (pos T *ℤ t) +ℤ z) (times_one T))
    ∙ times_plus x.den (pos T *ℤ t) (pos T) in
    let positive = times_rises x.den (pos 1) (pos T) (omega (arith, ints, some)) in
    omega (arith, ints, a, b, more, positive, times_one x.den, dens))
    (let y = between 1 (at-level p) (at-level q) t in
    let a = between-below 1 (at-level p) (at-level q) t (volume-climbs p q rising.0) rising.0.levels rising.0.volumes
    (lt-yes t (pos 1 *ℤ q.level) g) in
    let b = times_rises T (y.num +ℤ pos 1) (pos y.den *ℤ (pos 1 *ℤ q.volume)) (omega (arith, ints, a)) in
    let d = times_rises y.den (pos T *ℤ q.volume) n (lt-no n (pos T *ℤ q.volume) e) in
    omega (arith, ints, b, d, some, swap y.den q.volume, times_plus T y.num (pos 1), times_one T)))
    (λ g. levels_undo T q r rest t n some rising.1))
  where
    swap : (d : ℕ) (v : ℤ) → pos T *ℤ (pos d *ℤ (pos 1 *ℤ v)) ≡ pos d *ℤ (pos T *ℤ v)
    swap d v = ap (λ (z : ℤ). pos T *ℤ (pos d *ℤ z)) (let e : pos 1 *ℤ v ≡ v = omega (arith, ints) in
        e) ∙ exchanged d T v
