-- Values at two scales: one in T-th parts at most another in U-th parts.
use Rattle.std.proofs.Common.{◌≡◌, ℕ, ◌*◌, ◌<◌, ℤ, pos, ◌*ℤ◌, ◌≤ℤ◌, sym, ap, subst, ◌∙◌, arith}
use Rattle.std.proofs.lemmas.Int.{ints}
use Rattle.hyd_num.proofs.Integers.{times_rises, times_reflects, times_times, one_times}
use Rattle.hyd_num.specs.Rational.{Rational}
use Rattle.hyd_lemmas.proofs.Integers.{exchanged}

-- r in T-th parts is at most s in U-th parts
pub record Leads (T U : ℕ) (r s : Rational) : Type 0 where
  pub crossed : (pos s.den *ℤ (pos U *ℤ r.num)) ≤ℤ (pos r.den *ℤ (pos T *ℤ s.num))

-- r in T-th parts is at most a whole number, at least one
abbrev pub UpTo : ℕ → Rational → ℤ → Type 0
UpTo T r v = r.num ≤ℤ (pos r.den *ℤ (pos T *ℤ v))

abbrev pub From : ℕ → Rational → ℤ → Type 0
From T r v = (pos r.den *ℤ (pos T *ℤ v)) ≤ℤ r.num

pub moved : (a b c d : ℕ) (z : ℤ) → pos a *ℤ (pos b *ℤ (pos c *ℤ (pos d *ℤ z))) ≡ pos c
    *ℤ (pos d *ℤ (pos a *ℤ (pos b *ℤ z)))
moved a b c d z =
    times_times a b (pos c *ℤ (pos d *ℤ z)) ∙ ap (λ (w : ℤ). pos (a * b) *ℤ w) (times_times c d z)
    ∙ exchanged (c * d) (a * b) z
    ∙ sym (times_times c d (pos (a * b) *ℤ z)) ∙ ap (λ (w : ℤ). pos c *ℤ (pos d *ℤ w)) (sym (times_times a b z))

-- along a whole number between
pub through : (T U : ℕ) (r s : Rational) (v : ℤ) → UpTo T r v → From U s v → Leads T U r s
through T U r s v most least = record {
  crossed =
      let a = times_rises s.den (pos U *ℤ r.num) (pos U *ℤ (pos r.den *ℤ (pos T *ℤ v)))
      (times_rises U r.num (pos r.den *ℤ (pos T *ℤ v)) most) in
      let b = times_rises r.den (pos T *ℤ (pos s.den *ℤ (pos U *ℤ v))) (pos T *ℤ s.num)
      (times_rises T (pos s.den *ℤ (pos U *ℤ v)) s.num least) in
      let same : pos s.den *ℤ (pos U *ℤ (pos r.den *ℤ (pos T *ℤ v))) ≡ pos r.den
      *ℤ (pos T *ℤ (pos s.den *ℤ (pos U *ℤ v))) = moved s.den U r.den T v in
      omega (arith, ints, a, b, same);
}

pub one-within : (n : ℕ) (z : ℤ) → pos n *ℤ (pos 1 *ℤ z) ≡ pos n *ℤ z
one-within n z = ap (λ (w : ℤ). pos n *ℤ w) (one_times z)

-- ---- whole numbers at both

module _ (T U : ℕ) (y x : Rational) (leads : Leads T U y x) where
  both-ways : (t : ℤ) → pos x.den *ℤ (pos U *ℤ (pos y.den *ℤ (pos T *ℤ t))) ≡ pos y.den
      *ℤ (pos T *ℤ (pos x.den *ℤ (pos U *ℤ t)))
  both-ways t = moved x.den U y.den T t

  -- what y is at or above, x is, too
  pub passes-up : (t : ℤ) → 0 < T → 0 < y.den → (pos y.den *ℤ (pos T *ℤ t)) ≤ℤ y.num
      → (pos x.den *ℤ (pos U *ℤ t)) ≤ℤ x.num
  passes-up t some above le = times_reflects T (pos x.den *ℤ (pos U *ℤ t)) x.num some
      (times_reflects y.den (pos T *ℤ (pos x.den *ℤ (pos U *ℤ t))) (pos T *ℤ x.num) above
      (let a = times_rises x.den (pos U *ℤ (pos y.den *ℤ (pos T *ℤ t))) (pos U *ℤ y.num)
      (times_rises U (pos y.den *ℤ (pos T *ℤ t)) y.num le) in
      let b = leads.crossed in omega (arith, ints, a, b, both-ways t)))

  -- what x is at or below, y is, too
  pub passes-down : (t : ℤ) → 0 < U → 0 < x.den → x.num ≤ℤ (pos x.den *ℤ (pos U *ℤ t))
      → y.num ≤ℤ (pos y.den *ℤ (pos T *ℤ t))
  passes-down t some above le = times_reflects U y.num (pos y.den *ℤ (pos T *ℤ t)) some
      (times_reflects x.den (pos U *ℤ y.num) (pos U *ℤ (pos y.den *ℤ (pos T *ℤ t))) above
      (let a = times_rises y.den (pos T *ℤ x.num) (pos T *ℤ (pos x.den *ℤ (pos U *ℤ t)))
      (times_rises T x.num (pos x.den *ℤ (pos U *ℤ t)) le) in
      let b = leads.crossed in omega (arith, ints, a, b, both-ways t)))

-- the same against ticks
pub raised : (S : ℕ) (t : ℤ) (y x : Rational) → 0 < y.den → Leads 1 S y x → (pos y.den *ℤ t) ≤ℤ y.num
    → (pos x.den *ℤ (pos S *ℤ t)) ≤ℤ x.num
raised S t y x some under le = passes-up 1 S y x under t (omega arith) some
    (subst (λ (z : ℤ). z ≤ℤ y.num) (sym (one-within y.den t)) le)

pub sunk : (S : ℕ) (t : ℤ) (y x : Rational) → 0 < S → 0 < x.den → Leads 1 S y x → x.num ≤ℤ (pos x.den *ℤ (pos S *ℤ t))
    → y.num ≤ℤ (pos y.den *ℤ t)
sunk S t y x some above under le = subst (λ (z : ℤ). y.num ≤ℤ z) (one-within y.den t)
    (passes-down 1 S y x under t some above le)

pub lowered : (S : ℕ) (t : ℤ) (y x : Rational) → 0 < y.den → Leads S 1 x y → y.num ≤ℤ (pos y.den *ℤ t)
    → x.num ≤ℤ (pos x.den *ℤ (pos S *ℤ t))
lowered S t y x some over le = passes-down S 1 x y over t (omega arith) some
    (subst (λ (z : ℤ). y.num ≤ℤ z) (sym (one-within y.den t)) le)

pub risen : (S : ℕ) (t : ℤ) (y x : Rational) → 0 < S → 0 < x.den → Leads S 1 x y
    → (pos x.den *ℤ (pos S *ℤ t)) ≤ℤ x.num → (pos y.den *ℤ t) ≤ℤ y.num
risen S t y x some above over le = subst (λ (z : ℤ). z ≤ℤ y.num) (one-within y.den t)
    (passes-up S 1 x y over t some above le)

-- the same at one scale
pub above-too : (t : ℤ) (y x : Rational) → 0 < y.den → Leads 1 1 y x → (pos y.den *ℤ t) ≤ℤ y.num
    → (pos x.den *ℤ t) ≤ℤ x.num
above-too t y x some leads le = subst (λ (z : ℤ). z ≤ℤ x.num) (one-within x.den t) (raised 1 t y x some leads le)

pub below-too : (t : ℤ) (y x : Rational) → 0 < x.den → Leads 1 1 y x → x.num ≤ℤ (pos x.den *ℤ t)
    → y.num ≤ℤ (pos y.den *ℤ t)
below-too t y x some leads le = subst (λ (z : ℤ). y.num ≤ℤ z) (one-within y.den t) (lowered 1 t x y some leads le)
