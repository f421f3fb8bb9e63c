-- For one inflow a content moves one way, so that over lengths it lies between those after the shortest and after the
-- longest; and what a second adds.
use Rattle.std.proofs.Common.{◌≡◌, ℕ, suc, ◌+◌, ◌-◌, ◌*◌, ◌^◌, ◌≤◌, ℤ, pos, ◌+ℤ◌, ◌*ℤ◌, ◌≤ℤ◌}
use Rattle.std.proofs.Common.{sym, ap}
use Rattle.std.proofs.Common.{◌∙◌, ◌⊎◌, inl, inr, arith, suc-mul}
use Rattle.std.proofs.lemmas.Int.{ints, by_lt_z}
use Rattle.hyd_num.proofs.Integers.{times_plus, times_rises, times_times, times_sum, one_times, times_one_more}
use Rattle.hyd_lemmas.proofs.Integers.{exchanged}
use Rattle.hyd_spec.specs.Tank.{Walls, Cylinder, Curve, Stock, content_of, exact_content}
use Rattle.hyd_spec_certificates.specs.Interval.{Interval}
use Rattle.hyd_spec_certificates.specs.Stocks.{Stocks, least_stock, greatest_stock, exact_least, exact_greatest}
use Rattle.hyd_theorems_on_definitions.specs.LyingInIntervals.{LiesIn, StockLies}
use Rattle.hyd_theorems_on_definitions.proofs.ValuesAtTwoScales.{Leads}
use Rattle.hyd_theorems_on_definitions.proofs.StocksInIntervals.{content-low, content-high}

-- a content and what has flowed in, each at most another
sum-leads : (T U B : ℕ) (a b x y : ℤ) → (pos U *ℤ a) ≤ℤ (pos T *ℤ b) → (pos U *ℤ x) ≤ℤ (pos T *ℤ y)
    → Leads T U (record { num = (pos B *ℤ a) +ℤ x; den = B }) (record { num = (pos B *ℤ b) +ℤ y; den = B })
sum-leads T U B a b x y content flow = record {
  crossed = times_rises B (pos U *ℤ ((pos B *ℤ a) +ℤ x)) (pos T *ℤ ((pos B *ℤ b) +ℤ y))
      (let m = times_rises B (pos U *ℤ a) (pos T *ℤ b) content in
      omega (
        arith,
        ints,
        m,
        flow,
        times_plus U (pos B *ℤ a) x,
        times_plus T (pos B *ℤ b) y,
        exchanged B U a,
        exchanged B T b,
      ));
}

-- what flows in over seconds, in finer seconds
finer : (T U N s t : ℕ) (p q : ℤ) → (pos U *ℤ (pos s *ℤ p)) ≤ℤ (pos T *ℤ (pos t *ℤ q))
    → (pos U *ℤ (pos (s * N) *ℤ p)) ≤ℤ (pos T *ℤ (pos (t * N) *ℤ q))
finer T U N s t p q le =
    let m = times_rises N (pos U *ℤ (pos s *ℤ p)) (pos T *ℤ (pos t *ℤ q)) le in
    let one = times_times s N p in let two = times_times t N q in
    let three = exchanged N s p in let four = exchanged N t q in
    let five = exchanged U N (pos s *ℤ p) in let six = exchanged T N (pos t *ℤ q) in
    let seven : pos U *ℤ (pos (s * N) *ℤ p) ≡ pos U *ℤ (pos N *ℤ (pos s *ℤ p)) =
    ap (λ z. pos U *ℤ z) (sym one ∙ three) in
    let eight : pos T *ℤ (pos (t * N) *ℤ q) ≡ pos T *ℤ (pos N *ℤ (pos t *ℤ q)) =
    ap (λ z. pos T *ℤ z) (sym two ∙ four) in
    omega (arith, ints, m, five, six, seven, eight)

pub content-leads-across : (T U : ℕ) (walls : Walls) (a b : Stock) (p q : ℤ) (s t : ℕ)
    → (pos U *ℤ content_of walls a) ≤ℤ (pos T *ℤ content_of walls b)
    → (pos U *ℤ (pos s *ℤ p)) ≤ℤ (pos T *ℤ (pos t *ℤ q))
    → Leads T U (exact_content walls a p s) (exact_content walls b q t)
content-leads-across T U (Cylinder area) a b p q s t content flow =
    sum-leads T U (86400 * area) a.level b.level (pos (s * 10 ^ 15) *ℤ p) (pos (t * 10 ^ 15) *ℤ q) content
    (finer T U (10 ^ 15) s t p q flow)
content-leads-across T U (Curve points) a b p q s t content flow =
    sum-leads T U 864 a.volume b.volume (pos s *ℤ p) (pos t *ℤ q) content flow

-- more seconds of an inflow of at least 0 are at least as much
more-seconds : (s t : ℕ) (q : ℤ) → s ≤ t → pos 0 ≤ℤ q → (pos s *ℤ q) ≤ℤ (pos t *ℤ q)
more-seconds s t q le some =
    let rest = times_rises (t - s) (pos 0) q some in
    let none : pos (t - s) *ℤ pos 0 ≡ pos 0 = nothing (t - s) in
    let sum = times_sum s (t - s) q in
    let e : pos (s + (t - s)) *ℤ q ≡ pos t *ℤ q = ap (λ (n : ℕ). pos n *ℤ q) (omega (arith, le)) in
    omega (arith, ints, rest, none, sum, e)
  where
    nothing : (n : ℕ) → pos n *ℤ pos 0 ≡ pos 0
    nothing n = omega (arith, ints)

less-seconds : (s t : ℕ) (q : ℤ) → s ≤ t → q ≤ℤ pos 0 → (pos t *ℤ q) ≤ℤ (pos s *ℤ q)
less-seconds s t q le some =
    let rest = times_rises (t - s) q (pos 0) some in
    let none : pos (t - s) *ℤ pos 0 ≡ pos 0 = nothing (t - s) in
    let sum = times_sum s (t - s) q in
    let e : pos (s + (t - s)) *ℤ q ≡ pos t *ℤ q = ap (λ (n : ℕ). pos n *ℤ q) (omega (arith, le)) in
    omega (arith, ints, rest, none, sum, e)
  where
    nothing : (n : ℕ) → pos n *ℤ pos 0 ≡ pos 0
    nothing n = omega (arith, ints)

module _ (S : ℕ) (walls : Walls) (stocks : Stocks) (inflow : Interval) (stock : Stock) (q : ℤ) (s length t : ℕ)
    (lies : StockLies S stocks stock) (flow : LiesIn S inflow q) (from : s ≤ length) (to : length ≤ t) where
  -- by an end at which as much has flowed in
  greatest-at : (e : ℕ) → (pos length *ℤ q) ≤ℤ (pos e *ℤ q)
      → Leads S 1 (exact_content walls stock q length) (exact_greatest walls stocks inflow e)
  greatest-at e more =
      content-leads-across S 1 walls stock (greatest_stock stocks) q inflow.hi length e
      (content-high S walls stocks stock lies)
      (let a = times_rises e q (pos S *ℤ inflow.hi) flow.high in
      omega (arith, ints, a, more, exchanged S e inflow.hi, one_times (pos length *ℤ q)))

  least-at : (e : ℕ) → (pos e *ℤ q) ≤ℤ (pos length *ℤ q)
      → Leads 1 S (exact_least walls stocks inflow e) (exact_content walls stock q length)
  least-at e less =
      content-leads-across 1 S walls (least_stock stocks) stock inflow.lo q e length
      (content-low S walls stocks stock lies)
      (let a = times_rises e (pos S *ℤ inflow.lo) q flow.low in
      omega (arith, ints, a, less, exchanged S e inflow.lo, one_times (pos length *ℤ q)))

  pub above : Leads S 1 (exact_content walls stock q length) (exact_greatest walls stocks inflow s)
      ⊎ Leads S 1 (exact_content walls stock q length) (exact_greatest walls stocks inflow t)
  above = by_lt_z q (pos 0)
      (λ lt. inl (greatest-at s (less-seconds s length q from (omega (arith, ints, lt)))))
      (λ ge. inr (greatest-at t (more-seconds length t q to ge)))

  pub below : Leads 1 S (exact_least walls stocks inflow s) (exact_content walls stock q length)
      ⊎ Leads 1 S (exact_least walls stocks inflow t) (exact_content walls stock q length)
  below = by_lt_z q (pos 0)
      (λ lt. inr (least-at t (less-seconds length t q to (omega (arith, ints, lt)))))
      (λ ge. inl (least-at s (more-seconds s length q from ge)))

-- ---- what a second adds

nothing : (n : ℕ) → pos n *ℤ pos 0 ≡ pos 0
nothing n = omega (arith, ints)

second-adds : (before N : ℕ) (q : ℤ)
    → pos (suc before * N) *ℤ q ≡ (pos (before * N) *ℤ q) +ℤ (pos N *ℤ q)
second-adds before N q = rw suc-mul (times_sum (before * N) N q)

-- a content has got as far as a goal, and then what a second adds is at most h S-fold
step-above : (S B : ℕ) (l g x more n w h : ℤ) → more ≡ x +ℤ n → w ≡ pos 0 → n ≤ℤ (pos S *ℤ h)
    → Leads S 1 (record { num = (pos B *ℤ l) +ℤ x; den = B }) (record { num = (pos B *ℤ g) +ℤ w; den = B })
    → Leads S 1 (record { num = (pos B *ℤ l) +ℤ more; den = B }) (record { num = (pos B *ℤ g) +ℤ h; den = B })
step-above S B l g x more n w h adds none le leads = record {
  crossed =
      let a = leads.crossed in
      let m = times_rises B n (pos S *ℤ h) le in
      let one : pos B *ℤ (pos 1 *ℤ ((pos B *ℤ l) +ℤ more)) ≡ pos B *ℤ (((pos B *ℤ l) +ℤ x) +ℤ n) =
      ap (λ z. pos B *ℤ z) (omega (arith, ints, adds, one_times ((pos B *ℤ l) +ℤ more))) in
      let two = times_plus B ((pos B *ℤ l) +ℤ x) n in
      let three : pos B *ℤ (pos 1 *ℤ ((pos B *ℤ l) +ℤ x)) ≡ pos B *ℤ ((pos B *ℤ l) +ℤ x) =
      ap (λ z. pos B *ℤ z) (one_times ((pos B *ℤ l) +ℤ x)) in
      let four : pos B *ℤ (pos S *ℤ ((pos B *ℤ g) +ℤ h)) ≡ pos B *ℤ ((pos S *ℤ (pos B *ℤ g)) +ℤ (pos S *ℤ h)) =
      ap (λ z. pos B *ℤ z) (times_plus S (pos B *ℤ g) h) in
      let five = times_plus B (pos S *ℤ (pos B *ℤ g)) (pos S *ℤ h) in
      let six : pos B *ℤ (pos S *ℤ ((pos B *ℤ g) +ℤ w)) ≡ pos B *ℤ (pos S *ℤ (pos B *ℤ g)) =
      ap (λ z. pos B *ℤ (pos S *ℤ z)) (omega (arith, ints, none)) in
      omega (arith, ints, a, m, one, two, three, four, five, six);
}

step-below : (S B : ℕ) (l g x more n w h : ℤ) → more ≡ x +ℤ n → w ≡ pos 0 → (pos S *ℤ h) ≤ℤ n
    → Leads 1 S (record { num = (pos B *ℤ g) +ℤ w; den = B }) (record { num = (pos B *ℤ l) +ℤ x; den = B })
    → Leads 1 S (record { num = (pos B *ℤ g) +ℤ h; den = B }) (record { num = (pos B *ℤ l) +ℤ more; den = B })
step-below S B l g x more n w h adds none le leads = record {
  crossed =
      let a = leads.crossed in
      let m = times_rises B (pos S *ℤ h) n le in
      let one : pos B *ℤ (pos 1 *ℤ ((pos B *ℤ l) +ℤ more)) ≡ pos B *ℤ (((pos B *ℤ l) +ℤ x) +ℤ n) =
      ap (λ z. pos B *ℤ z) (omega (arith, ints, adds, one_times ((pos B *ℤ l) +ℤ more))) in
      let two = times_plus B ((pos B *ℤ l) +ℤ x) n in
      let three : pos B *ℤ (pos 1 *ℤ ((pos B *ℤ l) +ℤ x)) ≡ pos B *ℤ ((pos B *ℤ l) +ℤ x) =
      ap (λ z. pos B *ℤ z) (one_times ((pos B *ℤ l) +ℤ x)) in
      let four : pos B *ℤ (pos S *ℤ ((pos B *ℤ g) +ℤ h)) ≡ pos B *ℤ ((pos S *ℤ (pos B *ℤ g)) +ℤ (pos S *ℤ h)) =
      ap (λ z. pos B *ℤ z) (times_plus S (pos B *ℤ g) h) in
      let five = times_plus B (pos S *ℤ (pos B *ℤ g)) (pos S *ℤ h) in
      let six : pos B *ℤ (pos S *ℤ ((pos B *ℤ g) +ℤ w)) ≡ pos B *ℤ (pos S *ℤ (pos B *ℤ g)) =
      ap (λ z. pos B *ℤ (pos S *ℤ z)) (omega (arith, ints, none)) in
      omega (arith, ints, a, m, one, two, three, four, five, six);
}

-- what a second adds, in finer seconds, against the greatest and the least inflow
added-above : (S N : ℕ) (q hi : ℤ) → q ≤ℤ (pos S *ℤ hi) → (pos N *ℤ q) ≤ℤ (pos S *ℤ (pos (1 * N) *ℤ hi))
added-above S N q hi le =
    let m = times_rises N q (pos S *ℤ hi) le in
    let e : pos S *ℤ (pos (1 * N) *ℤ hi) ≡ pos S *ℤ (pos N *ℤ hi) =
    ap (λ (n : ℕ). pos S *ℤ (pos n *ℤ hi)) (omega (arith)) in
    omega (arith, ints, m, exchanged S N hi, e)

added-below : (S N : ℕ) (q lo : ℤ) → (pos S *ℤ lo) ≤ℤ q → (pos S *ℤ (pos (1 * N) *ℤ lo)) ≤ℤ (pos N *ℤ q)
added-below S N q lo le =
    let m = times_rises N (pos S *ℤ lo) q le in
    let e : pos S *ℤ (pos (1 * N) *ℤ lo) ≡ pos S *ℤ (pos N *ℤ lo) =
    ap (λ (n : ℕ). pos S *ℤ (pos n *ℤ lo)) (omega (arith)) in
    omega (arith, ints, m, exchanged S N lo, e)

pub cut-above : (S : ℕ) (walls : Walls) (goal : Stock) (inflow : Interval) (stock : Stock) (q : ℤ) (before : ℕ)
    → LiesIn S inflow q → Leads S 1 (exact_content walls stock q before) (exact_content walls goal (pos 0) 0)
    → Leads S 1 (exact_content walls stock q (suc before)) (exact_content walls goal inflow.hi 1)
cut-above S (Cylinder area) goal inflow stock q before flow leads =
    step-above S (86400 * area) stock.level goal.level (pos (before * 10 ^ 15) *ℤ q) (pos (suc before * 10 ^ 15) *ℤ q)
    (pos (10 ^ 15) *ℤ q) (pos (0 * 10 ^ 15) *ℤ pos 0) (pos (1 * 10 ^ 15) *ℤ inflow.hi)
    (second-adds before (10 ^ 15) q) (nothing (0 * 10 ^ 15)) (added-above S (10 ^ 15) q inflow.hi flow.high) leads
cut-above S (Curve points) goal inflow stock q before flow leads =
    step-above S 864 stock.volume goal.volume (pos before *ℤ q) (pos (suc before) *ℤ q) q (pos 0 *ℤ pos 0)
    (pos 1 *ℤ inflow.hi) (times_one_more before q) (nothing 0)
    (let a = flow.high in let e : pos S *ℤ (pos 1 *ℤ inflow.hi) ≡ pos S *ℤ inflow.hi =
    ap (λ z. pos S *ℤ z) (one_times inflow.hi) in omega (arith, ints, a, e)) leads

pub cut-below : (S : ℕ) (walls : Walls) (goal : Stock) (inflow : Interval) (stock : Stock) (q : ℤ) (before : ℕ)
    → LiesIn S inflow q → Leads 1 S (exact_content walls goal (pos 0) 0) (exact_content walls stock q before)
    → Leads 1 S (exact_content walls goal inflow.lo 1) (exact_content walls stock q (suc before))
cut-below S (Cylinder area) goal inflow stock q before flow leads =
    step-below S (86400 * area) stock.level goal.level (pos (before * 10 ^ 15) *ℤ q) (pos (suc before * 10 ^ 15) *ℤ q)
    (pos (10 ^ 15) *ℤ q) (pos (0 * 10 ^ 15) *ℤ pos 0) (pos (1 * 10 ^ 15) *ℤ inflow.lo)
    (second-adds before (10 ^ 15) q) (nothing (0 * 10 ^ 15)) (added-below S (10 ^ 15) q inflow.lo flow.low) leads
cut-below S (Curve points) goal inflow stock q before flow leads =
    step-below S 864 stock.volume goal.volume (pos before *ℤ q) (pos (suc before) *ℤ q) q (pos 0 *ℤ pos 0)
    (pos 1 *ℤ inflow.lo) (times_one_more before q) (nothing 0)
    (let a = flow.low in let e : pos S *ℤ (pos 1 *ℤ inflow.lo) ≡ pos S *ℤ inflow.lo =
    ap (λ z. pos S *ℤ z) (one_times inflow.lo) in omega (arith, ints, a, e)) leads
