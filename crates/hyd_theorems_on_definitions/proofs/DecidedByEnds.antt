-- What is decided by the ends of intervals is so at every point between them.
use Rattle.std.proofs.Common.{◌≡◌, ℕ, ◌<◌, ◌≤◌, ◌⊎◌, ℤ, pos, ◌*ℤ◌, ◌≤ℤ◌, refl, sym, subst, arith, Bool, true, false}
use Rattle.std.proofs.Common.{◌&&◌, ◌||◌, List, [], ◌∷◌, inl, inr}
use Rattle.std.specs.Prelude.{map, if◌then◌else◌}
use Rattle.std.specs.List.{AllByRecursion, list_any, list_all}
use Rattle.std.proofs.Math.IntN.{*ℤ_comm}
use Rattle.std.proofs.lemmas.Int.{ints}
use Rattle.std.proofs.lemmas.Bool.{cases_Bool}
use Rattle.hyd_num.proofs.Integers.{times_rises, times_reflects, one_times}
use Rattle.hyd_num.specs.Rational.{Rational, is_at_most, is_less, whole}
use Rattle.hyd_spec.specs.ProgramTypes.{Tank, Clause, Relation, Less, NotMore, More, NotLess, Equal, Unequal}
use Rattle.hyd_spec_certificates.specs.Interval.{Interval}
use Rattle.hyd_spec.specs.Tank.{Walls, Cylinder, Curve, Stock, content_of, exact_content, carried_level, reaches}
use Rattle.hyd_spec.specs.Tank.{is_bound, has_reached}
use Rattle.hyd_spec.specs.Rules.{compares}
use Rattle.hyd_spec_certificates.specs.Stocks.{Stocks, least_stock, greatest_stock, may_reach, must_reach}
use Rattle.hyd_spec_certificates.specs.FirstSeconds.{IsFirstSecond}
use Rattle.hyd_spec_certificates.specs.declared.Verdict.{Verdict}
use Rattle.hyd_spec_certificates.specs.declared.Verdict.TheVariants.{Yes, No, Unknown}
use Rattle.hyd_spec_certificates.specs.ThreeValuedLogic.{at_both_ends, either, both}
use Rattle.hyd_spec_certificates.specs.ThreeValuedLogic.{some_holds, all_hold}
use Rattle.hyd_spec_certificates.specs.Decided.{control_truth}
use Rattle.hyd_theorems_on_definitions.specs.LyingInIntervals.{LiesIn, StockLies, AreInside, IsInside}
use Rattle.hyd_theorems_on_definitions.specs.SoundTanks.{IsVessel}
use Rattle.hyd_theorems_on_definitions.specs.LyingInIntervals.{HasStock}
use Rattle.hyd_theorems_on_definitions.specs.VerdictsOfTests.{IsAtMost, IsOneWay, Tells, TellEach}
use Rattle.hyd_lemmas.proofs.Integers.{exchanged}
use Rattle.hyd_lemmas.proofs.BooleanTests.{le-from, le-yes, lt-no, lt-yes}
use Rattle.hyd_net.specs.Curves.{volume_at}
use Rattle.hyd_theorems_on_definitions.proofs.ValuesAtTwoScales.{Leads, passes-up, passes-down}
use Rattle.hyd_theorems_on_definitions.proofs.ValuesByContent.{above-yes, below-yes, above-from, below-from}
use Rattle.hyd_theorems_on_definitions.proofs.StocksInIntervals.{exact-some, content-leads, carried-some, carried-leads}
use Rattle.hyd_theorems_on_definitions.proofs.StocksInIntervals.{content-low, content-high, content-up}

-- ---- values

-- at most, along a value between
at_most_along : (x y z : Rational) → 0 < y.den → IsAtMost x y → IsAtMost y z → IsAtMost x z
at_most_along x y z above a b = record {
  crossed =
      let p = times_rises z.den (pos y.den *ℤ x.num) (pos x.den *ℤ y.num)
      (omega (arith, ints, a.crossed, *ℤ_comm x.num (pos y.den), *ℤ_comm y.num (pos x.den))) in
      let q = times_rises x.den (pos z.den *ℤ y.num) (pos y.den *ℤ z.num)
      (omega (arith, ints, b.crossed, *ℤ_comm y.num (pos z.den), *ℤ_comm z.num (pos y.den))) in
      let r : (pos z.den *ℤ x.num) ≤ℤ (pos x.den *ℤ z.num) = times_reflects y.den (pos z.den *ℤ x.num)
      (pos x.den *ℤ z.num) above
      (omega (
        arith,
        ints,
        p,
        q,
        exchanged y.den z.den x.num,
        exchanged z.den x.den y.num,
        exchanged y.den x.den
            z.num,
      )) in
      omega (arith, ints, r, *ℤ_comm x.num (pos z.den), *ℤ_comm z.num (pos x.den));
}

most-yes : (x y : Rational) → is_at_most x y ≡ true → IsAtMost x y
most-yes x y e = record { crossed = le-yes (x.num *ℤ pos y.den) (y.num *ℤ pos x.den) e }

most-from : (x y : Rational) → IsAtMost x y → is_at_most x y ≡ true
most-from x y h = le-from (x.num *ℤ pos y.den) (y.num *ℤ pos x.den) h.crossed

-- less is not at least
less-yes : (x y : Rational) → is_less x y ≡ true → IsAtMost y x → ⊥
less-yes x y e h = let a = lt-yes (x.num *ℤ pos y.den) (y.num *ℤ pos x.den) e in let b = h.crossed in
    absurd (omega (arith, ints, a, b))

less-from : (x y : Rational) → (IsAtMost y x → ⊥) → is_less x y ≡ true
less-from x y h = elim (cases_Bool (is_less x y)) [
  | inl held ↦ held
  | inr fails ↦ absurd (h (record { crossed = lt-no (x.num *ℤ pos y.den) (y.num *ℤ pos x.den) fails }))
]

-- ---- ends of intervals

-- what holds at a greater value wherever at a lesser one, and the other way round
rising : (l m h : Bool) → (l ≡ true → m ≡ true) → (m ≡ true → h ≡ true) → Tells (at_both_ends l h) m
rising true m true p q = p refl
rising true m false p q = tt
rising false m true p q = tt
rising false true false p q = let w = q refl in cc
rising false false false p q = refl

falling : (l m h : Bool) → (h ≡ true → m ≡ true) → (m ≡ true → l ≡ true) → Tells (at_both_ends l h) m
falling true m true p q = p refl
falling true m false p q = tt
falling false m true p q = tt
falling false true false p q = let w = q refl in cc
falling false false false p q = refl

-- a comparison that both ends decide is decided so between them
pub compare_tells : (relation : Relation) (lo x hi amount : Rational) → IsOneWay relation → 0 < lo.den → 0 < x.den
    → 0 < hi.den → IsAtMost lo x → IsAtMost x hi
    → Tells (at_both_ends (compares relation lo amount) (compares relation hi amount)) (compares relation x amount)
compare_tells NotMore lo x hi amount way pl px ph below above = falling (is_at_most lo amount) (is_at_most x amount)
    (is_at_most hi amount)
    (λ e. most-from x amount (at_most_along x hi amount ph above (most-yes hi amount e)))
    (λ e. most-from lo amount (at_most_along lo x amount px below (most-yes x amount e)))
compare_tells NotLess lo x hi amount way pl px ph below above = rising (is_at_most amount lo) (is_at_most amount x)
    (is_at_most amount hi)
    (λ e. most-from amount x (at_most_along amount lo x pl (most-yes amount lo e) below))
    (λ e. most-from amount hi (at_most_along amount x hi px (most-yes amount x e) above))
compare_tells Less lo x hi amount way pl px ph below above = falling (is_less lo amount) (is_less x amount)
    (is_less hi amount)
    (λ e. less-from x amount (λ h. less-yes hi amount e (at_most_along amount x hi px h above)))
    (λ e. less-from lo amount (λ h. less-yes x amount e (at_most_along amount lo x pl h below)))
compare_tells More lo x hi amount way pl px ph below above = rising (is_less amount lo) (is_less amount x)
    (is_less amount hi)
    (λ e. less-from amount x (λ h. less-yes amount lo e (at_most_along lo x amount px below h)))
    (λ e. less-from amount hi (λ h. less-yes amount x e (at_most_along x hi amount ph above h)))
compare_tells Equal lo x hi amount way pl px ph below above = absurd way
compare_tells Unequal lo x hi amount way pl px ph below above = absurd way

-- ---- levels

-- a level y in ticks and x in S-th parts, over one denominator
reach-under : (S B : ℕ) (t y x : ℤ) → (pos S *ℤ y) ≤ℤ x → reaches 1 true t (record {
  num = y;
  den = B;
}) ≡ true → reaches S true t (record { num = x; den = B }) ≡ true
reach-under S B t y x le e = above-from S t (record { num = x; den = B })
    (let a = subst (λ (z : ℤ). (pos B *ℤ z) ≤ℤ y) (one_times t) (above-yes 1 t (record { num = y; den = B }) e) in
    let b = times_rises S (pos B *ℤ t) y a in omega (arith, ints, b, le, exchanged S B t))

reach-over : (S B : ℕ) (t y x : ℤ) → 0 < S → x ≤ℤ (pos S *ℤ y) → reaches S true t (record {
  num = x;
  den = B;
}) ≡ true → reaches 1 true t (record { num = y; den = B }) ≡ true
reach-over S B t y x some le e = above-from 1 t (record { num = y; den = B })
    (let a = above-yes S t (record { num = x; den = B }) e in
    subst (λ (z : ℤ). (pos B *ℤ z) ≤ℤ y) (sym (one_times t))
    (times_reflects S (pos B *ℤ t) y some (omega (arith, ints, a, le, exchanged S B t))))

sink-over : (S B : ℕ) (t y x : ℤ) → x ≤ℤ (pos S *ℤ y) → reaches 1 false t (record {
  num = y;
  den = B;
}) ≡ true → reaches S false t (record { num = x; den = B }) ≡ true
sink-over S B t y x le e = below-from S t (record { num = x; den = B })
    (let a = subst (λ (z : ℤ). y ≤ℤ (pos B *ℤ z)) (one_times t) (below-yes 1 t (record { num = y; den = B }) e) in
    let b = times_rises S y (pos B *ℤ t) a in omega (arith, ints, b, le, exchanged S B t))

sink-under : (S B : ℕ) (t y x : ℤ) → 0 < S → (pos S *ℤ y) ≤ℤ x → reaches S false t (record {
  num = x;
  den = B;
}) ≡ true → reaches 1 false t (record { num = y; den = B }) ≡ true
sink-under S B t y x some le e = below-from 1 t (record { num = y; den = B })
    (let a = below-yes S t (record { num = x; den = B }) e in
    subst (λ (z : ℤ). y ≤ℤ (pos B *ℤ z)) (sym (one_times t))
    (times_reflects S y (pos B *ℤ t) some (omega (arith, ints, a, le, exchanged S B t))))

-- a level control that both ends decide is decided so for each level between
pub control_tells : (S : ℕ) (level : Interval) (above : Bool) (ticks z : ℤ) → 0 < S → LiesIn S level z
    → Tells (control_truth level above ticks) (reaches S above ticks (whole z))
control_tells S level true ticks z some at = rising (reaches 1 true ticks (whole level.lo))
    (reaches S true ticks (whole z)) (reaches 1 true ticks (whole level.hi))
    (reach-under S 1 ticks level.lo z at.low) (reach-over S 1 ticks level.hi z some at.high)
control_tells S level false ticks z some at = falling (reaches 1 false ticks (whole level.lo))
    (reaches S false ticks (whole z)) (reaches 1 false ticks (whole level.hi))
    (sink-over S 1 ticks level.hi z at.high) (sink-under S 1 ticks level.lo z some at.low)

-- ---- events

reaches-up : (T U : ℕ) (t : ℤ) (y x : Rational) → 0 < T → 0 < y.den → Leads T U y x → reaches T true t y ≡ true
    → reaches U true t x ≡ true
reaches-up T U t y x some above leads e = above-from U t x (passes-up T U y x leads t some above (above-yes T t y e))

reaches-down : (T U : ℕ) (t : ℤ) (y x : Rational) → 0 < U → 0 < x.den → Leads T U y x → reaches U false t x ≡ true
    → reaches T false t y ≡ true
reaches-down T U t y x some above leads e = below-from T t y
    (passes-down T U y x leads t some above (below-yes U t x e))

either-way : (c a b a' b' : Bool) → (a ≡ true → a' ≡ true) → (b ≡ true → b' ≡ true) → (if c then a else b) ≡ true
    → (if c then a' else b') ≡ true
either-way true a b a' b' p q e = p e
either-way false a b a' b' p q e = q e

-- of a stock and an inflow that are at most others, in T-th and U-th parts, the one rises to no target that the other
-- doesn't
module _ (T U : ℕ) (walls : Walls) (tank : Tank) (a b : Stock) (p q : ℤ) (seconds : ℕ) (vessel : IsVessel walls tank)
    (some : 0 < T) (other-some : 0 < U)
    (content : (pos U *ℤ content_of walls a) ≤ℤ (pos T *ℤ content_of walls b)) (flow : (pos U *ℤ p) ≤ℤ (pos T *ℤ q))
  where
    x-some : 0 < (exact_content walls a p seconds).den
    x-some = exact-some walls a p seconds vessel.holds_water

    y-some : 0 < (exact_content walls b q seconds).den
    y-some = exact-some walls b q seconds vessel.holds_water

    leads : Leads T U (exact_content walls a p seconds) (exact_content walls b q seconds)
    leads = content-leads T U walls a b p q seconds content flow

    carried : Leads T U (carried_level T walls tank a p seconds) (carried_level U walls tank b q seconds)
    carried = carried-leads T U walls tank a b p q seconds vessel some other-some content flow

pub rises-too : (T U : ℕ) (walls : Walls) (tank : Tank) (a b : Stock) (p q target : ℤ) (seconds : ℕ)
    → IsVessel walls tank → 0 < T → 0 < U
    → (pos U *ℤ content_of walls a) ≤ℤ (pos T *ℤ content_of walls b) → (pos U *ℤ p) ≤ℤ (pos T *ℤ q)
    → has_reached T walls tank a p true target seconds ≡ true → has_reached U walls tank b q true target seconds ≡ true
rises-too T U (Cylinder area) tank a b p q target seconds vessel some other-some content flow =
    reaches-up T U target (exact_content (Cylinder area) a p seconds) (exact_content (Cylinder area) b q seconds) some
    (x-some T U (Cylinder area) tank a b p q seconds vessel some other-some content flow)
    (leads T U (Cylinder area) tank a b p q seconds vessel some other-some content flow)
rises-too T U (Curve points) tank a b p q target seconds vessel some other-some content flow = either-way
    (is_bound tank true target) _ _ _ _
    (reaches-up T U (volume_at points target) (exact_content (Curve points) a p seconds)
    (exact_content (Curve points) b q seconds) some
    (x-some T U (Curve points) tank a b p q seconds vessel some other-some content flow)
    (leads T U (Curve points) tank a b p q seconds vessel some other-some content flow))
    (reaches-up T U target (carried_level T (Curve points) tank a p seconds)
    (carried_level U (Curve points) tank b q seconds) some
    (carried-some T (Curve points) tank a p seconds vessel)
    (carried T U (Curve points) tank a b p q seconds vessel some other-some content flow))

pub falls-too : (T U : ℕ) (walls : Walls) (tank : Tank) (a b : Stock) (p q target : ℤ) (seconds : ℕ)
    → IsVessel walls tank → 0 < T → 0 < U
    → (pos U *ℤ content_of walls a) ≤ℤ (pos T *ℤ content_of walls b) → (pos U *ℤ p) ≤ℤ (pos T *ℤ q)
    → has_reached U walls tank b q false target seconds ≡ true → has_reached T walls tank a p false target seconds
    ≡ true
falls-too T U (Cylinder area) tank a b p q target seconds vessel some other-some content flow =
    reaches-down T U target (exact_content (Cylinder area) a p seconds) (exact_content (Cylinder area) b q seconds)
    other-some
    (y-some T U (Cylinder area) tank a b p q seconds vessel some other-some content flow)
    (leads T U (Cylinder area) tank a b p q seconds vessel some other-some content flow)
falls-too T U (Curve points) tank a b p q target seconds vessel some other-some content flow = either-way
    (is_bound tank false target) _ _ _ _
    (reaches-down T U (volume_at points target) (exact_content (Curve points) a p seconds)
    (exact_content (Curve points) b q seconds) other-some
    (y-some T U (Curve points) tank a b p q seconds vessel some other-some content flow)
    (leads T U (Curve points) tank a b p q seconds vessel some other-some content flow))
    (reaches-down T U target (carried_level T (Curve points) tank a p seconds)
    (carried_level U (Curve points) tank b q seconds) other-some
    (carried-some U (Curve points) tank b q seconds vessel)
    (carried T U (Curve points) tank a b p q seconds vessel some other-some content flow))

-- what may not have come hasn't, and what must have has
pub reached_may : (S : ℕ) (walls : Walls) (tank : Tank) (stocks : Stocks) (inflow : Interval) (target : ℤ)
    (rising : Bool) (seconds : ℕ) (stock : Stock) (q : ℤ) → 0 < S → IsVessel walls tank
    → StockLies S stocks stock → LiesIn S inflow q → has_reached S walls tank stock q rising target seconds ≡ true
    → may_reach walls tank stocks inflow target rising seconds ≡ true
reached_may S walls tank stocks inflow target true seconds stock q some vessel at flow =
    rises-too S 1 walls tank stock (greatest_stock stocks) q inflow.hi target seconds vessel some (omega arith)
    (content-high S walls stocks stock at) (let a = flow.high in omega (arith, ints, a))
reached_may S walls tank stocks inflow target false seconds stock q some vessel at flow =
    falls-too 1 S walls tank (least_stock stocks) stock inflow.lo q target seconds vessel (omega arith) some
    (content-low S walls stocks stock at) (let a = flow.low in omega (arith, ints, a))

pub must_reached : (S : ℕ) (walls : Walls) (tank : Tank) (stocks : Stocks) (inflow : Interval) (target : ℤ)
    (rising : Bool) (seconds : ℕ) (stock : Stock) (q : ℤ) → 0 < S → IsVessel walls tank
    → StockLies S stocks stock → LiesIn S inflow q → must_reach walls tank stocks inflow target rising seconds ≡ true
    → has_reached S walls tank stock q rising target seconds ≡ true
must_reached S walls tank stocks inflow target true seconds stock q some vessel at flow =
    rises-too 1 S walls tank (least_stock stocks) stock inflow.lo q target seconds vessel (omega arith) some
    (content-low S walls stocks stock at) (let a = flow.low in omega (arith, ints, a))
must_reached S walls tank stocks inflow target false seconds stock q some vessel at flow =
    falls-too S 1 walls tank stock (greatest_stock stocks) q inflow.hi target seconds vessel some (omega arith)
    (content-high S walls stocks stock at) (let a = flow.high in omega (arith, ints, a))

-- the same of stocks and an inflow inside others
pub may_nests : (walls : Walls) (tank : Tank) (stocks wider : Stocks) (inflow more : Interval) (target : ℤ)
    (rising : Bool) (seconds : ℕ) → IsVessel walls tank → AreInside stocks wider → IsInside inflow more
    → may_reach walls tank stocks inflow target rising seconds ≡ true
    → may_reach walls tank wider more target rising seconds ≡ true
may_nests walls tank stocks wider inflow more target true seconds vessel at flow =
    rises-too 1 1 walls tank (greatest_stock stocks) (greatest_stock wider) inflow.hi more.hi target seconds vessel
    (omega arith) (omega arith)
    (content-up walls (greatest_stock stocks) (greatest_stock wider) at.level.high at.volume.high)
    (let a = flow.high in omega (arith, ints, a))
may_nests walls tank stocks wider inflow more target false seconds vessel at flow =
    falls-too 1 1 walls tank (least_stock wider) (least_stock stocks) more.lo inflow.lo target seconds vessel
    (omega arith) (omega arith)
    (content-up walls (least_stock wider) (least_stock stocks) at.level.low at.volume.low)
    (let a = flow.low in omega (arith, ints, a))

pub must_nests : (walls : Walls) (tank : Tank) (stocks wider : Stocks) (inflow more : Interval) (target : ℤ)
    (rising : Bool) (seconds : ℕ) → IsVessel walls tank → AreInside stocks wider → IsInside inflow more
    → must_reach walls tank wider more target rising seconds ≡ true
    → must_reach walls tank stocks inflow target rising seconds ≡ true
must_nests walls tank stocks wider inflow more target true seconds vessel at flow =
    rises-too 1 1 walls tank (least_stock wider) (least_stock stocks) more.lo inflow.lo target seconds vessel
    (omega arith) (omega arith)
    (content-up walls (least_stock wider) (least_stock stocks) at.level.low at.volume.low)
    (let a = flow.low in omega (arith, ints, a))
must_nests walls tank stocks wider inflow more target false seconds vessel at flow =
    falls-too 1 1 walls tank (greatest_stock stocks) (greatest_stock wider) inflow.hi more.hi target seconds vessel
    (omega arith) (omega arith)
    (content-up walls (greatest_stock stocks) (greatest_stock wider) at.level.high at.volume.high)
    (let a = flow.high in omega (arith, ints, a))

-- what must have come may have, where there is a stock and an inflow
pub must_may : (walls : Walls) (tank : Tank) (stocks : Stocks) (inflow : Interval) (target : ℤ) (rising : Bool)
    (seconds : ℕ) → IsVessel walls tank → HasStock stocks → inflow.lo ≤ℤ inflow.hi
    → must_reach walls tank stocks inflow target rising seconds ≡ true
    → may_reach walls tank stocks inflow target rising seconds ≡ true
must_may walls tank stocks inflow target true seconds vessel has flow =
    rises-too 1 1 walls tank (least_stock stocks) (greatest_stock stocks) inflow.lo inflow.hi target seconds vessel
    (omega arith) (omega arith)
    (content-up walls (least_stock stocks) (greatest_stock stocks) has.level has.volume) (omega (arith, ints, flow))
must_may walls tank stocks inflow target false seconds vessel has flow =
    falls-too 1 1 walls tank (least_stock stocks) (greatest_stock stocks) inflow.lo inflow.hi target seconds vessel
    (omega arith) (omega arith)
    (content-up walls (least_stock stocks) (greatest_stock stocks) has.level has.volume) (omega (arith, ints, flow))

-- ---- first seconds

-- a test that has come where another has comes first no later
first-sooner : (sooner later : ℕ → Bool) (cap a b : ℕ) → ((s : ℕ) → later s ≡ true → sooner s ≡ true)
    → IsFirstSecond sooner cap a → IsFirstSecond later cap b → a ≤ b
first-sooner sooner later cap a b implied first second = first.least b (at second.holds)
  where
    at : ((b ≡ cap) ⊎ ((1 ≤ b) × (later b ≡ true))) → (b ≡ cap) ⊎ ((1 ≤ b) × (sooner b ≡ true))
    at (inl is) = inl is
    at (inr r) = inr (r.0, implied b r.1)

pub seconds_hold : (S : ℕ) (walls : Walls) (tank : Tank) (stocks : Stocks) (inflow : Interval) (target : ℤ)
    (rising : Bool) (cap : ℕ) (stock : Stock) (q : ℤ) (earliest latest first : ℕ)
    → 0 < S → IsVessel walls tank → StockLies S stocks stock → LiesIn S inflow q
    → IsFirstSecond (may_reach walls tank stocks inflow target rising) cap earliest
    → IsFirstSecond (must_reach walls tank stocks inflow target rising) cap latest
    → IsFirstSecond (has_reached S walls tank stock q rising target) cap first → (earliest ≤ first) × (first ≤ latest)
seconds_hold S walls tank stocks inflow target rising cap stock q earliest latest first some vessel at flow e l f = (
  first-sooner (may_reach walls tank stocks inflow target rising) (has_reached S walls tank stock q rising target) cap
      earliest first
      (λ s h. reached_may S walls tank stocks inflow target rising s stock q some vessel at flow h) e f,
  first-sooner (has_reached S walls tank stock q rising target) (must_reach walls tank stocks inflow target rising)
      cap first latest
      (λ s h. must_reached S walls tank stocks inflow target rising s stock q some vessel at flow h) f l,
)

pub seconds_nest : (walls : Walls) (tank : Tank) (stocks wider : Stocks) (inflow more : Interval) (target : ℤ)
    (rising : Bool) (cap earliest latest sooner later : ℕ)
    → IsVessel walls tank → AreInside stocks wider → IsInside inflow more
    → IsFirstSecond (may_reach walls tank stocks inflow target rising) cap earliest
    → IsFirstSecond (must_reach walls tank stocks inflow target rising) cap latest
    → IsFirstSecond (may_reach walls tank wider more target rising) cap sooner
    → IsFirstSecond (must_reach walls tank wider more target rising) cap later
    → (sooner ≤ earliest) × (latest ≤ later)
seconds_nest walls tank stocks wider inflow more target rising cap earliest latest sooner later vessel at flow e l f
    m = (
      first-sooner (may_reach walls tank wider more target rising) (may_reach walls tank stocks inflow target rising)
          cap
          sooner earliest
          (λ s h. may_nests walls tank stocks wider inflow more target rising s vessel at flow h) f e,
      first-sooner (must_reach walls tank stocks inflow target rising) (must_reach walls tank wider more target rising)
          cap latest later
          (λ s h. must_nests walls tank stocks wider inflow more target rising s vessel at flow h) l m,
    )

-- ---- rules

either-tells : (s t : Verdict) (a b : Bool) → Tells s a → Tells t b → Tells (either s t) (a || b)
either-tells Yes t a b p q = subst (λ (x : Bool). (x || b) ≡ true) (sym p) refl
either-tells No Yes a b p q = subst (λ (x : Bool). (x || b) ≡ true) (sym p) q
either-tells No No a b p q = subst (λ (x : Bool). (x || b) ≡ false) (sym p) q
either-tells No Unknown a b p q = tt
either-tells Unknown Yes true b p q = refl
either-tells Unknown Yes false b p q = q
either-tells Unknown No a b p q = tt
either-tells Unknown Unknown a b p q = tt

both-tells : (s t : Verdict) (a b : Bool) → Tells s a → Tells t b → Tells (both s t) (a && b)
both-tells No t a b p q = subst (λ (x : Bool). (x && b) ≡ false) (sym p) refl
both-tells Yes Yes a b p q = subst (λ (x : Bool). (x && b) ≡ true) (sym p) q
both-tells Yes No a b p q = subst (λ (x : Bool). (x && b) ≡ false) (sym p) q
both-tells Yes Unknown a b p q = tt
both-tells Unknown No true b p q = q
both-tells Unknown No false b p q = refl
both-tells Unknown Yes a b p q = tt
both-tells Unknown Unknown a b p q = tt

pub some_tells : (truths : List Verdict) (tests : List Bool) → TellEach truths tests
    → Tells (some_holds truths) (list_any (λ (b : Bool). b) tests)
some_tells [] [] all = refl
some_tells [] (b ∷ tests) all = absurd all
some_tells (t ∷ truths) [] all = absurd all
some_tells (t ∷ truths) (b ∷ tests) all = either-tells t (some_holds truths) b (list_any (λ (b : Bool). b) tests)
    all.0 (some_tells truths tests all.1)

pub all_tells : (truths : List Verdict) (tests : List Bool) → TellEach truths tests
    → Tells (all_hold truths) (list_all (λ (b : Bool). b) tests)
all_tells [] [] all = refl
all_tells [] (b ∷ tests) all = absurd all
all_tells (t ∷ truths) [] all = absurd all
all_tells (t ∷ truths) (b ∷ tests) all = both-tells t (all_hold truths) b (list_all (λ (b : Bool). b) tests) all.0
    (all_tells truths tests all.1)

-- a rule tells by the truths of its clauses
group_tells : (truth : Clause → Verdict) (test : Clause → Bool) (group : List Clause)
    → AllByRecursion (λ (c : Clause). Tells (truth c) (test c)) group
    → Tells (some_holds (map truth group)) (list_any test group)
group_tells truth test [] all = refl
group_tells truth test (c ∷ group) all = either-tells (truth c) (some_holds (map truth group)) (test c)
    (list_any test group) all.0 (group_tells truth test group all.1)

pub rule_tells : (truth : Clause → Verdict) (test : Clause → Bool) (groups : List (List Clause))
    → AllByRecursion (AllByRecursion (λ (c : Clause). Tells (truth c) (test c))) groups
    → Tells (all_hold (map (λ group. some_holds (map truth group)) groups)) (list_all (list_any test) groups)
rule_tells truth test [] all = refl
rule_tells truth test (group ∷ groups) all =
    both-tells (some_holds (map truth group)) (all_hold (map (λ group. some_holds (map truth group)) groups))
    (list_any test group) (list_all (list_any test) groups)
    (group_tells truth test group all.0) (rule_tells truth test groups all.1)
