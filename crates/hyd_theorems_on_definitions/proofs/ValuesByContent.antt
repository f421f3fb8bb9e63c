-- What goes with a content, by its bounds: at every scale it lies between the ends that go with a lesser and a greater
-- content.
use Rattle.std.proofs.Common.{◌≡◌, ℕ, ◌<◌, ℤ, pos, ◌+ℤ◌, ◌-ℤ◌, ◌*ℤ◌, ◌≤ℤ◌, ◌<ℤ◌, sym, subst, arith, true, false, inl}
use Rattle.std.proofs.Common.{inr}
use Rattle.std.specs.Prelude.{if◌then◌else◌}
use Rattle.std.specs.Int.{int_max, int_min}
use Rattle.std.proofs.Math.IntN.{*ℤ_comm}
use Rattle.std.proofs.lemmas.Int.{ints}
use Rattle.std.proofs.lemmas.Bool.{MatchBool-at_true, MatchBool-at_false, cases_Bool, cond_both}
use Rattle.hyd_num.proofs.Integers.{times_plus, times_minus, times_rises, times_reflects, one_times}
use Rattle.hyd_num.specs.Rational.{Rational, floor, ceiling, is_at_most, whole}
use Rattle.hyd_spec.specs.Scale.{at_scale, missed_stock_ticks}
use Rattle.hyd_spec.specs.Tank.{Bounds, is_at_maximum, is_at_minimum, placed, IsNear, IsPlaced}
use Rattle.hyd_spec_certificates.specs.Stocks.{lower_end, upper_end}
use Rattle.hyd_lemmas.proofs.Integers.{exchanged, floor_low, floor_at_most_ceiling, ceiling_high, floor_greatest}
use Rattle.hyd_lemmas.proofs.Integers.{ceiling_least, max_left, max_is, max_rises, min_left, min_is, min_rises}
use Rattle.hyd_lemmas.proofs.BooleanTests.{le-from, le-yes, le-no}
use Rattle.hyd_theorems_on_definitions.proofs.ValuesAtTwoScales.{one-within, Leads, through, passes-up, passes-down}
use Rattle.hyd_theorems_on_definitions.proofs.ValuesAtTwoScales.{raised, sunk}
use Rattle.hyd_theorems_on_definitions.proofs.ValuesAtTwoScales.{lowered, risen}

-- ---- what tests of a value say

pub above-yes : (S : ℕ) (t : ℤ) (x : Rational) → is_at_most (whole (at_scale S t)) x ≡ true
    → (pos x.den *ℤ (pos S *ℤ t)) ≤ℤ x.num
above-yes S t x e = let a = le-yes ((pos S *ℤ t) *ℤ pos x.den) (x.num *ℤ pos 1) e in
    omega (arith, ints, a, *ℤ_comm (pos S *ℤ t) (pos x.den))

pub above-no : (S : ℕ) (t : ℤ) (x : Rational) → is_at_most (whole (at_scale S t)) x ≡ false
    → x.num <ℤ (pos x.den *ℤ (pos S *ℤ t))
above-no S t x e = let a = le-no ((pos S *ℤ t) *ℤ pos x.den) (x.num *ℤ pos 1) e in
    omega (arith, ints, a, *ℤ_comm (pos S *ℤ t) (pos x.den))

pub below-yes : (S : ℕ) (t : ℤ) (x : Rational) → is_at_most x (whole (at_scale S t)) ≡ true
    → x.num ≤ℤ (pos x.den *ℤ (pos S *ℤ t))
below-yes S t x e = let a = le-yes (x.num *ℤ pos 1) ((pos S *ℤ t) *ℤ pos x.den) e in
    omega (arith, ints, a, *ℤ_comm (pos S *ℤ t) (pos x.den))

pub below-no : (S : ℕ) (t : ℤ) (x : Rational) → is_at_most x (whole (at_scale S t)) ≡ false
    → (pos x.den *ℤ (pos S *ℤ t)) <ℤ x.num
below-no S t x e = let a = le-no (x.num *ℤ pos 1) ((pos S *ℤ t) *ℤ pos x.den) e in
    omega (arith, ints, a, *ℤ_comm (pos S *ℤ t) (pos x.den))

pub above-from : (S : ℕ) (t : ℤ) (x : Rational) → (pos x.den *ℤ (pos S *ℤ t)) ≤ℤ x.num
    → is_at_most (whole (at_scale S t)) x ≡ true
above-from S t x h = le-from ((pos S *ℤ t) *ℤ pos x.den) (x.num *ℤ pos 1)
    (omega (arith, ints, h, *ℤ_comm (pos S *ℤ t) (pos x.den)))

pub below-from : (S : ℕ) (t : ℤ) (x : Rational) → x.num ≤ℤ (pos x.den *ℤ (pos S *ℤ t))
    → is_at_most x (whole (at_scale S t)) ≡ true
below-from S t x h = le-from (x.num *ℤ pos 1) ((pos S *ℤ t) *ℤ pos x.den)
    (omega (arith, ints, h, *ℤ_comm (pos S *ℤ t) (pos x.den)))

-- ---- ends of intervals, in whole ticks

record Ends (bounds : Bounds) (x : Rational) : Type 0 where
  at_maximum : is_at_maximum 1 bounds x ≡ true → (pos x.den *ℤ bounds.most) ≤ℤ x.num
  below_maximum : is_at_maximum 1 bounds x ≡ false → x.num <ℤ (pos x.den *ℤ bounds.most)
  at_minimum : is_at_minimum 1 bounds x ≡ true → x.num ≤ℤ (pos x.den *ℤ bounds.least)
  above_minimum : is_at_minimum 1 bounds x ≡ false → (pos x.den *ℤ bounds.least) <ℤ x.num

ends-of : (bounds : Bounds) (x : Rational) → Ends bounds x
ends-of bounds x = record {
  at_maximum = λ e. subst (λ (z : ℤ). (pos x.den *ℤ z) ≤ℤ x.num) (one_times bounds.most) (above-yes 1 bounds.most x e);
  below_maximum = λ e. subst (λ (z : ℤ). x.num <ℤ (pos x.den *ℤ z)) (one_times bounds.most)
      (above-no 1 bounds.most x e);
  at_minimum = λ e. subst (λ (z : ℤ). x.num ≤ℤ (pos x.den *ℤ z)) (one_times bounds.least)
      (below-yes 1 bounds.least x e);
  above_minimum = λ e. subst (λ (z : ℤ). (pos x.den *ℤ z) <ℤ x.num) (one_times bounds.least)
      (below-no 1 bounds.least x e);
}

-- P of the lower end, by its three cases
pub lower-is : (P : ℤ → Type 0) (contents range : Bounds) (x value : Rational) (room : ℤ)
    → ((pos x.den *ℤ contents.most) ≤ℤ x.num → P range.most)
    → (x.num <ℤ (pos x.den *ℤ contents.most) → x.num ≤ℤ (pos x.den *ℤ contents.least) → P range.least)
    → (x.num <ℤ (pos x.den *ℤ contents.most) → (pos x.den *ℤ contents.least) <ℤ x.num
    → P (int_max range.least (floor value -ℤ room)))
    → P (lower_end contents range x value room)
lower-is P contents range x value room full empty inside =
    cond_both (is_at_maximum 1 contents x) range.most (if is_at_minimum 1 contents x then range.least
    else int_max range.least (floor value -ℤ room)) P
    (λ e. full ((ends-of contents x).at_maximum e))
    (λ e. cond_both (is_at_minimum 1 contents x) range.least (int_max range.least (floor value -ℤ room)) P
    (λ g. empty ((ends-of contents x).below_maximum e) ((ends-of contents x).at_minimum g))
    (λ g. inside ((ends-of contents x).below_maximum e) ((ends-of contents x).above_minimum g)))

pub upper-is : (P : ℤ → Type 0) (contents range : Bounds) (x value : Rational) (room : ℤ)
    → ((pos x.den *ℤ contents.most) ≤ℤ x.num → P range.most)
    → (x.num <ℤ (pos x.den *ℤ contents.most) → x.num ≤ℤ (pos x.den *ℤ contents.least) → P range.least)
    → (x.num <ℤ (pos x.den *ℤ contents.most) → (pos x.den *ℤ contents.least) <ℤ x.num
    → P (int_min range.most (ceiling value +ℤ room)))
    → P (upper_end contents range x value room)
upper-is P contents range x value room full empty inside =
    cond_both (is_at_maximum 1 contents x) range.most (if is_at_minimum 1 contents x then range.least
    else int_min range.most (ceiling value +ℤ room)) P
    (λ e. full ((ends-of contents x).at_maximum e))
    (λ e. cond_both (is_at_minimum 1 contents x) range.least (int_min range.most (ceiling value +ℤ room)) P
    (λ g. empty ((ends-of contents x).below_maximum e) ((ends-of contents x).at_minimum g))
    (λ g. inside ((ends-of contents x).below_maximum e) ((ends-of contents x).above_minimum g)))

-- P of what is placed at scale S, by its three cases
pub placed-is : (P : Rational → Type 0) (S : ℕ) (contents range : Bounds) (x value : Rational)
    → ((pos x.den *ℤ (pos S *ℤ contents.most)) ≤ℤ x.num → P (whole (at_scale S range.most)))
    → (x.num <ℤ (pos x.den *ℤ (pos S *ℤ contents.most)) → x.num ≤ℤ (pos x.den *ℤ (pos S *ℤ contents.least))
    → P (whole (at_scale S range.least)))
    → (x.num <ℤ (pos x.den *ℤ (pos S *ℤ contents.most)) → (pos x.den *ℤ (pos S *ℤ contents.least)) <ℤ x.num → P value)
    → P (placed S contents range x value)
placed-is P S contents range x value full empty inside =
    cond_both (is_at_maximum S contents x) (whole (at_scale S range.most)) (if is_at_minimum S contents x
    then whole (at_scale S range.least) else value) P
    (λ e. full (above-yes S contents.most x e))
    (λ e. cond_both (is_at_minimum S contents x) (whole (at_scale S range.least)) value P
    (λ g. empty (above-no S contents.most x e) (below-yes S contents.least x g))
    (λ g. inside (above-no S contents.most x e) (below-no S contents.least x g)))

-- ---- an interval's end within its range

pub lower-least : (contents range : Bounds) (x value : Rational) (room : ℤ) → range.least ≤ℤ range.most
    → range.least ≤ℤ lower_end contents range x value room
lower-least contents range x value room order = lower-is (λ z. range.least ≤ℤ z) contents range x value room
    (λ h. order) (λ h l. omega (arith, ints)) (λ h l. max_left range.least (floor value -ℤ room))

pub upper-most : (contents range : Bounds) (x value : Rational) (room : ℤ) → range.least ≤ℤ range.most
    → upper_end contents range x value room ≤ℤ range.most
upper-most contents range x value room order = upper-is (λ z. z ≤ℤ range.most) contents range x value room
    (λ h. omega (arith, ints)) (λ h l. order) (λ h l. min_left range.most (ceiling value +ℤ room))

-- a value that is in its range where its content lies inside the bounds
pub record Fits (contents range : Bounds) (x value : Rational) : Type 0 where
  pub some : 0 < x.den
  pub value_some : 0 < value.den
  pub order : range.least ≤ℤ range.most
  pub below_most : x.num <ℤ (pos x.den *ℤ contents.most) → value.num ≤ℤ (pos value.den *ℤ range.most)
  pub above_least : (pos x.den *ℤ contents.least) <ℤ x.num → (pos value.den *ℤ range.least) ≤ℤ value.num

pub lower-most : (contents range : Bounds) (x value : Rational) (room : ℤ) → pos 0 ≤ℤ room
    → Fits contents range x value → lower_end contents range x value room ≤ℤ range.most
lower-most contents range x value room positive f = lower-is (λ z. z ≤ℤ range.most) contents range x value room
    (λ h. omega (arith, ints)) (λ h l. f.order)
    (λ h l. max_is (λ z. z ≤ℤ range.most) range.least (floor value -ℤ room) (λ e. f.order)
    (λ e. let below : floor value ≤ℤ range.most = times_reflects value.den (floor value) range.most f.value_some
    (let a = floor_low value f.value_some in let b = f.below_most h in omega (arith, ints, a, b)) in
    omega (arith, ints, below, positive)))

pub upper-least : (contents range : Bounds) (x value : Rational) (room : ℤ) → pos 0 ≤ℤ room
    → Fits contents range x value → range.least ≤ℤ upper_end contents range x value room
upper-least contents range x value room positive f = upper-is (λ z. range.least ≤ℤ z) contents range x value room
    (λ h. f.order) (λ h l. omega (arith, ints))
    (λ h l. min_is (λ z. range.least ≤ℤ z) range.most (ceiling value +ℤ room) (λ e. f.order)
    (λ e. let above : range.least ≤ℤ ceiling value = times_reflects value.den range.least (ceiling value) f.value_some
    (let a = ceiling_high value f.value_some in let b = f.above_least l in omega (arith, ints, a, b)) in
    omega (arith, ints, above, positive)))

-- an interval's ends at one content are in order
pub ends-ordered : (contents range : Bounds) (x value : Rational) (room : ℤ) → pos 0 ≤ℤ room
    → Fits contents range x value
    → lower_end contents range x value room ≤ℤ upper_end contents range x value room
ends-ordered contents range x value room positive f = lower-is (λ z. z ≤ℤ upper_end contents range x value room)
    contents range x value room
    (λ h. upper-is (λ z. range.most ≤ℤ z) contents range x value room
    (λ m. omega (arith, ints)) (λ m k. absurd (omega (arith, ints, h, m))) (λ m k. absurd (omega (arith, ints, h, m))))
    (λ h l. upper-least contents range x value room positive f)
    (λ h l. max_is (λ z. z ≤ℤ upper_end contents range x value room) range.least (floor value -ℤ room)
    (λ e. upper-least contents range x value room positive f)
    (λ e. upper-is (λ z. (floor value -ℤ room) ≤ℤ z) contents range x value room
    (λ m. absurd (omega (arith, ints, h, m))) (λ m k. absurd (omega (arith, ints, l, k)))
    (λ m k. min_is (λ z. (floor value -ℤ room) ≤ℤ z) range.most (ceiling value +ℤ room)
    (λ g. let below : floor value ≤ℤ range.most = times_reflects value.den (floor value) range.most f.value_some
    (let a = floor_low value f.value_some in let b = f.below_most h in omega (arith, ints, a, b)) in
    omega (arith, ints, below, positive))
    (λ g. let a = floor_at_most_ceiling value f.value_some in omega (arith, ints, a, positive)))))

-- ---- what may go with a content of S-th parts, between the ends that go with contents of ticks

-- a value of S-th parts that is in its range where its content lies inside the bounds
pub record FitsAt (S : ℕ) (contents range : Bounds) (x value : Rational) : Type 0 where
  pub some : 0 < x.den
  pub value_some : 0 < value.den
  pub below_most : x.num <ℤ (pos x.den *ℤ (pos S *ℤ contents.most))
      → value.num ≤ℤ (pos value.den *ℤ (pos S *ℤ range.most))
  pub above_least : (pos x.den *ℤ (pos S *ℤ contents.least)) <ℤ x.num → (pos value.den *ℤ (pos S *ℤ range.least))
      ≤ℤ value.num

module _ (S : ℕ) (contents range : Bounds) (y x value other : Rational) (some : 0 < S)
    (f : Fits contents range y value) (g : FitsAt S contents range x other) where
  -- y is at most x, and so is what goes with it
  module _ (under : Leads 1 S y x) (value_under : Leads 1 S value other) where
    not-full : x.num <ℤ (pos x.den *ℤ (pos S *ℤ contents.most)) → (pos y.den *ℤ contents.most) ≤ℤ y.num → ⊥
    not-full less h = let a = raised S contents.most y x f.some under h in omega (arith, ints, a, less)

    not-inside : x.num ≤ℤ (pos x.den *ℤ (pos S *ℤ contents.least)) → (pos y.den *ℤ contents.least) <ℤ y.num → ⊥
    not-inside low h = let a = sunk S contents.least y x some g.some under low in omega (arith, ints, a, h)

    pub next-low : (next : ℤ) → IsPlaced S contents range x other next
        → (pos S *ℤ lower_end contents range y value (pos missed_stock_ticks)) ≤ℤ next
    next-low next is = elim (cases_Bool (is_at_maximum S contents x)) [
      | inl full ↦ let e = MatchBool-at_true _ _ full is in
          let l = times_rises S (lower_end contents range y value (pos missed_stock_ticks)) range.most
          (lower-most contents range y value (pos missed_stock_ticks) (omega (arith, ints)) f) in
          omega (arith, ints, e, l)
      | inr less ↦ let rest = MatchBool-at_false _ _ less is in
          let short = above-no S contents.most x less in
          elim (cases_Bool (is_at_minimum S contents x)) [
            | inl empty ↦ let e = MatchBool-at_true _ _ empty rest in
                let low = below-yes S contents.least x empty in
                lower-is (λ z. (pos S *ℤ z) ≤ℤ next) contents range y value (pos missed_stock_ticks)
                (λ h. absurd (not-full short h)) (λ h l. omega (arith, ints, e)) (λ h l. absurd (not-inside low l))
            | inr more ↦ let near = MatchBool-at_false _ _ more rest in
                lower-is (λ z. (pos S *ℤ z) ≤ℤ next) contents range y value (pos missed_stock_ticks)
                (λ h. absurd (not-full short h)) (λ h l. near.above_least)
                (λ h l. max_is (λ z. (pos S *ℤ z) ≤ℤ next) range.least (floor value -ℤ pos missed_stock_ticks)
                (λ e. near.above_least)
                (λ e. times_reflects other.den (pos S *ℤ (floor value -ℤ pos missed_stock_ticks)) next g.value_some
                (close near)))
          ]
    ]
      where
        close : IsNear S range other next → (pos other.den *ℤ (pos S *ℤ (floor value -ℤ pos missed_stock_ticks)))
            ≤ℤ (pos other.den *ℤ next)
        close near =
            let a = raised S (floor value) value other f.value_some value_under (floor_low value f.value_some) in
            let b = near.near_below in
            rw (
              times_minus S (floor value) (pos missed_stock_ticks),
              times_minus other.den (pos S *ℤ floor value) (pos S *ℤ pos missed_stock_ticks),
            )
            (omega (arith, ints, a, b))

    pub placed-low : (pos (placed S contents range x other).den
        *ℤ (pos S *ℤ lower_end contents range y value (pos 0))) ≤ℤ (placed S contents range x other).num
    placed-low = placed-is (λ (c : Rational). (pos c.den *ℤ (pos S *ℤ lower_end contents range y value (pos 0)))
        ≤ℤ c.num) S contents range x other
        (λ h. let l = times_rises S (lower_end contents range y value (pos 0)) range.most
        (lower-most contents range y value (pos 0) (omega (arith, ints)) f) in
        omega (arith, ints, l, one_times (pos S *ℤ lower_end contents range y value (pos 0))))
        (λ h l. lower-is (λ z. (pos 1 *ℤ (pos S *ℤ z)) ≤ℤ (pos S *ℤ range.least)) contents range y value (pos 0)
        (λ m. absurd (not-full h m)) (λ m e. omega (arith, ints, one_times (pos S *ℤ range.least)))
        (λ m e. absurd (not-inside l e)))
        (λ h l. lower-is (λ z. (pos other.den *ℤ (pos S *ℤ z)) ≤ℤ other.num) contents range y value (pos 0)
        (λ m. absurd (not-full h m))
        (λ m e. g.above_least l)
        (λ m e. max_is (λ z. (pos other.den *ℤ (pos S *ℤ z)) ≤ℤ other.num) range.least (floor value -ℤ pos 0)
        (λ w. g.above_least l)
        (λ w. subst (λ (z : ℤ). (pos other.den *ℤ (pos S *ℤ z)) ≤ℤ other.num) (sym (minus-none (floor value)))
        (raised S (floor value) value other f.value_some value_under (floor_low value f.value_some)))))
      where
        minus-none : (z : ℤ) → z -ℤ pos 0 ≡ z
        minus-none z = omega (arith, ints)

  -- y is at least x, and so is what goes with it
  module _ (over : Leads S 1 x y) (value_over : Leads S 1 other value) where
    is-full : (pos x.den *ℤ (pos S *ℤ contents.most)) ≤ℤ x.num → (pos y.den *ℤ contents.most) ≤ℤ y.num
    is-full full = risen S contents.most y x some g.some over full

    not-empty : (pos x.den *ℤ (pos S *ℤ contents.least)) <ℤ x.num → y.num ≤ℤ (pos y.den *ℤ contents.least) → ⊥
    not-empty more h = let a = lowered S contents.least y x f.some over h in omega (arith, ints, a, more)

    pub next-high : (next : ℤ) → IsPlaced S contents range x other next
        → next ≤ℤ (pos S *ℤ upper_end contents range y value (pos missed_stock_ticks))
    next-high next is = elim (cases_Bool (is_at_maximum S contents x)) [
      | inl full ↦ let e = MatchBool-at_true _ _ full is in
          let reached = is-full (above-yes S contents.most x full) in
          upper-is (λ z. next ≤ℤ (pos S *ℤ z)) contents range y value (pos missed_stock_ticks)
          (λ h. omega (arith, ints, e)) (λ h l. absurd (omega (arith, ints, h, reached)))
          (λ h l. absurd (omega (arith, ints, h, reached)))
      | inr less ↦ let rest = MatchBool-at_false _ _ less is in
          elim (cases_Bool (is_at_minimum S contents x)) [
            | inl empty ↦ let e = MatchBool-at_true _ _ empty rest in
                let l = times_rises S range.least (upper_end contents range y value (pos missed_stock_ticks))
                (upper-least contents range y value (pos missed_stock_ticks) (omega (arith, ints)) f) in
                omega (arith, ints, e, l)
            | inr more ↦ let near = MatchBool-at_false _ _ more rest in
                let high = below-no S contents.least x more in
                upper-is (λ z. next ≤ℤ (pos S *ℤ z)) contents range y value (pos missed_stock_ticks)
                (λ h. near.below_most) (λ h l. absurd (not-empty high l))
                (λ h l. min_is (λ z. next ≤ℤ (pos S *ℤ z)) range.most (ceiling value +ℤ pos missed_stock_ticks)
                (λ e. near.below_most)
                (λ e. times_reflects other.den next (pos S *ℤ (ceiling value +ℤ pos missed_stock_ticks)) g.value_some
                (close near)))
          ]
    ]
      where
        close : IsNear S range other next → (pos other.den *ℤ next)
            ≤ℤ (pos other.den *ℤ (pos S *ℤ (ceiling value +ℤ pos missed_stock_ticks)))
        close near =
            let a = lowered S (ceiling value) value other f.value_some value_over (ceiling_high value f.value_some) in
            let b = near.near_above in
            rw (
              times_plus S (ceiling value) (pos missed_stock_ticks),
              times_plus other.den (pos S *ℤ ceiling value) (pos S *ℤ pos missed_stock_ticks),
            ) (omega (arith, ints, a, b))

    pub placed-high : (placed S contents range x other).num ≤ℤ (pos (placed S contents range x other).den
        *ℤ (pos S *ℤ upper_end contents range y value (pos 0)))
    placed-high = placed-is (λ (c : Rational). c.num ≤ℤ (pos c.den
        *ℤ (pos S *ℤ upper_end contents range y value (pos 0)))) S contents range x other
        (λ h. upper-is (λ z. (pos S *ℤ range.most) ≤ℤ (pos 1 *ℤ (pos S *ℤ z))) contents range y value (pos 0)
        (λ m. omega (arith, ints, one_times (pos S *ℤ range.most)))
        (λ m e. absurd (let a = is-full h in omega (arith, ints, a, m))) (λ m e. absurd (let a = is-full h in
        omega (arith, ints, a, m))))
        (λ h l. let m = times_rises S range.least (upper_end contents range y value (pos 0))
        (upper-least contents range y value (pos 0) (omega (arith, ints)) f) in
        omega (arith, ints, m, one_times (pos S *ℤ upper_end contents range y value (pos 0))))
        (λ h l. upper-is (λ z. other.num ≤ℤ (pos other.den *ℤ (pos S *ℤ z))) contents range y value (pos 0)
        (λ m. g.below_most h)
        (λ m e. absurd (not-empty l e))
        (λ m e. min_is (λ z. other.num ≤ℤ (pos other.den *ℤ (pos S *ℤ z))) range.most (ceiling value +ℤ pos 0)
        (λ w. g.below_most h)
        (λ w. subst (λ (z : ℤ). other.num ≤ℤ (pos other.den *ℤ (pos S *ℤ z))) (sym (plus-none (ceiling value)))
        (lowered S (ceiling value) value other f.value_some value_over (ceiling_high value f.value_some)))))
      where
        plus-none : (z : ℤ) → z +ℤ pos 0 ≡ z
        plus-none z = omega (arith, ints)

-- ---- nesting: contents of ticks, y at most x, and so what goes with them

module _ (contents range : Bounds) (y x value other : Rational) (f : Fits contents range y value)
    (g : Fits contents range x other)
    (under : Leads 1 1 y x) (value_under : Leads 1 1 value other) where
  up-to : (t : ℤ) → (pos y.den *ℤ t) ≤ℤ y.num → (pos x.den *ℤ t) ≤ℤ x.num
  up-to t h = subst (λ (z : ℤ). z ≤ℤ x.num) (one-within x.den t) (raised 1 t y x f.some under h)

  down-to : (t : ℤ) → x.num ≤ℤ (pos x.den *ℤ t) → y.num ≤ℤ (pos y.den *ℤ t)
  down-to t h = sunk 1 t y x (omega arith) g.some under (subst (λ (z : ℤ). x.num ≤ℤ z) (sym (one-within x.den t)) h)

  value-up-to : (t : ℤ) → (pos value.den *ℤ t) ≤ℤ value.num → (pos other.den *ℤ t) ≤ℤ other.num
  value-up-to t h = subst (λ (z : ℤ). z ≤ℤ other.num) (one-within other.den t)
      (raised 1 t value other f.value_some value_under h)

  value-down-to : (t : ℤ) → other.num ≤ℤ (pos other.den *ℤ t) → value.num ≤ℤ (pos value.den *ℤ t)
  value-down-to t h = sunk 1 t value other (omega arith) g.value_some value_under
      (subst (λ (z : ℤ). other.num ≤ℤ z) (sym (one-within other.den t)) h)

  pub lower-rises : (room : ℤ) → pos 0 ≤ℤ room → lower_end contents range y value room ≤ℤ lower_end contents range x
      other room
  lower-rises room positive =
      lower-is (λ z. lower_end contents range y value room ≤ℤ z) contents range x other room
      (λ h. lower-most contents range y value room positive f)
      (λ h l. lower-is (λ z. z ≤ℤ range.least) contents range y value room
      (λ m. absurd (let a = up-to contents.most m in omega (arith, ints, a, h))) (λ m k. omega (arith, ints))
      (λ m k. absurd (let a = down-to contents.least l in omega (arith, ints, a, k))))
      (λ h l. lower-is (λ z. z ≤ℤ int_max range.least (floor other -ℤ room)) contents range y value room
      (λ m. absurd (let a = up-to contents.most m in omega (arith, ints, a, h)))
      (λ m k. max_left range.least (floor other -ℤ room))
      (λ m k. max_rises range.least (floor value -ℤ room) (floor other -ℤ room)
      (let a = floor_greatest other (floor value) g.value_some
      (value-up-to (floor value) (floor_low value f.value_some)) in omega (arith, ints, a))))

  pub upper-rises : (room : ℤ) → pos 0 ≤ℤ room → upper_end contents range y value room ≤ℤ upper_end contents range x
      other room
  upper-rises room positive =
      upper-is (λ z. z ≤ℤ upper_end contents range x other room) contents range y value room
      (λ h. upper-is (λ z. range.most ≤ℤ z) contents range x other room
      (λ m. omega (arith, ints)) (λ m k. absurd (let a = up-to contents.most h in omega (arith, ints, a, m)))
      (λ m k. absurd (let a = up-to contents.most h in omega (arith, ints, a, m))))
      (λ h l. upper-least contents range x other room positive g)
      (λ h l. upper-is (λ z. int_min range.most (ceiling value +ℤ room) ≤ℤ z) contents range x other room
      (λ m. min_left range.most (ceiling value +ℤ room)) (λ m k. absurd (let a = down-to contents.least k in
      omega (arith, ints, a, l)))
      (λ m k. min_rises range.most (ceiling value +ℤ room) (ceiling other +ℤ room)
      (let a = ceiling_least value (ceiling other) f.value_some
      (value-down-to (ceiling other) (ceiling_high other g.value_some)) in omega (arith, ints, a))))

-- ---- what is placed rises with the content, at every two scales

module _ (T U : ℕ) (contents range : Bounds) (y x value other : Rational) (some : 0 < T) (other_some : 0 < U)
    (order : range.least ≤ℤ range.most)
    (f : FitsAt T contents range y value) (g : FitsAt U contents range x other) (leads : Leads T U y x)
    (value_leads : Leads T U value other) where
  between-wholes : (a b : ℤ) → a ≤ℤ b → Leads T U (whole (at_scale T a)) (whole (at_scale U b))
  between-wholes a b le = record {
    crossed =
        let m = times_rises U (pos T *ℤ a) (pos T *ℤ b) (times_rises T a b le) in
        omega (arith, ints, m, exchanged T U b, one_times (pos U *ℤ (pos T *ℤ a)), one_times (pos T *ℤ (pos U *ℤ b)));
  }

  pub placed-rises : Leads T U (placed T contents range y value) (placed U contents range x other)
  placed-rises =
      placed-is (λ (r : Rational). Leads T U r (placed U contents range x other)) T contents range y value
      (λ h. placed-is (λ (r : Rational). Leads T U (whole (at_scale T range.most)) r) U contents range x other
      (λ m. between-wholes range.most range.most (omega (arith, ints)))
      (λ m e. absurd (let a = passes-up T U y x leads contents.most some f.some h in omega (arith, ints, a, m)))
      (λ m e. absurd (let a = passes-up T U y x leads contents.most some f.some h in omega (arith, ints, a, m))))
      (λ h l. placed-is (λ (r : Rational). Leads T U (whole (at_scale T range.least)) r) U contents range x other
      (λ m. between-wholes range.least range.most order)
      (λ m e. between-wholes range.least range.least (omega (arith, ints)))
      (λ m e. through T U (whole (at_scale T range.least)) other range.least
      (omega (arith, ints, one_times (pos T *ℤ range.least))) (g.above_least e)))
      (λ h l. placed-is (λ (r : Rational). Leads T U value r) U contents range x other
      (λ m. through T U value (whole (at_scale U range.most)) range.most (f.below_most h)
      (omega (arith, ints, one_times (pos U *ℤ range.most))))
      (λ m e. absurd (let a = passes-down T U y x leads contents.least other_some g.some e in
      omega (arith, ints, a, l)))
      (λ m e. value_leads))

-- what is placed lies in its range
pub placed-most : (S : ℕ) (contents range : Bounds) (x value : Rational) → range.least ≤ℤ range.most
    → FitsAt S contents range x value
    → (placed S contents range x value).num ≤ℤ (pos (placed S contents range x value).den *ℤ (pos S *ℤ range.most))
placed-most S contents range x value order f = placed-is (λ (r : Rational). r.num
    ≤ℤ (pos r.den *ℤ (pos S *ℤ range.most))) S contents range x value
    (λ h. omega (arith, ints, one_times (pos S *ℤ range.most)))
    (λ h l. let a = times_rises S range.least range.most order in
    omega (arith, ints, a, one_times (pos S *ℤ range.most)))
    (λ h l. f.below_most h)

pub placed-least : (S : ℕ) (contents range : Bounds) (x value : Rational) → range.least ≤ℤ range.most
    → FitsAt S contents range x value
    → (pos (placed S contents range x value).den *ℤ (pos S *ℤ range.least)) ≤ℤ (placed S contents range x value).num
placed-least S contents range x value order f = placed-is (λ (r : Rational). (pos r.den *ℤ (pos S *ℤ range.least))
    ≤ℤ r.num) S contents range x value
    (λ h. let a = times_rises S range.least range.most order in
    omega (arith, ints, a, one_times (pos S *ℤ range.least)))
    (λ h l. omega (arith, ints, one_times (pos S *ℤ range.least)))
    (λ h l. f.above_least l)

pub placed-some : (S : ℕ) (contents range : Bounds) (x value : Rational) → 0 < value.den
    → 0 < (placed S contents range x value).den
placed-some S contents range x value some = placed-is (λ (r : Rational). 0 < r.den) S contents range x value
    (λ h. omega arith) (λ h l. omega arith) (λ h l. some)
