-- What controls keep of the next levels of a tank, one control after another.
use Rattle.std.proofs.Common.{◌≡◌, Bool, true, false, ℕ, ◌+◌, ◌<◌, ◌≤◌, ℤ, ◌≤ℤ◌, List, [], ◌∷◌, ◌++◌}
use Rattle.std.proofs.Common.{length, take, refl, ap, sym, ◌∙◌, arith, get_or}
use Rattle.std.specs.Prelude.{fold, ◌==◌, ◌&&◌, if◌then◌else◌}
use Rattle.std.specs.Int.{int_min}
use Rattle.std.proofs.lemmas.Int.{ints, clamps}
use Rattle.std.proofs.lemmas.List.{take_more, take_all}
use Rattle.hyd_num.specs.Rational.{whole}
use Rattle.hyd_num.proofs.Integers.{one_times}
use Rattle.hyd_spec.specs.ProgramTypes.{Control, When, AtLevel, AtTime, AtClock}
use Rattle.hyd_spec.specs.Tank.{Bounds, reaches}
use Rattle.hyd_spec_certificates.specs.Interval.{Interval}
use Rattle.hyd_spec_certificates.specs.Decided.{control_truth}
use Rattle.hyd_spec_certificates.specs.ThreeValuedLogic.{at_both_ends, is_yes}
use Rattle.hyd_spec_open_ends.specs.StocksOverLengths.{on_side, kept_when, kept}
use Rattle.hyd_theorems_on_definitions.specs.LyingInIntervals.{IsWithin}
use Rattle.hyd_theorems_on_definitions.proofs.ValuesByContent.{above-yes, below-yes}

fold_push : {X Y : Type 0} (f : X → Y → X) (a : X) (ys : List Y) (y : Y) → fold f a (ys ++ y ∷ []) ≡ f (fold f a ys) y
fold_push {X} {Y} f a [] y = refl
fold_push {X} {Y} f a (z ∷ ys) y = fold_push f (f a z) ys y

pub kept_more : (controls : List Control) (i k : ℕ) (carried levels : Interval) (control : Control)
    → i < length controls → control ≡ get_or controls i control
    → kept (take (i + 1) controls) k carried levels
    ≡ kept_when k carried control.when (kept (take i controls) k carried levels)
kept_more controls i k carried levels control h at =
    ap (λ (cs : List Control). kept cs k carried levels) (take_more controls i control h
    ∙ ap (λ (c : Control). take i controls ++ c ∷ []) (sym at))
    ∙ fold_push (λ (x : Interval) (c : Control). kept_when k carried c.when x) levels (take i controls) control

pub kept_all : (controls all : List Control) (i k : ℕ) (carried levels : Interval) → length controls ≤ i
    → controls ≡ all → kept (take i controls) k carried levels ≡ kept all k carried levels
kept_all controls all i k carried levels h is =
    ap (λ (cs : List Control). kept cs k carried levels) (take_all i controls h ∙ is)

-- ---- within bounds

both : (a b : Bool) → is_yes (at_both_ends a b) ≡ true → (a ≡ true) × (b ≡ true)
both true true e = (refl, refl)
both true false e = absurd (cc)
both false true e = absurd (cc)
both false false e = absurd (cc)

at-least : (z t : ℤ) → reaches 1 true t (whole z) ≡ true → t ≤ℤ z
at-least z t e = let l = above-yes 1 t (whole z) e in omega (arith, ints, l, one_times t, one_times z)

at-most : (z t : ℤ) → reaches 1 false t (whole z) ≡ true → z ≤ℤ t
at-most z t e = let l = below-yes 1 t (whole z) e in omega (arith, ints, l, one_times t, one_times z)

side-within : (bounds : Bounds) (carried levels : Interval) (above : Bool) (ticks : ℤ) → IsWithin bounds carried
    → IsWithin bounds levels → is_yes (control_truth carried above ticks) ≡ true
    → IsWithin bounds (on_side above ticks levels)
side-within bounds carried levels true ticks c l met =
    let ends = both (reaches 1 true ticks (whole carried.lo)) (reaches 1 true ticks (whole carried.hi)) met in
    let a = at-least carried.lo ticks ends.0 in
    let m = c.lo_below in
    let x = l.lo_above in
    let y = l.lo_below in
    record {
      lo_above = omega (arith, ints, clamps, x);
      lo_below = omega (arith, ints, clamps, a, m, y);
      hi_above = l.hi_above;
      hi_below = l.hi_below;
    }
side-within bounds carried levels false ticks c l met =
    let ends = both (reaches 1 false ticks (whole carried.lo)) (reaches 1 false ticks (whole carried.hi)) met in
    let a = at-most carried.hi ticks ends.1 in
    let m = c.hi_above in
    let x = l.hi_above in
    let y = l.hi_below in
    record {
      lo_above = l.lo_above;
      lo_below = l.lo_below;
      hi_above = let e : bounds.least ≤ℤ int_min ticks levels.hi = omega (arith, ints, clamps, a, m, x) in e;
      hi_below = let e : int_min ticks levels.hi ≤ℤ bounds.most = omega (arith, ints, clamps, y) in e;
    }

by-test : (bounds : Bounds) (carried levels : Interval) (above : Bool) (ticks : ℤ) (same met : Bool)
    → is_yes (control_truth carried above ticks) ≡ met → IsWithin bounds carried → IsWithin bounds levels
    → IsWithin bounds (if (same && met) then on_side above ticks levels else levels)
by-test bounds carried levels above ticks true true is c l = side-within bounds carried levels above ticks c l is
by-test bounds carried levels above ticks true false is c l = l
by-test bounds carried levels above ticks false met is c l = l

one-within : (bounds : Bounds) (k : ℕ) (carried levels : Interval) (when : When) → IsWithin bounds carried
    → IsWithin bounds levels → IsWithin bounds (kept_when k carried when levels)
one-within bounds k carried levels (AtLevel tank above ticks) c l =
    by-test bounds carried levels above ticks (tank == k) (is_yes (control_truth carried above ticks)) refl c l
one-within bounds k carried levels (AtTime at) c l = l
one-within bounds k carried levels (AtClock at) c l = l

pub kept_within : (bounds : Bounds) (controls : List Control) (k : ℕ) (carried levels : Interval)
    → IsWithin bounds carried → IsWithin bounds levels → IsWithin bounds (kept controls k carried levels)
kept_within bounds [] k carried levels c l = l
kept_within bounds (control ∷ controls) k carried levels c l =
    kept_within bounds controls k carried (kept_when k carried control.when levels) c
    (one-within bounds k carried levels control.when c l)
