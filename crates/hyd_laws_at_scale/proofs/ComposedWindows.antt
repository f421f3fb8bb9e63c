-- Low and high flows of laws made of others, and answers for laws out of range.
use Rattle.std.proofs.Common.{◌≡◌, ℕ, ℤ, pos, ◌+ℤ◌, ◌*ℤ◌, Bool, true, false, if◌then◌else◌, ap, sym, subst, ◌∙◌}
use Rattle.std.proofs.Common.{arith, Option, Some, None}
use Rattle.std.specs.Prelude.{IfSome, IfNone, int_le}
use Rattle.std.specs.Int.{int_max, int_min}
use Rattle.std.proofs.lemmas.Int.{ints, clamps}
use Rattle.std.proofs.lemmas.Bool.{cond_both}
use Rattle.hyd_num.specs.Rational.{Rational}
use Rattle.hyd_num.specs.declared.spans.Span.{Span}
use Rattle.hyd_spec.specs.Scale.{at_scale}
use Rattle.hyd_spec.specs.ProgramTypes.{Capacity}
use Rattle.hyd_spec.specs.WholeNumbers.{is_same_number}
use Rattle.hyd_spec.specs.Law.{Law, Shut, QuadraticLaw, Lifted, Capped, Held}
use Rattle.hyd_spec_certificates.specs.EnclosingFunctions.{DemandLaw, Fixed, Driven}
use Rattle.hyd_spec_witnesses.specs.EnclosingFunctionsAtScale.{quadratic_low_at, quadratic_high_at, low_at, high_at}
use Rattle.hyd_spec_witnesses.specs.EnclosingFunctionsAtScale.{IsDifference, IsCapacityInRange, IsInRange}
use Rattle.hyd_spec_witnesses.specs.DemandsAtScale.{IsDemandInRange, driven_low_at, driven_high_at}
use Rattle.hyd_lemmas.proofs.BooleanTests.{both-first, both-second, le-yes}
use Rattle.hyd_law.specs.ComposedLaws.{IsLift, directed}
use Rattle.hyd_period_network.specs.ExactLaw.{one_way_law, is_nothing}
use Rattle.hyd_laws_at_scale.specs.declared.windows.Window.{Window}
use Rattle.hyd_laws_at_scale.specs.Windows.{IsWindow, IsAnswer, IsDemandWindow, IsDemandAnswer}

-- ---- one way

pub one_way_window : (forward : Bool) (S : ℕ) (law : Law) (d : ℤ) (w v : Window) → v.low ≡ directed forward w.low
    → v.high ≡ directed forward w.high → IsWindow S law d w → IsWindow S (one_way_law forward law) d v
one_way_window true S law d w v low high is = record {
  in_range = record { difference = is.in_range.difference; parts = is.in_range.parts };
  low_is = low ∙ ap (int_max (pos 0)) is.low_is;
  high_is = high ∙ ap (int_max (pos 0)) is.high_is;
}
one_way_window false S law d w v low high is = record {
  in_range = record { difference = is.in_range.difference; parts = is.in_range.parts };
  low_is = low ∙ ap (int_min (pos 0)) is.low_is;
  high_is = high ∙ ap (int_min (pos 0)) is.high_is;
}

pub one_way_none : (forward : Bool) (S : ℕ) (law : Law) (d : ℤ) → (IsInRange S law d → ⊥)
    → IsInRange S (one_way_law forward law) d → ⊥
one_way_none true S law d none is = none (record { difference = is.difference; parts = is.parts })
one_way_none false S law d none is = none (record { difference = is.difference; parts = is.parts })

-- ---- capped

pub capped_window : (S : ℕ) (setting : ℤ) (law : Law) (d : ℤ) (w v : Window)
    → v.low ≡ int_min (at_scale S setting) w.low → v.high ≡ int_min (at_scale S setting) w.high → IsWindow S law d w
    → IsWindow S (Capped setting law) d v
capped_window S setting law d w v low high is = record {
  in_range = record { difference = is.in_range.difference; parts = is.in_range.parts };
  low_is = low ∙ ap (int_min (at_scale S setting)) is.low_is;
  high_is = high ∙ ap (int_min (at_scale S setting)) is.high_is;
}

pub capped_none : (S : ℕ) (setting : ℤ) (law : Law) (d : ℤ) → (IsInRange S law d → ⊥)
    → IsInRange S (Capped setting law) d → ⊥
capped_none S setting law d none is = none (record { difference = is.difference; parts = is.parts })

-- ---- lifted

pub lifted_window : (S : ℕ) (lift : Rational) (span : Span) (c : Capacity) (d low high : ℤ) (w : Window)
    → IsLift lift span → IsDifference d
    → low ≡ d +ℤ at_scale S span.lo → IsDifference (d +ℤ at_scale S span.lo)
    → high ≡ d +ℤ at_scale S span.hi → IsDifference (d +ℤ at_scale S span.hi)
    → IsCapacityInRange S c → w.low ≡ quadratic_low_at S c low → w.high ≡ quadratic_high_at S c high
    → IsWindow S (Lifted lift (QuadraticLaw c)) d w
lifted_window S lift span c d low high w is inside e l f h fits g i = record {
  in_range = record {
    difference = inside;
    parts = (
      subst (λ (z : ℤ). IsDifference (d +ℤ at_scale S z)) is.floor_is l,
      (subst (λ (z : ℤ). IsDifference (d +ℤ at_scale S z)) is.ceiling_is h, fits),
    );
  };
  low_is = g ∙ ap (quadratic_low_at S c) (e ∙ ap (λ (z : ℤ). d +ℤ at_scale S z) is.floor_is);
  high_is = i ∙ ap (quadratic_high_at S c) (f ∙ ap (λ (z : ℤ). d +ℤ at_scale S z) is.ceiling_is);
}

pub lifted_low_none : (S : ℕ) (lift : Rational) (span : Span) (c : Capacity) (d : ℤ) → IsLift lift span
    → (IsDifference (d +ℤ at_scale S span.lo) → ⊥) → IsInRange S (Lifted lift (QuadraticLaw c)) d → ⊥
lifted_low_none S lift span c d lifts none is =
    none (subst (λ (z : ℤ). IsDifference (d +ℤ at_scale S z)) (sym lifts.floor_is) is.parts.0)

pub lifted_high_none : (S : ℕ) (lift : Rational) (span : Span) (c : Capacity) (d : ℤ) → IsLift lift span
    → (IsDifference (d +ℤ at_scale S span.hi) → ⊥) → IsInRange S (Lifted lift (QuadraticLaw c)) d → ⊥
lifted_high_none S lift span c d lifts none is =
    none (subst (λ (z : ℤ). IsDifference (d +ℤ at_scale S z)) (sym lifts.ceiling_is) is.parts.1.0)

-- ---- held from 0 to 0

same_is : (a b : ℤ) → is_same_number a b ≡ true → a ≡ b
same_is a b e =
    let l = le-yes a b (both-first (int_le a b) (int_le b a) e) in
    let m = le-yes b a (both-second (int_le a b) (int_le b a) e) in
    omega (arith, ints, l, m)

nothing_is : (S : ℕ) (least most v : ℤ) → least ≡ pos 0 → most ≡ pos 0
    → int_max (at_scale S least) (int_min (at_scale S most) v) ≡ pos 0
nothing_is S least most v e f =
    let zero : pos S *ℤ pos 0 ≡ pos 0 = omega (arith, ints) in
    let a : at_scale S least ≡ pos 0 = ap (λ (z : ℤ). pos S *ℤ z) e ∙ zero in
    let b : at_scale S most ≡ pos 0 = ap (λ (z : ℤ). pos S *ℤ z) f ∙ zero in
    omega (arith, ints, clamps, a, b)

pub held_or_shut : (S : ℕ) (least most : ℤ) (law : Law) (d : ℤ) (w : Window) → IsWindow S (Held least most law) d w
    → IsWindow S (if is_nothing least most then Shut else Held least most law) d w
held_or_shut S least most law d w is = cond_both (is_nothing least most) Shut (Held least most law)
    (λ (l : Law). IsWindow S l d w)
    (λ yes.
    let e = same_is least (pos 0) (both-first (is_same_number least (pos 0)) (is_same_number most (pos 0)) yes) in
    let f = same_is most (pos 0) (both-second (is_same_number least (pos 0)) (is_same_number most (pos 0)) yes) in
    record {
      in_range = record { difference = is.in_range.difference; parts = tt };
      low_is = is.low_is ∙ nothing_is S least most (low_at S law d) e f;
      high_is = is.high_is ∙ nothing_is S least most (high_at S law d) e f;
    })
    (λ no. is)

-- ---- answers

pub answered : (S : ℕ) (law : Law) (d : ℤ) (r : Option Window) → IsAnswer S law d r → IfSome r (IsWindow S law d)
answered S law d None is = tt
answered S law d (Some w) is = is

pub unanswered : (S : ℕ) (law : Law) (d : ℤ) (r : Option Window) → IsAnswer S law d r
    → IfNone r (IsInRange S law d → ⊥)
unanswered S law d None is = is
unanswered S law d (Some w) is = tt

pub demand_answered : (S : ℕ) (law : DemandLaw) (p : ℤ) (r : Option Window) → IsDemandAnswer S law p r
    → IfSome r (IsDemandWindow S law p)
demand_answered S law p None is = tt
demand_answered S law p (Some w) is = is

pub demand_unanswered : (S : ℕ) (law : DemandLaw) (p : ℤ) (r : Option Window) → IsDemandAnswer S law p r
    → IfNone r (IsDemandInRange S law p → ⊥)
demand_unanswered S law p None is = is
demand_unanswered S law p (Some w) is = tt

-- ---- laws that aren't made of others

pub quadratic_window : (S : ℕ) (c : Capacity) (d : ℤ) (w : Window) → IsDifference d → IsCapacityInRange S c
    → w.low ≡ quadratic_low_at S c d → w.high ≡ quadratic_high_at S c d → IsWindow S (QuadraticLaw c) d w
quadratic_window S c d w inside fits low high =
    record { in_range = record { difference = inside; parts = fits }; low_is = low; high_is = high }

pub driven_window : (S : ℕ) (demand : ℤ) (c : Capacity) (minimum required : Rational) (p : ℤ) (w : Window)
    → IsDifference p → IsCapacityInRange S c → w.low ≡ driven_low_at S demand c minimum required p
    → w.high ≡ driven_high_at S demand c minimum required p → IsDemandWindow S (Driven demand c minimum required) p w
driven_window S demand c minimum required p w inside fits low high =
    record { in_range = record { difference = inside; capacity = fits }; low_is = low; high_is = high }

pub fixed_window : (S : ℕ) (demand : ℤ) (p : ℤ) (w : Window) → IsDifference p → w.low ≡ at_scale S demand
    → w.high ≡ at_scale S demand → IsDemandWindow S (Fixed demand) p w
fixed_window S demand p w inside low high =
    record { in_range = record { difference = inside; capacity = tt }; low_is = low; high_is = high }
