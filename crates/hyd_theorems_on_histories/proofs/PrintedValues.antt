-- A value lies between the printed ends of an interval that it lies in, at every scale.
use Rattle.std.proofs.Common.{◌≡◌, ℕ, ◌*◌, ◌^◌, ℤ, pos, ◌*ℤ◌, ◌≤ℤ◌, Bool, true, false, refl, sym, ap, ◌∙◌, arith}
use Rattle.std.proofs.Math.IntN.{*ℤ_comm}
use Rattle.std.proofs.lemmas.Int.{ints}
use Rattle.hyd_num.proofs.Integers.{times_rises, times_times, one_times}
use Rattle.hyd_num.specs.Rational.{Rational}
use Rattle.hyd_num.specs.FileQuantity.{ten_thousandths_of_metre_in_foot, ten_thousandths_of_pound_in_foot}
use Rattle.hyd_num.specs.FileQuantity.{flow_factor}
use Rattle.hyd_num.specs.PrintedDecimals.{head_quantity, pressure_quantity, flow_quantity}
use Rattle.hyd_num.specs.declared.flow_units.FlowUnit.{FlowUnit}
use Rattle.hyd_spec_certificates.specs.Interval.{Interval}
use Rattle.hyd_spec_certificates.specs.PrintedIntervals.{Prints, LiesBetween, at_part}
use Rattle.hyd_theorems_on_definitions.specs.LyingInIntervals.{LiesIn}
use Rattle.hyd_lemmas.proofs.BooleanTests.{le-from}

-- ---- products of two scales

flip : (a b : ℕ) (z : ℤ) → pos (a * b) *ℤ z ≡ pos (b * a) *ℤ z
flip a b z = let same : a * b ≡ b * a = omega arith in ap (λ (n : ℕ). pos n *ℤ z) same

swap : (a b : ℕ) (z : ℤ) → pos a *ℤ (pos b *ℤ z) ≡ pos b *ℤ (pos a *ℤ z)
swap a b z = times_times a b z ∙ flip a b z ∙ sym (times_times b a z)

-- S times the end's multiple, and the end's multiple of the scaled denominator
scaled_end : (S d : ℕ) (e : ℤ) → e *ℤ pos (d * S) ≡ pos S *ℤ (pos d *ℤ e)
scaled_end S d e = *ℤ_comm e (pos (d * S)) ∙ flip d S e ∙ sym (times_times S d e)

-- S times the value of a number of ticks
scaled_value : (S a : ℕ) (t : ℤ) → pos S *ℤ (pos (10 ^ 4) *ℤ (pos a *ℤ t)) ≡ pos (10 ^ 4) *ℤ (pos a *ℤ (pos S *ℤ t))
scaled_value S a t = swap S (10 ^ 4) (pos a *ℤ t) ∙ ap (λ (z : ℤ). pos (10 ^ 4) *ℤ z) (swap S a t)

low_end : (S d a : ℕ) (e t z : ℤ) → (e *ℤ pos d) ≤ℤ (pos (10 ^ 4) *ℤ (pos a *ℤ t)) → (pos S *ℤ t) ≤ℤ z
    → (e *ℤ pos (d * S)) ≤ℤ ((pos a *ℤ z) *ℤ pos (10 ^ 4))
low_end S d a e t z below lies =
    let multiple : (pos S *ℤ (pos d *ℤ e)) ≤ℤ (pos S *ℤ (pos (10 ^ 4) *ℤ (pos a *ℤ t))) =
    times_rises S (pos d *ℤ e) (pos (10 ^ 4) *ℤ (pos a *ℤ t)) (omega (arith, ints, below, *ℤ_comm e (pos d))) in
    let value = times_rises a (pos S *ℤ t) z lies in
    omega (arith, ints, multiple, value, scaled_end S d e, scaled_value S a t)

high_end : (S d a : ℕ) (e t z : ℤ) → (pos (10 ^ 4) *ℤ (pos a *ℤ t)) ≤ℤ (e *ℤ pos d) → z ≤ℤ (pos S *ℤ t)
    → ((pos a *ℤ z) *ℤ pos (10 ^ 4)) ≤ℤ (e *ℤ pos (d * S))
high_end S d a e t z above lies =
    let multiple : (pos S *ℤ (pos (10 ^ 4) *ℤ (pos a *ℤ t))) ≤ℤ (pos S *ℤ (pos d *ℤ e)) =
    times_rises S (pos (10 ^ 4) *ℤ (pos a *ℤ t)) (pos d *ℤ e) (omega (arith, ints, above, *ℤ_comm e (pos d))) in
    let value = times_rises a z (pos S *ℤ t) lies in
    omega (arith, ints, multiple, value, scaled_end S d e, scaled_value S a t)

-- ---- quantities

-- A quantity of ticks that is proportional to their number.
pub record IsProportional (quantity : ℤ → Rational) : Type 0 where
  pub factor : ℕ
  pub part : ℕ
  pub is : (t : ℤ) → quantity t ≡ record { num = pos factor *ℤ t; den = part }

ratio : (a b : ℤ) (d : ℕ) → a ≡ b → ◌≡◌ {A = Rational} (record { num = a; den = d }) (record { num = b; den = d })
ratio a b d e = ap (λ (n : ℤ). record { num = n; den = d }) e

pub head_proportional : (us : Bool) → IsProportional (head_quantity us)
head_proportional true = record {
  factor = 1;
  part = ten_thousandths_of_metre_in_foot * 10 ^ 9;
  is = λ t. ratio t (pos 1 *ℤ t) (ten_thousandths_of_metre_in_foot * 10 ^ 9)
      (sym (one_times t));
}
head_proportional false = record {
  factor = 1;
  part = 10 ^ 13;
  is = λ t. ratio t (pos 1 *ℤ t) (10 ^ 13)
      (sym (one_times t));
}

pub pressure_proportional : (us : Bool) → IsProportional (pressure_quantity us)
pressure_proportional true = record {
  factor = ten_thousandths_of_pound_in_foot;
  part = 10 ^ 4 * (ten_thousandths_of_metre_in_foot * 10 ^ 9);
  is = λ t. refl;
}
pressure_proportional false = record {
  factor = 1;
  part = 10 ^ 13;
  is = λ t. ratio t (pos 1 *ℤ t) (10 ^ 13)
      (sym (one_times t));
}

pub flow_proportional : (unit : FlowUnit) → IsProportional (flow_quantity unit)
flow_proportional unit = record {
  factor = (flow_factor unit).den;
  part = 10 ^ 7 * (flow_factor unit).num;
  is =
      λ t. refl;
}

-- ---- printed values

pub prints_hold : (S : ℕ) (quantity : ℤ → Rational) → IsProportional quantity → (interval ends : Interval) (z : ℤ)
    → Prints quantity interval ends → LiesIn S interval z → LiesBetween ends (at_part S quantity z)
prints_hold S quantity q interval ends z prints lies =
    let down = rw (q.is interval.lo) at prints.down.at_most in
    let up = rw (q.is interval.hi) at prints.up.at_least in
    record {
      at_least = rw (q.is z) (le-from (ends.lo *ℤ pos (q.part * S)) ((pos q.factor *ℤ z) *ℤ pos (10 ^ 4))
          (low_end S q.part q.factor ends.lo interval.lo z down lies.low));
      at_most = rw (q.is z) (le-from ((pos q.factor *ℤ z) *ℤ pos (10 ^ 4)) (ends.hi *ℤ pos (q.part * S))
          (high_end S q.part q.factor ends.hi interval.hi z up lies.high));
    }
