-- The numbers of links that are right by themselves are in the ranges of capacities.
use Rattle.std.proofs.Common.{◌≡◌, ◌^◌, ◌∙◌, ℕ, Bool, true, false, List, Option, Some, None, refl, arith, codes}
use Rattle.std.specs.Prelude.{ℤ, pos, slice_get}
use Rattle.std.proofs.lemmas.Int.{ints}
use Rattle.hyd_num.specs.CapacityRange.{IsRefused}
use Rattle.hyd_num.specs.declared.link_capacities.Origin.TheVariants.{Pipe}
use Rattle.hyd_num.specs.declared.decimals.Decimal.{Decimal}
use Rattle.hyd_net.proofs.EqualValues.{Decimal-equal}
use Rattle.hyd_net.specs.NumberRanges.{Lies, IsUpTo}
use Rattle.hyd_capacities.specs.FileNumberRanges.{IsPositiveUpTo, IsMinorCoefficient}
use Rattle.hyd_spec_power_laws.specs.PowerCapacities.{IsRefused as IsPowerRefused}
use Rattle.hyd_spec_input.specs.CapacitiesOutOfRange.{IsRefusedPipe, IsRefusedPowerPipe}
use Rattle.hyd_spec_input.specs.Columns.{up_to, word, amount, units, is_option_keyword}
use Rattle.hyd_spec_input.specs.NodeAndLinkRows as alone
use Rattle.hyd_theorems_on_input.proofs.RowsWithoutFault.{needed_none, within}
use Rattle.hyd_theorems_on_input.proofs.OptionsAndTimesInForce.{keyword_same}
use Rattle.hyd_theorems_on_input.proofs.LinkKinds.{valve_numbers}
use Rattle.hyd_judge_links_controls_and_rules.specs.AskedStatesOfLinks.{IsThrottleCoefficient}
use Rattle.hyd_theorems_on_input.proofs.OneProject.{general_not_throttle}

-- ---- numbers

pub positive_up_to : (most : ℕ) (d : Decimal) (nano : ℤ) → d.nano ≡ nano → Lies (pos 1) (units most) nano
    → IsPositiveUpTo most d
positive_up_to most d nano e l = record {
  positive = rw e (let b = l.at_least in omega (arith, ints, b));
  at_most = rw e l.at_most;
}

pub minor_up_to : (d : Decimal) (nano : ℤ) → d.nano ≡ nano → IsUpTo (10 ^ 6) nano → IsMinorCoefficient d
minor_up_to d nano e l = record { not_negative = rw e l.at_least; at_most = rw e l.at_most }

pub coefficient_up_to : (d : Decimal) (nano : ℤ) → d.nano ≡ nano → IsUpTo (10 ^ 6) nano → IsThrottleCoefficient d
coefficient_up_to d nano e l = record { not_negative = rw e l.at_least; at_most = rw e l.at_most }

-- ---- pipes

-- numbers are told by their billionths
pub refused_pipe : (l d n k : Decimal) (us : Bool) → IsRefused (Pipe us l d n k)
    → IsRefusedPipe l.nano d.nano n.nano k.nano us
refused_pipe l d n k us refused = record {
  l = l;
  l_is = refl;
  d = d;
  d_is = refl;
  n = n;
  n_is = refl;
  k = k;
  k_is = refl;
  refused = refused;
}

pub refused_pipe_numbers : (l d n k : Decimal) (us : Bool) → IsRefusedPipe l.nano d.nano n.nano k.nano us
    → IsRefused (Pipe us l d n k)
refused_pipe_numbers l d n k us is =
    rw (
      ← Decimal-equal is.l l is.l_is,
      ← Decimal-equal is.d d is.d_is,
      ← Decimal-equal is.n n is.n_is,
      ← Decimal-equal is.k k is.k_is,
    ) is.refused

pub refused_power_pipe : (l d c k : Decimal) (us : Bool)
    → IsPowerRefused (record { length = l; diameter = d; coefficient = c; minor = k; us = us })
    → IsRefusedPowerPipe l.nano d.nano c.nano k.nano us
refused_power_pipe l d c k us refused = record {
  l = l;
  l_is = refl;
  d = d;
  d_is = refl;
  c = c;
  c_is = refl;
  k = k;
  k_is = refl;
  refused = refused;
}

pub refused_power_numbers : (l d c k : Decimal) (us : Bool) → IsRefusedPowerPipe l.nano d.nano c.nano k.nano us
    → IsPowerRefused (record { length = l; diameter = d; coefficient = c; minor = k; us = us })
refused_power_numbers l d c k us is =
    rw (
      ← Decimal-equal is.l l is.l_is,
      ← Decimal-equal is.d d is.d_is,
      ← Decimal-equal is.c c is.c_is,
      ← Decimal-equal is.k k is.k_is,
    ) is.refused

-- ---- valves

not_both : (o : Option (List ℕ)) → is_option_keyword (codes "TCV") o ≡ true
    → is_option_keyword (codes "GPV") o ≡ false
not_both None e = refl
not_both (Some w) e = keyword_same (codes "TCV") (codes "GPV") w e ∙ general_not_throttle

-- a throttle control valve is no general purpose valve
pub throttle_alone : (words : List (List ℕ)) → alone.is_throttle words ≡ true → alone.is_general words ≡ false
throttle_alone words e = not_both (slice_get words 4) e

-- the setting of a throttle control valve
pub coefficient_right : (words : List (List ℕ)) → alone.valve words ≡ None → alone.is_throttle words ≡ true
    → IsUpTo (10 ^ 6) (amount 5 words)
coefficient_right words e t =
    let setting = (needed_none (alone.valve_setting words) 5 words (valve_numbers words e).setting).right in
    let right : up_to (10 ^ 6) (word 5 words) ≡ None = rw t at setting in
    within (pos 0) (units (10 ^ 6)) (word 5 words) right
