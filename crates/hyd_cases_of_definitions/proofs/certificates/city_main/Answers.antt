use Rattle.std.proofs.Common.{refl, ◌≡◌, pos, neg_ℤ, [], ◌∷◌, arith}
use Rattle.hyd_cases_of_definitions.proofs.certificates.city_main.Goals as goal
use Rattle.hyd_spec_certificates.specs.EnclosingFunctions.{root_up}
use Rattle.hyd_theorems_on_definitions.proofs.Roots.{root_down-quick, quick_root}
use Rattle.std.proofs.lemmas.Int.{ints}
use Rattle.std.proofs.lemmas.List.Elements.{All-nil, All-cons}
use Rattle.hyd_spec_certificates.specs.declared.Problem.TheVariants.{Main}
use Rattle.hyd_spec_certificates.specs.declared.Side.TheVariants.{Upper, Lower}
use Rattle.hyd_spec_certificates.specs.Certificate.{IsInBox, Passes}
use Rattle.hyd_spec_certificates.specs.NetOutflow.{net_low, net_high}
use Rattle.hyd_lemmas.proofs.Each.{each_two}
use Rattle.hyd_cases_of_definitions.specs.EachKindOfLink.{city, first, second}

pub returns-clause-upper_passes : goal.returns-clause-upper_passes
unfolding root_up quick_root
returns-clause-upper_passes c = λ parts.
    let at_first : net_low (city parts) Main (pos 526428225406959 ∷ pos 1015580607643695 ∷ []) 0 (first parts)
    ≡ pos 61 = simp (
      parts.pipe_is.low_mantissa_is,
      parts.pipe_is.low_exponent_is,
      parts.pipe_is.high_mantissa_is,
      parts.pipe_is.high_exponent_is,
      parts.check_is.low_mantissa_is,
      parts.check_is.low_exponent_is,
      parts.check_is.high_mantissa_is,
      parts.check_is.high_exponent_is,
      parts.valve_is.low_mantissa_is,
      parts.valve_is.low_exponent_is,
      parts.valve_is.high_mantissa_is,
      parts.valve_is.high_exponent_is,
      parts.driven_is.low_mantissa_is,
      parts.driven_is.low_exponent_is,
      parts.driven_is.high_mantissa_is,
      parts.driven_is.high_exponent_is,
    ) (rw root_down-quick refl) in
    let at_second : net_low (city parts) Main (pos 526428225406959 ∷ pos 1015580607643695 ∷ []) 1 (second parts)
    ≡ pos 61 = simp (
      parts.check_is.low_mantissa_is,
      parts.check_is.low_exponent_is,
      parts.check_is.high_mantissa_is,
      parts.check_is.high_exponent_is,
      parts.pump_is.low_mantissa_is,
      parts.pump_is.low_exponent_is,
      parts.pump_is.high_mantissa_is,
      parts.pump_is.high_exponent_is,
      parts.control_is.low_mantissa_is,
      parts.control_is.low_exponent_is,
      parts.control_is.high_mantissa_is,
      parts.control_is.high_exponent_is,
      parts.emitter_is.low_mantissa_is,
      parts.emitter_is.low_exponent_is,
      parts.emitter_is.high_mantissa_is,
      parts.emitter_is.high_exponent_is,
    ) (rw root_down-quick refl) in
    record {
      one_each = refl;
      in_box = All-cons IsInBox (pos 526428225406959) (pos 1015580607643695 ∷ []) (record {
        above_floor = omega (arith, ints);
        below_ceiling = omega (arith, ints);
      })
          (All-cons IsInBox (pos 1015580607643695) ([]) (record {
            above_floor = omega (arith, ints);
            below_ceiling = omega (arith, ints);
          }) (All-nil IsInBox));
      passes = each_two _ (Passes (city parts) Main Upper (pos 526428225406959 ∷ pos 1015580607643695 ∷ []))
          (first parts) (second parts) (omega (arith, ints, at_first)) (omega (arith, ints, at_second));
    }

pub returns-clause-upper_fails_at_first : goal.returns-clause-upper_fails_at_first
unfolding root_up quick_root
returns-clause-upper_fails_at_first c = λ parts is.
    let net : net_low (city parts) Main (pos 526428225406958 ∷ pos 1015580607643695 ∷ []) 0 (first parts)
    ≡ pos 60 = simp (
      parts.pipe_is.low_mantissa_is,
      parts.pipe_is.low_exponent_is,
      parts.pipe_is.high_mantissa_is,
      parts.pipe_is.high_exponent_is,
      parts.check_is.low_mantissa_is,
      parts.check_is.low_exponent_is,
      parts.check_is.high_mantissa_is,
      parts.check_is.high_exponent_is,
      parts.valve_is.low_mantissa_is,
      parts.valve_is.low_exponent_is,
      parts.valve_is.high_mantissa_is,
      parts.valve_is.high_exponent_is,
      parts.driven_is.low_mantissa_is,
      parts.driven_is.low_exponent_is,
      parts.driven_is.high_mantissa_is,
      parts.driven_is.high_exponent_is,
    ) (rw root_down-quick refl) in
    let passes : Passes (city parts) Main Upper (pos 526428225406958 ∷ pos 1015580607643695 ∷ []) 0 (first parts) =
    is.passes 0 (first parts) refl in
    omega (arith, ints, passes, net)

pub returns-clause-upper_fails_at_second : goal.returns-clause-upper_fails_at_second
unfolding root_up quick_root
returns-clause-upper_fails_at_second c = λ parts is.
    let net : net_low (city parts) Main (pos 526428225406959 ∷ pos 1015580607643694 ∷ []) 1 (second parts)
    ≡ pos 60 = simp (
      parts.check_is.low_mantissa_is,
      parts.check_is.low_exponent_is,
      parts.check_is.high_mantissa_is,
      parts.check_is.high_exponent_is,
      parts.pump_is.low_mantissa_is,
      parts.pump_is.low_exponent_is,
      parts.pump_is.high_mantissa_is,
      parts.pump_is.high_exponent_is,
      parts.control_is.low_mantissa_is,
      parts.control_is.low_exponent_is,
      parts.control_is.high_mantissa_is,
      parts.control_is.high_exponent_is,
      parts.emitter_is.low_mantissa_is,
      parts.emitter_is.low_exponent_is,
      parts.emitter_is.high_mantissa_is,
      parts.emitter_is.high_exponent_is,
    ) (rw root_down-quick refl) in
    let passes : Passes (city parts) Main Upper (pos 526428225406959 ∷ pos 1015580607643694 ∷ []) 1 (second parts) =
    is.passes 1 (second parts) refl in
    omega (arith, ints, passes, net)

pub returns-clause-lower_passes : goal.returns-clause-lower_passes
unfolding root_up quick_root
returns-clause-lower_passes c = λ parts.
    let at_first : net_high (city parts) Main (pos 525959255858584 ∷ pos 1015580607115147 ∷ []) 0 (first parts)
    ≡ neg_ℤ (pos 61) = simp (
      parts.pipe_is.low_mantissa_is,
      parts.pipe_is.low_exponent_is,
      parts.pipe_is.high_mantissa_is,
      parts.pipe_is.high_exponent_is,
      parts.check_is.low_mantissa_is,
      parts.check_is.low_exponent_is,
      parts.check_is.high_mantissa_is,
      parts.check_is.high_exponent_is,
      parts.valve_is.low_mantissa_is,
      parts.valve_is.low_exponent_is,
      parts.valve_is.high_mantissa_is,
      parts.valve_is.high_exponent_is,
      parts.driven_is.low_mantissa_is,
      parts.driven_is.low_exponent_is,
      parts.driven_is.high_mantissa_is,
      parts.driven_is.high_exponent_is,
    ) (rw root_down-quick refl) in
    let at_second : net_high (city parts) Main (pos 525959255858584 ∷ pos 1015580607115147 ∷ []) 1 (second parts)
    ≡ neg_ℤ (pos 61) = simp (
      parts.check_is.low_mantissa_is,
      parts.check_is.low_exponent_is,
      parts.check_is.high_mantissa_is,
      parts.check_is.high_exponent_is,
      parts.pump_is.low_mantissa_is,
      parts.pump_is.low_exponent_is,
      parts.pump_is.high_mantissa_is,
      parts.pump_is.high_exponent_is,
      parts.control_is.low_mantissa_is,
      parts.control_is.low_exponent_is,
      parts.control_is.high_mantissa_is,
      parts.control_is.high_exponent_is,
      parts.emitter_is.low_mantissa_is,
      parts.emitter_is.low_exponent_is,
      parts.emitter_is.high_mantissa_is,
      parts.emitter_is.high_exponent_is,
    ) (rw root_down-quick refl) in
    record {
      one_each = refl;
      in_box = All-cons IsInBox (pos 525959255858584) (pos 1015580607115147 ∷ []) (record {
        above_floor = omega (arith, ints);
        below_ceiling = omega (arith, ints);
      })
          (All-cons IsInBox (pos 1015580607115147) ([]) (record {
            above_floor = omega (arith, ints);
            below_ceiling = omega (arith, ints);
          }) (All-nil IsInBox));
      passes = each_two _ (Passes (city parts) Main Lower (pos 525959255858584 ∷ pos 1015580607115147 ∷ []))
          (first parts) (second parts) (omega (arith, ints, at_first)) (omega (arith, ints, at_second));
    }

pub returns-clause-lower_fails_at_first : goal.returns-clause-lower_fails_at_first
unfolding root_up quick_root
returns-clause-lower_fails_at_first c = λ parts is.
    let net : net_high (city parts) Main (pos 525959255858585 ∷ pos 1015580607115147 ∷ []) 0 (first parts)
    ≡ neg_ℤ (pos 60) = simp (
      parts.pipe_is.low_mantissa_is,
      parts.pipe_is.low_exponent_is,
      parts.pipe_is.high_mantissa_is,
      parts.pipe_is.high_exponent_is,
      parts.check_is.low_mantissa_is,
      parts.check_is.low_exponent_is,
      parts.check_is.high_mantissa_is,
      parts.check_is.high_exponent_is,
      parts.valve_is.low_mantissa_is,
      parts.valve_is.low_exponent_is,
      parts.valve_is.high_mantissa_is,
      parts.valve_is.high_exponent_is,
      parts.driven_is.low_mantissa_is,
      parts.driven_is.low_exponent_is,
      parts.driven_is.high_mantissa_is,
      parts.driven_is.high_exponent_is,
    ) (rw root_down-quick refl) in
    let passes : Passes (city parts) Main Lower (pos 525959255858585 ∷ pos 1015580607115147 ∷ []) 0 (first parts) =
    is.passes 0 (first parts) refl in
    omega (arith, ints, passes, net)

pub returns-clause-lower_fails_at_second : goal.returns-clause-lower_fails_at_second
unfolding root_up quick_root
returns-clause-lower_fails_at_second c = λ parts is.
    let net : net_high (city parts) Main (pos 525959255858584 ∷ pos 1015580607115148 ∷ []) 1 (second parts)
    ≡ neg_ℤ (pos 60) = simp (
      parts.check_is.low_mantissa_is,
      parts.check_is.low_exponent_is,
      parts.check_is.high_mantissa_is,
      parts.check_is.high_exponent_is,
      parts.pump_is.low_mantissa_is,
      parts.pump_is.low_exponent_is,
      parts.pump_is.high_mantissa_is,
      parts.pump_is.high_exponent_is,
      parts.control_is.low_mantissa_is,
      parts.control_is.low_exponent_is,
      parts.control_is.high_mantissa_is,
      parts.control_is.high_exponent_is,
      parts.emitter_is.low_mantissa_is,
      parts.emitter_is.low_exponent_is,
      parts.emitter_is.high_mantissa_is,
      parts.emitter_is.high_exponent_is,
    ) (rw root_down-quick refl) in
    let passes : Passes (city parts) Main Lower (pos 525959255858584 ∷ pos 1015580607115148 ∷ []) 1 (second parts) =
    is.passes 1 (second parts) refl in
    omega (arith, ints, passes, net)
