use Rattle.std.proofs.Common.{refl, ◌≡◌, pos, neg_ℤ, [], ◌∷◌, arith}
use Rattle.hyd_cases_of_definitions.proofs.certificates.one_valve.Goals as goal
use Rattle.hyd_spec_certificates.specs.EnclosingFunctions.{root_up}
use Rattle.hyd_theorems_on_definitions.proofs.Roots.{root_down-quick, quick_root}
use Rattle.std.proofs.lemmas.Int.{ints}
use Rattle.std.proofs.lemmas.List.Elements.{All-nil, All-cons}
use Rattle.hyd_spec_certificates.specs.declared.Problem.TheVariants.{Main}
use Rattle.hyd_spec_certificates.specs.declared.Side.TheVariants.{Upper, Lower}
use Rattle.hyd_spec_certificates.specs.Certificate.{IsInBox, Passes}
use Rattle.hyd_spec_certificates.specs.NetOutflow.{net_low, net_high}
use Rattle.hyd_lemmas.proofs.Each.{each_one}
use Rattle.hyd_cases_of_definitions.specs.OneValve.{end, one_valve}

pub returns-clause-upper_passes : goal.returns-clause-upper_passes
unfolding root_up quick_root
returns-clause-upper_passes c = λ capacity ends.
    let net : net_low (one_valve capacity) Main (pos 998718316144933 ∷ []) 0 end
    ≡ pos 41 = simp (ends.low_mantissa_is, ends.low_exponent_is, ends.high_mantissa_is, ends.high_exponent_is)
    (rw root_down-quick refl) in
    record {
      one_each = refl;
      in_box = All-cons IsInBox (pos 998718316144933) ([]) (record {
        above_floor = omega (arith, ints);
        below_ceiling = omega (arith, ints);
      }) (All-nil IsInBox);
      passes = each_one _ (Passes (one_valve capacity) Main Upper (pos 998718316144933 ∷ [])) end
          (omega (arith, ints, net));
    }

pub returns-clause-upper_fails : goal.returns-clause-upper_fails
unfolding root_up quick_root
returns-clause-upper_fails c = λ capacity ends is.
    let net : net_low (one_valve capacity) Main (pos 998718316144932 ∷ []) 0 end
    ≡ pos 40 = simp (ends.low_mantissa_is, ends.low_exponent_is, ends.high_mantissa_is, ends.high_exponent_is)
    (rw root_down-quick refl) in
    let passes : Passes (one_valve capacity) Main Upper (pos 998718316144932 ∷ []) 0 end = is.passes 0 end refl in
    omega (arith, ints, passes, net)

pub returns-clause-lower_passes : goal.returns-clause-lower_passes
unfolding root_up quick_root
returns-clause-lower_passes c = λ capacity ends.
    let net : net_high (one_valve capacity) Main (pos 998718316123912 ∷ []) 0 end ≡ neg_ℤ (pos 41) =
    simp (ends.low_mantissa_is, ends.low_exponent_is, ends.high_mantissa_is, ends.high_exponent_is)
    (rw root_down-quick refl) in
    record {
      one_each = refl;
      in_box = All-cons IsInBox (pos 998718316123912) ([]) (record {
        above_floor = omega (arith, ints);
        below_ceiling = omega (arith, ints);
      }) (All-nil IsInBox);
      passes = each_one _ (Passes (one_valve capacity) Main Lower (pos 998718316123912 ∷ [])) end
          (omega (arith, ints, net));
    }

pub returns-clause-lower_fails : goal.returns-clause-lower_fails
unfolding root_up quick_root
returns-clause-lower_fails c = λ capacity ends is.
    let net : net_high (one_valve capacity) Main (pos 998718316123913 ∷ []) 0 end ≡ neg_ℤ (pos 40) =
    simp (ends.low_mantissa_is, ends.low_exponent_is, ends.high_mantissa_is, ends.high_exponent_is)
    (rw root_down-quick refl) in
    let passes : Passes (one_valve capacity) Main Lower (pos 998718316123913 ∷ []) 0 end = is.passes 0 end refl in
    omega (arith, ints, passes, net)
