use Rattle.std.proofs.Common.{refl, ◌≡◌, ◌≤ℤ◌, ◌-ℤ◌, ℤ, pos, List, [], ◌∷◌, length, arith}
use Rattle.std.proofs.lemmas.Int.{ints}
use Rattle.std.proofs.lemmas.List.Elements.{All-nil, All-cons, All-head}
use Rattle.hyd_num.specs.BinaryNumbers.{numerator, denominator}
use Rattle.hyd_num.proofs.EndsInOrder.{denominator_positive}
use Rattle.hyd_lemmas.proofs.Each.{each_one}
use Rattle.hyd_spec.specs.ProgramTypes.{Capacity}
use Rattle.hyd_spec_certificates.specs.declared.Problem.TheVariants.{Main}
use Rattle.hyd_spec_certificates.specs.declared.Side.TheVariants.{Upper, Lower}
use Rattle.hyd_spec_certificates.specs.EnclosingFunctions.{root_up, quadratic_low}
use Rattle.hyd_spec_certificates.specs.Certificate.{IsInBox, IsCertificate, Passes}
use Rattle.hyd_spec_certificates.specs.NetOutflow.{net_low}
use Rattle.hyd_theorems_on_definitions.proofs.Roots.{root_down-quick, quick_root}
use Rattle.hyd_theorems_on_definitions.proofs.LinkLaws.{low-rises}
use Rattle.hyd_theorems_on_definitions.proofs.EachLaw.{low_is}
use Rattle.hyd_cases_of_definitions.specs.Capacities.{IsValve}
use Rattle.hyd_cases_of_definitions.specs.OneValve.{thirsty_end, thirsty_valve}
use Rattle.hyd_cases_of_definitions.proofs.certificates.thirsty_valve.Goals as goal

pub returns-clause-upper_passes : goal.returns-clause-upper_passes
unfolding root_up quick_root
returns-clause-upper_passes c = λ capacity ends.
    let net : net_low (thirsty_valve capacity) Main (pos 1000000000000000 ∷ []) 0 thirsty_end ≡ pos 1000000000000000 =
    simp (ends.low_mantissa_is, ends.low_exponent_is, ends.high_mantissa_is, ends.high_exponent_is)
    (rw root_down-quick refl) in
    record {
      one_each = refl;
      in_box = All-cons IsInBox (pos 1000000000000000) ([]) (record {
        above_floor = omega (arith, ints);
        below_ceiling = omega (arith, ints);
      }) (All-nil IsInBox);
      passes = each_one _ (Passes (thirsty_valve capacity) Main Upper (pos 1000000000000000 ∷ [])) thirsty_end
          (omega (arith, ints, net));
    }

-- the valve carries no more at a smaller head difference
low_rises : (capacity : Capacity) (d e : ℤ) → d ≤ℤ e → quadratic_low capacity d ≤ℤ quadratic_low capacity e
low_rises capacity d e le =
    rw (low_is capacity d, low_is capacity e)
    (low-rises (numerator capacity.lo) (denominator capacity.lo) (numerator capacity.hi) (denominator capacity.hi)
    (denominator_positive capacity.lo) (denominator_positive capacity.hi) d e le)

-- what it carries at the greatest that the box allows
greatest : (capacity : Capacity) → IsValve capacity → quadratic_low capacity (pos 1001000000000000000)
    ≡ pos 8837442072588
unfolding root_up quick_root
greatest capacity ends = rw (ends.low_mantissa_is, ends.low_exponent_is) (rw root_down-quick refl)

-- so no head passes
none_passes : (capacity : Capacity) → IsValve capacity → (u : List ℤ) → length u ≡ 1
    → IsCertificate (thirsty_valve capacity) Main Lower u → ⊥
none_passes capacity ends [] one is = omega (arith, one)
none_passes capacity ends (h ∷ []) one is =
    let inside : IsInBox h = All-head IsInBox h [] is.in_box in
    let passes : Passes (thirsty_valve capacity) Main Lower (h ∷ []) 0 thirsty_end = is.passes 0 thirsty_end refl in
    let rises = low_rises capacity (pos 1000000000000000 -ℤ h) (pos 1001000000000000000)
    (omega (arith, ints, inside.above_floor)) in
    let top = greatest capacity ends in
    omega (arith, ints, passes, rises, top)
none_passes capacity ends (h ∷ k ∷ u) one is = omega (arith, one)

pub returns-clause-no_lower : goal.returns-clause-no_lower
returns-clause-no_lower c = λ capacity ends u is. none_passes capacity ends u is.one_each is
