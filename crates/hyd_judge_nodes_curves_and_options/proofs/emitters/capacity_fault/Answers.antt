use Rattle.std.proofs.Common.{◌≡◌, arith, refl, subst}
use Rattle.std.proofs.lemmas.Int.{ints}
use Rattle.hyd_num.specs.declared.decimals.Decimal.{Decimal}
use Rattle.hyd_num.specs.declared.link_capacities.Origin.TheVariants.{Emitter}
use Rattle.hyd_num.specs.CapacityRange.{IsRefused}
use Rattle.hyd_net.proofs.EqualValues.{Decimal-equal}
use Rattle.hyd_judge_nodes_curves_and_options.proofs.emitters.capacity_fault.Goals as goal

pub returns-in-Ok : goal.returns-in-Ok
returns-in-Ok c = λ refused.
    let same : refused.c ≡ c.args.coefficient = Decimal-equal refused.c c.args.coefficient refused.c_is in
    let P : Decimal → Type 0 = λ d. IsRefused (Emitter d c.args.unit) in
    c.in-Ok.ensures.accepted (subst P same refused.refused)

pub returns-in-Err : goal.returns-in-Err
returns-in-Err c = (
  record {
    above = omega (arith, ints, c.if-coefficient-le0.false);
    c = c.args.coefficient;
    c_is = refl;
    refused = c.in-Err.ensures.refused;
  },
  refl,
)
