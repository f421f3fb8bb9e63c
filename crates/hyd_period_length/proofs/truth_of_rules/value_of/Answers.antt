use Rattle.std.proofs.Common.{◌≡◌, ℤ, ap, sym, subst, refl, to_z, of_z, arith}
use Rattle.std.specs.Int.{w128}
use Rattle.std.proofs.lemmas.Int.{ints}
use Rattle.std.specs.Prelude.{map}
use Rattle.hyd_spec.specs.Rules.{Readings}
use Rattle.hyd_spec_certificates.specs.SpansAsIntervals.{levels_of, flows_of}
use Rattle.hyd_spec_certificates.specs.declared.Truth.TheVariants.{True, False, Open}
use Rattle.hyd_spec_certificates.specs.ThreeValuedLogic.{is_yes, is_unknown}
use Rattle.hyd_spec_certificates.specs.Decided.{IsOpenClause}
use Rattle.hyd_controls_and_rules.specs.RuleReadings.{lower_readings, upper_readings}
use Rattle.hyd_controls_and_rules.proofs.TankHeadsUnread.{same_truth}
use Rattle.hyd_period_length.proofs.truth_of_rules.value_of.Goals as goal

pub returns-in-True-clause-known : goal.returns-in-True-clause-known
returns-in-True-clause-known c = λ lower upper each alike beside at.
    let below : Readings = lower_readings c.args.low.now (map flows_of c.args.flows.now)
    (map levels_of c.args.levels.now) c.args.links.now in
    let above : Readings = upper_readings c.args.high.now (map flows_of c.args.flows.now)
    (map levels_of c.args.levels.now) c.args.links.now in
    let is = same_truth c.args.project.now c.args.time below above lower upper each True alike beside
    (c.in-True.ensures.truth each at) in
    record { decided = ap is_unknown is; value_is = sym (ap is_yes is) }

pub returns-in-False-clause-known : goal.returns-in-False-clause-known
returns-in-False-clause-known c = λ lower upper each alike beside at.
    let below : Readings = lower_readings c.args.low.now (map flows_of c.args.flows.now)
    (map levels_of c.args.levels.now) c.args.links.now in
    let above : Readings = upper_readings c.args.high.now (map flows_of c.args.flows.now)
    (map levels_of c.args.levels.now) c.args.links.now in
    let is = same_truth c.args.project.now c.args.time below above lower upper each False alike beside
    (c.in-False.ensures.truth each at) in
    record { decided = ap is_unknown is; value_is = sym (ap is_yes is) }

pub returns-in-Open-clause-open : goal.returns-in-Open-clause-open
returns-in-Open-clause-open c = λ lower upper each alike beside at.
    let below : Readings = lower_readings c.args.low.now (map flows_of c.args.flows.now)
    (map levels_of c.args.levels.now) c.args.links.now in
    let above : Readings = upper_readings c.args.high.now (map flows_of c.args.flows.now)
    (map levels_of c.args.levels.now) c.args.links.now in
    let project = c.args.project.now in
    let time = c.args.time in
    let clause = c.in-Open.clause in
    let inv = rw c.in-Open.is at c.decide.type_inv in
    let lo_kept : to_z w128 (of_z w128 c.in-Open.lo) ≡ c.in-Open.lo = omega (arith, ints, inv) in
    let hi_kept : to_z w128 (of_z w128 c.in-Open.hi) ≡ c.in-Open.hi = omega (arith, ints, inv) in
    let is = same_truth project time below above lower upper each (Open clause c.in-Open.lo c.in-Open.hi) alike beside
    (c.in-Open.ensures.truth each at) in
    record {
      is_open = is.0;
      number_is = refl;
      clause_is = subst (λ (z : ℤ). IsOpenClause project time lower upper each clause z
          (to_z w128 (of_z w128 c.in-Open.hi)))
          (sym lo_kept) (subst (λ (z : ℤ). IsOpenClause project time lower upper each clause c.in-Open.lo z)
          (sym hi_kept) is.1);
    }
