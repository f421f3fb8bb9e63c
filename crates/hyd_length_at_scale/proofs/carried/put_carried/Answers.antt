use Rattle.std.proofs.Common.{◌≡◌, ◌<◌, ◌∙◌, ℕ, List, length, sym, ap, subst, arith, get_or, get_or-set_other}
use Rattle.std.proofs.Common.{get_or-set_same, ◌+◌, inl, inr}
use Rattle.std.specs.Prelude.{Some, slice_get, slice_set}
use Rattle.std.proofs.lemmas.Bool.{cases_eq}
use Rattle.hyd_spec.specs.PeriodLength.{carried_after}
use Rattle.hyd_laws_at_scale.specs.Scales.{parts_of}
use Rattle.hyd_stocks_at_scale.specs.declared.carried_levels.ExactLevel.{ExactLevel}
use Rattle.hyd_rules_at_scale.specs.Instants.{IsSmallLevel}
use Rattle.hyd_rules_at_scale.specs.Quantities.{IsExactly}
use Rattle.hyd_length_at_scale.specs.MetPeriods.{told}
use Rattle.hyd_length_at_scale.proofs.CarriedLevels.{all_exact}
use Rattle.hyd_length_at_scale.proofs.carried.put_carried.Goals as goal

pub loop-tank-preserved : goal.loop-tank-preserved
loop-tank-preserved c =
    let period = c.args.period.now in
    let i : ℕ = c.loop-tank.tank in
    let levels : List ExactLevel = c.loop-tank.levels in
    let level : ExactLevel = c.carried_of.result in
    let there : i < length levels = omega arith in
    let was = c.loop-tank.invariant in
    record {
      exact = λ k d each h at. elim (cases_eq k i) [
        | inl same ↦
            let here : get_or (slice_set levels i level) k d ≡ level =
            ap (λ (n : ℕ). get_or (slice_set levels i level) n d) same ∙ get_or-set_same levels i level d there in
            subst (λ (l : ExactLevel). IsExactly l (carried_after period.project.now (parts_of period.scale)
            (told period) k each c.args.seconds)) (sym here)
            (subst (λ (n : ℕ). IsExactly level (carried_after period.project.now (parts_of period.scale)
            (told period) n each c.args.seconds)) (sym same)
            (c.carried_of.ensures.exact each
            (subst (λ (n : ℕ). slice_get period.project.now.tanks.list n ≡ Some each) same at)))
        | inr other ↦
            subst (λ (l : ExactLevel). IsExactly l (carried_after period.project.now (parts_of period.scale)
            (told period) k each c.args.seconds)) (sym (get_or-set_other levels i k level d other))
            (was.exact k d each (omega (arith, h, other)) at)
      ];
      small = λ k d h. elim (cases_eq k i) [
        | inl same ↦
            let here : get_or (slice_set levels i level) k d ≡ level =
            ap (λ (n : ℕ). get_or (slice_set levels i level) n d) same ∙ get_or-set_same levels i level d there in
            subst IsSmallLevel (sym here) c.carried_of.ensures.small
        | inr other ↦
            subst IsSmallLevel (sym (get_or-set_other levels i k level d other))
            (was.small k d (omega (arith, h, other)))
      ];
    }

pub returns-clause-exact : goal.returns-clause-exact
returns-clause-exact c =
    let period = c.args.period.now in
    let project = period.project.now in
    let S = parts_of period.scale in
    let levels : List ExactLevel = c.loop-tank.levels in
    let long : length levels ≡ length project.tanks.list = omega arith in
    all_exact (λ k tank. carried_after project S (told period) k tank c.args.seconds) 0 project.tanks.list levels long
    (λ k d tank h at.
    let from : k ≡ 0 + k = omega arith in
    subst (λ (n : ℕ). IsExactly (get_or levels k d) (carried_after project S (told period) n tank c.args.seconds)) from
    (c.loop-tank.invariant.exact k d tank (omega (arith, h)) at))

pub returns-clause-small : goal.returns-clause-small
returns-clause-small c = λ k d h. c.loop-tank.invariant.small k d (omega (arith, h))
