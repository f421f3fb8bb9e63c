use Rattle.std.proofs.Common.{◌≡◌, ◌<◌, ℕ, length, inl, inr, sym, subst, arith}
use Rattle.std.specs.Prelude.{Some, slice_get}
use Rattle.std.proofs.lemmas.Bool.{cases_eq}
use Rattle.std.proofs.lemmas.Option.{slice_get_within}
use Rattle.hyd_laws_at_scale.specs.Scales.{parts_of}
use Rattle.hyd_lemmas.proofs.ListsOptionsAndResults.{item_there}
use Rattle.hyd_witness_texts.specs.MomentView.{moment_of}
use Rattle.hyd_met_flows.proofs.Tests.{shown, refuted}
use Rattle.hyd_course.specs.Stocks.{stock_in, IsNext, IsSmall}
use Rattle.hyd_course.proofs.starts.are_next.Goals as goal

pub returns-then-not-is_next-clause-no : goal.returns-then-not-is_next-clause-no
returns-then-not-is_next-clause-no c = λ before kept long all.
    let tanks = c.args.project.now.tanks.list in
    let i : ℕ = c.loop-tank.tank in
    let inside : i < length tanks = (let a = c.loop-tank-test.true in omega (arith, a)) in
    let at = item_there tanks i inside in
    refuted c.is_next.result _ c.if-not-is_next.true (c.is_next.ensures.no before at.0 kept long at.1)
    (all.each i at.0 at.1)

pub loop-tank-preserved : goal.loop-tank-preserved
loop-tank-preserved c =
    let project = c.args.project.now in
    let S = parts_of c.args.standing.now.scale in
    let moment = moment_of c.args.moment.now in
    let i : ℕ = c.loop-tank.tank in
    record {
      met = λ before k tank kept long lt at. elim (cases_eq k i) [
        | inl e ↦ subst (λ (m : ℕ). IsNext project S before moment m tank) (sym e)
            (shown c.is_next.result _ c.if-not-is_next.false (c.is_next.ensures.yes before tank kept long
            (subst (λ (m : ℕ). slice_get project.tanks.list m ≡ Some tank) e at)))
        | inr ne ↦ c.loop-tank.invariant.met before k tank kept long (omega (arith, lt, ne)) at
      ];
      small = λ k lt. elim (cases_eq k i) [
        | inl e ↦ subst (λ (m : ℕ). IsSmall (stock_in moment m)) (sym e)
            (shown c.is_next.result _ c.if-not-is_next.false c.is_next.ensures.small)
        | inr ne ↦ c.loop-tank.invariant.small k (omega (arith, lt, ne))
      ];
    }

pub returns-clause-yes : goal.returns-clause-yes
returns-clause-yes c = λ before kept long. record {
  level_each = c.requires.moment.levels.one_each;
  volume_each = c.requires.moment.volumes.one_each;
  each = λ k tank at.
      let a = slice_get_within c.args.project.now.tanks.list k tank at in
      let e = c.loop-tank-test.false in
      c.loop-tank.invariant.met before k tank kept long (omega (arith, a, e)) at;
}

pub returns-clause-small : goal.returns-clause-small
returns-clause-small c k tank at =
    let a = slice_get_within c.args.project.now.tanks.list k tank at in
    let e = c.loop-tank-test.false in
    c.loop-tank.invariant.small k (omega (arith, a, e))
