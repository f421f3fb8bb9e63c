use Rattle.std.proofs.Common.{◌≡◌, ◌<◌, ℕ, length, inl, inr, sym, subst, arith}
use Rattle.std.specs.Prelude.{Some, slice_get}
use Rattle.std.proofs.lemmas.Bool.{cases_eq}
use Rattle.std.proofs.lemmas.Option.{slice_get_within}
use Rattle.hyd_laws_at_scale.specs.Scales.{parts_of}
use Rattle.hyd_lemmas.proofs.ListsOptionsAndResults.{item_there}
use Rattle.hyd_witness_texts.specs.MomentView.{moment_of}
use Rattle.hyd_met_flows.proofs.Tests.{shown, refuted}
use Rattle.hyd_course.specs.Stocks.{stock_in, initial_stock, IsSmall}
use Rattle.hyd_course.proofs.starts.are_initial.Goals as goal

pub returns-then-not-is_initial-clause-no : goal.returns-then-not-is_initial-clause-no
returns-then-not-is_initial-clause-no c = λ all.
    let tanks = c.args.project.now.tanks.list in
    let i : ℕ = c.loop-tank.tank in
    let inside : i < length tanks = (let a = c.loop-tank-test.true in omega (arith, a)) in
    let at = item_there tanks i inside in
    refuted c.is_initial.result _ c.if-not-is_initial.true (c.is_initial.ensures.no at.0 at.1) (all i at.0 at.1)

pub loop-tank-preserved : goal.loop-tank-preserved
loop-tank-preserved c =
    let project = c.args.project.now in
    let moment = moment_of c.args.moment.now in
    let i : ℕ = c.loop-tank.tank in
    record {
      met = λ k tank lt at. elim (cases_eq k i) [
        | inl e ↦ subst (λ (m : ℕ). stock_in moment m ≡ initial_stock project (parts_of c.args.scale) tank) (sym e)
            (shown c.is_initial.result _ c.if-not-is_initial.false (c.is_initial.ensures.yes tank
            (subst (λ (m : ℕ). slice_get project.tanks.list m ≡ Some tank) e at)))
        | inr ne ↦ c.loop-tank.invariant.met k tank (omega (arith, lt, ne)) at
      ];
      small = λ k lt. elim (cases_eq k i) [
        | inl e ↦ subst (λ (m : ℕ). IsSmall (stock_in moment m)) (sym e)
            (shown c.is_initial.result _ c.if-not-is_initial.false c.is_initial.ensures.small)
        | inr ne ↦ c.loop-tank.invariant.small k (omega (arith, lt, ne))
      ];
    }

pub returns-clause-yes : goal.returns-clause-yes
returns-clause-yes c k tank at =
    let a = slice_get_within c.args.project.now.tanks.list k tank at in
    let e = c.loop-tank-test.false in
    c.loop-tank.invariant.met k tank (omega (arith, a, e)) at

pub returns-clause-small : goal.returns-clause-small
returns-clause-small c k tank at =
    let a = slice_get_within c.args.project.now.tanks.list k tank at in
    let e = c.loop-tank-test.false in
    c.loop-tank.invariant.small k (omega (arith, a, e))
