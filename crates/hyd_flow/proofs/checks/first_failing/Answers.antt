use Rattle.std.proofs.Common.{◌∙◌, ◌<◌, sym, subst, arith, ℕ, length, inl, inr}
use Rattle.std.specs.Prelude.{Some}
use Rattle.std.proofs.lemmas.Bool.{cases_eq, false≢true}
use Rattle.std.proofs.lemmas.Option.{slice_get_within}
use Rattle.hyd_spec_certificates.specs.declared.Problem.TheVariants.{Main}
use Rattle.hyd_spec_certificates.specs.PeriodNetwork.{GridJunction}
use Rattle.hyd_spec_certificates.specs.Certificate.{Suits, fails}
use Rattle.hyd_period_network.specs.NetAsPeriodNetwork.{grid_of}
use Rattle.hyd_sweep.specs.Sweeps.{SuitsAt}
use Rattle.hyd_lemmas.proofs.ListsOptionsAndResults.{same_item, item_there}
use Rattle.hyd_flow.proofs.checks.first_failing.Goals as goal

pub returns-then-not-suits-clause-some : goal.returns-then-not-suits-clause-some
returns-then-not-suits-clause-some c =
    let grid = grid_of c.args.net.now in
    let i = c.loop-i.i in
    let inside : i < length grid.junctions = (let a = c.loop-i-test.true in let b = c.junctions-i-end.ensures.each in
    let d = c.junctions-i-end.ensures.count in omega (arith, a, b, d)) in
    let at = item_there grid.junctions i inside in
    fails at.0 c.requires.in_box at.1
    (λ suits. false≢true (sym c.if-not-suits.true ∙ c.suits.ensures.1 (λ other there.
    subst (λ (j : GridJunction). Suits (Some c.args.held.now) grid Main c.args.side c.args.u.now i j)
    (same_item GridJunction at.0 other (sym at.1 ∙ there)) suits)))
    (λ k before lt there. c.loop-i.invariant k lt before there)

pub loop-i-preserved : goal.loop-i-preserved
loop-i-preserved c k lt = elim (cases_eq k c.loop-i.i) [
  | inl e ↦ subst (λ (m : ℕ). SuitsAt (Some c.args.held.now) (grid_of c.args.net.now) Main c.args.side c.args.u.now m)
      (sym e) (c.suits.ensures.0 c.if-not-suits.false)
  | inr ne ↦ c.loop-i.invariant k (omega (arith, lt, ne))
]

pub returns-clause-none : goal.returns-clause-none
returns-clause-none c k junction at =
    let a = slice_get_within (grid_of c.args.net.now).junctions k junction at in
    let b = c.junctions-i-end.ensures.each in
    let d = c.junctions-i-end.ensures.count in
    let e = c.loop-i-test.false in
    c.loop-i.invariant k (omega (arith, a, b, d, e)) junction at
