use Rattle.std.proofs.Common.{◌≡◌, ◌∙◌, subst, ap, w64, to_z, of_z, arith, ℤ, pos, ◌≤ℤ◌}
use Rattle.std.specs.Int.{w128}
use Rattle.std.proofs.lemmas.Int.{ints}
use Rattle.hyd_spec.specs.Assignment.{head_at}
use Rattle.hyd_spec_certificates.specs.declared.Problem.TheVariants.{Main}
use Rattle.hyd_period_network.specs.NetAsPeriodNetwork.{grid_of}
use Rattle.hyd_vector_check.specs.NetOutflowBySide.{PassesWith}
use Rattle.hyd_sweep.specs.Sweeps.{further}
use Rattle.hyd_spent_rounds.proofs.bounds.passes_farther.Goals as goal

pub returns-in-Some : goal.returns-in-Some
returns-in-Some c = λ yes.
    let side = c.args.side in
    let u = c.args.u.now in
    let i = c.args.i in
    let step = c.args.step in
    let k1 : to_z w64 (of_z w64 c.head_of.result) ≡ c.head_of.result = omega (arith, ints) in
    let here : to_z w64 (of_z w64 c.head_of.result) ≡ head_at u i = k1 ∙ c.head_of.ensures in
    let kept : to_z w64 (of_z w64 c.in-Some.there) ≡ c.in-Some.there = omega (arith, ints) in
    let at : to_z w64 (of_z w64 c.in-Some.there) ≡ further side (head_at u i) step = kept
    ∙ (c.in-Some.ensures.value ∙ ap (λ (h : ℤ). further side h step) here) in
    let kept-over : to_z w128 (of_z w128 c.surplus.result) ≡ c.surplus.result = omega (arith, ints) in
    let over : pos 0 ≤ℤ c.surplus.result = subst (λ (s : ℤ). pos 0 ≤ℤ s) kept-over (c.is_enough.ensures.0 yes) in
    subst (λ (h : ℤ). PassesWith (grid_of c.args.net.now) Main side u i h) at (c.surplus.ensures.passes.0 over)
