use Rattle.std.proofs.Common.{◌≡◌, arith, to_z, of_z, w64}
use Rattle.std.proofs.lemmas.Int.{ints}
use Rattle.hyd_spec_certificates.specs.Narrow.{widest}
use Rattle.hyd_sim.proofs.narrow_records.are_narrow.Goals as goal

pub returns-then-are_within-clause-narrow : goal.returns-then-are_within-clause-narrow
returns-then-are_within-clause-narrow c = λ e. record {
  heads = λ k x at.
      let close = c.are_within.ensures.close c.if-are_within.true k x at in
      let wide = c.widest.ensures.widest in
      let from = c.from.ensures in
      omega (arith, ints, close, wide, from);
  levels = λ k x at.
      let steady = c.are_steady.ensures.steady e k x at in
      let width : to_z w64 (of_z w64 c.args.width) ≡ c.args.width = omega (arith, ints) in
      omega (arith, ints, steady, width);
}

pub returns-else-are_within-clause-wide : goal.returns-else-are_within-clause-wide
returns-else-are_within-clause-wide c = λ e is. c.are_within.ensures.wide e (λ k x at.
    let close = is.heads k x at in
    let wide = c.widest.ensures.widest in
    let from = c.from.ensures in
    omega (arith, ints, close, wide, from))
